-- What the statements on the plans have in common.
use Rattle.std.proofs.Common.{None, Some, [], arith, refl, subst, sym, ℕ, ◌+◌, ◌∙◌, ◌≡◌}
use Rattle.std.proofs.lemmas.Option.{slice_get_past}
use Rattle.std.specs.Prelude.{Ok}
use Rattle.app_definitions.specs.declared.definitions.Definitions.{Definitions}
use Rattle.external_dependencies.specs.Link.{AreNamedOnce}
use Rattle.occurrences.specs.declared.place.Place.{Place}
use Rattle.occurrences.specs.declared.reply.Reply.{Reply}
use Rattle.planner_machine.specs.Content.{Content, Sets}
use Rattle.planner_machine.specs.DailyPlan.{carried, completed, daily_reply, deleted, moved}
use Rattle.planner_machine.specs.Fate.{Stays}
use Rattle.planner_machine.specs.InForce.{PutsLists}
use Rattle.planner_machine.specs.Laws.{Follows}
use Rattle.planner_machine.specs.Pairs.{ArePairs}
use Rattle.planner_machine.specs.Plans.{ChangesPlans, MakesOfRows}
use Rattle.planner_machine.specs.RowsSound.{RowsSound}
use Rattle.planner_machine.specs.Sound.{IsKeptReply, IsShown, IsSound}
use Rattle.planner_machine.specs.declared.content.Draft.{Draft}
use Rattle.planner_machine.proofs.JobLemmas.{shown_size}
use Rattle.planner_machine.proofs.LinkLemmas.{PutsOneList}
use Rattle.planner_machine.proofs.PairLemmas.{pairs_are_one}
use Rattle.planner_machine.proofs.SoundLemmas.{rows_sound}

-- lists in force that stay as they are name no predecessor twice afterwards, if they named none twice before
pub stays_once : (c c' : Content) → c'.in_force ≡ c.in_force → AreNamedOnce c.in_force → AreNamedOnce c'.in_force
stays_once c c' same once = subst AreNamedOnce (sym same) once

pub same_content : (c c' : Content) → c.definitions ≡ c'.definitions → c.sets ≡ c'.sets → c.in_force ≡ c'.in_force
    → c.pairs ≡ c'.pairs → c.jobs ≡ c'.jobs → c ≡ c'
same_content c c' definitions sets in_force pairs jobs =
    λ i. record { definitions = definitions i; sets = sets i; in_force = in_force i; pairs = pairs i; jobs = jobs i }

abbrev pub MakesOne : MakesOfRows → Type 0
MakesOne Makes = (all : Definitions) (s : Sets) (reply reply' : Reply) (s' s'' : Sets) → RowsSound s
    → Makes all s reply s' → Makes all s reply' s'' → (reply ≡ reply') × (s' ≡ s'')

-- one thing is made of the rows and one of the lists, so one is done
pub plans_do_one : (Makes : MakesOfRows) (Puts : PutsLists) → MakesOne Makes → PutsOneList Puts
    → (c : Content) (reply reply' : Reply) (c' c'' : Content) → IsSound c → ChangesPlans Makes Puts c reply c'
    → ChangesPlans Makes Puts c reply' c'' → (reply ≡ reply') × (c' ≡ c'')
plans_do_one Makes Puts makes_one puts_one c reply reply' c' c'' sound a b =
    let rows = makes_one c.definitions c.sets reply reply' c'.sets c''.sets (rows_sound c sound) a.rows b.rows in
    let lists = puts_one c.definitions c.in_force c'.in_force c''.in_force a.lists b.lists in
    let moved : ArePairs c.pairs c''.in_force c''.sets c'.pairs =
    subst (λ l. ArePairs c.pairs l c''.sets c'.pairs) lists
    (subst (λ (s : Sets). ArePairs c.pairs c'.in_force s c'.pairs) rows.1 a.pairs) in (
      rows.0,
      same_content c' c'' (a.definitions
          ∙ sym b.definitions) rows.1 lists
          (pairs_are_one c.pairs c''.in_force c''.sets c'.pairs c''.pairs moved b.pairs) (a.jobs ∙ sym b.jobs),
    )

-- how many are made is no more than are issued after it
pub shown_made : (c c' : Content) (n : ℕ) → IsSound c' → c'.sets.issued ≡ c.sets.issued + n → IsShown n
shown_made c c' n sound' is = let few = sound'.sizes.issued in omega arith

pub moved_kept : (t : ℕ) (c : Content) → IsSound c → (reply : Reply) → reply ≡ daily_reply t c.sets
    → IsKeptReply (Ok reply)
moved_kept t c sound reply is = subst (λ r. IsKeptReply (Ok r)) (sym is) (
  shown_size c sound (λ serial. moved t (c.sets.ltp serial)),
  shown_size c sound (λ serial. carried (c.sets.cp serial)),
  shown_size c sound (λ serial. completed (c.sets.cp serial)),
  shown_size c sound (λ serial. deleted (c.sets.cp serial)),
)

-- what changes no row
pub stay_follow : (place : Place) (s : Sets) → Follows place Stays [] s s
stay_follow place s = record {
  issues = omega arith;
  old = λ serial p there. (p, refl, there);
  new = λ k draft is. let none = slice_get_past {X = Draft} [] k (omega arith) in
      absurd (let no : None ≡ Some draft = sym none ∙ is in cc);
}
