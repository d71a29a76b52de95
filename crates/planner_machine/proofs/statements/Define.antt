-- The laws of `define` and `undefine`.
use Rattle.std.proofs.Common.{List, [], ap, refl, subst, sym, ℕ, ◌∙◌, ◌≡◌}
use Rattle.std.specs.Prelude.{Ok}
use Rattle.app_definitions.specs.declared.definitions.Definitions.{Definitions}
use Rattle.app_definitions.specs.declared.kinds.Block.{Block}
use Rattle.app_definitions.specs.declared.kinds.Kind.{Kind}
use Rattle.occurrences.specs.declared.place.Place.TheVariants.{LongTerm}
use Rattle.planner_machine.specs.Content.{Content, Sets}
use Rattle.planner_machine.specs.Define.{define_means, undefine_means}
use Rattle.planner_machine.specs.Fate.{Stays}
use Rattle.planner_machine.specs.Laws.{Follows}
use Rattle.planner_machine.specs.Sound.{IsKeptReply, IsSound}
use Rattle.planner_machine.proofs.DefineLemmas.{define_are, definitions_sound, undefine_are}
use Rattle.planner_machine.proofs.DetailLemmas.{plain}
use Rattle.planner_machine.proofs.FollowLemmas.{stays_keeps}
use Rattle.planner_machine.proofs.Lawful.{Lawful}
use Rattle.planner_machine.proofs.PlansLemmas.{stay_follow, stays_once}

-- a statement that leaves the plans as they are
stays_where : (c c' : Content) (all : Definitions) → c' ≡ record c { definitions = all }
    → Follows LongTerm Stays [] c.sets c'.sets
stays_where c c' all is = subst (λ (s : Sets). Follows LongTerm Stays [] c.sets s)
    (ap (λ (x : Content). x.sets) (sym is)) (stay_follow LongTerm c.sets)

pub define_lawful : (block : Block) → Lawful (define_means block)
define_lawful block = record {
  does_one = λ c reply reply' c' c'' sound a b. (a.0 ∙ sym b.0, a.1 ∙ sym b.1);
  details = λ c sound. plain _ (λ h. h) (λ n h. h) (λ h. h) (λ a h. h) (λ a h. h) (λ a h. h) (λ n h. h);
  follows = λ c reply c' sound d. ([], refl, stays_where c c' _ d.1.1);
  keeps = λ all bounds. stays_keeps;
  sound = λ fine c reply c' sound none d. subst IsSound (sym d.1) (definitions_sound c _ sound
      (define_are fine.1.0 fine.1.1 block c.definitions sound.ranges.definitions fine.1.2));
  jobs = λ c reply c' d. ap (λ (x : Content). x.jobs) d.1;
  once = λ c reply c' d. stays_once c c' (ap (λ (x : Content). x.in_force) d.1);
  replies = λ fine c reply c' sound sound' d. subst (λ r. IsKeptReply (Ok r)) (sym d.0) fine.0;
  fresh = λ leaves c reply c' sound sound' d fresh. absurd (leaves tt);
}

pub undefine_lawful : (kind : Kind) (name : List ℕ) → Lawful (undefine_means kind name)
undefine_lawful kind name = record {
  does_one = λ c reply reply' c' c'' sound a b. (a.0 ∙ sym b.0, a.1 ∙ sym b.1);
  details = λ c sound. plain _ (λ h. h) (λ n h. h) (λ h. h) (λ a h. h) (λ a h. h) (λ a h. h) (λ n h. h);
  follows = λ c reply c' sound d. ([], refl, stays_where c c' _ d.1.1);
  keeps = λ all bounds. stays_keeps;
  sound = λ fine c reply c' sound none d. subst IsSound (sym d.1) (definitions_sound c _ sound
      (undefine_are kind name c.definitions sound.ranges.definitions));
  jobs = λ c reply c' d. ap (λ (x : Content). x.jobs) d.1;
  once = λ c reply c' d. stays_once c c' (ap (λ (x : Content). x.in_force) d.1);
  replies = λ fine c reply c' sound sound' d. subst (λ r. IsKeptReply (Ok r)) (sym d.0) tt;
  fresh = λ leaves c reply c' sound sound' d fresh. absurd (leaves tt);
}
