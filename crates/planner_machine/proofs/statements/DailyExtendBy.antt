-- The laws of `dp-extend` by days, from those of the daily plan to the new end.
use Rattle.std.proofs.Common.{None, Option, Some, [], ap, refl, subst, sym, ℕ, ◌∙◌, ◌≡◌}
use Rattle.std.specs.Prelude.{Ok}
use Rattle.app_definitions.specs.declared.definitions.Definitions.{Definitions}
use Rattle.occurrences.specs.declared.place.Place.TheVariants.{LongTerm}
use Rattle.occurrences.specs.declared.reply.Reply.{Reply}
use Rattle.planner_machine.specs.Content.{Content}
use Rattle.planner_machine.specs.DailyExtend.{dp_extend}
use Rattle.planner_machine.specs.DailyExtendBy.{DailyFateBy, ExtendsDailyBy, daily_extend_by_means, dp_extend_by}
use Rattle.planner_machine.specs.DailyPlan.{daily, daily_reply}
use Rattle.planner_machine.specs.Decision.{Decides}
use Rattle.planner_machine.specs.InForce.{PutsNone}
use Rattle.planner_machine.specs.Laws.{Follows}
use Rattle.planner_machine.specs.NewEnd.{IsNewEnd}
use Rattle.planner_machine.specs.Sound.{IsSound}
use Rattle.planner_machine.specs.declared.content.Bounds.{Bounds}
use Rattle.planner_machine.specs.declared.counts.Count.{Count}
use Rattle.planner_machine.proofs.DetailLemmas.{plain}
use Rattle.planner_machine.proofs.FollowLemmas.{FateKeeps, daily_keeps, stays_keeps}
use Rattle.planner_machine.proofs.FreshPlansLemmas.{planned_follows}
use Rattle.planner_machine.proofs.Lawful.{Lawful}
use Rattle.planner_machine.proofs.LinkLemmas.{none_is_one}
use Rattle.planner_machine.proofs.NewEndLemmas.{by_end, one_end}
use Rattle.planner_machine.proofs.PlansLemmas.{MakesOne, moved_kept, plans_do_one, stays_once}
use Rattle.planner_machine.proofs.statements.DailyExtend.{extended_fresh, extended_sound}

daily_by_does_one : (n : ℕ) (count : Count) → MakesOne (ExtendsDailyBy n count)
daily_by_does_one n count all s reply reply' s' s'' sound (b, is, (t, new, p)) (b', is', (t', new', p')) =
    let whole : Some b ≡ Some b' = sym is ∙ is' in
    let same : b ≡ b' = cc in
    let end : t ≡ t' = one_end all b'.plan_end n count t t'
    (subst (λ (x : Bounds). IsNewEnd all x.plan_end n count t) same new) new' in (
      p.0 ∙ ap (λ x. daily_reply x s) end ∙ sym p'.0,
      p.1
          ∙ ap (λ x. daily x s) end ∙ sym p'.1,
    )

daily_by_keeps : (n : ℕ) (count : Count) (all : Definitions) (bounds : Option Bounds)
    → FateKeeps (DailyFateBy n count all bounds)
daily_by_keeps n count all None = stays_keeps
daily_by_keeps n count all (Some b) = record {
  key = λ p q goes. (daily_keeps goes.0).key p q goes.2;
  serial = λ p q goes. (daily_keeps goes.0).serial p q goes.2;
  generated = λ p q goes. (daily_keeps goes.0).generated p q goes.2;
  added = λ p q goes. (daily_keeps goes.0).added p q goes.2;
  ltp = λ p q goes. (daily_keeps goes.0).ltp p q goes.2;
  planned = λ p q goes. (daily_keeps goes.0).planned p q goes.2;
  live = λ p q goes. (daily_keeps goes.0).live p q goes.2;
  complete = λ p q goes. (daily_keeps goes.0).complete p q goes.2;
}

daily_by_follows : (n : ℕ) (count : Count) (c : Content) (reply : Reply) (c' : Content) → IsSound c
    → Decides (dp_extend_by n count) c (Ok reply) c'
    → Follows LongTerm (DailyFateBy n count c.definitions c.sets.bounds) [] c.sets c'.sets
daily_by_follows n count c reply c' sound d =
    let (b, is, (t, new, plans)) = d.1.rows in
    let follows = planned_follows t c c' sound plans.1 in
    subst (λ (o : Option Bounds). Follows LongTerm (DailyFateBy n count c.definitions o) [] c.sets c'.sets) (sym is)
    (record {
      issues = follows.issues;
      old = λ serial p at. let (q, goes, there) = follows.old serial p at in (q, (t, new, goes), there);
      new = follows.new;
    })

-- it is the daily plan to the new end that the days give
to_end : (n : ℕ) (count : Count) (c : Content) (reply : Reply) (c' : Content)
    → Decides (dp_extend_by n count) c (Ok reply) c' → (t : ℕ) × Decides (dp_extend t) c (Ok reply) c'
to_end n count c reply c' d = let (b, is, (t, new, plans)) = d.1.rows in
    (t, (by_end n count c b t is new (Ok reply) c').0 d)

pub daily_extend_by_lawful : (n : ℕ) (count : Count) → Lawful (daily_extend_by_means n count)
daily_extend_by_lawful n count = record {
  does_one = plans_do_one (ExtendsDailyBy n count) PutsNone (daily_by_does_one n count) none_is_one;
  details = λ c sound. plain _ (λ h. h) (λ n h. h) (λ h. h) (λ a h. h) (λ a h. h) (λ a h. h) (λ n h. h);
  follows = λ c reply c' sound d. ([], refl, daily_by_follows n count c reply c' sound d);
  keeps = daily_by_keeps n count;
  sound = λ fine c reply c' sound none d. let (t, to) = to_end n count c reply c' (none, d) in
      extended_sound t c reply c' sound to.0 to.1;
  jobs = λ c reply c' d. d.jobs;
  once = λ c reply c' d. stays_once c c' d.lists;
  replies = λ fine c reply c' sound sound' d. let (b, is, (t, new, plans)) = d.rows in
      moved_kept t c sound reply plans.0;
  fresh = λ leaves c reply c' sound sound' d. let (t, to) = to_end n count c reply c' d in
      extended_fresh t c reply c' sound sound' to;
}
