-- Daily plans, as laws of their own.
use Rattle.std.proofs.Common.{subst, sym, ℕ, ◌≡◌}
use Rattle.planner_machine.specs.Content.{Content, IsOnlyAt, Sets}
use Rattle.planner_machine.specs.DailyPlan.{daily, daily_move}
use Rattle.planner_machine.specs.Fate.{place_after_daily_plan}
use Rattle.planner_machine.specs.Laws.{DailyIsFates, KeepsPairs}
use Rattle.planner_machine.specs.Pairs.{ArePairs}
use Rattle.planner_machine.specs.Sound.{IsSound}
use Rattle.planner_machine.specs.Statement.{DailyExtend, DailyExtendBy, Replan}
use Rattle.planner_machine.specs.declared.counts.Count.{Count}
use Rattle.planner_machine.proofs.DailyLemmas.{daily_is_move}
use Rattle.planner_machine.proofs.PairLemmas.{daily_keeps_pairs}
use Rattle.planner_machine.proofs.SeatLemmas.{going, stands_after, stood_before}
use Rattle.planner_machine.proofs.SoundLemmas.{rows_sound}

-- a daily plan on whole sets is the fates of all rows together
pub daily_fates : DailyIsFates
daily_fates t c sound serial q = (
  (λ there. let (p, was, same) = stood_before (daily_move t) (going (place_after_daily_plan t))
      (daily_is_move t) c.sets (rows_sound c sound) c.sets.bounds serial q there in (p, was, sym same)),
  λ from. let (p, was, same) = from in
      subst (IsOnlyAt (daily t c.sets) serial) (sym same)
      (stands_after (daily_move t) (going (place_after_daily_plan t)) (daily_is_move t) c.sets
      (rows_sound c sound) c.sets.bounds serial p was),
)

-- a daily plan changes no pair
no_change : (t : ℕ) (c c' : Content) → IsSound c → c'.sets ≡ daily t c.sets → c'.in_force ≡ c.in_force
    → ArePairs c.pairs c'.in_force c'.sets c'.pairs → c'.pairs ≡ c.pairs
no_change t c c' sound sets lists pairs =
    daily_keeps_pairs t c.in_force c.sets c.pairs c'.pairs (rows_sound c sound) sound.pairs.settled
    (subst (λ l. ArePairs c.pairs l (daily t c.sets) c'.pairs) lists
    (subst (λ (s : Sets). ArePairs c.pairs c'.in_force s c'.pairs) sets pairs))

pub extend_keeps_pairs : (t : ℕ) → KeepsPairs (DailyExtend t)
extend_keeps_pairs t c reply c' sound d = no_change t c c' sound d.1.rows.1 d.1.lists d.1.pairs

pub days_keep_pairs : (n : ℕ) (count : Count) → KeepsPairs (DailyExtendBy n count)
days_keep_pairs n count c reply c' sound d = let (b, is, (t, new, plans)) = d.1.rows in
    no_change t c c' sound plans.1 d.1.lists d.1.pairs

pub replan_keeps_pairs : KeepsPairs Replan
replan_keeps_pairs c reply c' sound d = let (b, is, rows) = d.1.rows in
    no_change b.plan_end c c' sound rows.1 d.1.lists d.1.pairs
