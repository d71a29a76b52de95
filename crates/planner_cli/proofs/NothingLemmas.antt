-- Lemmas on a run that begins with nothing.
use Rattle.std.proofs.Common.{◌≡◌, ℕ, ◌+◌, ◌-◌, ◌^◌, ◌≤◌, List, arith, inl, inr, min, subst}
use Rattle.std.specs.Prelude.{Err, IfErr, IfOk, Ok, Option, Result}
use Rattle.planner_machine.specs.Content.{Content, nothing_known}
use Rattle.planner_cli.specs.Faults.{cause_of}
use Rattle.planner_cli.specs.Plans.{RanPlan, StoppedPlan}
use Rattle.planner_cli.specs.Runs.{ends_of}
use Rattle.planner_cli.specs.Stores.{IsBlamed}
use Rattle.planner_cli.specs.declared.faults.Cause.TheVariants.{Device}
use Rattle.planner_cli.specs.declared.faults.FaultSource.TheVariants.{Store}
use Rattle.planner_cli.specs.declared.faults.RunFault.{RunFault}
use Rattle.planner_cli.specs.declared.tally.Tally.{Tally}

pub ran_from : (result : Result Tally RunFault) (first last : Content) (old new remaining : Option (List ℕ))
    → first ≡ nothing_known → IfOk result (RanPlan (ends_of first last old new remaining))
    → IfOk result (λ tally. (c : Content) × RanPlan (ends_of nothing_known c old new remaining) tally)
ran_from (Ok tally) first last old new remaining is ran = (last, subst (λ c. RanPlan (ends_of c last old new remaining) tally) is ran)
ran_from (Err fault) first last old new remaining is ran = tt

pub stopped_from : (result : Result Tally RunFault) (first last : Content) (old new remaining : Option (List ℕ))
    → first ≡ nothing_known → IfErr result (StoppedPlan (ends_of first last old new remaining))
    → IfErr result (λ fault. (c : Content) × StoppedPlan (ends_of nothing_known c old new remaining) fault)
stopped_from (Ok tally) first last old new remaining is stopped = tt
stopped_from (Err fault) first last old new remaining is stopped =
    (last, subst (λ c. StoppedPlan (ends_of c last old new remaining) fault) is stopped)

not_blamed : IsBlamed 0 0 → ⊥
not_blamed (inl more) = let h : min (0 + 1) (2 ^ 64 - 1) ≤ 0 = more in omega arith
not_blamed (inr some) = omega (arith, some)

-- a store that counts no failure is not blamed
pub served_from : (result : Result Tally RunFault)
    → IfErr result (λ fault. cause_of fault ≡ Device Store → IsBlamed 0 0)
    → IfErr result (λ fault. cause_of fault ≡ Device Store → ⊥)
served_from (Ok tally) blames = tt
served_from (Err fault) blames = λ store. not_blamed (blames store)
