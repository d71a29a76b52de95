use Rattle.std.proofs.Common.{◌≡◌, Some}
use Rattle.std.specs.List.{AllWithin}
use Rattle.occurrences.specs.declared.status.Status.TheVariants.{W}
use Rattle.planner_machine.specs.Pairs.{IsCompleteAt}
use Rattle.external_dependencies.specs.declared.pairs.Pair.{Pair}
use Rattle.plan_store.specs.Views.{HoldsOfSound}
use Rattle.plan_store.specs.declared.stores.Need.TheVariants.{Key}
use Rattle.daily_planning.proofs.actions.waited_for.Given as goal

abbrev pub invariant-loop-pair : goal.invariant-loop-pair
invariant-loop-pair l = HoldsOfSound (Key l.current.row.key) l.view (λ c.
    c.sets.cp l.current.row.serial ≡ Some l.current → l.current.status ≡ W
    → AllWithin (λ (pair : Pair). IsCompleteAt c.sets pair.predecessor) l.pair-items 0 l.pair-index)
