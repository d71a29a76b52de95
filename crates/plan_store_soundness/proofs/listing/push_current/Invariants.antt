use Rattle.std.proofs.Common.{◌≡◌, ◌++◌, take}
use Rattle.std.specs.Prelude.{map}
use Rattle.plan_store_soundness.specs.Listing.{current_place}
use Rattle.plan_store_soundness.proofs.listing.push_current.Given as goal

abbrev pub invariant-loop-current : goal.invariant-loop-current
invariant-loop-current l = l.all.items ≡ l.initial.all.items ++ map current_place (take l.current-index l.rows)
