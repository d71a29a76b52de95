use Rattle.std.proofs.Common.{◌≡◌, ◌++◌, take}
use Rattle.std.specs.Prelude.{map}
use Rattle.plan_store_soundness.specs.Listing.{deleted_place}
use Rattle.plan_store_soundness.proofs.listing.push_deletions.Given as goal

abbrev pub invariant-loop-deletion : goal.invariant-loop-deletion
invariant-loop-deletion l = l.all.items ≡ l.initial.all.items ++ map deleted_place (take l.deletion-index l.rows)
