use Rattle.std.proofs.Common.{◌≡◌, ◌++◌, take}
use Rattle.std.specs.Prelude.{map}
use Rattle.plan_store_soundness.specs.Listing.{in_place}
use Rattle.plan_store_soundness.proofs.listing.push_rows.Given as goal

abbrev pub invariant-loop-row : goal.invariant-loop-row
invariant-loop-row l = l.all.items ≡ l.initial.all.items ++ map (in_place l.place) (take l.row-index l.rows)
