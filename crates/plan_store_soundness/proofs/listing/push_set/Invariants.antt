use Rattle.std.proofs.Common.{◌≡◌, ◌++◌, take}
use Rattle.std.specs.Prelude.{map}
use Rattle.plan_store_lists.specs.Blocks.{items_in}
use Rattle.plan_store_soundness.specs.Listing.{in_place}
use Rattle.plan_store_soundness.proofs.listing.push_set.Given as goal

abbrev pub invariant-loop-block : goal.invariant-loop-block
invariant-loop-block l = l.all.items
    ≡ l.initial.all.items ++ map (in_place l.place) (items_in (take l.block-index l.blocks))
