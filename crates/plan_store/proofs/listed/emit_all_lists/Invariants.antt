-- the sink took the lists of the blocks so far
use Rattle.std.proofs.Common.{◌≡◌, length, take, map}
use Rattle.plan_store_lists.specs.Blocks.{items_in}
use Rattle.plan_store.specs.Listings.{AcceptsAll, in_force_shown}
use Rattle.plan_store.proofs.listed.emit_all_lists.Given as goal

abbrev pub invariant-loop-block : goal.invariant-loop-block
invariant-loop-block g l = (l.count ≡ length (items_in (take l.block-index l.all)))
    × AcceptsAll g.K.RowSink.accepts l.initial.sink (map in_force_shown (items_in (take l.block-index l.all))) l.sink
