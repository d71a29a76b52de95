use Rattle.std.proofs.Common.{map}
use Rattle.std.specs.Prelude.{option_copied}
use Rattle.plan_store.proofs.ListingLemmas.{handed_all, handed_none, handed_part}
use Rattle.plan_store.proofs.listed.emit_rows.Goals as goal

pub returns-in-Ok-clause-all : goal.returns-in-Ok-clause-all
returns-in-Ok-clause-all g c rows =
    let h = rw c.deref.ensures.value at c.emit_each.ensures.all in
    handed_all g.T.PlanRow.row_of g.T.Lettered.letter_of c.args.is_plain c.args.list.now.items rows
    (option_copied c.args.app) (map (λ b. b.now) c.in-Ok.found.items) c.in-Ok.ensures.keyed c.in-Ok.ensures.all
    g.K.RowSink.accepts g.K.RowSink.refuses c.args.sink.now c.emit_each.new.sink (λ b. b.now)
    c.put_in_order.new.found.items c.put_in_order.ensures c.emit_each.result h

pub returns-in-Ok-clause-part : goal.returns-in-Ok-clause-part
returns-in-Ok-clause-part g c rows =
    let h = rw c.deref.ensures.value at c.emit_each.ensures.part in
    handed_part g.T.PlanRow.row_of g.T.Lettered.letter_of c.args.is_plain c.args.list.now.items rows
    (option_copied c.args.app) (map (λ b. b.now) c.in-Ok.found.items) c.in-Ok.ensures.keyed c.in-Ok.ensures.all
    g.K.RowSink.accepts g.K.RowSink.refuses c.args.sink.now c.emit_each.new.sink (λ b. b.now)
    c.put_in_order.new.found.items c.put_in_order.ensures c.emit_each.result h

pub returns-in-Err-clause-part : goal.returns-in-Err-clause-part
returns-in-Err-clause-part g c rows =
    handed_none g.T.PlanRow.row_of g.T.Lettered.letter_of c.args.is_plain c.args.list.now.items rows
    (option_copied c.args.app) g.K.RowSink.accepts g.K.RowSink.refuses c.args.sink.now

pub returns-in-Err-clause-blames : goal.returns-in-Err-clause-blames
returns-in-Err-clause-blames g c = λ is. cc
