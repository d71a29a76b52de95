use Rattle.std.proofs.Common.{◌+◌, ◌∙◌, sym}
use Rattle.plan_store_lists.specs.Rows.{look_up}
use Rattle.plan_store.specs.Views.{row_serial}
use Rattle.plan_store.proofs.LastLemmas.{adds_held, adds_none, adds_put, free_lacked, there_held}
use Rattle.plan_store.proofs.WindowLemmas.{on_ok}
use Rattle.plan_store.proofs.lasts.add_last.Goals as goal

pub returns-in_default-clause-adds : goal.returns-in_default-clause-adds
returns-in_default-clause-adds c =
    adds_none (look_up row_serial c.args.history.now.items) c.args.query.now.app (c.args.query.now.moment + 1)
    (look_up row_serial c.args.lasts.now.items) c.in_default.ensures

pub returns-then-has_key-clause-adds : goal.returns-then-has_key-clause-adds
returns-then-has_key-clause-adds c =
    let history = c.args.history.now.items in
    let lasts = c.args.lasts.now.items in
    let last = c.in-Some.ensures in
    let tests = rw (c.deref.ensures.value, c.arrival.ensures) at c.has_key.ensures in
    adds_held (look_up row_serial history) c.args.query.now.app (c.args.query.now.moment + 1) c.in-Some.row last
    (look_up row_serial lasts) (there_held history lasts c.requires.part c.in-Some.row last.stands
    (sym (tests c.requires.rows.keyed) ∙ c.if-has_key.true))

pub put_row-requires-clause-new : goal.put_row-requires-clause-new
put_row-requires-clause-new c =
    let tests = rw (c.deref.ensures.value, c.arrival.ensures) at c.has_key.ensures in
    free_lacked c.args.history.now.items c.args.lasts.now.items c.requires.part c.in-Some.row c.in-Some.ensures.stands
    (sym (tests c.requires.rows.keyed) ∙ c.if-has_key.false)

pub returns-clause-adds : goal.returns-clause-adds
returns-clause-adds c =
    let history = c.args.history.now.items in
    let lasts = c.args.lasts.now.items in
    let last = c.in-Some.ensures in
    let tests = rw (c.deref.ensures.value, c.arrival.ensures) at c.has_key.ensures in
    on_ok c.put_row.result (adds_put (look_up row_serial history) c.args.query.now.app (c.args.query.now.moment + 1)
    c.in-Some.row last (look_up row_serial lasts) (look_up row_serial c.put_row.new.list.items)
    (free_lacked history lasts c.requires.part c.in-Some.row last.stands
    (sym (tests c.requires.rows.keyed) ∙ c.if-has_key.false))) c.put_row.ensures.ok
