use Rattle.std.proofs.Common.{◌+◌, ◌-◌, length, arith}
use Rattle.plan_store_lists.specs.Rows.{of_row}
use Rattle.plan_store.proofs.ArrivalLemmas.{part_of}
use Rattle.plan_store.proofs.LastLemmas.{lacks_part, last_part}
use Rattle.plan_store.proofs.lasts.last_row.Goals as goal

pub returns-then-count-eq0 : goal.returns-then-count-eq0
returns-then-count-eq0 c =
    let history = c.args.history.now.items in
    let query = c.args.query.now in
    let minute = query.moment + 1 in
    let rows = c.before-rows.result.now in
    let keyed = c.of_app.ensures.keyed in
    let front = rw c.number.ensures.value at c.before-rows.ensures.all in
    lacks_part history rows query.app minute
    (part_of of_row history c.of_app.result.now rows query.app minute c.of_app.ensures.all
    (front keyed)) c.if-count-eq0.true

pub returns : goal.returns
returns c =
    let history = c.args.history.now.items in
    let query = c.args.query.now in
    let minute = query.moment + 1 in
    let rows = c.before-rows.result.now in
    let keyed = c.of_app.ensures.keyed in
    let front = rw c.number.ensures.value at c.before-rows.ensures.all in
    last_part history rows query.app minute
    (part_of of_row history c.of_app.result.now rows query.app minute c.of_app.ensures.all
    (front keyed)) c.requires (c.before-rows.ensures.keyed keyed) (length rows - 1) c.index-rows-count.result
    (omega arith) c.index-rows-count.is
