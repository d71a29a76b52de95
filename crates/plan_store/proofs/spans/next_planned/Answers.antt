use Rattle.std.proofs.Common.{◌+◌, ◌≤◌}
use Rattle.occurrences.specs.declared.place.CurrentRow.{CurrentRow}
use Rattle.occurrences.specs.declared.row.Row.{Row}
use Rattle.plan_store_lists.specs.Rows.{of_current, of_row}
use Rattle.plan_store.proofs.SpanLemmas.{are_later, one_app, one_part, planned_is}
use Rattle.plan_store.proofs.spans.next_planned.Goals as goal

pub returns : goal.returns
returns c s ltp_is cp_is =
    let ltp = c.args.ltp.now.items in
    let cp = c.args.cp.now.items in
    let app = c.args.app.now in
    let moment = c.args.moment in
    let own_ltp = c.of_app.result.now in
    let own_cp = c.of_app-2.result.now in
    let from_ltp = rw c.number-minute.ensures.value at c.from_on.ensures in
    let from_cp = rw c.number-minute.ensures.value at c.from_on-2.ensures in
    let in_ltp = c.of_app.ensures.all in
    let in_cp = c.of_app-2.ensures.all in
    let one_ltp = one_app of_row ltp own_ltp app in_ltp in
    let one_cp = one_app of_current cp own_cp app in_cp in
    let ltp_keyed = c.of_app.ensures.keyed in
    let cp_keyed = c.of_app-2.ensures.keyed in
    let ltp_part = from_ltp.all ltp_keyed one_ltp in
    let cp_part = from_cp.all cp_keyed one_cp in
    rw c.earlier.ensures (planned_is s app moment ltp c.from_on.result.now cp c.from_on-2.result.now c.requires.ltp
    c.requires.cp ltp_is cp_is (are_later of_row ltp own_ltp c.from_on.result.now app moment in_ltp ltp_part)
    (are_later of_current cp own_cp c.from_on-2.result.now app moment in_cp cp_part) c.first_arrival-planned.result
    c.first_live_arrival-current.result
    (c.first_arrival-planned.ensures (from_ltp.keyed ltp_keyed)
    (one_part of_row own_ltp c.from_on.result.now (λ (row : Row). moment + 1 ≤ row.key.ia) ltp_part one_ltp))
    (c.first_live_arrival-current.ensures (from_cp.keyed cp_keyed)
    (one_part of_current own_cp c.from_on-2.result.now (λ (x : CurrentRow). moment + 1 ≤ x.row.key.ia) cp_part
    one_cp)))
