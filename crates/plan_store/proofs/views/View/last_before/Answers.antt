use Rattle.std.proofs.Common.{◌⊎◌, refl}
use Rattle.plan_store_lists.specs.Rows.{of_current, of_row}
use Rattle.plan_store.specs.Arrivals.{IsGreatestOf, arrives, arrives_live}
use Rattle.plan_store.specs.Views.{with_hidden}
use Rattle.plan_store.proofs.ArrivalLemmas.{greatest_later, last_is, part_of}
use Rattle.plan_store.proofs.views.View.last_before.Goals as goal

pub returns : goal.returns
returns c hidden numbered part last =
    let view = c.args.self.now in
    let s = (with_hidden hidden view).sets in
    let app = c.args.app.now in
    let minute = c.args.minute in
    let ltp_part = c.before-2.result.now in
    let cp_part = c.before-3.result.now in
    let history_part = c.before-4.result.now in
    let of_ltp = c.of_app.ensures in
    let of_cp = c.of_app-2.ensures in
    let of_history = c.of_app-3.ensures in
    let ltp_keyed = of_ltp.keyed in
    let cp_keyed = of_cp.keyed in
    let history_keyed = of_history.keyed view.last_rows.keyed in
    let ltp_is = part_of of_row view.ltp.now.items c.of_app.result.now ltp_part app minute of_ltp.all
    (c.before-2.ensures.all ltp_keyed) in
    let cp_is = part_of of_current view.cp.now.items c.of_app-2.result.now cp_part app minute of_cp.all
    (c.before-3.ensures.all cp_keyed) in
    let history_is = part_of of_row view.lasts.now c.of_app-3.result.now history_part app minute
    (of_history.all view.last_rows.keyed) (c.before-4.ensures.all history_keyed) in
    let inner : IsGreatestOf (λ a. arrives_live cp_part a ⊎ arrives history_part a) c.later.result =
    rw c.later.ensures (greatest_later (arrives_live cp_part) (arrives history_part) c.last_live-cp.result
    c.last_of-history.result (c.last_live-cp.ensures (c.before-3.ensures.keyed cp_keyed))
    (c.last_of-history.ensures (c.before-4.ensures.keyed history_keyed))) in
    rw c.later-2.ensures (last_is s numbered app minute view.ltp.now.items view.lasts.now view.cp.now.items view.ltp_rows
    view.cp_rows view.last_rows (λ _. refl) (λ _. refl) part last ltp_part history_part cp_part ltp_is cp_is
    history_is _
    (greatest_later (arrives ltp_part) (λ a. arrives_live cp_part a ⊎ arrives history_part a) c.last_of-ltp.result
    c.later.result (c.last_of-ltp.ensures (c.before-2.ensures.keyed ltp_keyed)) inner))
