use Rattle.plan_store_lists.specs.Rows.{of_current, of_row}
use Rattle.plan_store.specs.Views.{with_hidden}
use Rattle.plan_store_pairs.proofs.GatherLemmas.{between_holds, between_only, has_between, one_app}
use Rattle.plan_store_pairs.proofs.gathering.push_between.Goals as goal

pub returns : goal.returns
returns c h numbered =
    let s = (with_hidden h c.args.view.now).sets in
    let app = c.args.app.now in
    let first = c.args.first in
    let last = c.args.last.now in
    let ltp = c.ltp_of.result.now in
    let cp = c.cp_of.result.now in
    let planned = c.between-planned.result.now in
    let current = c.between-current.result.now in
    let in_ltp = has_between of_row s.ltp app first last ltp planned c.ltp_of.ensures
    (c.between-planned.ensures c.ltp_of.ensures.rows.keyed (one_app of_row s.ltp app ltp c.ltp_of.ensures)) in
    let in_cp = has_between of_current s.cp app first last cp current c.cp_of.ensures
    (c.between-current.ensures c.cp_of.ensures.rows.keyed (one_app of_current s.cp app cp c.cp_of.ensures)) in
    let old = c.args.rows.now.items in
    let middle = c.push_rows.new.rows.items in
    let new = c.push_current.new.rows.items in
    let adds = between_only s numbered app first last planned current in_ltp in_cp old middle new
    c.in_ok-push_rows.ensures c.in_ok-push_current.ensures in
    let holds = between_holds s numbered app first last planned current in_ltp in_cp old middle new
    c.in_ok-push_rows.ensures c.in_ok-push_current.ensures in
    (adds, holds)
