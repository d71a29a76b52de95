use Rattle.std.proofs.Common.{◌≡◌, ◌+◌, ◌++◌, ◌∷◌, ◌∙◌, [], take, sym, ap, subst, arith}
use Rattle.std.proofs.lemmas.List.{take_all, take_more}
use Rattle.plan_store.specs.Views.{shown}
use Rattle.plan_store_pairs.specs.Planned.{AddsPairsOf}
use Rattle.external_dependencies.specs.Touch.{HasRowOf}
use Rattle.plan_store_pairs.proofs.PartLemmas.{planned_ltp}
use Rattle.plan_store_pairs.proofs.PlannedLemmas.{adds_more, adds_none, no_serial, one_serial_more}
use Rattle.plan_store_pairs.proofs.planned.push_planned.Goals as goal

pub loop-row-init : goal.loop-row-init
loop-row-init c = adds_none (shown c.args.view.now).pairs (HasRowOf []) c.args.pairs.now.items no_serial

pub pairs_of_open-requires : goal.pairs_of_open-requires
pairs_of_open-requires c =
    let view = c.args.view.now in
    let row = c.row-item.result in
    planned_ltp view.key.now (shown view).sets row.serial row
    (c.requires row (c.loop-row.row-index, c.loop-row-test.true, sym c.row-item.is))

-- one more row
pub loop-row-preserved : goal.loop-row-preserved
loop-row-preserved c =
    let all = (shown c.args.view.now).pairs in
    let rows = c.args.rows.now in
    let row = c.row-item.result in
    let index = c.loop-row.row-index in
    let front : take (index + 1) rows ≡ take index rows ++ row ∷ [] = take_more rows index row c.loop-row-test.true
    ∙ ap (λ y. take index rows ++ y ∷ []) (sym c.row-item.is) in
    let pushed : c.extend_from_slice.new.self.items ≡ c.loop-row.pairs.items ++ c.pairs_of_open.result.now =
    c.in_ok-extend_from_slice.ensures.items in
    let more = adds_more all (HasRowOf (take index rows)) (HasRowOf (take index rows ++ row ∷ []))
    c.args.pairs.now.items c.loop-row.pairs.items c.pairs_of_open.result.now row.serial c.loop-row.invariant
    c.pairs_of_open.ensures.all (one_serial_more (take index rows) row) in
    rw (pushed, front) more

-- all rows
pub returns : goal.returns
returns c =
    let whole = take_all c.loop-row.row-index c.args.rows.now (omega arith) in
    subst (λ xs. AddsPairsOf (shown c.args.view.now).pairs (HasRowOf xs) c.args.pairs.now.items c.loop-row.pairs.items)
    whole c.loop-row.invariant
