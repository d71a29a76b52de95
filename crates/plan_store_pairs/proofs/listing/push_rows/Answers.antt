use Rattle.std.proofs.Common.{◌≡◌, ◌+◌, ◌++◌, ◌∷◌, ◌∙◌, [], arith, ap, subst, sym, take}
use Rattle.std.proofs.lemmas.List.{take_all, take_more}
use Rattle.plan_store_pairs.specs.LiveRows.{AddsRows}
use Rattle.plan_store_pairs.proofs.RowLemmas.{rows_more}
use Rattle.plan_store_pairs.proofs.listing.push_rows.Goals as goal

-- one more row
pub loop-row-preserved : goal.loop-row-preserved
loop-row-preserved c =
    let list = c.args.list.now in
    let row = c.row-item.result in
    let index = c.loop-row.row-index in
    let front : take (index + 1) list ≡ take index list ++ row ∷ [] = take_more list index row c.loop-row-test.true
    ∙ ap (λ x. take index list ++ x ∷ []) (sym c.row-item.is) in
    let more : AddsRows (take index list ++ row ∷ []) c.args.place c.args.rows.now.items c.push.new.self.items =
    rw c.in_ok-push.ensures.items (rows_more (take index list) c.args.place c.args.rows.now.items
    c.loop-row.rows.items row c.loop-row.invariant) in
    subst (λ rs. AddsRows rs c.args.place c.args.rows.now.items c.push.new.self.items) (sym front) more

pub returns : goal.returns
returns c =
    let whole = take_all c.loop-row.row-index c.args.list.now (omega arith) in
    subst (λ rs. AddsRows rs c.args.place c.args.rows.now.items c.loop-row.rows.items) whole c.loop-row.invariant
