use Rattle.std.proofs.Common.{◌↔◌, ◌⊎◌, subst, sym}
use Rattle.std.specs.List.{Contains}
use Rattle.external_dependencies.specs.Nearest.{arrival_of}
use Rattle.plan_store_lists.specs.Blocks.{items_of}
use Rattle.plan_store_lists.specs.Keyed.{HasKey, LacksKey}
use Rattle.plan_store_lists.specs.RowLists.{HasRowRoom, RowList}
use Rattle.plan_store_lists.proofs.RowListLemmas.{room_stays, written_counted}
use Rattle.plan_store_lists.proofs.row_lists.RowBlocks.replace.Goals as goal

pub replace_rows-requires-clause-stand : goal.replace_rows-requires-clause-stand
replace_rows-requires-clause-stand g c =
    let row_of = g.T.PlanRow.row_of in
    subst (λ (v : RowList g.row.T.Denot). (x : g.row.T.Denot) → Contains c.args.rows.now x
    → HasKey (λ y. arrival_of (row_of y)) v.items (arrival_of (row_of x))) (sym c.self.view_is) c.requires.stand

pub invariant_of-self : goal.invariant_of-self
invariant_of-self g c =
    let row_of = g.T.PlanRow.row_of in
    let rows = c.args.rows.now in
    let stand = subst (λ (v : RowList g.row.T.Denot). (x : g.row.T.Denot) → Contains rows x
    → HasKey (λ y. arrival_of (row_of y)) v.items (arrival_of (row_of x))) (sym c.self.view_is) c.requires.stand in
    (written_counted row_of c.self.inside.blocks c.replace_rows.new.list rows c.self.inside.count c.self.invariant
    c.replace_rows.ensures.blocks stand c.replace_rows.ensures.replaced).0

pub returns-clause-replaced : goal.returns-clause-replaced
returns-clause-replaced g c =
    let row_of = g.T.PlanRow.row_of in
    let rows = c.args.rows.now in
    subst (λ (v : RowList g.row.T.Denot). (x : g.row.T.Denot) → Contains (items_of c.replace_rows.new.list) x
    ↔ (Contains rows x ⊎ (Contains v.items x × LacksKey (λ y. arrival_of (row_of y)) rows (arrival_of (row_of x)))))
    c.self.view_is c.replace_rows.ensures.replaced

pub returns-clause-stays : goal.returns-clause-stays
returns-clause-stays g c more has =
    let row_of = g.T.PlanRow.row_of in
    let rows = c.args.rows.now in
    let stand = subst (λ (v : RowList g.row.T.Denot). (x : g.row.T.Denot) → Contains rows x
    → HasKey (λ y. arrival_of (row_of y)) v.items (arrival_of (row_of x))) (sym c.self.view_is) c.requires.stand in
    let counted = written_counted row_of c.self.inside.blocks c.replace_rows.new.list rows c.self.inside.count
    c.self.invariant c.replace_rows.ensures.blocks stand c.replace_rows.ensures.replaced in
    room_stays row_of more c.self.inside.blocks c.replace_rows.new.list counted.1 c.replace_rows.ensures.stays
    (subst (λ (v : RowList g.row.T.Denot). HasRowRoom row_of more v) (sym c.self.view_is) has)
