use Rattle.std.proofs.Common.{◌↔◌, subst, sym}
use Rattle.std.specs.List.{Contains}
use Rattle.external_dependencies.specs.Nearest.{arrival_of}
use Rattle.plan_store_lists.specs.Blocks.{items_of}
use Rattle.plan_store_lists.specs.Keyed.{HasKey, LacksKey}
use Rattle.plan_store_lists.specs.RowLists.{HasRowRoom, RowList}
use Rattle.plan_store_lists.proofs.RowListLemmas.{left_counted, room_stays}
use Rattle.plan_store_lists.proofs.row_lists.RowBlocks.remove.Goals as goal

pub overflow_sub-self : goal.overflow_sub-self
overflow_sub-self g c =
    let row_of = g.T.PlanRow.row_of in
    let rows = c.args.rows.now in
    let stand = subst (λ (v : RowList g.row.T.Denot). (x : g.row.T.Denot) → Contains rows x
    → HasKey (λ y. arrival_of (row_of y)) v.items (arrival_of (row_of x))) (sym c.self.view_is) c.requires.stand in
    (left_counted row_of c.self.inside.blocks c.remove_rows.new.list rows c.self.inside.count c.self.invariant
    c.remove_rows.ensures.blocks c.requires.sorted stand c.remove_rows.ensures.removed).0

pub invariant_of-self : goal.invariant_of-self
invariant_of-self g c =
    let row_of = g.T.PlanRow.row_of in
    let rows = c.args.rows.now in
    let stand = subst (λ (v : RowList g.row.T.Denot). (x : g.row.T.Denot) → Contains rows x
    → HasKey (λ y. arrival_of (row_of y)) v.items (arrival_of (row_of x))) (sym c.self.view_is) c.requires.stand in
    (left_counted row_of c.self.inside.blocks c.remove_rows.new.list rows c.self.inside.count c.self.invariant
    c.remove_rows.ensures.blocks c.requires.sorted stand c.remove_rows.ensures.removed).1

pub returns-clause-removed : goal.returns-clause-removed
returns-clause-removed g c =
    let row_of = g.T.PlanRow.row_of in
    subst (λ (v : RowList g.row.T.Denot). (x : g.row.T.Denot) → Contains (items_of c.remove_rows.new.list) x
    ↔ (Contains v.items x × LacksKey (λ y. arrival_of (row_of y)) c.args.rows.now (arrival_of (row_of x))))
    c.self.view_is c.remove_rows.ensures.removed

pub returns-clause-stays : goal.returns-clause-stays
returns-clause-stays g c more has =
    let row_of = g.T.PlanRow.row_of in
    let rows = c.args.rows.now in
    let stand = subst (λ (v : RowList g.row.T.Denot). (x : g.row.T.Denot) → Contains rows x
    → HasKey (λ y. arrival_of (row_of y)) v.items (arrival_of (row_of x))) (sym c.self.view_is) c.requires.stand in
    let counted = left_counted row_of c.self.inside.blocks c.remove_rows.new.list rows c.self.inside.count
    c.self.invariant c.remove_rows.ensures.blocks c.requires.sorted stand c.remove_rows.ensures.removed in
    room_stays row_of more c.self.inside.blocks c.remove_rows.new.list counted.2 c.remove_rows.ensures.stays
    (subst (λ (v : RowList g.row.T.Denot). HasRowRoom row_of more v) (sym c.self.view_is) has)
