use Rattle.std.proofs.Common.{◌↔◌, ◌⊎◌, ◌+◌, ◌<◌, ◌^◌, length, arith, subst, sym}
use Rattle.std.specs.List.{Contains}
use Rattle.external_dependencies.specs.Nearest.{arrival_of}
use Rattle.plan_store_lists.specs.Blocks.{items_of}
use Rattle.plan_store_lists.specs.Keyed.{LacksKey}
use Rattle.plan_store_lists.specs.RowLists.{HasRowRoom, RowList}
use Rattle.plan_store_lists.proofs.RowBlockLemmas.{rows_keyed}
use Rattle.plan_store_lists.proofs.RowListLemmas.{more_counted}
use Rattle.plan_store_lists.proofs.row_lists.RowBlocks.insert.Goals as goal

pub insert_rows-requires-clause-new : goal.insert_rows-requires-clause-new
insert_rows-requires-clause-new g c =
    let row_of = g.T.PlanRow.row_of in
    subst (λ (v : RowList g.row.T.Denot). (x : g.row.T.Denot) → Contains c.args.rows.now x
    → LacksKey (λ y. arrival_of (row_of y)) v.items (arrival_of (row_of x))) (sym c.self.view_is) c.requires.new

pub insert_rows-requires-clause-room : goal.insert_rows-requires-clause-room
insert_rows-requires-clause-room g c =
    (subst (λ (v : RowList g.row.T.Denot). HasRowRoom g.T.PlanRow.row_of c.args.rows.now v) (sym c.self.view_is)
    c.requires.room).room

pub overflow_add-self : goal.overflow_add-self
overflow_add-self g c =
    let few : length (items_of c.self.inside.blocks) + length c.args.rows.now < 2 ^ 62 =
    (subst (λ (v : RowList g.row.T.Denot). HasRowRoom g.T.PlanRow.row_of c.args.rows.now v) (sym c.self.view_is)
    c.requires.room).few in
    let exact = c.self.invariant.exact in
    omega (arith, few, exact)

pub invariant_of-self : goal.invariant_of-self
invariant_of-self g c =
    let row_of = g.T.PlanRow.row_of in
    let rows = c.args.rows.now in
    let lacks = subst (λ (v : RowList g.row.T.Denot). (x : g.row.T.Denot) → Contains rows x
    → LacksKey (λ y. arrival_of (row_of y)) v.items (arrival_of (row_of x))) (sym c.self.view_is) c.requires.new in
    let few = (subst (λ (v : RowList g.row.T.Denot). HasRowRoom row_of rows v) (sym c.self.view_is)
    c.requires.room).few in
    more_counted row_of c.self.inside.blocks c.insert_rows.new.list rows c.self.inside.count c.self.invariant
    c.insert_rows.ensures.blocks c.requires.sorted lacks c.insert_rows.ensures.inserted few

pub returns-clause-keyed : goal.returns-clause-keyed
returns-clause-keyed g c = rows_keyed g.T.PlanRow.row_of c.insert_rows.new.list c.insert_rows.ensures.blocks

pub returns-clause-inserted : goal.returns-clause-inserted
returns-clause-inserted g c =
    let rows = c.args.rows.now in
    subst (λ (v : RowList g.row.T.Denot). (x : g.row.T.Denot) → Contains (items_of c.insert_rows.new.list) x
    ↔ (Contains rows x ⊎ Contains v.items x)) c.self.view_is c.insert_rows.ensures.inserted
