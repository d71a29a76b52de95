use Rattle.std.proofs.Common.{◌↔◌, ◌⊎◌, ◌∷◌, [], subst}
use Rattle.std.specs.List.{Contains}
use Rattle.plan_store_lists.specs.Keyed.{LacksKey}
use Rattle.plan_store_lists.proofs.KeyLemmas.{one_is}
use Rattle.plan_store_lists.proofs.RowBlockLemmas.{keyed_from, lacks_as}
use Rattle.plan_store.proofs.PartLemmas.{comes, look_put, new_key, one_put}
use Rattle.plan_store.proofs.parts.put_row.Given.{Over}
use Rattle.plan_store.proofs.parts.put_row.Goals as goal

-- what the list has then
inserted : (g : Over) (c : goal.After-insert_all g) → (y : g.row.T.Denot) → Contains c.insert_all.new.list.items y
    ↔ (Contains (c.args.row.now ∷ []) y ⊎ Contains c.args.list.now.items y)
inserted g c = rw (c.from_ref.ensures.value, c.grow.ensures.items) at c.insert_all.ensures.inserted

pub insert_all-requires-clause-new : goal.insert_all-requires-clause-new
insert_all-requires-clause-new g c =
    let total = g.met.T.Key.Ord.total in
    let ties = g.met.T.Keyed.ties in
    let key = g.T.Keyed.key_of in
    let row_of = g.T.PlanRow.row_of in
    let ordered = g.met.T.PlanRow.ordered in
    let old = c.args.list.now.items in
    let row = c.args.row.now in
    rw (c.from_ref.ensures.value, c.grow.ensures.items) (λ x this. subst (λ (y : g.row.T.Denot). LacksKey key old (key y))
    (one_is row x this) (lacks_as row_of g.T.Key.Ord.cmp key ordered total ties old row (new_key row_of old row c.requires.new)))

pub returns-clause-rows : goal.returns-clause-rows
returns-clause-rows g c =
    let key = g.T.Keyed.key_of in
    let row_of = g.T.PlanRow.row_of in
    let ordered = g.met.T.PlanRow.ordered in
    let new = c.insert_all.new.list.items in
    record {
      keyed = keyed_from row_of g.T.Key.Ord.cmp key ordered new c.insert_all.ensures.keyed;
      one_each = one_put row_of c.args.list.now.items new c.args.row.now c.requires.rows.one_each c.requires.new
          (inserted g c);
    }

pub returns-clause-comes : goal.returns-clause-comes
returns-clause-comes g c =
    comes g.T.PlanRow.row_of c.args.list.now.items c.insert_all.new.list.items c.args.row.now
    c.requires.rows.one_each c.requires.new (inserted g c)

pub returns-clause-ok : goal.returns-clause-ok
returns-clause-ok g c =
    look_put g.T.PlanRow.row_of c.args.list.now.items c.insert_all.new.list.items c.args.row.now
    c.requires.rows.one_each c.requires.new (inserted g c)
