use Rattle.std.proofs.Common.{◌↔◌, ◌⊎◌, ◌∷◌, [], subst}
use Rattle.std.specs.List.{Contains}
use Rattle.external_dependencies.specs.Nearest.{arrival_of}
use Rattle.plan_store_lists.specs.Keyed.{LacksKey}
use Rattle.plan_store_lists.proofs.KeyLemmas.{one_is}
use Rattle.plan_store.proofs.PartLemmas.{comes, look_put, new_key, one_put}
use Rattle.plan_store.proofs.parts.put_in.Given.{Over}
use Rattle.plan_store.proofs.parts.put_in.Goals as goal

-- what the list has then
inserted : (g : Over) (c : goal.After-insert g) → (y : g.row.T.Denot) → Contains c.insert.new.self.items y
    ↔ (Contains (c.args.row.now ∷ []) y ⊎ Contains c.args.list.now.items y)
inserted g c = rw (c.from_ref-rows.ensures.value, c.reserve.ensures.same) at c.insert.ensures.inserted

pub insert-requires-clause-new : goal.insert-requires-clause-new
insert-requires-clause-new g c =
    let row_of = g.T.PlanRow.row_of in
    let old = c.args.list.now.items in
    let row = c.args.row.now in
    rw (c.from_ref-rows.ensures.value, c.reserve.ensures.same) (λ x this.
    subst (λ (y : g.row.T.Denot). LacksKey (λ z. arrival_of (row_of z)) old (arrival_of (row_of y)))
    (one_is row x this) (new_key row_of old row c.requires.new))

pub returns-clause-rows : goal.returns-clause-rows
returns-clause-rows g c = record {
  keyed = c.insert.ensures.keyed;
  one_each = one_put g.T.PlanRow.row_of c.args.list.now.items c.insert.new.self.items c.args.row.now
      c.requires.rows.one_each c.requires.new (inserted g c);
}

pub returns-clause-comes : goal.returns-clause-comes
returns-clause-comes g c =
    comes g.T.PlanRow.row_of c.args.list.now.items c.insert.new.self.items c.args.row.now c.requires.rows.one_each
    c.requires.new (inserted g c)

pub returns-clause-ok : goal.returns-clause-ok
returns-clause-ok g c =
    look_put g.T.PlanRow.row_of c.args.list.now.items c.insert.new.self.items c.args.row.now
    c.requires.rows.one_each c.requires.new (inserted g c)
