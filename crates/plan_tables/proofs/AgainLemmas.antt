-- What a crash left is a plan to whoever opens it.
use Rattle.std.proofs.Common.{◌≡◌, ◌⊎◌, ◌∙◌, ◌+◌, ◌==◌, List, [], ◌∷◌, Some, filter, find, slice_get, refl, sym, ap, subst, arith}
use Rattle.std.specs.List.{AllByRecursion, AllZip, position_from}
use Rattle.sqlite.specs.Effect.{Database, IsDatabase}
use Rattle.sqlite.specs.Order.{Row}
use Rattle.sqlite.specs.Schema.{Schema}
use Rattle.sqlite.specs.Start.{FindsIn}
use Rattle.sqlite.specs.State.{IsLive, Opens, State}
use Rattle.sqlite.specs.Table.{Table as Described}
use Rattle.sqlite.specs.Tree.{Trees}
use Rattle.sqlite_catalog.specs.Listing.{IsTableRow, is_table_row}
use Rattle.sqlite_resolve.specs.Compile.{table_defined_by}
use Rattle.sqlite_schema.specs.Names.{same_name}
use Rattle.sqlite_trees.specs.Objects.{catalog_tree}
use Rattle.sqlite_trees.specs.Tree.{IsAscending}
use Rattle.sqlite_wal.specs.Recovery.{Image}
use Rattle.planner_machine.specs.Content.{Content}
use Rattle.planner_machine.specs.Sound.{IsSound}
use Rattle.plan_tables_schema.specs.Places.{TreesDiffer}
use Rattle.plan_tables_schema.specs.Rows.{tables_of}
use Rattle.plan_tables_schema.specs.Schema.{HasTables, IsAside, table_at, to_run_cycle}
use Rattle.plan_tables_schema.specs.declared.tables.Table.TheVariants.{Offset}
use Rattle.plan_tables_loading.specs.Reading.{HasPlan}
use Rattle.plan_tables_opening.specs.Held.{HoldsPlan}
use Rattle.plan_tables_opening.specs.Stored.{AllHaveRowids}
use Rattle.plan_tables.specs.Found.{Tells}
use Rattle.plan_tables.specs.Stored.{HoldsSound}

-- a row of the list of objects tells one table
one_table : (row : Row) (a b : Described) → IsTableRow row a → IsTableRow row b → a ≡ b
one_table row a b one two =
    let sql = sym one.sql_is ∙ two.sql_is in
    let text : one.sql ≡ two.sql = cc in
    let defined = sym one.defined.1 ∙ ap table_defined_by text ∙ two.defined.1 in
    let made : one.defined.0 ≡ two.defined.0 = cc in
    let id = sym one.described.id ∙ two.described.id in
    let next : a.tree + 1 ≡ b.tree + 1 = cc in
    let tree : a.tree ≡ b.tree = omega arith in
    one.defined.2 ∙ (λ i. record (made i) { tree = tree i }) ∙ sym two.defined.2

same_list : (rows : List Row) (xs ys : List Described) → AllZip IsTableRow rows xs → AllZip IsTableRow rows ys → xs ≡ ys
same_list [] [] [] a b = refl
same_list [] [] (y ∷ ys) a b = absurd b
same_list [] (x ∷ xs) ys a b = absurd a
same_list (r ∷ rs) [] ys a b = absurd a
same_list (r ∷ rs) (x ∷ xs) [] a b = absurd b
same_list (r ∷ rs) (x ∷ xs) (y ∷ ys) a b = λ i. one_table r x y a.0 b.0 i ∷ same_list rs xs ys a.1 b.1 i

-- the schemas that one database obeys have the same tables
pub same_tables : (a b : Schema) (db : Trees) → IsDatabase (record { schema = a; trees = db })
    → IsDatabase (record { schema = b; trees = db }) → a.tables ≡ b.tables
same_tables a b db one two =
    same_list (filter is_table_row (db catalog_tree)) a.tables b.tables one.lists.listed.tables two.lists.listed.tables

pub moved_tables : (a b : Schema) → a.tables ≡ b.tables → HasTables a → HasTables b
moved_tables a b same has = record {
  at = has.at;
  trees = has.trees;
  stands = λ t.
      let one = has.stands t in
      let it = table_at (has.trees t) t in
      record {
        named = subst (λ (ts : List Described). position_from (λ d. same_name d.name it.name) 0 ts ≡ Some (has.at t)) same
            one.named;
        got = subst (λ (ts : List Described). slice_get ts (has.at t) ≡ Some it) same one.got;
        found = subst (λ (ts : List Described). find (λ d. d.tree == it.tree) ts ≡ Some it) same one.found;
        stored = one.stored;
      };
  apart = subst (IsAscending TreesDiffer) same has.apart;
  refer = subst (AllByRecursion (λ (child : Described). AllByRecursion (λ ref. IsAside ref
      ⊎ ((child ≡ table_at (has.trees Offset) Offset) × (ref ≡ to_run_cycle))) child.references)) same has.refer;
}

-- so a database that tells a sound content holds a plan, by whichever schema it is opened
pub holds_plan : (s : State) (c : Content) → IsDatabase s.now → IsSound c → Tells s.now.trees c
    → AllHaveRowids (tables_of s.now.trees) → HoldsPlan s
unfolding HasPlan
holds_plan s c obeys sound tells rowids = (
  moved_tables tells.schema s.now.schema (same_tables tells.schema s.now.schema s.now.trees tells.obeys obeys) tells.plan,
  record { content = c; told = tells.content; sound = sound; rowids = rowids },
)

-- and that is what an open finds in files that hold it
pub found_plan : (image : Image) (s : State) → Opens s → IsLive s → FindsIn image s → HoldsSound image → HoldsPlan s
found_plan image s opens live found held =
    let same : s.now.trees ≡ held.0 = ap (λ (d : Database). d.trees) opens.clean ∙ found.holds held.0 held.1 in
    let told = held.2 in
    holds_plan s told.0 (live opens.is_open).0 told.1 (subst (λ t. Tells t told.0) (sym same) told.2)
    (subst (λ t. AllHaveRowids (tables_of t)) (sym same) told.3)
