-- What the tables are once they are made.
use Rattle.std.proofs.Common.{◌≡◌, ◌≢◌, ◌≤◌, ◌∙◌, arith, ℕ, true, List, [], ◌∷◌, ◌++◌, Result, Ok, Err, refl, sym, ap, subst}
use Rattle.std.specs.List.{AllByRecursion}
use Rattle.sqlite.specs.Change.{KeepsRows}
use Rattle.sqlite.specs.Effect.{Database, IsDatabase}
use Rattle.sqlite.specs.Held.{Held, state}
use Rattle.sqlite.specs.State.{State, ExecutesInside}
use Rattle.sqlite.specs.Store.{Ghosts}
use Rattle.sqlite.specs.Table.{Table as Described}
use Rattle.sqlite.specs.declared.error.Error.{Error}
use Rattle.sqlite.specs.declared.transaction.Transaction.{Transaction}
use Rattle.sqlite_trees.specs.Objects.{catalog_tree}
use Rattle.sqlite_catalog.specs.Listing.{AreListed}
use Rattle.sqlite_catalog.specs.Change.{next_tree}
use Rattle.sqlite_catalog.proofs.StepLemmas.{table_below}
use Rattle.sqlite_rules.proofs.ListLemmas.{all_from, all_has}
use Rattle.sqlite_rules.specs.Lists.{Has}
use Rattle.sqlite.specs.Schema.{Schema}
use Rattle.plan_tables_schema.specs.Free.{IsFree, with_plan, with_tables}
use Rattle.plan_tables_schema.specs.Made.{HoldsMade, IsMadeBeside, IsMadeSoFar, IsMadeWhole, IsReady, IsWritten, earlier, later, up_to}
use Rattle.plan_tables_schema.specs.Places.{tree_named}
use Rattle.plan_tables_schema.specs.Rows.{HaveRowids, KeepsBeside, MayFail, tables_of}
use Rattle.plan_tables_schema.specs.Schema.{HasOnlyKeyIndexes, HasTables, all_tables, name}
use Rattle.plan_tables_schema.specs.Texts.{create_sql}
use Rattle.plan_tables_schema.specs.Writes.{Makes}
use Rattle.plan_tables_schema.specs.declared.tables.Table.{Table}
use Rattle.plan_tables_schema.proofs.MadeLemmas.{all_made, can_make, each_made, made_both, made_last, made_then}
use Rattle.plan_tables_schema.proofs.MadeLemmas.{key_indexes, plan_stands, stands_above, stands_for}
use Rattle.plan_tables_schema.proofs.NamedLemmas.{tells}
use Rattle.plan_tables_schema.proofs.RefusalLemmas.{make_fails, makes}
use Rattle.plan_tables_schema.proofs.InTurn.{may_fail, turns_weaker}
use Rattle.plan_tables_schema.proofs.OnceLemmas.{IsOnce}
use Rattle.plan_tables_schema.proofs.StatementLemmas.{plan_still}

both_all : {X : Type 0} (P Q R : X → Type 0) → ((x : X) → P x → Q x → R x) → (xs : List X) → AllByRecursion P xs
    → AllByRecursion Q xs → AllByRecursion R xs
both_all P Q R both [] p q = tt
both_all P Q R both (x ∷ xs) p q = (both x p.0 q.0, both_all P Q R both xs p.1 q.1)

is_written : (us : List Table) (t : Table) (db : Database) → IsDatabase db → IsWritten (us ++ t ∷ []) db
is_written [] t db sound = sound
is_written (u ∷ us) t db sound = sound

-- one more table is made
pub makes_next : (t : Table) (base : Database) (old new : State) (count : ℕ) → IsMadeSoFar (earlier t) base old
    → ExecutesInside 0 (create_sql t) [] old new (Ok count) → IsMadeSoFar (up_to t) base new
makes_next t base old new count has h =
    let before = with_tables base.schema (earlier t) in
    let step = makes before (later t) t (can_make base.schema has.free t) old new count has.schema h.0 in
    let kept = all_made (λ d. new.now.trees d.tree ≡ old.now.trees d.tree) (earlier t) base.schema step.2 in
    record {
      free = has.free;
      schema = step.0 ∙ sym (made_then (earlier t) [] base.schema t);
      empty = made_last (λ d. new.now.trees d.tree ≡ []) (earlier t) base.schema t
          (made_both (λ d. new.now.trees d.tree ≡ old.now.trees d.tree) (λ d. old.now.trees d.tree ≡ [])
          (λ d. new.now.trees d.tree ≡ []) (λ d same none. same ∙ none) (earlier t) base.schema kept.1 has.empty)
          step.1;
      others = both_all (λ d. new.now.trees d.tree ≡ old.now.trees d.tree) (λ d. old.now.trees d.tree
          ≡ base.trees d.tree) (λ d. new.now.trees d.tree ≡ base.trees d.tree) (λ d same was. same ∙ was)
          base.schema.tables kept.0 has.others;
      sound = is_written (earlier t) t new.now step.3;
      mode = h.1.mode;
    }

-- it fails for nothing that stands there
pub next_fails : (t : Table) (base : Database) (old new : State) (e : Error) → IsMadeSoFar (earlier t) base old
    → ExecutesInside 0 (create_sql t) [] old new (Err e) → MayFail old new e
next_fails t base old new e has h = make_fails (with_tables base.schema (earlier t)) (later t) t
    (can_make base.schema has.free t) old new e has.schema h

same_rows : (tables : List Described) (db : Database) → KeepsRows tables db.trees db.trees
same_rows [] db = tt
same_rows (t ∷ ts) db = (refl, same_rows ts db)

none_made : (base : Database) (s : State) → IsReady base s → IsMadeSoFar [] base s
none_made base s is = record {
  free = is.free;
  schema = ap (λ (db : Database). db.schema) is.is;
  empty = tt;
  others = subst (λ (db : Database). KeepsRows base.schema.tables base.trees db.trees) (sym is.is)
      (same_rows base.schema.tables base);
  sound = tt;
  mode = is.mode;
}

-- all tables are made
plan_made : (base : Database) (s : State) → IsMadeSoFar all_tables base s → IsMadeWhole base s
plan_made base s is =
    let plan = plan_stands base.schema is.free in
    let listed = subst (AreListed (s.now.trees catalog_tree)) is.schema is.sound.lists.listed in
    let told : (t : Table) → tree_named (s.now.trees catalog_tree) (name t) ≡ plan.trees t =
    tells (with_plan base.schema) plan (s.now.trees catalog_tree) listed in
    let none : (t : Table) → tables_of s.now.trees t ≡ [] = λ t. ap s.now.trees (told t ∙ stands_for base.schema is.free t)
    ∙ each_made (λ d. s.now.trees d.tree ≡ []) base.schema is.empty t in
    record {
      free = is.free;
      schema = is.schema;
      plan = record {
        schema = subst HasTables (sym is.schema) plan;
        told = told;
        rowids = λ t. subst HaveRowids (sym (none t)) tt;
      };
      rows_are = λ i t. none t i;
      others = is.others;
      own = subst HasOnlyKeyIndexes (sym is.schema) (key_indexes base.schema is.free);
      sound = is.sound;
      mode = is.mode;
    }

-- so making each makes the plan
pub makes_whole : {S T : Type 0} {g : Ghosts S} {old new : Transaction S} {r : Result T Error}
    → Makes g old new r (IsMadeSoFar []) (IsMadeSoFar all_tables) → Makes g old new r IsReady IsMadeWhole
makes_whole = turns_weaker none_made (λ base s t ready. plan_made base t) (λ base s t e h. h)

-- what leaves the tables beside the plan leaves those that were there
pub others_kept : (base : Database) (old new : State) → IsMadeWhole base old → KeepsBeside old.now new.now
    → KeepsRows base.schema.tables base.trees new.now.trees
others_kept base old new is keeps = all_from (λ (d : Described). new.now.trees d.tree ≡ base.trees d.tree)
    base.schema.tables (λ d has.
    let there = all_has (λ (d : Described). (Has old.now.schema.tables d)) base.schema.tables d still has in
    let kept = all_has (λ (d : Described). ((t : Table) → d.tree ≢ tree_named (old.now.trees catalog_tree) (name t))
    → new.now.trees d.tree ≡ old.now.trees d.tree) old.now.schema.tables d keeps there (λ t same.
    let low = table_below base.schema d has in
    let high = above old.now.schema is.schema is.plan.schema t in
    absurd (omega (arith, low, high, same ∙ is.plan.told t))) in
    kept ∙ all_has (λ (d : Described). old.now.trees d.tree ≡ base.trees d.tree) base.schema.tables d is.others has)
  where
    above : (s : Schema) → s ≡ with_plan base.schema → (plan : HasTables s) (t : Table)
        → next_tree base.schema ≤ plan.trees t
    above s same = subst (λ s. (plan : HasTables s) (t : Table) → next_tree base.schema ≤ plan.trees t) (sym same)
        (stands_above base.schema is.free)

    still : AllByRecursion (λ d. Has old.now.schema.tables d) base.schema.tables
    still = subst (λ s. AllByRecursion (λ d. Has s.tables d) base.schema.tables) (sym is.schema)
        (all_made (λ d. Has (with_plan base.schema).tables d) all_tables base.schema
        (all_from _ (with_plan base.schema).tables (λ d has. has))).0

-- ---- in one transaction

pub begins_ready : {S : Type 0} (g : Ghosts S) (conn : Held S) → IsFree conn.schema
    → IsReady (state g conn).now (state g (record conn { in_transaction = true }))
begins_ready g conn free = record { free = free; is = refl; mode = refl }

made_beside : (old mid new : State) → IsMadeWhole old.now mid → new.now ≡ mid.now → IsMadeBeside old new
made_beside old mid new made is = record {
  plan = plan_still mid new is made.plan;
  rows_are = ap (λ (db : Database). tables_of db.trees) is ∙ made.rows_are;
  schema = ap (λ (db : Database). db.schema) is ∙ made.schema;
  others = subst (λ (db : Database). KeepsRows old.now.schema.tables old.now.trees db.trees) (sym is) made.others;
}

pub made_once : {S : Type 0} (g : Ghosts S)
    → IsOnce g IsReady IsMadeWhole (λ _. MayFail) (λ s. IsFree s.now.schema) IsMadeBeside HoldsMade
made_once g = record {
  starts = begins_ready g;
  cause = λ base. may_fail;
  mode = λ base s made. made.mode;
  leaves = λ old mid new fits made is. made_beside old mid new made is;
  left = λ old mid fits made. (made.rows_are, made.others);
}
