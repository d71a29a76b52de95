-- What one statement does to its table.
use Rattle.std.proofs.Common.{◌≡◌, ◌⊎◌, ◌/◌, inl, inr, ℕ, pos, negsuc, List, [], ◌∷◌, ◌++◌, length, map}
use Rattle.std.proofs.Common.{slice_get, Bool, true, false, cond, Option, Some, None, Ok, Err, Result, refl}
use Rattle.std.proofs.Common.{sym, ap, subst, ◌∙◌}
use Rattle.sqlite.specs.Order.{Row}
use Rattle.sqlite_value.specs.declared.keys.Order.{Order}
use Rattle.sqlite.specs.Term.{Term}
use Rattle.sqlite.specs.Table.{Table}
use Rattle.sqlite.specs.Schema.{Schema}
use Rattle.sqlite_schema.specs.declared.schema.Column.{Column}
use Rattle.sqlite_schema.specs.declared.schema.Reference.{Reference}
use Rattle.sqlite_schema.specs.declared.schema.Keys.TheVariants.{Enforced}
use Rattle.sqlite.specs.Source.TheVariants.{Values}
use Rattle.sqlite.specs.Command.TheVariants.{Insert, Delete, CreateTable}
use Rattle.sqlite.specs.Compile.{table_defined_by}
use Rattle.sqlite.specs.Edit.{edit_of, Applies}
use Rattle.sqlite_rules.specs.Action as action
use Rattle.sqlite_rules.specs.Action.{works}
use Rattle.sqlite.specs.Rowids.TheVariants.{Chosen}
use Rattle.sqlite.specs.Change.{created, next_tree, KeepsRows}
use Rattle.sqlite.specs.Does.{Tally, Does, lacks_sequence}
use Rattle.sqlite.specs.Rows.{Written}
use Rattle.sqlite.specs.Tree.{Trees}
use Rattle.sqlite.specs.Listing.{understood}
use Rattle.sqlite.specs.Effect.{Database, value_rows}
use Rattle.sqlite.specs.State.{State, mode_of, Writes, Executes}
use Rattle.sqlite.proofs.Callers.{IsPlain, command_of, statement_of, runs_as, one_step}
use Rattle.std.proofs.Common.{filter, flat_map}
use Rattle.std.specs.List.{list_all}
use Rattle.std.specs.List.Sorted.{IsPermutation}
use Rattle.std.proofs.lemmas.List.Sorted.{IsPermutation-map}
use Rattle.sqlite_keyed.proofs.ListLemmas.{map-map}
use Rattle.sqlite.specs.declared.types.Value.TheVariants.{Null, Int}
use Rattle.sqlite.specs.Term.{Env, lit, eval_all, holds}
use Rattle.sqlite.specs.Query.{Query, Output, inner, end, IsAnswer, output}
use Rattle.sqlite.specs.Program.{overlay}
use Rattle.sqlite.specs.Rowids.TheVariants.{Given}
use Rattle.sqlite_rules.specs.Calls.{ids_of}
use Rattle.plan_tables_schema.specs.Schema.{plain_table}

-- a part that gave a value did not stop on the way
pub went : {B E R : Type 0} {b : B} {Stops : E → Type 0} → ((stop : E) × Stops stop × (Ok b ≡ Err stop)) ⊎ R → R
went (inl stopped) = absurd (let e = stopped.2 in cc)
went (inr on) = on

pub same_value : {B E : Type 0} {a b : B} → ◌≡◌ {A = Result B E} (Ok a) (Ok b) → a ≡ b
same_value e = cc

-- ---- SELECT over one table, with no ORDER BY

abbrev pub plain_query : ℕ → List Term → List Term → Query
plain_query tree tests project = record {
  from = inner tree end;
  filter = tests;
  group = None;
  project = project;
  distinct = false;
  collations = [];
  order = [];
  limit = lit (Int (negsuc 0));
  offset = lit (Int (pos 0));
}

staged_is : (p : Row → Bool) (e : Row → Env) (xs : List Row) → flat_map (λ r. cond (p r) (e r ∷ []) []) xs ≡ map e
    (filter p xs)
staged_is p e [] = refl
staged_is p e (x ∷ xs) = go (p x) (staged_is p e xs)
  where
    go : (b : Bool) → flat_map (λ r. cond (p r) (e r ∷ []) []) xs ≡ map e (filter p xs)
        → cond b (e x ∷ []) [] ++ flat_map (λ r. cond (p r) (e r ∷ []) []) xs ≡ map e (cond b (x ∷ filter p xs)
        (filter p xs))
    go true h = ap (λ l. e x ∷ l) h
    go false h = h

-- the rows that pass the tests, as they are shown
abbrev pub shown_by : List Term → List Term → Row → List Row → List Row
shown_by tests project params rows = map (λ r. eval_all project (params ∷ r ∷ [])) (filter (λ r. list_all (holds
    (params ∷ r ∷ [])) tests) rows)

pub plain_rows : (tree : ℕ) (tests project : List Term) (db : Trees) (params : Row) (rows : List Row)
    → overlay db [] tree ≡ db tree → IsAnswer (plain_query tree tests project) (overlay db []) params rows
    → IsPermutation (shown_by tests project params (db tree)) rows
plain_rows tree tests project db params rows own a =
    let q = plain_query tree tests project in
    let p = λ (r : Row). list_all (holds (params ∷ r ∷ [])) tests in
    let e = λ (r : Row). params ∷ r ∷ [] in
    let second = λ (o : Output). o.1 in
    let staged : a.staged ≡ map e (filter p (db tree)) = a.grouped ∙ staged_is p e (overlay db [] tree)
    ∙ ap (λ xs. map e (filter p xs)) own in
    let kept : map second a.kept ≡ shown_by tests project params (db tree) = ap (map second) (a.distinct
    ∙ ap (map (output q)) staged) ∙ map-map second (output q) (map e (filter p (db tree)))
    ∙ map-map (λ v. second (output q v)) e (filter p (db tree)) in
    subst (λ xs. IsPermutation xs rows) kept (subst (IsPermutation (map second a.kept)) (sym a.shown)
    (IsPermutation-map second a.kept a.ordered a.same))

-- ---- CREATE TABLE

module _ (schema : Schema) (table : Table) (sql : List ℕ) (command : command_of (understood schema sql) ≡
    CreateTable) (text : statement_of sql (understood schema sql) ≡ sql)
    (defined : table_defined_by sql ≡ Ok table) (plain : IsPlain (understood schema sql)) (uncounted :
    lacks_sequence (created schema table) ≡ false) where
  pub creates : (old new : State) (count : ℕ) → old.now.schema ≡ schema → Executes sql [] old new (Ok count)
      → (new.now.schema ≡ created schema table) × (new.now.trees (next_tree schema) ≡ [])
      × KeepsRows schema.tables old.now.trees new.now.trees
  creates old new count has h =
      let w = subst (λ t. Writes old new None CreateTable t [] count) text (runs_as sql [] old new schema has
      CreateTable command plain count h) in
      let all = went w.changed in
      let first = went all.1 in
      let made = first.1 in
      let both : Ok made.table ≡ Ok table = sym made.defined ∙ defined in
      let same : made.table ≡ table = cc in
      let is : first.0.schema ≡ created schema table = made.is ∙ ap (λ s. created s made.table) has
      ∙ ap (created schema) same in
      let none : lacks_sequence first.0.schema ≡ false = ap lacks_sequence is ∙ uncounted in
      let now : new.now ≡ first.0 = ap (λ (p : Tally × Database). p.1) (same_value all.2)
      ∙ same_value (rw none at first.2) in (
        ap (λ (d : Database). d.schema) now ∙ is,
        ap (λ (d : Database). d.trees (next_tree schema)) now
            ∙ subst (λ s. first.0.trees (next_tree s) ≡ []) has made.empty,
        subst (λ (d : Database). KeepsRows schema.tables old.now.trees d.trees) (sym now) (subst (λ (s : Schema).
            KeepsRows s.tables old.now.trees first.0.trees) has made.others),
      )

-- ---- INSERT

module _ (schema : Schema) (at : ℕ) (name : List ℕ) (tree : ℕ) (columns : List Column) (key : Option ℕ) (primary :
    List ℕ) (uniques : List (List ℕ)) (orders : List Order) (checks : List Term) (references : List Reference)
    (found : slice_get schema.tables at ≡ Some (plain_table name tree columns key primary uniques orders checks
    references)) where
  abbrev table : Table
  table = plain_table name tree columns key primary uniques orders checks references

  pub inserts : ((news : List Row) → works schema Enforced 0 tree [] news ≡ [])
      → (old new : State) (terms : List Term) (width : ℕ) (params : Row) (text : List ℕ) (count : ℕ)
      → old.now.schema ≡ schema
      → Writes old new None (Insert at (Values terms width)) text params count
      → (new.now.schema ≡ schema) × Applies schema Enforced old.now.trees (edit_of old.now.trees table [] Chosen 0
      (value_rows (params ++ []) width (length terms / width) terms)) new.now.trees
  inserts idle old new terms width params text count has w =
      let db = old.now.trees in
      let command = Insert at (Values terms width) in
      let does = subst (λ s. Does old.step_limit (mode_of old) params (record old.now {
        schema =
            s;
      }) text None command (Ok (w.tally, new.now))) has w.changed in
      let done = went (rw found at does) in
      let now = ap (λ (p : Tally × Database). p.1) (same_value (went (went done.2).2).2) in
      let given = went done.1 in
      let written = went (went given.2).2 in
      let counted = went written.2 in
      let trees : done.0.trees ≡ written.0 = ap (λ (it : Written). it.trees) (same_value counted.2)
      ∙ same_value counted.1 in
      let edit = λ (all : List Row). edit_of db table [] Chosen 0 all in
      let applies = one_step schema Enforced db written.0 (edit given.0) (idle (edit given.0).news) written.1 in
      let last : new.now.trees ≡ written.0 = ap (λ (d : Database). d.trees) now ∙ trees in (
        ap (λ (d : Database). d.schema) now,
        subst (λ all. Applies schema Enforced db (edit all) new.now.trees)
            given.1.1 (subst (Applies schema Enforced db (edit given.0)) (sym last) applies),
      )

  pub deletes : (old new : State) (q : Query) (params : Row)
      → ((rows : List Row) (next : Trees) → IsAnswer q (overlay old.now.trees []) params rows
      → action.Writes schema Enforced old.now.trees (edit_of old.now.trees table (ids_of rows) Given 0 []) (Ok next)
      → Applies schema Enforced old.now.trees (edit_of old.now.trees table (ids_of rows) Given 0 []) next)
      → (text : List ℕ) (count : ℕ) → old.now.schema ≡ schema
      → Writes old new None (Delete at (record { lets = []; body = q })) text params count
      → (new.now.schema ≡ schema) × ((rows : List Row) × IsAnswer q (overlay old.now.trees []) params rows
      × Applies schema Enforced old.now.trees (edit_of old.now.trees table (ids_of rows) Given 0 []) new.now.trees)
  deletes old new q params settle text count has w =
      let db = old.now.trees in
      let command = Delete at (record { lets = []; body = q }) in
      let does = subst (λ s. Does old.step_limit (mode_of old) params (record old.now {
        schema =
            s;
      }) text None command
      (Ok (w.tally, new.now))) has w.changed in
      let done = went (rw found at does) in
      let now = ap (λ (p : Tally × Database). p.1) (same_value (went (went done.2).2).2) in
      let found_rows = went done.1 in
      let written = went found_rows.2 in
      let trees : done.0.trees ≡ written.0 = ap (λ (it : Written). it.trees) (same_value written.2) in
      let edit = edit_of db table (ids_of found_rows.0) Given 0 [] in
      let answer = found_rows.1.answer (Null) in
      let applies = settle found_rows.0 written.0 answer written.1 in
      let last : new.now.trees ≡ written.0 = ap (λ (d : Database). d.trees) now ∙ trees in (
        ap (λ (d : Database). d.schema) now,
        (
          found_rows.0,
          answer,
          subst (Applies schema Enforced db edit) (sym
              last) applies,
        ),
      )
