-- What DROP TABLE does, where no foreign key acts and nothing is counted.
use Rattle.std.proofs.Common.{◌≡◌, ◌∙◌, ℕ, List, [], false, Option, Some, None, Ok, slice_get, ap, subst, sym}
use Rattle.sqlite.specs.Change.{KeepsRows, without_table}
use Rattle.sqlite.specs.Command.TheVariants.{DropTable}
use Rattle.sqlite.specs.Does.{Does, Tally, is_acted_on}
use Rattle.sqlite.specs.Effect.{Database}
use Rattle.sqlite.specs.Listing.{understood}
use Rattle.sqlite.specs.Schema.{Schema}
use Rattle.sqlite.specs.State.{State, Executes, mode_of}
use Rattle.sqlite.specs.Table.{Table}
use Rattle.sqlite.specs.Term.{Term}
use Rattle.sqlite.proofs.Callers.{IsPlain, command_of, runs_as, statement_of}
use Rattle.sqlite_schema.specs.declared.schema.Column.{Column}
use Rattle.sqlite_schema.specs.declared.schema.Keys.TheVariants.{Enforced}
use Rattle.sqlite_schema.specs.declared.schema.Reference.{Reference}
use Rattle.sqlite_value.specs.declared.keys.Order.{Order}
use Rattle.plan_tables_schema.proofs.Steps.{same_value, went}
use Rattle.plan_tables_schema.specs.Schema.{plain_table}

module _ (schema : Schema) (at : ℕ) (name : List ℕ) (tree : ℕ) (columns : List Column) (key : Option ℕ)
    (primary : List ℕ) (uniques : List (List ℕ)) (orders : List Order) (checks : List Term) (references : List Reference)
    (sql : List ℕ) (command : command_of (understood schema sql) ≡ DropTable at) (plain : IsPlain (understood schema sql))
    (found : slice_get schema.tables at ≡ Some (plain_table name tree columns key primary uniques orders checks references))
    (unacted : is_acted_on schema Enforced (plain_table name tree columns key primary uniques orders checks references) ≡ false)
  where
    abbrev table : Table
    table = plain_table name tree columns key primary uniques orders checks references

    pub drops : (old new : State) (count : ℕ) → old.now.schema ≡ schema → Executes sql [] old new (Ok count)
        → (new.now.schema ≡ without_table schema table.tree)
        × KeepsRows (without_table schema table.tree).tables old.now.trees new.now.trees
    drops old new count has h =
        let w = runs_as sql [] old new schema has (DropTable at) command plain count h in
        let does = subst (λ s. Does old.step_limit (mode_of old) [] (record old.now { schema = s })
        (statement_of sql (understood schema sql)) None (DropTable at) (Ok (w.tally, new.now))) has w.changed in
        let done = rw (found, unacted) at does in
        let emptied = went done in
        let left = went emptied.2 in
        let tested = went left.2 in
        let last = went tested.2 in
        let now : new.now ≡ last.0 = ap (λ (p : Tally × Database). p.1) (same_value last.2) in
        let still : left.0 ≡ old.now.trees = same_value left.1 ∙ same_value emptied.1 in (
          ap (λ (d : Database). d.schema) now ∙ last.1.0,
          subst (λ (d : Database). KeepsRows (without_table schema table.tree).tables old.now.trees d.trees) (sym now)
              (subst (λ db. KeepsRows (without_table schema table.tree).tables db last.0.trees) still last.1.1),
        )
