-- Why a statement fails. An error that tells of the device, or that the connection is shut, has that cause.
use Rattle.std.proofs.Common.{◌≡◌, ◌≤◌, ◌∙◌, ℕ, ℤ, Bool, fold, true, false, true≢false, inl, inr, List, [], Option, Some, None, IsTrue}
use Rattle.std.proofs.Common.{Result, Err, refl, sym, ap, subst, slice_get}
use Rattle.std.specs.Prelude.{IfErr, MatchBool, if◌then◌else◌}
use Rattle.sqlite.specs.Command.{Command}
use Rattle.sqlite.specs.Command.TheVariants.{DropTable, Insert}
use Rattle.sqlite.specs.Does.{AtPlace, Concludes, Does, Drops, Empties, HoldWithout, OnRows, Tested}
use Rattle.sqlite.specs.Does.{UncountsIn, is_acted_on}
use Rattle.sqlite.specs.Edit.{Edit, edit_of}
use Rattle.sqlite.specs.Effect.{Database, edit_error}
use Rattle.sqlite.specs.Order.{Row}
use Rattle.sqlite.specs.Rows.{Counter, CounterIn, Counts, CountsIn, Edited, Gives, Inserts, Part, Refuses, Sourced, Task}
use Rattle.sqlite.specs.Rows.{Written, count_of, counting, higher, rowids_for, sequence, stamped}
use Rattle.sqlite.specs.Rowids.TheVariants.{Given}
use Rattle.sqlite_rules.specs.Calls.{ids_of}
use Rattle.sqlite_schema.specs.Rules.{Refers}
use Rattle.std.specs.Option.{option_to_list}
use Rattle.std.specs.Ordering.{int_cmp, is_lt}
use Rattle.sqlite.specs.Schema.{Schema}
use Rattle.sqlite.specs.Source.TheVariants.{Values}
use Rattle.sqlite.specs.State.{State, HasCause, store_error}
use Rattle.sqlite.specs.Table.{Table as Described}
use Rattle.sqlite.specs.Term.{Term}
use Rattle.sqlite.specs.Tree.{Trees}
use Rattle.sqlite.specs.declared.error.Error.{Error}
use Rattle.sqlite.specs.declared.error.Error.TheVariants.{InvalidQuery}
use Rattle.sqlite.specs.declared.run.Mode.{Mode}
use Rattle.sqlite_rules.specs.declared.error.Refusal.{Refusal}
use Rattle.sqlite_rules.specs.declared.error.Refusal.TheVariants.{BadReference, Mismatch, NoRowid, TooDeep, Violates}
use Rattle.sqlite_schema.specs.declared.schema.Among.{Among}
use Rattle.sqlite_schema.specs.declared.schema.Keys.{Keys}
use Rattle.sqlite_trees.specs.declared.error.StoreError.{StoreError}
use Rattle.sqlite_trees.specs.declared.error.StoreError.TheVariants.{Broken, Corrupt, Full, Io, OutOfMemory, Unstorable}
use Rattle.plan_tables_schema.specs.Cells.{insert_terms, width}
use Rattle.plan_tables_schema.specs.Rows.{MayFail, Tables}
use Rattle.plan_tables_schema.specs.declared.tables.Table.{Table}
use Rattle.plan_tables_schema.proofs.InTurn.{IsCause}
use Rattle.plan_tables_schema.proofs.ResultLemmas.{if_err}
use Rattle.plan_tables_schema.proofs.StopLemmas.{IsStopped, vain_before, vain_since}
use Rattle.plan_migrations_remaking.specs.Refusals.{FailsFor, IsRefused, RefusesToDrop, by_rule}
use Rattle.plan_migrations_remaking.specs.Remaking.{RefusesRow, RefusesToFill, RefusesToRemake, remade_row}
use Rattle.plan_migrations_remaking.specs.Turns.{DeviceHasCause, is_of_device}
use Rattle.plan_migrations_remaking.specs.declared.rows.FirstRows.{FirstRows}

-- ---- causes

-- the error tells of something else
elsewhere : (a b : State) (e : Error) → is_of_device e ≡ false → DeviceHasCause a b e
elsewhere a b e none is = absurd (true≢false (sym is ∙ none))

by_store : (a b : State) (X : Type 0) (cause : StoreError) (e : Error) → e ≡ store_error cause → HasCause a b X cause
    → DeviceHasCause a b e
by_store a b X OutOfMemory e same h = elsewhere a b e (ap is_of_device same)
by_store a b X Io e same h = λ _. inl h
by_store a b X Corrupt e same h = λ _. inl h
by_store a b X Full e same h = λ _. inl h
by_store a b X Broken e same h = λ _. inr h
by_store a b X Unstorable e same h = elsewhere a b e (ap is_of_device same)

by_may : (a b : State) (e : Error) → MayFail a b e → DeviceHasCause a b e
by_may a b e (inl h) = by_store a b ⊥ h.0 e h.1 h.2
by_may a b e (inr h) = elsewhere a b e (ap is_of_device h.0)

-- ---- what a database refuses is told by other errors

abbrev Tame : {A : Type 0} → Part A → Type 0
Tame P = (e : Error) → P (Err (Some e)) → is_of_device e ≡ false

gives : {A : Type 0} (a : A) → Tame (Gives a)
gives a e h = absurd cc

refuses : {A : Type 0} (d : Error) → is_of_device d ≡ false → Tame {A = A} (Refuses d)
refuses d none e h = let same : e ≡ d = cc in ap is_of_device same ∙ none

from_stop : {A B : Type 0} (P : Part A) → Tame P → (stop : Option Error) (e : Error)
    → ◌≡◌ {A = Result B (Option Error)} (Err (Some e)) (Err stop) → P (Err stop) → is_of_device e ≡ false
from_stop P tame None e same h = absurd cc
from_stop P tame (Some d) e same h = let is : e ≡ d = cc in ap is_of_device is ∙ tame d h

if_so : {A : Type 0} (b : Bool) (P Q : Part A) → Tame P → Tame Q → Tame (λ out. MatchBool b (P out) (Q out))
if_so true P Q one two e h = one e h
if_so false P Q one two e h = two e h

by_edit : (why : Refusal) → is_of_device (edit_error why) ≡ false
by_edit (Violates rule) = refl
by_edit Mismatch = refl
by_edit BadReference = refl
by_edit NoRowid = refl
by_edit TooDeep = refl

edited : (schema : Schema) (keys : Keys) (db : Trees) (edit : Edit) → Tame (Edited schema keys db edit)
edited schema keys db edit e (None, h, same) = absurd cc
edited schema keys db edit e (Some why, h, same) =
    let is : e ≡ edit_error why = cc in ap is_of_device is ∙ by_edit why

tested : (mode : Mode) (Holds : Among → Type 0) → Tame (Tested mode Holds)
tested mode Holds e (not, same) = let is = same in (ap (λ (o : Option Error). told o) is)
  where
    told : Option Error → Bool
    told None = false
    told (Some d) = is_of_device d

sourced : (limit : Option ℕ) (db : Database) (params : Row) (terms : List Term) (width : ℕ)
    → Tame (Sourced limit db params (Values terms width))
sourced limit db params terms width e (inl h) = ap is_of_device h.0
sourced limit db params terms width e (inr h) = ap is_of_device h.0

module _ (task : Task) where
  counter_in : (db : Trees) (o : Option Described) → Tame (CounterIn task db o)
  counter_in db None = refuses InvalidQuery refl
  counter_in db (Some t) = gives (Rattle.sqlite.specs.Rows.counter_in db task.table t)

  counted : (db : Trees) → Tame (Counter task db)
  counted db = if_so task.table.is_counted (CounterIn task db (sequence task.schema)) (Gives None)
      (counter_in db (sequence task.schema)) (gives None)

  counts_in : (db : Trees) (counter : Option Row) (top : ℤ) (o : Option Described) → Tame (CountsIn task db counter top o)
  counts_in db counter top None = refuses InvalidQuery refl
  counts_in db counter top (Some t) = edited task.schema task.keys db (counting db task.table t top counter)

  counts : (db : Trees) (counter : Option Row) (top : ℤ) → Tame (Counts task db counter top)
  counts db counter top = if_so (if task.table.is_counted then is_lt (int_cmp (count_of counter) top) else false) (CountsIn task db counter top (sequence task.schema)) (Gives db)
      (counts_in db counter top (sequence task.schema)) (gives db)

  abbrev edit_for : Trees → Option Row → List Row → Edit
  edit_for db counter rows = edit_of db task.table [] (rowids_for task.table (count_of counter)) 0 rows

  inserted : (terms : List Term) (width : ℕ) (db : Trees) → Tame (Inserts task (Values terms width) db)
  inserted terms width db e (inl (stop, h, same)) = from_stop (Sourced task.limit (record {
    schema = task.schema;
    trees = db;
  }) (stamped task.table task.params) (Values terms width)) (sourced task.limit (record {
    schema = task.schema;
    trees = db;
  }) (stamped task.table task.params) terms width) stop e same h
  inserted terms width db e (inr (rows, ok, inl (stop, h, same))) = from_stop (Counter task db) (counted db) stop e same h
  inserted terms width db e (inr (rows, ok, inr (counter, found, inl (stop, h, same)))) =
      from_stop (Edited task.schema task.keys db (edit_for db counter rows))
      (edited task.schema task.keys db (edit_for db counter rows)) stop e same h
  inserted terms width db e (inr (rows, ok, inr (counter, found, inr (mid, put, inl (stop, h, same))))) =
      from_stop (Counts task mid counter (fold higher (count_of counter) (edit_for db counter rows).news))
      (counts mid counter (fold higher (count_of counter) (edit_for db counter rows).news)) stop e same h
  inserted terms width db e (inr (rows, ok, inr (counter, found, inr (mid, put, inr (next, done, h))))) = absurd cc

  concluded : (mode : Mode) (w : Written) → Tame (Concludes task mode None w)
  concluded mode w e (inl (stop, h, same)) =
      from_stop (Tested mode (λ among. Refers among task.schema w.trees))
      (tested mode (λ among. Refers among task.schema w.trees)) stop e same h
  concluded mode w e (inr (doubt, ok, inl (stop, h, same))) = absurd cc
  concluded mode w e (inr (doubt, ok, inr (rows, none, h))) = absurd cc

  emptied : (db : Trees) → Tame (Empties task db)
  emptied db = if_so (is_acted_on task.schema task.keys task.table)
      (Edited task.schema task.keys db (edit_of db task.table (ids_of (db task.table.tree)) Given 0 [])) (Gives db)
      (edited task.schema task.keys db (edit_of db task.table (ids_of (db task.table.tree)) Given 0 [])) (gives db)

  uncounted_in : (db : Trees) (o : Option Described) → Tame (UncountsIn task db o)
  uncounted_in db None e h = gives db e h
  uncounted_in db (Some t) e (inl (stop, h, same)) = from_stop (Counter task db) (counted db) stop e same h
  uncounted_in db (Some t) e (inr (counter, ok, h)) =
      edited task.schema task.keys db (edit_of db t (ids_of (option_to_list counter)) Given 0 []) e h

  dropped : (mode : Mode) (db : Trees) → Tame (Drops task mode db)
  dropped mode db e (inl (stop, h, same)) = from_stop (Empties task db) (emptied db) stop e same h
  dropped mode db e (inr (now, ok, inl (stop, h, same))) =
      from_stop (UncountsIn task now (if task.table.is_counted then sequence task.schema else None))
      (uncounted_in now (if task.table.is_counted then sequence task.schema else None)) stop e same h
  dropped mode db e (inr (now, ok, inr (left, ok2, inl (stop, h, same)))) =
      from_stop (Tested mode (HoldWithout task left)) (tested mode (HoldWithout task left)) stop e same h
  dropped mode db e (inr (now, ok, inr (left, ok2, inr (doubt, ok3, inl (None, h, same))))) = absurd h
  dropped mode db e (inr (now, ok, inr (left, ok2, inr (doubt, ok3, inl (Some d, h, same))))) = absurd h
  dropped mode db e (inr (now, ok, inr (left, ok2, inr (doubt, ok3, inr (after, ok4, h))))) = absurd cc

module _ (limit : Option ℕ) (mode : Mode) (params : Row) (db : Database) (text : List ℕ) where
  abbrev task_for : Described → Task
  task_for table = record { limit = limit; keys = mode.keys; schema = db.schema; table = table; params = params }

  on_rows : (task : Task) (terms : List Term) (width : ℕ) → Tame (OnRows task mode None (Insert 0 (Values terms width)) db.trees)
  on_rows task terms width e (inl (stop, h, same)) = from_stop (Inserts task (Values terms width) db.trees)
      (inserted task terms width db.trees) stop e same h
  on_rows task terms width e (inr (w, ok, h)) = concluded task mode w e h

  inserts_at : (o : Option Described) (at : ℕ) (terms : List Term) (width : ℕ)
      → Tame (AtPlace (λ (table : Described). OnRows (task_for table) mode None (Insert at (Values terms width)) db.trees) o)
  inserts_at None at terms width = refuses InvalidQuery refl
  inserts_at (Some table) at terms width = on_rows (task_for table) terms width

  tame_insert : (at : ℕ) (terms : List Term) (width : ℕ) → Tame (Does limit mode params db text None (Insert at (Values terms width)))
  tame_insert at terms width = inserts_at (slice_get db.schema.tables at) at terms width

  drops_at : (o : Option Described) → Tame (AtPlace (λ (table : Described). Drops (task_for table) mode db.trees) o)
  drops_at None = refuses InvalidQuery refl
  drops_at (Some table) = dropped (task_for table) mode db.trees

  tame_drop : (at : ℕ) → Tame (Does limit mode params db text None (DropTable at))
  tame_drop at = drops_at (slice_get db.schema.tables at)

-- ---- what is refused tells of something else

calm_drop : (limit : Option ℕ) (db : Database) (t : Table) (e : Error) → RefusesToDrop limit db t e
    → is_of_device e ≡ false
calm_drop limit db t e (at, named, inl h) = tame_drop limit by_rule [] db [] at e h
calm_drop limit db t e (at, named, inr h) = ap is_of_device h.0

calm_row : (limit : Option ℕ) (db : Database) (t : Table) (cells : Row) (e : Error) → RefusesRow limit db t cells e
    → is_of_device e ≡ false
calm_row limit db t cells e (at, named, inl h) =
    tame_insert limit by_rule cells db [] at (insert_terms t) (width t) e h
calm_row limit db t cells e (at, named, inr h) = ap is_of_device h.0

pub calm_fill : (limit : Option ℕ) (schema : Schema) (goal : Tables) (e : Error) → RefusesToFill limit schema goal e
    → is_of_device e ≡ false
calm_fill limit schema goal e h = calm_row limit h.db h.table (remade_row h.table h.row) e h.refused

calm_remake : (limit : Option ℕ) (reads : List FirstRows) (base : Database) (e : Error)
    → RefusesToRemake limit reads base e → is_of_device e ≡ false
calm_remake limit reads base e (inl h) = calm_drop limit h.db h.table e h.refused
calm_remake limit reads base e (inr h) = calm_fill limit _ _ e h.1

-- so one that tells of the device has that cause
device_cause : (Refused : Error → Type 0) (a b : State) (e : Error) → (Refused e → is_of_device e ≡ false)
    → FailsFor Refused a b e → DeviceHasCause a b e
device_cause Refused a b e calm (inl h) = by_may a b e h
device_cause Refused a b e calm (inr h) = elsewhere a b e (calm h)

-- as of a remaking
pub remake_cause : {A : Type 0} (r : Result A Error) (reads : List FirstRows) (a b : State)
    → IfErr r (FailsFor (RefusesToRemake a.step_limit reads a.now) a b) → IfErr r (DeviceHasCause a b)
remake_cause r reads a b = if_err r _ _ (λ e. device_cause (RefusesToRemake a.step_limit reads a.now) a b e
    (calm_remake a.step_limit reads a.now e))

-- ---- a statement fails for a common cause, or is refused

by_kind : (old new : State) (params : Row) (text : List ℕ) (command : Command) (e : Error) (cause : StoreError)
    → e ≡ store_error cause → HasCause old new (Does old.step_limit by_rule params old.now text None command (Err None)) cause
    → FailsFor (IsRefused old.step_limit params old.now text command) old new e
by_kind old new params text command e OutOfMemory same h = inl (inl (OutOfMemory, same, tt))
by_kind old new params text command e Io same h = inl (inl (Io, same, h))
by_kind old new params text command e Corrupt same h = inl (inl (Corrupt, same, h))
by_kind old new params text command e Full same h = inl (inl (Full, same, h))
by_kind old new params text command e Broken same h = inl (inl (Broken, same, h))
by_kind old new params text command e Unstorable same h = inr (inr (same, h))

pub caused_by : (old new : State) (params : Row) (text : List ℕ) (command : Command) (e : Error)
    → IsStopped old new params text command e → FailsFor (IsRefused old.step_limit params old.now text command) old new e
caused_by old new params text command e (inl h) = inl (inl (h.0, h.1, h.2))
caused_by old new params text command e (inr (inl h)) = by_kind old new params text command e h.0 h.1 h.2
caused_by old new params text command e (inr (inr h)) = inr (inl h.1)

pub refused_as : (P Q : Error → Type 0) (a b : State) (e : Error) → (P e → Q e) → FailsFor P a b e → FailsFor Q a b e
refused_as P Q a b e goes (inl h) = inl h
refused_as P Q a b e goes (inr h) = inr (goes h)

-- what is refused over the database that a transaction began with is a cause
pub refusing : (X : Option ℕ → Database → Error → Type 0) (base : Database)
    → IsCause (λ a b. FailsFor (X a.step_limit base) a b)
refusing X base = record { common = λ a b e h. inl h; since = since; until = until }
  where
    since : (a b c : State) (e : Error) → a.faults ≤ b.faults → (IsTrue a.is_open → IsTrue b.is_open)
        → b.step_limit ≡ a.step_limit → FailsFor (X b.step_limit base) b c e → FailsFor (X a.step_limit base) a c e
    since a b c e more stays limit (inl h) = inl (vain_since a b c e more stays limit h)
    since a b c e more stays limit (inr h) = inr (subst (λ l. X l base e) limit h)

    until : (a b c : State) (e : Error) → b.faults ≤ c.faults → FailsFor (X a.step_limit base) a b e
        → FailsFor (X a.step_limit base) a c e
    until a b c e more (inl h) = inl (vain_before a b c e h more)
    until a b c e more (inr h) = inr h

-- what causes it once the connection was open causes it since before
pub fails_after : (P Q : Error → Type 0) (a b c : State) (e : Error) → (P e → Q e) → a.faults ≤ b.faults
    → IsTrue b.is_open → b.step_limit ≡ a.step_limit → FailsFor P b c e → FailsFor Q a c e
fails_after P Q a b c e goes more stays limit (inl h) = inl (vain_since a b c e more (λ _. stays) limit h)
fails_after P Q a b c e goes more stays limit (inr h) = inr (goes h)
