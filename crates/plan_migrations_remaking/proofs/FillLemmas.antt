-- What the tables of a plan are once they are made and filled.
use Rattle.std.proofs.Common.{Option, ℕ, ◌≡◌, ◌∙◌, ◌⊎◌, true≢false, IsTrue, Result, Ok, Err, None, IsSome, List, inl, inr, ap, subst, sym, arith}
use Rattle.std.specs.Prelude.{OnOk}
use Rattle.sqlite.specs.Effect.{Database}
use Rattle.sqlite.specs.Held.{Held, state}
use Rattle.sqlite.specs.Schema.{Schema}
use Rattle.sqlite.specs.State.{HasCause, State, store_error}
use Rattle.sqlite.specs.Steps.{over_memory}
use Rattle.sqlite.specs.Store.{Ghosts}
use Rattle.sqlite.specs.declared.error.Error.{Error}
use Rattle.sqlite.specs.declared.error.Error.TheVariants.{SqliteFailure}
use Rattle.sqlite.specs.declared.error.ErrorCode.TheVariants as code
use Rattle.sqlite_trees.specs.declared.error.StoreError.{StoreError}
use Rattle.sqlite_trees.specs.declared.error.StoreError.TheVariants.{Broken, Corrupt, Full, Io, OutOfMemory, Unstorable}
use Rattle.sqlite_trees.specs.declared.memory.MemStore.{MemStore}
use Rattle.plan_tables_schema.specs.Free.{IsFree, with_plan}
use Rattle.plan_tables_schema.specs.Made.{IsMadeWhole}
use Rattle.plan_tables_schema.specs.Rows.{Stands, Tables, no_rows, tables_of}
use Rattle.plan_tables_schema.specs.Schema.{no_schema, plan_schema}
use Rattle.plan_tables_schema.proofs.MadeLemmas.{plan_alone}
use Rattle.plan_tables_schema.proofs.MakingLemmas.{begins_ready, others_kept}
use Rattle.plan_tables_schema.proofs.OnceLemmas.{IsOnce}
use Rattle.plan_tables_schema.proofs.StatementLemmas.{plan_still}
use Rattle.plan_migrations_remaking.specs.Refusals.{FailsFor}
use Rattle.plan_migrations_remaking.specs.Remaking.{AreAllFirst, AreRemade, AreWhole, CanFill, IsFilled, IsFilledOnce, RefusesRow}
use Rattle.plan_migrations_remaking.specs.Remaking.{RefusesToFill, RefusesToFillAll, remade_row, with_all_put}
use Rattle.plan_migrations_remaking.proofs.CauseLemmas.{refusing}
use Rattle.plan_migrations_remaking.proofs.ShowLemmas.{remade_all}
use Rattle.plan_migrations_remaking.specs.declared.rows.FirstRows.{FirstRows}

pub filled : {A E : Type 0} (r : Result A E) (base : Database) (mid new : State) (reads : List FirstRows)
    → IsMadeWhole base mid → OnOk r (Stands mid new (with_all_put reads (tables_of mid.now.trees)))
    → OnOk r (IsFilled reads base new)
filled (Ok a) base mid new reads made put = record {
  plan = put.plan;
  rows_are = put.rows_are ∙ ap (with_all_put reads) made.rows_are;
  schema = put.schema ∙ made.schema;
  others = others_kept base mid new made put.others;
  obeys = put.obeys made.sound;
  mode = put.mode;
}
filled (Err e) base mid new reads made put = tt

-- a row is refused once the tables stand there
pub row_refused_then : (old mid : State) (reads : List FirstRows) (base : Database) (e : Error)
    → mid.step_limit ≡ old.step_limit → IsMadeWhole base mid
    → RefusesToFill mid.step_limit mid.now.schema (with_all_put reads (tables_of mid.now.trees)) e
    → RefusesToFill old.step_limit (with_plan base.schema) (with_all_put reads no_rows) e
row_refused_then old mid reads base e limit made h = record {
  db = h.db;
  same = h.same ∙ made.schema;
  table = h.table;
  row = h.row;
  rows = h.rows;
  reads = h.reads;
  next = h.next ∙ ap (with_all_put reads) made.rows_are;
  refused = subst (λ l. RefusesRow l h.db h.table (remade_row h.table h.row) e) limit h.refused;
}

-- in one transaction
pub filled_once : {S : Type 0} (g : Ghosts S) (reads : List FirstRows) → AreWhole reads → AreAllFirst reads
    → IsOnce g (CanFill reads) (IsFilled reads)
    (λ base old new. FailsFor (RefusesToFillAll reads old.step_limit base) old new) (λ s. IsFree s.now.schema)
    (IsFilledOnce reads) (λ _ db. AreRemade reads (tables_of db))
filled_once g reads whole typed = record {
  starts = λ conn free. (begins_ready g conn free, typed);
  cause = refusing (RefusesToFillAll reads);
  mode = λ base s filled. filled.mode;
  leaves = λ old mid new free filled is. (
    plan_still mid new is filled.plan,
    remade_all reads (tables_of new.now.trees) whole typed (ap (λ (db : Database). tables_of db.trees) is
        ∙ filled.rows_are),
  );
  left = λ old mid free filled. remade_all reads (tables_of mid.now.trees) whole typed filled.rows_are;
}

-- ---- in memory

by_memory : (old new : Held MemStore) (e : Error) (cause : StoreError) → IsTrue (state over_memory old).is_open
    → e ≡ store_error cause → HasCause (state over_memory old) (state over_memory new) ⊥ cause
    → e ≡ SqliteFailure code.OutOfMemory
by_memory old new e OutOfMemory up same h = same
by_memory old new e Io up same h = absurd (omega (arith, h))
by_memory old new e Corrupt up same h = absurd (omega (arith, h))
by_memory old new e Full up same h = absurd (omega (arith, h))
by_memory old new e Broken up same h = absurd (true≢false (sym up ∙ h))
by_memory old new e Unstorable up same h = absurd h

-- memory fails for want of memory alone
pub memory_fails : (old new : Held MemStore) (e : Error) (Refused : Error → Type 0) → IsTrue (state over_memory old).is_open
    → (state over_memory old).step_limit ≡ None → FailsFor Refused (state over_memory old) (state over_memory new) e
    → (e ≡ SqliteFailure code.OutOfMemory) ⊎ Refused e
memory_fails old new e Refused up unlimited (inl (inl h)) = inl (by_memory old new e h.0 up h.1 h.2)
memory_fails old new e Refused up unlimited (inl (inr h)) = absurd (let some : IsSome {T = ℕ} None = subst IsSome unlimited h.1 in cc)
memory_fails old new e Refused up unlimited (inr h) = inr h

-- in an empty database the tables of a plan stand alone
alone : (limit : Option ℕ) (schema : Schema) (goal : Tables) (e : Error) → limit ≡ None → schema ≡ no_schema
    → RefusesToFill limit (with_plan schema) goal e → RefusesToFill None plan_schema goal e
alone limit schema goal e unlimited empty h =
    subst (λ l. RefusesToFill l plan_schema goal e) unlimited
    (subst (λ s. RefusesToFill limit s goal e) (ap with_plan empty ∙ plan_alone) h)

pub or_alone : (conn : Held MemStore) (reads : List FirstRows) (d e : Error) → e ≡ d → conn.step_limit ≡ None
    → conn.schema ≡ no_schema → (d ≡ SqliteFailure code.OutOfMemory)
    ⊎ RefusesToFill conn.step_limit (with_plan conn.schema) (with_all_put reads no_rows) d
    → (e ≡ SqliteFailure code.OutOfMemory) ⊎ RefusesToFill None plan_schema (with_all_put reads no_rows) e
or_alone conn reads d e same unlimited empty (inl h) = inl (same ∙ h)
or_alone conn reads d e same unlimited empty (inr h) =
    inr (alone conn.step_limit conn.schema (with_all_put reads no_rows) e unlimited empty
    (subst (RefusesToFill conn.step_limit (with_plan conn.schema) (with_all_put reads no_rows)) (sym same) h))
