-- The rows that a migration writes are put into the tables of a plan.
use Rattle.std.proofs.Common.{◌≡◌, ◌∙◌, ℕ, List, [], ◌∷◌, ◌++◌, drop, length, take, Option, Result, Ok, Err, IsTrue, inl, refl, sym, ap, subst}
use Rattle.std.specs.Prelude.{OnOk, ⊤}
use Rattle.std.proofs.lemmas.List.{length-map}
use Rattle.std.proofs.lemmas.List.Elements.{All-drop, All-take}
use Rattle.sqlite.specs.Effect.{Database, IsDatabase}
use Rattle.sqlite.specs.Schema.{Schema}
use Rattle.sqlite.specs.State.{State}
use Rattle.sqlite.specs.Store.{Ghosts}
use Rattle.sqlite.specs.declared.error.Error.{Error}
use Rattle.sqlite.specs.declared.transaction.Transaction.{Transaction}
use Rattle.plan_tables_schema.specs.Rows.{Stands, Tables, tables_of, without_key}
use Rattle.plan_tables_schema.specs.Writes.{Turns, WritesWhere, seen}
use Rattle.plan_tables_schema.specs.declared.tables.Table.TheVariants.{Meta}
use Rattle.plan_tables_schema.proofs.InTurn.{stands_then, turns_then, turns_weaker}
use Rattle.plan_tables_schema.proofs.ResultLemmas.{if_err}
use Rattle.plan_migrations_remaking.specs.Refusals.{FailsFor}
use Rattle.plan_migrations_remaking.specs.Remaking.{AreAllFirst, AreWhole, CanRefill, IsRefilled, PutsWhere, RefusesToFill}
use Rattle.plan_migrations_remaking.specs.Remaking.{RefusesToRefill, DeletesMeta, meta_key, of_changed, of_meta, refilled, with_all_put}
use Rattle.plan_migrations_remaking.specs.Remaking.{with_rows_put}
use Rattle.plan_migrations_remaking.specs.Turns.{TurnsUnless}
use Rattle.plan_migrations_remaking.specs.Types.{AreFirst}
use Rattle.plan_migrations_remaking.specs.declared.rows.FirstRows.{FirstRows}
use Rattle.plan_migrations_remaking.proofs.CauseLemmas.{refused_as, refusing}
use Rattle.plan_migrations_remaking.proofs.TurnLemmas.{put_both}

abbrev IsFirstRead : FirstRows → Type 0
IsFirstRead read = AreFirst read.table read.rows.items

pub meta_typed : (reads : List FirstRows) → AreAllFirst reads → AreAllFirst (of_meta reads)
meta_typed reads typed = All-take IsFirstRead 1 reads typed

pub changed_typed : (reads : List FirstRows) → AreAllFirst reads → AreAllFirst (of_changed reads)
changed_typed reads typed = All-take IsFirstRead 2 (drop 6 reads) (All-drop IsFirstRead 6 reads typed)

-- what is refused on the way to some rows is refused on the way to more
pub refused_before : (limit : Option ℕ) (schema : Schema) (goal : Tables) (more : List FirstRows) (e : Error)
    → RefusesToFill limit schema goal e → RefusesToFill limit schema (with_all_put more goal) e
refused_before limit schema goal more e h = record {
  db = h.db;
  same = h.same;
  table = h.table;
  row = h.row;
  rows = h.rows;
  reads = h.reads ++ more;
  next = put_both h.reads more (with_rows_put h.table (h.row ∷ h.rows) (tables_of h.db.trees))
      ∙ ap (with_all_put more) h.next;
  refused = h.refused;
}

-- on the way: the tables have these rows
pub record IsRefilling (reads : List FirstRows) (f : Tables → Tables) (base : Database) (s : State) : Type 0 where
  pub stands : Stands (record s { now = base }) s (f (tables_of base.trees))
  pub obeys : IsDatabase s.now
  pub typed : AreAllFirst reads
  pub is_open : IsTrue s.is_open

-- what stands since a database stands since whatever state had it
since : (old new : State) (rows : Tables) → Stands old new rows → Stands (record new { now = old.now }) new rows
since old new rows is = record {
  plan = is.plan;
  schema = is.schema;
  same = is.same;
  others = is.others;
  obeys = is.obeys;
  rows_are = is.rows_are;
  committed = refl;
  mode = is.mode;
}

since_base : (f : Tables → Tables) (base : Database) (old new : State) → old.now ≡ base
    → Stands old new (f (tables_of old.now.trees)) → Stands (record new { now = base }) new (f (tables_of base.trees))
since_base f base old new is stands =
    subst (λ (db : Database). Stands (record new { now = db }) new (f (tables_of db.trees))) is (since old new _ stands)

abbrev pub Fails : List FirstRows → Database → State → State → Error → Type 0
Fails reads base old new = FailsFor (RefusesToRefill reads old.step_limit base) old new

both_ok : {A E : Type 0} (r : Result A E) (P Q R : Type 0) → (P → Q → R) → OnOk r P → OnOk r Q → OnOk r R
both_ok (Ok a) P Q R f p q = f p q
both_ok (Err e) P Q R f p q = tt

module _ {S T : Type 0} {g : Ghosts S} {a b : Transaction S} {r : Result T Error} (reads : List FirstRows) where
  -- the row of `plan_meta` is taken out
  pub accepts : WritesWhere (λ _. ⊤) g a b r (without_key Meta meta_key) → DeletesMeta g a b r
      → Turns g a b r (CanRefill reads) (IsRefilling reads (without_key Meta meta_key)) (Fails reads)
  accepts writes may = record {
    same_reference = writes.same_reference;
    ok = λ clean base from. both_ok r _ _ _
        (λ stands up. record {
          stands = since_base (without_key Meta meta_key) base (seen g a) (seen g b) from.is stands;
          obeys = stands.obeys from.obeys;
          typed = from.typed;
          is_open = up;
        })
        (writes.ok clean from.plan from.mode tt) (may.stays_open clean from.mode);
    fails = λ clean base from. if_err r _ _ (λ e h. inl h) (may.fails clean from.plan from.mode from.obeys);
    stays_open = λ clean base from. may.stays_open clean from.mode;
    kept = writes.kept;
    survives = writes.survives;
  }

  -- rows are put in, which are some of those that are to come
  pub puts : (f : Tables → Tables) (rows : List FirstRows) → (AreAllFirst reads → AreAllFirst rows)
      → ((limit : Option ℕ) (schema : Schema) (all : Tables) (e : Error)
      → RefusesToFill limit schema (with_all_put rows (f all)) e → RefusesToFill limit schema (refilled reads all) e)
      → WritesWhere (λ _. AreAllFirst rows) g a b r (with_all_put rows)
      → PutsWhere (AreAllFirst rows) (λ limit db. RefusesToFill limit db.schema (with_all_put rows (tables_of db.trees))) g a b r
      → Turns g a b r (IsRefilling reads f) (IsRefilling reads (λ all. with_all_put rows (f all))) (Fails reads)
  puts f rows typed goes writes may = record {
    same_reference = writes.same_reference;
    ok = λ clean base from. both_ok r _ _ _
        (λ step up. record {
          stands = since (record (seen g a) { now = base }) (seen g b) _
              (stands_then (record (seen g a) { now = base }) (seen g a) (seen g b) _ (with_all_put rows) from.stands step);
          obeys = step.obeys from.obeys;
          typed = from.typed;
          is_open = up;
        })
        (writes.ok clean from.stands.plan from.stands.mode (typed from.typed))
        (may.stays_open clean from.stands.plan from.stands.mode from.is_open (typed from.typed));
    fails = λ clean base from.
        let mid = seen g a in
        if_err r _ _ (λ e. refused_as (RefusesToFill mid.step_limit mid.now.schema (with_all_put rows (tables_of mid.now.trees)))
        (RefusesToRefill reads mid.step_limit base) mid (seen g b) e
        (λ h. goes mid.step_limit base.schema (tables_of base.trees) e
        (subst (λ s. RefusesToFill mid.step_limit s (with_all_put rows (f (tables_of base.trees))) e) from.stands.schema
        (subst (λ all. RefusesToFill mid.step_limit mid.now.schema (with_all_put rows all) e) from.stands.rows_are h))))
        (may.fails clean from.stands.plan from.stands.mode from.is_open (typed from.typed));
    stays_open = λ clean base from.
        may.stays_open clean from.stands.plan from.stands.mode from.is_open (typed from.typed);
    kept = writes.kept;
    survives = writes.survives;
  }

  pub puts_meta : WritesWhere (λ _. AreAllFirst (of_meta reads)) g a b r (with_all_put (of_meta reads))
      → PutsWhere (AreAllFirst (of_meta reads)) (λ limit db. RefusesToFill limit db.schema
      (with_all_put (of_meta reads) (tables_of db.trees))) g a b r
      → Turns g a b r (IsRefilling reads (without_key Meta meta_key))
      (IsRefilling reads (λ all. with_all_put (of_meta reads) (without_key Meta meta_key all))) (Fails reads)
  puts_meta = puts (without_key Meta meta_key) (of_meta reads) (meta_typed reads)
      (λ limit schema all e. refused_before limit schema (with_all_put (of_meta reads) (without_key Meta meta_key all))
      (of_changed reads) e)

  pub puts_changed : WritesWhere (λ _. AreAllFirst (of_changed reads)) g a b r (with_all_put (of_changed reads))
      → PutsWhere (AreAllFirst (of_changed reads)) (λ limit db. RefusesToFill limit db.schema
      (with_all_put (of_changed reads) (tables_of db.trees))) g a b r
      → Turns g a b r (IsRefilling reads (λ all. with_all_put (of_meta reads) (without_key Meta meta_key all)))
      (IsRefilling reads (refilled reads)) (Fails reads)
  puts_changed = puts (λ all. with_all_put (of_meta reads) (without_key Meta meta_key all)) (of_changed reads)
      (changed_typed reads) (λ limit schema all e h. h)

all_put : (reads : List FirstRows) (base : Database) (s new : State) → IsRefilling reads (refilled reads) base new
    → IsRefilled reads base new
all_put reads base s new is = record {
  plan = is.stands.plan;
  schema = is.stands.schema;
  rows_are = is.stands.rows_are;
  others = is.stands.others;
  obeys = is.obeys;
  mode = is.stands.mode;
}

-- once it is taken out, rows of `plan_meta` are put in
module _ {S T V : Type 0} {g : Ghosts S} {a b c : Transaction S} {t : T} {r : Result V Error} (reads : List FirstRows)
    (took : WritesWhere (λ _. ⊤) g a b (Ok t) (without_key Meta meta_key)) (may : DeletesMeta g a b (Ok t)) where
  pub then_meta : WritesWhere (λ _. AreAllFirst (of_meta reads)) g b c r (with_all_put (of_meta reads))
      → PutsWhere (AreAllFirst (of_meta reads)) (λ limit db. RefusesToFill limit db.schema
      (with_all_put (of_meta reads) (tables_of db.trees))) g b c r
      → Turns g a c r (CanRefill reads)
      (IsRefilling reads (λ all. with_all_put (of_meta reads) (without_key Meta meta_key all))) (Fails reads)
  then_meta writes puts = turns_then (refusing (RefusesToRefill reads)) (accepts reads took may) (puts_meta reads writes puts)

-- and those of the two tables
pub then_changed : {S U V : Type 0} {g : Ghosts S} {a c d : Transaction S} {u : U} {r : Result V Error}
    (reads : List FirstRows) → Turns g a c (Ok u) (CanRefill reads)
    (IsRefilling reads (λ all. with_all_put (of_meta reads) (without_key Meta meta_key all))) (Fails reads)
    → WritesWhere (λ _. AreAllFirst (of_changed reads)) g c d r (with_all_put (of_changed reads))
    → PutsWhere (AreAllFirst (of_changed reads)) (λ limit db. RefusesToFill limit db.schema
    (with_all_put (of_changed reads) (tables_of db.trees))) g c d r
    → TurnsUnless g a d r (CanRefill reads) (IsRefilled reads) (RefusesToRefill reads)
then_changed reads one writes puts = turns_weaker (λ base s can. can)
    (λ base s new can is. all_put reads base s new is) (λ base s new e h. h)
    (turns_then (refusing (RefusesToRefill reads)) one (puts_changed reads writes puts))

pub whole_length : (reads : List FirstRows) → AreWhole reads → length reads ≡ 14
whole_length reads whole = sym (length-map reads (λ (read : FirstRows). read.table)) ∙ ap length whole

pub one_length : (reads : List FirstRows) → AreWhole reads → length (take 1 reads) ≡ 1
one_length [] whole = absurd (cc)
one_length (read ∷ reads) whole = refl
