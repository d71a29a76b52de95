-- What statements in turn take, and why they fail.
use Rattle.std.proofs.Common.{◌≡◌, ◌∙◌, true, false}
use Rattle.std.proofs.Common.{refl, sym, ap, subst, arith, IsTrue, Result, Ok, Err}
use Rattle.std.specs.Prelude.{IfErr, IsErrAnd}
use Rattle.sqlite.specs.Order.{Row as Values}
use Rattle.sqlite.specs.Effect.{Database, IsDatabase}
use Rattle.sqlite.specs.Held.{Held, state}
use Rattle.sqlite.specs.Schema.{Schema}
use Rattle.sqlite.specs.State.{HasCleanDisk, IsLive, IsRolledBack, Shows, State, Survives}
use Rattle.sqlite.specs.Tree.{Trees}
use Rattle.sqlite.specs.Steps.{FailsToCommit}
use Rattle.sqlite.specs.Store.{Ghosts}
use Rattle.sqlite.specs.declared.error.Error.{Error}
use Rattle.sqlite.specs.declared.transaction.Transaction.{Transaction}
use Rattle.sqlite.proofs.InsideLemmas.{keeps_then}
use Rattle.plan_tables_schema.specs.Rows.{AreOfKinds, HaveRowids, IsAlone, IsPlan, MayFail, Stands, Tables, tables_of, with_cells, without_key}
use Rattle.plan_tables_schema.specs.Schema.{HasOnlyKeyIndexes}
use Rattle.plan_tables_schema.specs.Accepted.{IsSoundPlan, LosesKey, AcceptsRow}
use Rattle.plan_tables_schema.specs.Writes.{Commits, AcceptsWhere, WritesWhere, seen}
use Rattle.plan_tables_schema.proofs.InTurn.{survives_both, then_ok}
use Rattle.plan_tables_schema.proofs.OnceLemmas.{ended_so, undone, unended}
use Rattle.plan_tables_schema.proofs.ResultLemmas.{if_err, still_ok}
use Rattle.plan_tables_schema.proofs.StatementLemmas.{plan_still}
use Rattle.plan_tables_schema.proofs.StopLemmas.{vain_before, vain_since}
use Rattle.plan_tables_schema.specs.declared.tables.Table.{Table}
use Rattle.plan_tables_writing.specs.Accepted.{WritesAccepted}
use Rattle.plan_tables_writing.specs.Writing.{HasRows, HoldsWritten, MayFailWhere}

-- what is told is the error
pub if_told : {T : Type 0} (r : Result T Error) (old new : State) (e : Error) → IsErrAnd r (λ told. told ≡ e)
    → MayFail old new e → IfErr r (MayFail old new)
if_told (Ok v) old new e is h = absurd is
if_told (Err told) old new e is h = subst (MayFail old new) (sym is) h

-- a plan that is sound, and open where it was, whose tables are these
abbrev pub Leaves : State → State → Tables → Type 0
Leaves old new rows =
    IsSoundPlan new × (IsTrue old.is_open → IsTrue new.is_open) × (tables_of new.now.trees ≡ rows)

pub leaves_then : (a b c : State) (rows : Tables) (f : Tables → Tables) → Leaves a b rows
    → Leaves b c (f (tables_of b.now.trees)) → Leaves a c (f rows)
leaves_then a b c rows f one two = (two.0, (λ o. two.1 (one.1 o)), two.2 ∙ ap f one.2)

module _ {S : Type 0} (g : Ghosts S) where
  -- where less is asked
  pub takes_weaker : {T : Type 0} (A B : Tables → Type 0) (f : Tables → Tables) (old new : Transaction S)
      (r : Result T Error) → ((all : Tables) → B all → A all) → AcceptsWhere A g old new r f → AcceptsWhere B g old new r f
  takes_weaker A B f old new r from it = record {
    fails = λ clean sound accepts. it.fails clean sound (from _ accepts);
    sound = λ clean sound accepts. it.sound clean sound (from _ accepts);
  }

  -- what is written so is written where more is asked
  pub writes_weaker : {T : Type 0} (A B C D : Tables → Type 0) (f : Tables → Tables) (old new : Transaction S)
      (r : Result T Error) → ((all : Tables) → B all → A all) → ((all : Tables) → D all → C all)
      → WritesAccepted A C g old new r f → WritesAccepted B D g old new r f
  writes_weaker A B C D f old new r fits accepts it = record {
    same_reference = it.same_reference;
    ok = λ clean plan mode b. it.ok clean plan mode (fits _ b);
    kept = it.kept;
    survives = it.survives;
    accepts = takes_weaker C D f old new r accepts it.accepts;
  }

  -- after one that was made comes another
  pub takes_then : {T U : Type 0} (A B : Tables → Type 0) (f h : Tables → Tables) (old mid new : Transaction S) (v : T)
      (r : Result U Error) → Survives (seen g old) (seen g mid) (λ _. ⊥)
      → Survives (seen g mid) (seen g new) (λ _. ⊥)
      → AcceptsWhere {S = S} {T = T} A g old mid (Ok v) f → AcceptsWhere {S = S} {T = U} B g mid new r h
      → AcceptsWhere {S = S} {T = U} (λ all. A all × B (f all)) g old new r (λ all. h (f all))
  takes_then A B f h old mid new v r one two first second = record {
    fails = λ clean sound accepts.
        let it = first.sound (omega (arith, two.clean)) sound accepts.0 in
        if_err r (MayFail (seen g mid) (seen g new)) (MayFail (seen g old) (seen g new))
        (λ e. vain_since (seen g old) (seen g mid) (seen g new) e one.counts it.1 one.limit)
        (second.fails clean it.0 (subst B (sym it.2) accepts.1));
    sound = λ clean sound accepts.
        let it = first.sound (omega (arith, two.clean)) sound accepts.0 in
        still_ok r _ _ (leaves_then (seen g old) (seen g mid) (seen g new) _ h it)
        (second.sound clean it.0 (subst B (sym it.2) accepts.1));
  }

  -- where one is not made, the whole is not
  pub takes_no_more : {T U : Type 0} (A B : Tables → Type 0) (f h : Tables → Tables) (old new : Transaction S)
      (e : Error) (r : Result U Error) → IsErrAnd r (λ told. told ≡ e) → ((all : Tables) → B all → A all)
      → AcceptsWhere {S = S} {T = T} A g old new (Err e) f → AcceptsWhere {S = S} {T = U} B g old new r h
  takes_no_more A B f h old new e (Ok v) is from it = absurd is
  takes_no_more A B f h old new e (Err told) is from it = record {
    fails = λ clean sound accepts. subst (MayFail (seen g old) (seen g new)) (sym is) (it.fails clean sound (from _ accepts));
    sound = λ clean sound accepts. tt;
  }

-- ---- one after another

-- what is written first, and then the next
pub writes_then : {S T U : Type 0} {g : Ghosts S} {A B C D : Tables → Type 0} {f h : Tables → Tables}
    {old mid new : Transaction S} {v : T} {r : Result U Error} → WritesAccepted A B g old mid (Ok v) f
    → WritesAccepted C D g mid new r h
    → WritesAccepted (λ all. A all × C (f all)) (λ all. B all × D (f all)) g old new r (λ all. h (f all))
writes_then {g = g} {B = B} {C = C} {D = D} {f = f} {h = h} {old = old} {mid = mid} {new = new} {v = v} {r = r} first second =
    record {
      same_reference = second.same_reference ∙ first.same_reference;
      ok = λ clean plan mode fits.
          let one = first.ok (omega (arith, second.survives.clean)) plan mode fits.0 in
          then_ok r (seen g old) (seen g mid) (seen g new) _ h one
          (second.ok clean one.plan one.mode (subst C (sym one.rows_are) fits.1));
      kept = λ clean. keeps_then (seen g old) (seen g mid) (seen g new)
          (first.kept (omega (arith, second.survives.clean))) (second.kept clean);
      survives = survives_both (seen g old) (seen g mid) (seen g new) first.survives second.survives;
      accepts = takes_then g B D f h old mid new v r first.survives second.survives first.accepts second.accepts;
    }

-- where one is not written, the whole is not
pub writes_no_more : {S T U : Type 0} {g : Ghosts S} {A B C D : Tables → Type 0} {f h : Tables → Tables}
    {old new : Transaction S} {e : Error} (r : Result U Error) → IsErrAnd r (λ told. told ≡ e)
    → ((all : Tables) → D all → B all) → WritesAccepted {T = T} A B g old new (Err e) f → WritesAccepted C D g old new r h
writes_no_more (Ok v) is from it = absurd is
writes_no_more {g = g} {B = B} {D = D} {f = f} {h = h} {old = old} {new = new} {e = e} (Err told) is from it = record {
  same_reference = it.same_reference;
  ok = λ clean plan mode fits. tt;
  kept = it.kept;
  survives = it.survives;
  accepts = takes_no_more g B D f h old new e (Err told) is from it.accepts;
}

-- ---- a transaction

-- a transaction begins with a plan that is sound
begins_sound : {S : Type 0} (g : Ghosts S) (held begun : Held S) → begun ≡ record held { in_transaction = true }
    → IsLive (state g held) → IsPlan (state g held) → HasOnlyKeyIndexes (state g held).now.schema
    → IsSoundPlan (state g begun)
begins_sound g held begun is live plan own = subst (λ h. IsSoundPlan (state g h)) (sym is) (record {
  plan = record { schema = plan.schema; told = plan.told; rowids = plan.rowids };
  own = own;
  sound = λ o. (live o).0;
  mode = refl;
})

-- what is committed is a plan with these rows, in that schema
plan_on : (mid new : State) (rows : Tables) (schema : Schema) → new.now ≡ mid.now → IsPlan mid
    → tables_of mid.now.trees ≡ rows → mid.now.schema ≡ schema
    → IsPlan new × (tables_of new.now.trees ≡ rows) × (new.now.schema ≡ schema)
plan_on mid new rows schema is plan rows_are in_it = (
  plan_still mid new is plan,
  ap (λ (db : Database). tables_of db.trees) is ∙ rows_are,
  ap (λ (db : Database). db.schema) is ∙ in_it,
)

-- what is put in by values that were handed over is put in by those values
pub put_by : {S : Type 0} (g : Ghosts S) (old new : Transaction S) (result : Result (Unit {0}) Error) (t : Table)
    (given cells : Values) → given ≡ cells
    → WritesWhere (λ _. AreOfKinds t given) g old new result (with_cells t given)
    → AcceptsWhere (AcceptsRow t given) g old new result (with_cells t given)
    → WritesAccepted (λ _. AreOfKinds t cells) (AcceptsRow t cells) g old new result (with_cells t cells)
put_by g old new result t given cells same writes accepts =
    subst (λ v. WritesAccepted (λ _. AreOfKinds t v) (AcceptsRow t v) g old new result (with_cells t v)) same (record {
      same_reference = writes.same_reference;
      ok = writes.ok;
      kept = writes.kept;
      survives = writes.survives;
      accepts = accepts;
    })

-- what is taken out by a key that was handed over is taken out by that key
pub taken_by : {S : Type 0} (g : Ghosts S) (old new : Transaction S) (result : Result (Unit {0}) Error) (t : Table)
    (given key : Values) → given ≡ key → WritesWhere (IsAlone t given) g old new result (without_key t given)
    → AcceptsWhere (LosesKey t given) g old new result (without_key t given)
    → WritesAccepted (IsAlone t key) (LosesKey t key) g old new result (without_key t key)
taken_by g old new result t given key same writes accepts =
    subst (λ v. WritesAccepted (IsAlone t v) (LosesKey t v) g old new result (without_key t v)) same (record {
      same_reference = writes.same_reference;
      ok = writes.ok;
      kept = writes.kept;
      survives = writes.survives;
      accepts = accepts;
    })

-- what a crash leaves of a commit
holds_written : (old start mid : State) (rows : Tables) (db : Trees) → start.now ≡ old.now → IsLive old
    → Stands start mid rows → db ≡ mid.now.trees → HoldsWritten old rows db
holds_written old start mid rows db same live stands is = record {
  rows_are = ap tables_of is ∙ stands.rows_are;
  rowids = λ t. subst (λ (d : Trees). HaveRowids (tables_of d t)) (sym is) (stands.plan.rowids t);
  obeys = λ opens.
      let was : IsDatabase start.now = subst IsDatabase (sym same) (live opens).0 in
      let kept : mid.now.schema ≡ old.now.schema = stands.schema ∙ ap (λ (d : Database). d.schema) same in
      subst (λ (d : Trees). IsDatabase (record { schema = old.now.schema; trees = d })) (sym is)
      (subst (λ (s : Schema). IsDatabase (record { schema = s; trees = mid.now.trees })) kept (stands.obeys was));
}

module _ {S : Type 0} (g : Ghosts S) (conn : Held S) (tx mid : Transaction S)
    (begun : tx.conn.now ≡ record conn { in_transaction = true }) (live : IsLive (state g conn))
    (settled : IsTrue (state g conn).is_open → (state g conn).now ≡ (state g conn).committed)
    {Fit Take Takes : Tables → Type 0} (fit : (all : Tables) → Fit all) (take : (all : Tables) → Takes all → Take all)
    (made : Tables → Tables) (end last : Held S) (same : end ≡ last) (ended : end.in_transaction ≡ false) where
  abbrev old : State
  old = state g conn

  abbrev CommitsIt : {U : Type 0} → Result U Error → Type 0
  CommitsIt r = Commits g conn last r IsPlan (HasRows made) (MayFailWhere Takes)
      (λ old. HoldsWritten old (made (tables_of old.now.trees)))

  rows : tables_of (seen g tx).now.trees ≡ tables_of old.now.trees
  rows = ap (λ (h : Held S). tables_of (state g h).now.trees) begun

  stands : {T : Type 0} {t : T} → WritesAccepted Fit Take g tx mid (Ok t) made → HasCleanDisk (seen g mid) → IsPlan old
      → Stands (seen g tx) (seen g mid) (made (tables_of old.now.trees))
  stands writes calm plan = subst (λ (all : Tables). Stands (seen g tx) (seen g mid) (made all)) rows
      (writes.ok calm (subst (λ (h : Held S). IsPlan (state g h)) (sym begun)
      (record { schema = plan.schema; told = plan.told; rowids = plan.rowids }))
      (subst (λ (h : Held S). IsTrue h.in_transaction) (sym begun) refl) (fit _))

  taken : Takes (tables_of old.now.trees) → Take (tables_of (seen g tx).now.trees)
  taken accepts = take _ (subst Takes (sym rows) accepts)

  since : (new : State) (e : Error) → MayFail (seen g tx) new e → MayFail old new e
  since new e = subst (λ (h : Held S). MayFail (state g h) new e) begun

  pub written_not : {T U : Type 0} {e : Error} (r : Result U Error) → WritesAccepted {T = T} Fit Take g tx mid (Err e) made
      → Survives (seen g mid) (state g end) (λ _. ⊥)
      → (HasCleanDisk (state g end) → IsRolledBack (seen g mid) (state g end)) → IsErrAnd r (λ x. x ≡ e) → CommitsIt r
  written_not {e = e} r writes ends back is = undone g conn tx mid begun settled IsPlan (HasRows made)
      (MayFailWhere Takes) (λ old. HoldsWritten old (made (tables_of old.now.trees))) writes.kept writes.survives end last
      same ended e r ends back
      (λ calm plan own accepts. since (state g end) e (vain_before (seen g tx) (seen g mid) (state g end) e
      (writes.accepts.fails calm (begins_sound g conn tx.conn.now begun live plan own) (taken accepts)) ends.counts)) is

  module _ {T : Type 0} {t : T} (writes : WritesAccepted Fit Take g tx mid (Ok t) made)
      (ends : Survives (seen g mid) (state g end) (λ db. db ≡ (seen g mid).now.trees)) where
    abbrev Made : Type 0
    Made = Stands (seen g tx) (seen g mid) (made (tables_of old.now.trees))

    left : IsPlan old → Made → HoldsWritten old (made (tables_of old.now.trees)) (seen g mid).now.trees
    left plan it = holds_written old (seen g tx) (seen g mid) (made (tables_of old.now.trees)) (seen g mid).now.trees
        (ap (λ (h : Held S). (state g h).now) begun) live it refl

    pub written_unended : {U : Type 0} {e : Error} (r : Result U Error)
        → (HasCleanDisk (state g end) → FailsToCommit (seen g mid) (state g end) e) → IsErrAnd r (λ x. x ≡ e)
        → CommitsIt r
    written_unended {e = e} r failed is = unended g conn tx mid begun settled IsPlan (HasRows made) (MayFailWhere Takes)
        (λ old. HoldsWritten old (made (tables_of old.now.trees))) writes.kept writes.survives end last same ended Made
        (stands writes) left ends e r (λ it. it.mode) failed
        (λ calm plan may own accepts. let was = writes.accepts.sound calm
        (begins_sound g conn tx.conn.now begun live plan own) (taken accepts) in
        since (state g end) e (vain_since (seen g tx) (seen g mid) (state g end) e writes.survives.counts was.1
        writes.survives.limit may)) is

    pub written_so : {U : Type 0} (u : U)
        → (HasCleanDisk (state g end) → Shows (seen g mid) (state g end) (seen g mid).now (seen g mid).now false)
        → CommitsIt (Ok u)
    written_so u shows = ended_so g conn tx mid begun settled IsPlan (HasRows made) (MayFailWhere Takes)
        (λ old. HoldsWritten old (made (tables_of old.now.trees))) writes.kept writes.survives end last same ended Made
        (stands writes) left ends u shows (λ plan it s is. plan_on (seen g mid) s _ _ is it.plan it.rows_are
        (it.schema ∙ ap (λ (h : Held S). (state g h).now.schema) begun))
