-- Tables are changed in one transaction, which begins, changes them, and ends.
use Rattle.std.proofs.Common.{◌≡◌, ◌∙◌, IsErrAnd, IsTrue, true, false, Result, Ok, Err, arith, inl, refl, subst, sym}
use Rattle.sqlite.specs.Effect.{Database}
use Rattle.sqlite.specs.Held.{Held, state}
use Rattle.sqlite.specs.State.{HasCleanDisk, IsRolledBack, KeepsCommit, Shows, State, Survives}
use Rattle.sqlite.specs.Steps.{FailsToCommit}
use Rattle.sqlite.specs.Store.{Ghosts}
use Rattle.sqlite.specs.Tree.{Trees}
use Rattle.sqlite.specs.declared.error.Error.{Error}
use Rattle.sqlite.specs.declared.transaction.Transaction.{Transaction}
use Rattle.sqlite.proofs.InsideLemmas.{keeps_then}
use Rattle.sqlite.proofs.StateLemmas.{survives_then}
use Rattle.plan_tables_schema.specs.Rows.{MayFail}
use Rattle.plan_tables_schema.specs.Writes.{Commits, Turns, seen}
use Rattle.plan_tables_schema.proofs.InTurn.{IsCause, commit_leaves, survives_both, undone_is}
use Rattle.plan_tables_schema.proofs.StopLemmas.{commit_fails}

module _ {S : Type 0} (g : Ghosts S) (conn : Held S) (tx mid : Transaction S)
    (begun : tx.conn.now ≡ record conn { in_transaction = true }) where
  began : Survives (state g conn) (seen g tx) (λ _. ⊥)
  began = subst (λ h. Survives (state g conn) (state g h) (λ _. ⊥)) (sym begun) (record {
    clean = omega arith;
    shield = λ is. is;
    counts = omega arith;
    limit = refl;
    closes = λ clean opens. inl opens;
    crash = λ clean db may. inl may;
  })

  keeps : KeepsCommit (seen g tx) (seen g mid) → KeepsCommit (state g conn) (seen g mid)
  keeps = keeps_then (state g conn) (seen g tx) (seen g mid) (subst (λ h. KeepsCommit (state g conn) (state g h)) (sym begun) (record {
    was_open = λ opens. opens;
    committed = λ opens. refl;
  }))

  opened : IsTrue (state g conn).is_open → IsTrue (seen g tx).is_open
  opened = subst (λ h. IsTrue (state g conn).is_open → IsTrue (state g h).is_open) (sym begun) (λ opens. opens)

module _ {S : Type 0} (g : Ghosts S) (conn : Held S) (tx mid : Transaction S)
    (begun : tx.conn.now ≡ record conn { in_transaction = true })
    (settled : IsTrue (state g conn).is_open → (state g conn).now ≡ (state g conn).committed)
    (Fits : State → Type 0) (Leaves : State → State → Type 0) (Fails : State → State → Error → Type 0)
    (Left : State → Trees → Type 0) where
  abbrev old : State
  old = state g conn

  abbrev CommitsSo : {U : Type 0} → Held S → Result U Error → Type 0
  CommitsSo last r = Commits g conn last r Fits Leaves Fails Left

  module _ (kept : HasCleanDisk (seen g mid) → KeepsCommit (seen g tx) (seen g mid))
      (survives : Survives (seen g tx) (seen g mid) (λ _. ⊥)) (end last : Held S) (same : end ≡ last)
      (ended : end.in_transaction ≡ false) where
    abbrev new : State
    new = state g end

    inside : Survives old (seen g mid) (λ _. ⊥)
    inside = survives_both old (seen g tx) (seen g mid) (began g conn tx mid begun) survives

    told : {U : Type 0} (e : Error) (r : Result U Error) → IsErrAnd r (λ x. x ≡ e) → CommitsSo {U = U} end (Err e)
        → CommitsSo last r
    told e (Ok u) is h = absurd is
    told {U = U} e (Err x) is h =
        subst (λ h. CommitsSo {U = U} h (Err x)) same (subst (λ y. CommitsSo {U = U} end (Err y)) (sym is) h)

    -- it failed, and is undone
    pub undone : {U : Type 0} (e : Error) (r : Result U Error) → Survives (seen g mid) new (λ _. ⊥)
        → (HasCleanDisk new → IsRolledBack (seen g mid) new)
        → (HasCleanDisk (seen g mid) → Fits old → Fails old new e) → IsErrAnd r (λ x. x ≡ e) → CommitsSo last r
    undone e r ends back fails is = told e r is (record {
      done = λ clean fits. tt;
      committed = λ clean. tt;
      kept = λ clean fits opens. undone_is old (seen g mid) new settled (keeps g conn tx mid begun (kept (calm clean))) (back clean) opens;
      fails = λ clean fits. fails (calm clean) fits;
      ended = ended;
      stays_open = λ clean. tt;
      crash = survives_then old (seen g mid) new (λ _. ⊥) (λ _. ⊥) (λ db. Fits old → Left old db)
          (λ _ db none. absurd none) (λ _ db none. absurd none) inside ends;
    })
      where
        calm : HasCleanDisk new → HasCleanDisk (seen g mid)
        calm clean = omega (arith, clean, ends.clean)

    module _ (Made : Type 0) (made : HasCleanDisk (seen g mid) → Fits old → Made)
        (left : Fits old → Made → Left old (seen g mid).now.trees)
        (ends : Survives (seen g mid) new (λ db. db ≡ (seen g mid).now.trees)) where
      calm : HasCleanDisk new → HasCleanDisk (seen g mid)
      calm clean = omega (arith, clean, ends.clean)

      crash : Survives old new (λ db. Fits old → Left old db)
      crash = survives_then old (seen g mid) new (λ _. ⊥) (λ db. db ≡ (seen g mid).now.trees)
          (λ db. Fits old → Left old db) (λ _ db none. absurd none)
          (λ clean db is fits. subst (Left old) (sym is) (left fits (made (calm clean) fits))) inside ends

      -- it didn't end
      pub unended : {U : Type 0} (e : Error) (r : Result U Error) → (Made → IsTrue (seen g mid).in_transaction)
          → (HasCleanDisk new → FailsToCommit (seen g mid) new e)
          → (HasCleanDisk (seen g mid) → Fits old → MayFail (seen g mid) new e → Fails old new e)
          → IsErrAnd r (λ x. x ≡ e) → CommitsSo last r
      unended e r mode failed fails is = told e r is (record {
        done = λ clean fits. tt;
        committed = λ clean. tt;
        kept = λ clean fits opens. commit_leaves old (seen g mid) new e settled (keeps g conn tx mid begun (kept (calm clean)))
            (mode (made (calm clean) fits)) (failed clean) opens;
        fails = λ clean fits. fails (calm clean) fits
            (commit_fails (seen g mid) new e (mode (made (calm clean) fits)) (failed clean));
        ended = ended;
        stays_open = λ clean. tt;
        crash = crash;
      })

      -- it ended
      pub ended_so : {U : Type 0} (u : U) → (HasCleanDisk new → Shows (seen g mid) new (seen g mid).now (seen g mid).now false)
          → (Fits old → Made → (s : State) → s.now ≡ (seen g mid).now → Leaves old s) → CommitsSo last (Ok u)
      ended_so u shows leaves = subst (λ h. CommitsSo h (Ok u)) same (record {
        done = λ clean fits. leaves fits (made (calm clean) fits) new (shows clean).now_is;
        committed = λ clean. (shows clean).committed_is ∙ sym (shows clean).now_is;
        kept = λ clean fits opens. tt;
        fails = λ clean fits. tt;
        ended = ended;
        stays_open = λ clean. (shows clean).is_open;
        crash = crash;
      })

-- ---- by statements in turn

-- what is done inside is done in a transaction of its own
pub record IsOnce {S : Type 0} (g : Ghosts S) (Before After : Database → State → Type 0)
    (Fails : Database → State → State → Error → Type 0) (Fits : State → Type 0) (Leaves : State → State → Type 0)
    (Left : State → Trees → Type 0) : Type 1 where
  pub starts : (conn : Held S) → Fits (state g conn)
      → Before (state g conn).now (state g (record conn { in_transaction = true }))
  pub cause : (base : Database) → IsCause (Fails base)
  pub mode : (base : Database) (s : State) → After base s → IsTrue s.in_transaction
  pub leaves : (old mid new : State) → Fits old → After old.now mid → new.now ≡ mid.now → Leaves old new
  pub left : (old mid : State) → Fits old → After old.now mid → Left old mid.now.trees

module _ {S : Type 0} {g : Ghosts S} {Before After : Database → State → Type 0}
    {Fails : Database → State → State → Error → Type 0} {Fits : State → Type 0} {Leaves : State → State → Type 0}
    {Left : State → Trees → Type 0} (once : IsOnce g Before After Fails Fits Leaves Left) (conn : Held S)
    (tx mid : Transaction S) (begun : tx.conn.now ≡ record conn { in_transaction = true })
    (settled : IsTrue (state g conn).is_open → (state g conn).now ≡ (state g conn).committed) (end last : Held S)
    (same : end ≡ last) (ended : end.in_transaction ≡ false) where
  abbrev CommitsIt : {U : Type 0} → Result U Error → Type 0
  CommitsIt r = Commits g conn last r Fits Leaves (λ old new. Fails old.now old new) Left

  abbrev base : Database
  base = (state g conn).now

  starts : Fits (state g conn) → Before base (seen g tx)
  starts fits = subst (λ h. Before base (state g h)) (sym begun) (once.starts conn fits)

  -- what caused a failure caused it since before
  since : (new : State) (e : Error) → Fails base (seen g tx) new e → Fails base (state g conn) new e
  since new e h = let it = began g conn tx mid begun in
      (once.cause base).since (state g conn) (seen g tx) new e it.counts (opened g conn tx mid begun) it.limit h

  pub undone_in : {T U : Type 0} {e : Error} (r : Result U Error) → Turns {T = T} g tx mid (Err e) Before After Fails
      → Survives (seen g mid) (state g end) (λ _. ⊥)
      → (HasCleanDisk (state g end) → IsRolledBack (seen g mid) (state g end)) → IsErrAnd r (λ x. x ≡ e) → CommitsIt r
  undone_in {e = e} r turns ends back is = undone g conn tx mid begun settled Fits Leaves (λ old new. Fails old.now old new)
      Left turns.kept turns.survives end last same ended e r ends back
      (λ calm fits. since (state g end) e ((once.cause base).until (seen g tx) (seen g mid) (state g end) e ends.counts
      (turns.fails calm base (starts fits)))) is

  pub unended_in : {T U : Type 0} {t : T} {e : Error} (r : Result U Error) → Turns g tx mid (Ok t) Before After Fails
      → Survives (seen g mid) (state g end) (λ db. db ≡ (seen g mid).now.trees)
      → (HasCleanDisk (state g end) → FailsToCommit (seen g mid) (state g end) e) → IsErrAnd r (λ x. x ≡ e)
      → CommitsIt r
  unended_in {e = e} r turns ends failed is = unended g conn tx mid begun settled Fits Leaves
      (λ old new. Fails old.now old new) Left turns.kept turns.survives end last same ended (After base (seen g mid))
      (λ calm fits. turns.ok calm base (starts fits)) (once.left (state g conn) (seen g mid)) ends e r
      (once.mode base (seen g mid)) failed
      (λ calm fits may. since (state g end) e ((once.cause base).since (seen g tx) (seen g mid) (state g end) e
      turns.survives.counts (λ _. turns.stays_open calm base (starts fits)) turns.survives.limit
      ((once.cause base).common (seen g mid) (state g end) e may))) is

  pub ended_in : {T U : Type 0} {t : T} (u : U) → Turns g tx mid (Ok t) Before After Fails
      → Survives (seen g mid) (state g end) (λ db. db ≡ (seen g mid).now.trees)
      → (HasCleanDisk (state g end) → Shows (seen g mid) (state g end) (seen g mid).now (seen g mid).now false)
      → CommitsIt (Ok u)
  ended_in u turns ends shows = ended_so g conn tx mid begun settled Fits Leaves (λ old new. Fails old.now old new) Left
      turns.kept turns.survives end last same ended (After base (seen g mid))
      (λ calm fits. turns.ok calm base (starts fits)) (once.left (state g conn) (seen g mid)) ends u shows
      (λ fits made s. once.leaves (state g conn) (seen g mid) s fits made)
