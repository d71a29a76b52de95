-- Statements in turn.
use Rattle.std.proofs.Common.{◌≡◌, ◌≤◌, ◌∙◌, ◌⊎◌, ℕ, ◌+◌, ◌<◌, suc, List, ◌∷◌, length, drop, fold, get_or, add-one, drop-cons}
use Rattle.std.proofs.Common.{IsTrue, Result, Ok, Err, IsErrAnd, arith, inl, inr, ap, subst, sym, true≢false}
use Rattle.std.specs.List.{Contains}
use Rattle.std.specs.Prelude.{OnOk}
use Rattle.std.proofs.lemmas.List.{drop_all}
use Rattle.std.proofs.lemmas.List.Elements.{Contains-get_or}
use Rattle.sqlite.specs.Effect.{Database}
use Rattle.sqlite.specs.State.{HasCleanDisk, IsRolledBack, KeepsCommit, State, Survives}
use Rattle.sqlite.specs.Steps.{FailsToCommit}
use Rattle.sqlite.specs.Store.{Ghosts}
use Rattle.sqlite.specs.declared.error.Error.{Error}
use Rattle.sqlite.specs.declared.transaction.Transaction.{Transaction}
use Rattle.sqlite.proofs.InsideLemmas.{keeps_then}
use Rattle.sqlite.proofs.StateLemmas.{survives_then}
use Rattle.plan_tables_schema.specs.Rows.{MayFail, Stands, Tables, tables_of}
use Rattle.plan_tables_schema.specs.Writes.{Turns, seen}
use Rattle.plan_tables_schema.proofs.ResultLemmas.{if_err, still_ok}
use Rattle.plan_tables_schema.proofs.StatementLemmas.{stands_after}
use Rattle.plan_tables_schema.proofs.StopLemmas.{vain_before, vain_since}

pub survives_both : (a b c : State) → Survives a b (λ _. ⊥) → Survives b c (λ _. ⊥) → Survives a c (λ _. ⊥)
survives_both a b c one two = survives_then a b c _ _ (λ _. ⊥) (λ _ _ none. none) (λ _ _ none. none) one two

-- ---- over a list

-- the item of a loop is one of the list
pub item_contains : {A : Type 0} (items : List A) (i : ℕ) (item : A) → i < length items → item ≡ get_or items i item
    → Contains items item
item_contains items i item low is = subst (Contains items) (sym is) (Contains-get_or items i item low)

-- the items that are left begin with it
pub cut : {A : Type 0} (items : List A) (i : ℕ) (item : A) → i < length items → item ≡ get_or items i item
    → drop i items ≡ item ∷ drop (i + 1) items
cut items i item low is = rw add-one (drop-cons items i item low ∙ ap (λ x. x ∷ drop (suc i) items) (sym is))

-- a loop that folds goes on
pub fold_on : {A C : Type 0} (f : C → A → C) (items : List A) (i : ℕ) (item : A) (mid new goal : C)
    → i < length items → item ≡ get_or items i item → new ≡ f mid item
    → fold f mid (drop i items) ≡ goal → fold f new (drop (i + 1) items) ≡ goal
fold_on f items i item mid new goal low is step so_far =
    ap (λ c. fold f c (drop (i + 1) items)) step ∙ sym (ap (λ l. fold f mid l) (cut items i item low is)) ∙ so_far

-- and where none is left, it is done
pub fold_done : {A C : Type 0} (f : C → A → C) (items : List A) (i : ℕ) (now goal : C) → length items ≤ i
    → fold f now (drop i items) ≡ goal → now ≡ goal
fold_done f items i now goal high so_far =
    subst (λ (xs : List _). fold f now xs ≡ goal) (drop_all i items high) so_far

-- ---- rows of a plan

-- on the way: in a transaction the tables have some rows, and what is left to do makes of them what is to come
abbrev pub IsOnWay : State → State → (Tables → Tables) → Tables → Type 0
IsOnWay old now rest goal = Stands old now (tables_of now.now.trees) × (rest (tables_of now.now.trees) ≡ goal)

pub stands_on : (old mid new : State) (rows : Tables) → Stands old mid (tables_of mid.now.trees) → Stands mid new rows
    → Stands old new (tables_of new.now.trees)
stands_on old mid new rows one two =
    subst (Stands old new) (sym two.rows_are) (stands_after old mid new _ rows one two)

pub stands_then : (old mid new : State) (first : Tables) (f : Tables → Tables) → Stands old mid first
    → Stands mid new (f (tables_of mid.now.trees)) → Stands old new (f first)
stands_then old mid new first f one two =
    subst (λ rows. Stands old new (f rows)) one.rows_are (stands_after old mid new first _ one two)

pub then_ok : {A E : Type 0} (r : Result A E) (old mid new : State) (first : Tables) (f : Tables → Tables)
    → Stands old mid first → OnOk r (Stands mid new (f (tables_of mid.now.trees))) → OnOk r (Stands old new (f first))
then_ok (Ok a) old mid new first f one two = stands_then old mid new first f one two
then_ok (Err e) old mid new first f one two = tt

-- ---- what failed

-- Each common cause is such a one. What caused a failure after a statement that shut no connection caused it since that
-- statement began, and causes it still, whatever comes.
pub record IsCause (Fails : State → State → Error → Type 0) : Type 1 where
  pub common : (a b : State) (e : Error) → MayFail a b e → Fails a b e
  pub since : (a b c : State) (e : Error) → a.faults ≤ b.faults → (IsTrue a.is_open → IsTrue b.is_open)
      → b.step_limit ≡ a.step_limit → Fails b c e → Fails a c e
  pub until : (a b c : State) (e : Error) → b.faults ≤ c.faults → Fails a b e → Fails a c e

pub may_fail : IsCause MayFail
may_fail = record {
  common = λ a b e h. h;
  since = vain_since;
  until = λ a b c e more h. vain_before a b c e h more;
}

-- what is undone is as it was
pub undone_is : (old mid new : State) → (IsTrue old.is_open → old.now ≡ old.committed) → KeepsCommit old mid
    → IsRolledBack mid new → IsTrue new.is_open → (new.now ≡ old.now) × (new.committed ≡ old.committed)
undone_is old mid new settled keeps back opens =
    let mid_open = back.was_open opens in
    let same = keeps.committed mid_open in
    ((back.undone opens).0 ∙ same ∙ sym (settled (keeps.was_open mid_open)), (back.undone opens).1 ∙ same)

-- a commit that fails leaves what was committed
pub commit_leaves : (old mid new : State) (e : Error) → (IsTrue old.is_open → old.now ≡ old.committed)
    → KeepsCommit old mid → IsTrue mid.in_transaction → FailsToCommit mid new e → IsTrue new.is_open
    → (new.now ≡ old.now) × (new.committed ≡ old.committed)
commit_leaves old mid new e settled keeps mode (inl fails) opens = undone_is old mid new settled keeps fails.3 opens
commit_leaves old mid new e settled keeps mode (inr late) opens = absurd (true≢false (sym mode ∙ late.1))

-- ---- one after the other

pub turns_then : {S T U : Type 0} {g : Ghosts S} {a b c : Transaction S} {t : T} {r : Result U Error}
    {P Q R : Database → State → Type 0} {F : Database → State → State → Error → Type 0}
    → ((base : Database) → IsCause (F base)) → Turns g a b (Ok t) P Q F → Turns g b c r Q R F → Turns g a c r P R F
turns_then {g = g} {a = a} {b = b} {c = c} {r = r} cause one two = record {
  same_reference = two.same_reference ∙ one.same_reference;
  ok = λ clean base from. two.ok clean base (one.ok (calm clean) base from);
  fails = λ clean base from. if_err r _ _ (λ e h. (cause base).since (seen g a) (seen g b) (seen g c) e
      one.survives.counts (λ _. one.stays_open (calm clean) base from) one.survives.limit h)
      (two.fails clean base (one.ok (calm clean) base from));
  stays_open = λ clean base from. two.stays_open clean base (one.ok (calm clean) base from);
  kept = λ clean. keeps_then (seen g a) (seen g b) (seen g c) (one.kept (calm clean)) (two.kept clean);
  survives = survives_both (seen g a) (seen g b) (seen g c) one.survives two.survives;
}
  where
    calm : HasCleanDisk (seen g c) → HasCleanDisk (seen g b)
    calm clean = omega (arith, clean, two.survives.clean)

-- an error is handed on
pub turns_fail : {S T U : Type 0} {g : Ghosts S} {a b : Transaction S} {e : Error} {r : Result U Error}
    {P Q R : Database → State → Type 0} {F : Database → State → State → Error → Type 0}
    → Turns {T = T} g a b (Err e) P Q F → IsErrAnd r (λ x. x ≡ e) → Turns g a b r P R F
turns_fail {r = Ok t} turns h = absurd h
turns_fail {g = g} {a = a} {b = b} {r = Err x} {F = F} turns h = record {
  same_reference = turns.same_reference;
  ok = λ clean base from. tt;
  fails = λ clean base from. subst (F base (seen g a) (seen g b)) (sym h) (turns.fails clean base from);
  stays_open = λ clean base from. tt;
  kept = turns.kept;
  survives = turns.survives;
}

-- where more is asked, and less is told
pub turns_weaker : {S T : Type 0} {g : Ghosts S} {a b : Transaction S} {r : Result T Error}
    {P Q P' Q' : Database → State → Type 0} {F F' : Database → State → State → Error → Type 0}
    → ((base : Database) (s : State) → P' base s → P base s)
    → ((base : Database) (s t : State) → P' base s → Q base t → Q' base t)
    → ((base : Database) (s t : State) (e : Error) → F base s t e → F' base s t e)
    → Turns g a b r P Q F → Turns g a b r P' Q' F'
turns_weaker {g = g} {a = a} {b = b} {r = r} before after fails turns = record {
  same_reference = turns.same_reference;
  ok = λ clean base from. still_ok r _ _ (after base (seen g a) (seen g b) from)
      (turns.ok clean base (before base (seen g a) from));
  fails = λ clean base from. if_err r _ _ (fails base (seen g a) (seen g b))
      (turns.fails clean base (before base (seen g a) from));
  stays_open = λ clean base from. turns.stays_open clean base (before base (seen g a) from);
  kept = turns.kept;
  survives = turns.survives;
}

-- ---- in a loop

-- none of the statements yet, or as many as that
abbrev pub TurnsSoFar : {S : Type 0} → Ghosts S → (old now : Transaction S) → ℕ → (ℕ → Database → State → Type 0)
    → (Database → State → State → Error → Type 0) → Type 0
TurnsSoFar g old now i At Fails =
    ((i ≡ 0) × (now ≡ old)) ⊎ Turns {T = Unit {0}} g old now (Ok tt) (At 0) (At i) Fails

module _ {S : Type 0} {g : Ghosts S} (At : ℕ → Database → State → Type 0)
    {F : Database → State → State → Error → Type 0} where
  pub so_far_then : {a b c : Transaction S} {i : ℕ} {U : Type 0} {r : Result U Error} {R : Database → State → Type 0}
      → ((base : Database) → IsCause (F base)) → TurnsSoFar g a b i At F → Turns g b c r (At i) R F
      → Turns g a c r (At 0) R F
  so_far_then {b = b} {c = c} {r = r} {R = R} cause (inl (none, same)) two =
      subst (λ tx. Turns g tx c r (At 0) R F) same (subst (λ n. Turns g b c r (At n) R F) none two)
  so_far_then cause (inr one) two = turns_then cause one two

  pub so_far_done : {a b : Transaction S} {i : ℕ} (n : ℕ) → i ≡ suc n → TurnsSoFar g a b i At F
      → Turns {T = Unit {0}} g a b (Ok tt) (At 0) (At (suc n)) F
  so_far_done n is (inl (none, same)) = absurd (let both : 0 ≡ suc n = sym none ∙ is in omega (arith, both))
  so_far_done {a = a} {b = b} n is (inr one) =
      subst (λ k. Turns {T = Unit {0}} g a b (Ok tt) (At 0) (At k) F) is one
