-- When a content admits a change.
use Rattle.std.proofs.Common.{◌≡◌, ◌≢◌, ◌↔◌, ℕ, ◌+◌, ◌-◌, ◌<◌, Bool, true, false, List, [], ◌∷◌, ◌++◌, length, get_or, take}
use Rattle.std.proofs.Common.{map, inl, inr, refl, sym, ap, subst, ◌∙◌, arith, Option, Some, None, append_assoc, IsTrue, nat_eq, not}
use Rattle.std.proofs.Common.{Result, Ok, Err, IfOk, MatchOption, is_some}
use Rattle.std.specs.Iterator.{DrainsIf}
use Rattle.std.specs.Iterator.Runs.{SomeRun, YieldsRun}
use Rattle.std.specs.Bool.{MatchBool}
use Rattle.std.specs.List.{AllPairs, AllWithin, Contains, HoldsAt, list_any}
use Rattle.std.proofs.lemmas.Bool.{and_from, and_parts, cases_lt, eq-eqb, ne_eqb, not_from_false, not_from_true}
use Rattle.std.proofs.lemmas.Iterator.{YieldsList}
use Rattle.std.proofs.lemmas.Iterator.Consumers.{YieldsList-end, YieldsList-so_far}
use Rattle.std.proofs.lemmas.List.{append-nil, get_or-map, get_or-append-add, get_or-append_right, get_or-take, get_or_append_left, get_or_at, length-append, length-map}
use Rattle.std.proofs.lemmas.List.{get_or_default, length-take, map-id}
use Rattle.std.proofs.lemmas.List.Elements.{Contains-get_or}
use Rattle.std.proofs.lemmas.List.Folds.{list_any_at, list_any_none}
use Rattle.std.proofs.lemmas.List.Quantifiers.{all_pairs_push}
use Rattle.itertools.specs.Consumer.{all_distinct_from}
use Rattle.occurrences.specs.declared.row.Row.{Row}
use Rattle.external_dependencies.specs.Nearest.{arrival_of}
use Rattle.plan_store_lists.specs.Rows.{AreRows, HasEachOnce, look_up}
use Rattle.plan_store.specs.Changes.{FitsSet}
use Rattle.plan_store.specs.declared.changes.Moves.{Moves}
use Rattle.plan_store_lists.proofs.LookLemmas.{look_at, look_lacks, look_none, look_some}

-- no number stands at two places
abbrev Distinct : List ℕ → Type 0
Distinct ns = AllPairs (λ m n. m ≢ n) ns

no_pairs : Distinct []
no_pairs i j d below lt = absurd (omega arith)

distinct_from : (before ns : List ℕ) → Distinct before → all_distinct_from nat_eq before ns ≡ true
    → Distinct (before ++ ns)
distinct_from before [] apart is = subst Distinct (sym (append-nil before)) apart
distinct_from before (n ∷ ns) apart is =
    let parts = and_parts (not (list_any (λ m. nat_eq m n) before)) (all_distinct_from nat_eq (before ++ n ∷ []) ns) is
    in
    let pushed : Distinct (before ++ n ∷ []) = all_pairs_push (λ a b. a ≢ b) before n apart (λ k d lt same.
    let among = list_any_at (λ m. nat_eq m n) before k d lt (eq-eqb (get_or before k d) n same) in
    let shut = not_from_true (list_any (λ m. nat_eq m n) before) among in
    cc) in
    subst Distinct (append_assoc before (n ∷ []) ns) (distinct_from (before ++ n ∷ []) ns pushed parts.1)

from_distinct : (before ns : List ℕ) → Distinct (before ++ ns) → all_distinct_from nat_eq before ns ≡ true
from_distinct before [] apart = refl
from_distinct before (n ∷ ns) apart =
    let none : list_any (λ m. nat_eq m n) before ≡ false = list_any_none (λ m. nat_eq m n) before (λ k d lt.
    ne_eqb (get_or before k d) n (λ same. apart k (length before) d lt (omega (arith, length-append before (n ∷ ns)))
    (get_or_append_left before (n ∷ ns) d k lt ∙ same ∙ sym (get_or_at before n ns d (length before) refl)))) in
    and_from (not (list_any (λ m. nat_eq m n) before)) (all_distinct_from nat_eq (before ++ n ∷ []) ns)
    (not_from_false (list_any (λ m. nat_eq m n) before) none)
    (from_distinct (before ++ n ∷ []) ns (subst Distinct (sym (append_assoc before (n ∷ []) ns)) apart))

front_distinct : (n : ℕ) (ns : List ℕ) → Distinct ns → Distinct (take n ns)
front_distinct n ns apart i j d below lt same =
    apart i j d below (omega (arith, length-take n ns))
    (sym (get_or-take n ns i d (omega (arith, length-take n ns))) ∙ same ∙ get_or-take n ns j d (omega (arith, length-take n ns)))

-- what the run of an iterator tells of all that it gives
distinct_run : {S : Type 0} {steps : S → Option ℕ → S → Type 0} {s : S} {all : List ℕ} (once : Bool)
    → YieldsList steps (λ n. n) s all
    → SomeRun steps s (λ p. (once ≡ all_distinct_from nat_eq [] p.items) × (IsTrue once → IsTrue p.whole))
    → IsTrue once ↔ Distinct all
unfolding YieldsRun
distinct_run {S} {steps} {s} {all} once road (p, starts, (is, whole)) =
    let (t, gave, ends) : DrainsIf steps (p.whole ≡ true) s p.items = subst (λ z. DrainsIf steps (p.whole ≡ true) z p.items)
    starts p.gave.0 in (
      λ yes.
          let (u, step) = ends (whole yes) in
          let items : p.items ≡ all = sym (map-id p.items) ∙ (YieldsList-end road p.items t gave None u refl step).0 in
          subst Distinct items (distinct_from [] p.items no_pairs (sym is ∙ yes)),
      λ apart.
          let items : p.items ≡ take (length p.items) all = sym (map-id p.items) ∙ YieldsList-so_far road p.items t gave in
          is ∙ from_distinct [] p.items (subst Distinct (sym items) (front_distinct (length p.items) all apart)),
    )

module _ {X : Type 0} where
  some_one : (x y : X) → Some x ≡ Some y → x ≡ y
  some_one x y is = cc

  -- the row stands in the list
  pub stands_is : (l : Option X) (was x : X) (r : Bool) → Some was ≡ l → (IsTrue r ↔ (was ≡ x))
      → IsTrue r ↔ (l ≡ Some x)
  stands_is l was x r at is = (λ yes. sym at ∙ ap Some (is.0 yes), λ there. is.1 (some_one was x (at ∙ there)))

  pub stands_not : (l : Option X) (x : X) → None ≡ l → IsTrue false ↔ (l ≡ Some x)
  stands_not l x at = (λ no. cc, λ there. cc)

  pub stands_as_not : {P : X → Type 0} (l : Option X) → None ≡ l → IsTrue false ↔ ((y : X) × (l ≡ Some y) × P y)
  stands_as_not l at = (λ no. cc, λ (y, there, _). cc)

  pub new_is : (o l : Option X) (r : Bool) → o ≡ l → is_some o ≡ not r → IsTrue r ↔ (l ≡ None)
  new_is None l true at is = (λ _. sym at, λ _. refl)
  new_is None l false at is = cc
  new_is (Some x) l true at is = cc
  new_is (Some x) l false at is = (λ no. cc, λ none. cc)

-- a test that fails
pub refused : {P Q : Type 0} (r : Bool) → (IsTrue r ↔ P) → r ≡ false → (Q → P) → IsTrue false ↔ Q
refused r is fails from = (λ no. cc, λ q. let yes = is.1 (from q) in cc)

-- the last of several tests
pub last_test : {P Q E : Type 0} (r : Result Bool E) → (P → Q) → (Q → P) → IfOk r (λ once. IsTrue once ↔ P)
    → IfOk r (λ fits. IsTrue fits ↔ Q)
last_test (Ok once) to from is = (λ yes. to (is.0 yes), λ q. is.1 (from q))
last_test (Err _) to from is = tt

module _ {X : Type 0} (P : X → Type 0) where
  -- a test of each in turn
  pub each_is : (xs : List X) (r : Bool) → MatchBool r (AllWithin P xs 0 (length xs))
      ((k : ℕ) × (k < length xs) × HoldsAt (λ x. P x → ⊥) xs k) → IsTrue r ↔ ((x : X) → Contains xs x → P x)
  each_is xs true each = (λ _ x (k, lt, at). subst P at (each k x (omega arith) lt), λ _. refl)
  each_is [] false (k, lt, fails) = absurd (omega arith)
  each_is (y ∷ ys) false (k, lt, fails) = (
    λ no. cc,
    λ each. absurd (fails y (each (get_or (y ∷ ys) k y) (Contains-get_or (y ∷ ys) k y lt))),
  )

module _ {X : Type 0} (row_of : X → Row) where
  abbrev pub serial_of : X → ℕ
  serial_of x = (row_of x).serial

  each_once : (xs : List X) → Distinct (map serial_of xs) → HasEachOnce row_of xs
  each_once xs apart i j d below lt same =
      apart i j (serial_of d) below (omega (arith, length-map xs serial_of))
      (get_or-map serial_of xs i d (serial_of d) (omega arith) ∙ same ∙ sym
      (get_or-map serial_of xs j d (serial_of d) lt))

  apart_each : (xs : List X) → HasEachOnce row_of xs → Distinct (map serial_of xs)
  apart_each [] once i j d below lt same = absurd (omega arith)
  apart_each (x ∷ xs) once i j d below lt same =
      let inside : j < length (x ∷ xs) = omega (arith, length-map (x ∷ xs) serial_of) in
      once i j x below inside
      (sym (get_or-map serial_of (x ∷ xs) i x d (omega arith)) ∙ same ∙ get_or-map serial_of (x ∷ xs) j x d inside)

  -- what is answered of all serials
  pub all_once : {S E : Type 0} {steps : S → Option ℕ → S → Type 0} {s : S} (r : Result Bool E) (xs : List X)
      → IfOk r (λ once. SomeRun steps s (λ p. (once ≡ all_distinct_from nat_eq [] p.items)
      × (IsTrue once → IsTrue p.whole))) → YieldsList steps (λ n. n) s (map serial_of xs)
      → IfOk r (λ once. IsTrue once ↔ HasEachOnce row_of xs)
  all_once (Ok once) xs run road =
      let is = distinct_run once road run in (λ yes. each_once xs (is.0 yes), λ all. is.1 (apart_each xs all))
  all_once (Err _) xs run road = tt

  -- the row of a serial
  pub found_is : (xs : List X) (serial : ℕ) (o : Option X) → AreRows row_of xs
      → MatchOption o ((x : X) → Contains xs x → serial_of x ≢ serial)
      (λ x. Contains xs x × (serial_of x ≡ serial)) → o ≡ look_up serial_of xs serial
  found_is xs serial None rows lacks = sym (look_lacks serial_of xs serial lacks)
  found_is xs serial (Some x) rows (there, same) = sym (look_at serial_of xs rows.one_each x serial there same)

  -- a row of its serial stands in the list under its key
  pub stands_as_is : (xs : List X) (was x : X) (r : Bool) → Some was ≡ look_up serial_of xs (serial_of x)
      → (IsTrue r ↔ ((row_of was).key ≡ (row_of x).key)) → IsTrue r ↔ ((y : X)
      × (look_up serial_of xs (serial_of x) ≡ Some y) × (arrival_of (row_of y) ≡ arrival_of (row_of x)))
  stands_as_is xs was x r at is = (
    λ yes.
        let key : (row_of was).key ≡ (row_of x).key = is.0 yes in
        let serial : serial_of was ≡ serial_of x = (look_some serial_of xs (serial_of x) was (sym at)).1 in
        (was, sym at, λ i. record { app = (key i).app; ia = (key i).ia; serial = serial i }),
    λ (y, there, same).
        let one : y ≡ was = some_one y was (sym there ∙ sym at) in
        is.1 (subst (λ z. (row_of z).key ≡ (row_of x).key) one (λ i. record { ia = (same i).ia; app = (same i).app })),
  )

  -- no serial stands twice in two lists, one behind the other
  split_once : (xs ys : List X) → HasEachOnce row_of (xs ++ ys) → HasEachOnce row_of xs × HasEachOnce row_of ys
      × ((y : X) → Contains ys y → (x : X) → Contains xs x → serial_of x ≢ serial_of y)
  split_once xs ys once = (
    λ i j d below lt same. once i j d below (omega (arith, length-append xs ys))
        (ap serial_of (get_or_append_left xs ys d i (omega arith)) ∙ same
        ∙ ap serial_of (sym (get_or_append_left xs ys d j lt))),
    λ i j d below lt same. once (length xs + i) (length xs + j) d (omega arith) (omega (arith, length-append xs ys))
        (ap serial_of (get_or-append-add xs ys i d) ∙ same ∙ ap serial_of (sym (get_or-append-add xs ys j d))),
    λ y (j, lt_j, at_j) x (i, lt_i, at_i) same.
        once i (length xs + j) y (omega arith) (omega (arith, length-append xs ys))
        (ap serial_of (get_or_append_left xs ys y i lt_i ∙ get_or_default xs i y x lt_i ∙ at_i) ∙ same
        ∙ ap serial_of (sym (get_or-append-add xs ys j y ∙ at_j))),
  )

  join_once : (xs ys : List X) → HasEachOnce row_of xs → HasEachOnce row_of ys
      → ((y : X) → Contains ys y → (x : X) → Contains xs x → serial_of x ≢ serial_of y)
      → HasEachOnce row_of (xs ++ ys)
  join_once xs ys first second apart i j d below lt same = elim (cases_lt j (length xs)) as (λ _. ⊥) [
    | inl front ↦ first i j d below front
        (ap serial_of (sym (get_or_append_left xs ys d i (omega arith))) ∙ same
        ∙ ap serial_of (get_or_append_left xs ys d j front))
    | inr behind ↦
        let at_j : get_or (xs ++ ys) j d ≡ get_or ys (j - length xs) d = get_or-append_right xs ys (length xs) j d refl
        behind in
        let lt_j : j - length xs < length ys = omega (arith, length-append xs ys) in
        elim (cases_lt i (length xs)) as (λ _. ⊥) [
          | inl front ↦ apart (get_or ys (j - length xs) d) (Contains-get_or ys (j - length xs) d lt_j) (get_or xs i d)
              (Contains-get_or xs i d front)
              (ap serial_of (sym (get_or_append_left xs ys d i front)) ∙ same ∙ ap serial_of at_j)
          | inr later ↦ second (i - length xs) (j - length xs) d (omega arith) lt_j
              (ap serial_of (sym (get_or-append_right xs ys (length xs) i d refl later)) ∙ same ∙ ap serial_of at_j)
        ]
  ]

  module _ (moves : Moves X) where
    -- what is tested is what fits
    pub fits_tested : (set : ℕ → Option X) (goes : (x : X) → Contains moves.gone.items x → set (serial_of x) ≡ Some x)
        → (changes : (x : X) → Contains moves.changed.items x → (was : X) × (set (serial_of x) ≡ Some was)
        × (arrival_of (row_of was) ≡ arrival_of (row_of x)))
        → (new : (x : X) → Contains moves.put.items x → set (serial_of x) ≡ None) → {E : Type 0}
        → (r : Result Bool E) → IfOk r (λ once. IsTrue once
        ↔ (HasEachOnce row_of (moves.gone.items ++ moves.changed.items) × HasEachOnce row_of moves.put.items))
        → IfOk r (λ fits. IsTrue fits ↔ FitsSet row_of moves set)
    fits_tested set goes changes new (Err _) is = tt
    fits_tested set goes changes new (Ok once) is = (
      λ yes.
          let (named, put) = is.0 yes in
          let (gone, changed, apart) = split_once moves.gone.items moves.changed.items named in
          record {
            gone_once = gone;
            changed_once = changed;
            put_once = put;
            goes = goes;
            changes = changes;
            stays = λ x there. look_lacks serial_of moves.gone.items (serial_of x) (apart x there);
            new = new;
          },
      λ fits. is.1 (
        join_once moves.gone.items moves.changed.items fits.gone_once fits.changed_once
            (λ y there. look_none serial_of moves.gone.items (serial_of y) (fits.stays y there)),
        fits.put_once,
      ),
    )
