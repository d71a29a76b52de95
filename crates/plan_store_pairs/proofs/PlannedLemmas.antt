-- Pairs of what is open in the two plans, one list of rows after another.
use Rattle.std.proofs.Common.{◌≡◌, ◌≢◌, ◌↔◌, ◌⊎◌, ℕ, List, [], ◌∷◌, ◌++◌, sym, ap, subst, ◌∙◌, inl, inr}
use Rattle.std.specs.List.{Contains}
use Rattle.std.proofs.lemmas.List.Elements.{Contains-append_cases, Contains-append_left, Contains-append_right}
use Rattle.std.proofs.lemmas.List.Elements.{Contains-push, Contains-push_cases}
use Rattle.occurrences.specs.declared.place.CurrentRow.{CurrentRow}
use Rattle.occurrences.specs.declared.row.Row.{Row}
use Rattle.occurrences.specs.declared.status.Status.TheVariants.{W}
use Rattle.external_dependencies.specs.declared.pairs.Pair.{Pair}
use Rattle.plan_store_lists.specs.Rows.{of_current, of_row}
use Rattle.planner_machine.specs.Content.{Sets}
use Rattle.plan_store.specs.Views.{IsAny, ListsSet}
use Rattle.plan_store_pairs.specs.Planned.{AddsPairsOf, HasWaiting, IsOpenAt, IsOpenOf, IsOpenOfOne, IsWaitingAt}
use Rattle.external_dependencies.specs.Touch.{HasRowOf}
use Rattle.plan_store_pairs.proofs.ListLemmas.{none}

-- ---- what is added

module _ (all : List Pair) where
  -- of nothing
  pub adds_none : (Passes : ℕ → Type 0) (old : List Pair) → ((n : ℕ) → Passes n → ⊥) → AddsPairsOf all Passes old old
  adds_none Passes old never pair = (
    (λ there. inl there),
    λ is. elim is [ inl there ↦ there | inr new ↦ absurd (never pair.successor new.1) ],
  )

  -- of one successor more
  pub adds_more : (Passes Passes' : ℕ → Type 0) (first old part : List Pair) (n : ℕ)
      → AddsPairsOf all Passes first old
      → ((pair : Pair) → Contains part pair ↔ (Contains all pair × (pair.successor ≡ n)))
      → ((m : ℕ) → Passes' m ↔ (Passes m ⊎ (m ≡ n))) → AddsPairsOf all Passes' first (old ++ part)
  adds_more Passes Passes' first old part n adds are wider pair = (
    (λ there. elim (Contains-append_cases old part pair there) [
      | inl was ↦ elim ((adds pair).0 was) [
        | inl before ↦ inl before
        | inr new ↦ inr (new.0, (wider pair.successor).1 (inl new.1))
      ]
      | inr own ↦ let both = (are pair).0 own in inr (both.0, (wider pair.successor).1 (inr both.1))
    ]),
    λ is. elim is [
      | inl before ↦ Contains-append_left old part pair ((adds pair).1 (inl before))
      | inr new ↦ elim ((wider pair.successor).0 new.1) [
        | inl was ↦ Contains-append_left old part pair ((adds pair).1 (inr (new.0, was)))
        | inr own ↦ Contains-append_right old part pair ((are pair).1 (new.0, own))
      ]
    ],
  )

  -- of some, and then of others
  pub adds_both : (P Q R : ℕ → Type 0) (first middle new : List Pair) → AddsPairsOf all P first middle
      → AddsPairsOf all Q middle new → ((m : ℕ) → R m ↔ (P m ⊎ Q m)) → AddsPairsOf all R first new
  adds_both P Q R first middle new a1 a2 either pair = (
    (λ there. elim ((a2 pair).0 there) [
      | inl in_middle ↦ elim ((a1 pair).0 in_middle) [
        | inl before ↦ inl before
        | inr one ↦ inr (one.0, (either pair.successor).1 (inl one.1))
      ]
      | inr two ↦ inr (two.0, (either pair.successor).1 (inr two.1))
    ]),
    λ is. elim is [
      | inl before ↦ (a2 pair).1 (inl ((a1 pair).1 (inl before)))
      | inr some ↦ elim ((either pair.successor).0 some.1) [
        | inl one ↦ (a2 pair).1 (inl ((a1 pair).1 (inr (some.0, one))))
        | inr two ↦ (a2 pair).1 (inr (some.0, two))
      ]
    ],
  )

  -- of the same successors
  pub adds_same : (P Q : ℕ → Type 0) (first new : List Pair) → AddsPairsOf all P first new
      → ((m : ℕ) → Q m ↔ P m) → AddsPairsOf all Q first new
  adds_same P Q first new adds same pair = (
    (λ there. elim ((adds pair).0 there) [
      | inl before ↦ inl before
      | inr one ↦ inr (one.0, (same pair.successor).1 one.1)
    ]),
    λ is. (adds pair).1 (elim is [
      | inl before ↦ inl before
      | inr one ↦ inr (one.0, (same pair.successor).0 one.1)
    ]),
  )

-- ---- one row more

pub one_serial_more : (xs : List Row) (x : Row) (n : ℕ)
    → HasRowOf (xs ++ x ∷ []) n ↔ (HasRowOf xs n ⊎ (n ≡ x.serial))
one_serial_more xs x n = (
  (λ (y, there, same). elim (Contains-push_cases xs x y there) [
    | inl old ↦ inl (y, old, same)
    | inr is ↦ inr (sym same ∙ ap (λ (z : Row). z.serial) (sym is))
  ]),
  λ has. elim has [
    | inl (y, there, same) ↦ (y, Contains-append_left xs (x ∷ []) y there, same)
    | inr same ↦ (x, Contains-push xs x, sym same)
  ],
)

pub no_serial : (n : ℕ) → HasRowOf [] n → ⊥
no_serial n (x, there, same) = none x there

abbrev waiting_at : Row → CurrentRow
waiting_at row = record { row = row; status = W }

-- of two lists one after the other
pub serial_both : (xs ys : List Row) (n : ℕ) → HasRowOf (xs ++ ys) n ↔ (HasRowOf xs n ⊎ HasRowOf ys n)
serial_both xs ys n = (
  (λ (row, there, same). elim (Contains-append_cases xs ys row there) [
    | inl here ↦ inl (row, here, same)
    | inr later ↦ inr (row, later, same)
  ]),
  λ has. elim has [
    | inl (row, here, same) ↦ (row, Contains-append_left xs ys row here, same)
    | inr (row, later, same) ↦ (row, Contains-append_right xs ys row later, same)
  ],
)

pub waiting_both : (xs ys : List CurrentRow) (n : ℕ) → HasWaiting (xs ++ ys) n ↔ (HasWaiting xs n ⊎ HasWaiting ys n)
waiting_both xs ys n = (
  (λ (row, there, same). elim (Contains-append_cases xs ys (waiting_at row) there) [
    | inl here ↦ inl (row, here, same)
    | inr later ↦ inr (row, later, same)
  ]),
  λ has. elim has [
    | inl (row, here, same) ↦ (row, Contains-append_left xs ys (waiting_at row) here, same)
    | inr (row, later, same) ↦ (row, Contains-append_right xs ys (waiting_at row) later, same)
  ],
)

-- of the current plan, where the row waits
pub waiting_more : (xs : List CurrentRow) (x : CurrentRow) → x.status ≡ W → (n : ℕ)
    → HasWaiting (xs ++ x ∷ []) n ↔ (HasWaiting xs n ⊎ (n ≡ x.row.serial))
waiting_more xs x waits n = (
  (λ (row, there, same). elim (Contains-push_cases xs x (waiting_at row) there) [
    | inl old ↦ inl (row, old, same)
    | inr is ↦ inr (sym same ∙ ap (λ (y : CurrentRow). y.row.serial) (sym is))
  ]),
  λ has. elim has [
    | inl (row, there, same) ↦ (row, Contains-append_left xs (x ∷ []) (waiting_at row) there, same)
    | inr same ↦
        let one : x ≡ waiting_at x.row = λ i. record { row = x.row; status = waits i } in
        (x.row, subst (Contains (xs ++ x ∷ [])) one (Contains-push xs x), sym same)
  ],
)

-- and where it does not
pub waiting_skip : (xs : List CurrentRow) (x : CurrentRow) → x.status ≢ W → (n : ℕ)
    → HasWaiting (xs ++ x ∷ []) n ↔ HasWaiting xs n
waiting_skip xs x closed n = (
  (λ (row, there, same). elim (Contains-push_cases xs x (waiting_at row) there) [
    | inl old ↦ (row, old, same)
    | inr is ↦ absurd (closed (ap (λ (y : CurrentRow). y.status) is))
  ]),
  λ (row, there, same). (row, Contains-append_left xs (x ∷ []) (waiting_at row) there, same),
)

pub none_waiting : (n : ℕ) → HasWaiting [] n → ⊥
none_waiting n (row, there, same) = none (waiting_at row) there

-- ---- what is open in the two plans

module _ (s : Sets) where
  pub open_at : (ltp : List Row) → ListsSet of_row s.ltp IsAny ltp → (cp : List CurrentRow)
      → ListsSet of_current s.cp IsAny cp → (n : ℕ) → IsOpenAt s n ↔ (HasRowOf ltp n ⊎ HasWaiting cp n)
  open_at ltp ltp_is cp cp_is n = (
    (λ (row, is_open, same). elim is_open [
      | inl at ↦ inl (row, (ltp_is.exactly row).1 (at, tt), same)
      | inr at ↦ inr (row, (cp_is.exactly (waiting_at row)).1 (at, tt), same)
    ]),
    λ has. elim has [
      | inl (row, there, same) ↦ (row, inl ((ltp_is.exactly row).0 there).0, same)
      | inr (row, there, same) ↦ (row, inr ((cp_is.exactly (waiting_at row)).0 there).0, same)
    ],
  )

  -- of these rows, and of what waits in the current plan
  pub waiting_in : (rows : List Row) (cp : List CurrentRow) → ListsSet of_current s.cp IsAny cp → (n : ℕ)
      → (HasRowOf rows n ⊎ IsWaitingAt s n) ↔ (HasRowOf rows n ⊎ HasWaiting cp n)
  waiting_in rows cp cp_is n = (
    (λ has. elim has [
      | inl own ↦ inl own
      | inr (row, at, same) ↦ inr (row, (cp_is.exactly (waiting_at row)).1 (at, tt), same)
    ]),
    λ has. elim has [
      | inl own ↦ inl own
      | inr (row, there, same) ↦ inr (row, ((cp_is.exactly (waiting_at row)).0 there).0, same)
    ],
  )

  -- of one application
  pub open_of : (app : List ℕ) (ltp : List Row) → ListsSet of_row s.ltp (λ row. row.key.app ≡ app) ltp
      → (cp : List CurrentRow) → ListsSet of_current s.cp (λ x. x.row.key.app ≡ app) cp → (n : ℕ)
      → IsOpenOf s app n ↔ (HasRowOf ltp n ⊎ HasWaiting cp n)
  open_of app ltp ltp_is cp cp_is n = (
    (λ (row, is_open, of_app, same). elim is_open [
      | inl at ↦ inl (row, (ltp_is.exactly row).1 (at, of_app), same)
      | inr at ↦ inr (row, (cp_is.exactly (waiting_at row)).1 (at, of_app), same)
    ]),
    λ has. elim has [
      | inl (row, there, same) ↦ let both = (ltp_is.exactly row).0 there in (row, inl both.0, both.1, same)
      | inr (row, there, same) ↦
          let both = (cp_is.exactly (waiting_at row)).0 there in (row, inr both.0, both.1, same)
    ],
  )

  -- of one application more
  pub one_app_more : (apps : List (List ℕ)) (app : List ℕ) (n : ℕ)
      → IsOpenOfOne s (apps ++ app ∷ []) n ↔ (IsOpenOfOne s apps n ⊎ IsOpenOf s app n)
  one_app_more apps app n = (
    (λ (row, is_open, among, serial). elim (Contains-push_cases apps app row.key.app among) [
      | inl old ↦ inl (row, is_open, old, serial)
      | inr same ↦ inr (row, is_open, sym same, serial)
    ]),
    λ has. elim has [
      | inl (row, is_open, among, serial) ↦
          (row, is_open, Contains-append_left apps (app ∷ []) row.key.app among, serial)
      | inr (row, is_open, same, serial) ↦
          (row, is_open, subst (Contains (apps ++ app ∷ [])) (sym same) (Contains-push apps app), serial)
    ],
  )

  pub no_app : (n : ℕ) → IsOpenOfOne s [] n → ⊥
  no_app n (row, is_open, among, serial) = none row.key.app among
