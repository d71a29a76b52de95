-- A table of rows by their serials, filled row by row.
use Rattle.std.proofs.Common.{◌≡◌, ◌≢◌, ℕ, zero, suc, ◌+◌, ◌-◌, ◌<◌, ◌≤◌, Bool, true, false, List, [], ◌∷◌, ◌++◌}
use Rattle.std.proofs.Common.{length, get_or, set, take, refl, sym, subst, ◌∙◌, inl, inr, arith}
use Rattle.std.proofs.Common.{Option, None, Some}
use Rattle.std.specs.Prelude.{MatchBool}
use Rattle.std.specs.List.{Contains}
use Rattle.std.proofs.lemmas.Bool.{cases_eq}
use Rattle.std.proofs.lemmas.List.{get_or_default, get_or-set_other, get_or-set_same, length-set}
use Rattle.std.proofs.lemmas.List.Elements.{Contains-append_left, Contains-push, Contains-push_cases}
use Rattle.external_dependencies.specs.declared.rows.PlacedRow.{PlacedRow}
use Rattle.plan_store_soundness.specs.Seats.{AreSeated, IsTable, Puts}
use Rattle.plan_store_soundness.proofs.DistinctLemmas.{Differ}

-- the table has the rows seen so far, and no other
pub record IsTableSoFar (issued : ℕ) (seen : List PlacedRow) (table : List (Option PlacedRow)) : Type 0 where
  pub long : length table ≡ issued
  pub from : (k : ℕ) (p : PlacedRow) → get_or table k None ≡ Some p → Contains seen p × (p.row.serial ≡ k + 1)
  pub kept : (p : PlacedRow) → Contains seen p
      → (1 ≤ p.row.serial) × (p.row.serial ≤ issued) × (get_or table (p.row.serial - 1) None ≡ Some p)

none_some : {X : Type 0} (o : Option X) (x : X) → o ≡ None → o ≡ Some x → ⊥
none_some o x a b = cc

pub table_more : (issued : ℕ) (seen : List PlacedRow) (p : PlacedRow) (old new : List (Option PlacedRow))
    → IsTableSoFar issued seen old → Puts p old new true → IsTableSoFar issued (seen ++ p ∷ []) new
table_more issued seen p old new was (low, high, free, is) = subst (IsTableSoFar issued (seen ++ p ∷ []))
    (sym is) written
  where
    within : (p.row.serial - 1) < length old
    within = omega arith

    from_at : (k : ℕ) (q : PlacedRow) → get_or (set old (p.row.serial - 1) (Some p)) k None ≡ Some q → Contains
        (seen ++ p ∷ []) q × (q.row.serial ≡ k + 1)
    from_at k q here = elim (cases_eq k (p.row.serial - 1)) [
      | inl same ↦
          let put : get_or (set old (p.row.serial - 1) (Some p)) k None ≡ Some p =
          subst (λ n. get_or (set old (p.row.serial - 1) (Some p)) n None ≡ Some p) (sym same) (get_or-set_same old
          (p.row.serial - 1) (Some p) None within) in
          let one : p ≡ q = cc in
          subst (λ (x : PlacedRow). Contains (seen ++ p ∷ []) x × (x.row.serial ≡ k + 1)) one
          (Contains-push seen p, omega arith)
      | inr other ↦
          let was_at = was.from k q (sym (get_or-set_other old (p.row.serial - 1) k (Some p) None other) ∙ here) in
          (Contains-append_left seen (p ∷ []) q was_at.0, was_at.1)
    ]

    written : IsTableSoFar issued (seen ++ p ∷ []) (set old (p.row.serial - 1) (Some p))
    written = record {
      long = length-set old (p.row.serial - 1) (Some p) ∙ was.long;
      from = from_at;
      kept = λ q there. elim (Contains-push_cases seen p q there) [
        | inl before ↦
            let is_at = was.kept q before in
            let other : q.row.serial - 1 ≢ (p.row.serial - 1) = λ same.
            none_some (get_or old (p.row.serial - 1) None) q free (subst
            (λ n. get_or old n None ≡ Some q) same is_at.2) in
            (is_at.0, is_at.1, get_or-set_other old (p.row.serial - 1) (q.row.serial - 1) (Some p) None other ∙ is_at.2)
        | inr same ↦
            subst (λ (x : PlacedRow). (1 ≤ x.row.serial) × (x.row.serial ≤ issued)
            × (get_or (set old (p.row.serial - 1) (Some p)) (x.row.serial - 1) None ≡ Some x)) same
            (low, omega (arith, was.long), get_or-set_same old (p.row.serial - 1) (Some p) None within)
      ];
    }

-- a row that finds no free place shows that the rows are not seated
pub table_refuses : (issued : ℕ) (all seen : List PlacedRow) (p : PlacedRow) (old new : List (Option PlacedRow))
    → IsTableSoFar issued seen old → ((q : PlacedRow) → Contains seen q → Contains all q) → Contains all p
    → (Contains seen p → ⊥) → Puts p old new false → AreSeated issued all → ⊥
table_refuses issued all seen p old new was part there unseen refused seated = elim refused [
  | inl past ↦ absurd (omega (arith, was.long, (seated.within p there).1))
  | inr (q, taken) ↦
      let found = was.from (p.row.serial - 1) q taken in
      let serial : p.row.serial ≡ q.row.serial = omega (arith, (seated.within p there).0, found.1) in
      let one : p ≡ q = seated.own p q there (part q found.0) serial in
      unseen (subst (Contains seen) (sym one) found.0)
]

pub table_full : (issued : ℕ) (all : List PlacedRow) (table : List (Option PlacedRow)) → IsTableSoFar issued all table
    → ((k : ℕ) → k < length table → (p : PlacedRow) × (get_or table k None ≡ Some p)) → IsTable issued all table
table_full issued all table was full = record {
  long = was.long;
  full = λ k lt. full k (omega (arith, was.long));
  from = was.from;
  kept = was.kept;
}

pub table_lacks : (issued : ℕ) (all : List PlacedRow) (table : List (Option PlacedRow)) → IsTableSoFar issued all table
    → (k : ℕ) × (k < length table) × (get_or table k None ≡ None) → AreSeated issued all → ⊥
table_lacks issued all table was (k, lt, none) seated =
    let (p, there, serial) = seated.each (k + 1) (omega arith) (omega (arith, was.long)) in
    let at = (was.kept p there).2 in
    let place : p.row.serial - 1 ≡ k = omega arith in
    none_some (get_or table k None) p none (subst (λ n. get_or table n None ≡ Some p) place at)

-- so a full table shows that they are
pub seated_from_table : (issued : ℕ) (all : List PlacedRow) (table : List (Option PlacedRow))
    → IsTable issued all table → AreSeated issued all
seated_from_table issued all table is = record {
  each = λ serial low high.
      let (p, at) = is.full (serial - 1) (omega arith) in
      let found = is.from (serial - 1) p at in (p, found.0, omega (arith, found.1));
  within = λ p there. ((is.kept p there).0, (is.kept p there).1);
  own = λ p q at_p at_q same.
      let a = (is.kept p at_p).2 in
      let b : get_or table (p.row.serial - 1) None ≡ Some q =
      subst (λ n. get_or table (n - 1) None ≡ Some q) (sym same) (is.kept q at_q).2 in
      let whole : Some p ≡ Some q = sym a ∙ b in cc;
}

taken : (xs : List PlacedRow) (i k : ℕ) (d : PlacedRow) → k < length (take i xs) → i < length xs
    → (k < i) × (get_or (take i xs) k d ≡ get_or xs k d)
taken [] i k d below lt = absurd (omega (arith, lt))
taken (x ∷ xs) zero k d below lt = absurd (omega (arith, below))
taken (x ∷ xs) (suc i) zero d below lt = (omega arith, refl)
taken (x ∷ xs) (suc i) (suc k) d below lt =
    let rest = taken xs i k d (omega (arith, below)) (omega (arith, lt)) in (omega (arith, rest.0), rest.1)

-- what stands before a place of a list stands in it
pub taken_contains : (xs : List PlacedRow) (i : ℕ) (q : PlacedRow) → i < length xs → Contains (take i xs) q
    → Contains xs q
taken_contains xs i q within (k, lt, at) =
    let before = taken xs i k q lt within in (k, omega (arith, before.0), sym before.1 ∙ at)

-- an item of a list in which none stands twice is not among those before it
pub not_before : (xs : List PlacedRow) (i : ℕ) (d : PlacedRow) → Differ xs → i < length xs
    → Contains (take i xs) (get_or xs i d) → ⊥
not_before xs i d differ lt (k, below, at) =
    let e : PlacedRow = get_or xs i d in
    let before = taken xs i k e below lt in
    differ k i e before.0 lt (sym before.1 ∙ at ∙ get_or_default xs i d e lt)

abbrev pub Full : List (Option PlacedRow) → Type 0
Full table = (k : ℕ) → k < length table → (p : PlacedRow) × (get_or table k None ≡ Some p)

abbrev pub Lacks : List (Option PlacedRow) → Type 0
Lacks table = (k : ℕ) × (k < length table) × (get_or table k None ≡ None)

pub told_full : (b : Bool) (table : List (Option PlacedRow)) → b ≡ true → MatchBool b (Full table) (Lacks table)
    → Full table
told_full true table is told = told
told_full false table is told = cc

pub told_lacks : (b : Bool) (table : List (Option PlacedRow)) → b ≡ false → MatchBool b (Full table) (Lacks table)
    → Lacks table
told_lacks true table is told = cc
told_lacks false table is told = told
