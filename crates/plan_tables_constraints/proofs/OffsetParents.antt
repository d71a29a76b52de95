-- The run cycle that an offset refers to is there.
use Rattle.std.proofs.Common.{◌≡◌, ◌∙◌, ◌||◌, ◌⊎◌, ℕ, ℤ, Bool, true, false, List, [], ◌∷◌, inl, inr, map, refl, sym}
use Rattle.std.proofs.Common.{ap, subst}
use Rattle.std.specs.List.{list_any}
use Rattle.std.proofs.lemmas.Bool.{and_from}
use Rattle.sqlite.specs.Order.{Row as Values, column}
use Rattle.sqlite_schema.specs.Rules.{agree}
use Rattle.sqlite_value.specs.Keys.{plain}
use Rattle.sqlite_value.specs.declared.value.Value.{Value}
use Rattle.sqlite_value.specs.declared.value.Value.TheVariants.{Int, Text}
use Rattle.run_cycles.specs.declared.cycles.RunCycle.{RunCycle}
use Rattle.plan_store_lists.proofs.KeyLemmas.{contains_cases, nothing}
use Rattle.plan_tables_schema.specs.Rows.{Tables, shown}
use Rattle.plan_tables_schema.specs.Accepted.{HasParents}
use Rattle.plan_tables_schema.specs.declared.tables.Table.{Table}
use Rattle.plan_tables_schema.specs.declared.tables.Table.TheVariants as table
use Rattle.plan_tables_content.specs.Facts.{cycle_values, offset_values}
use Rattle.plan_tables_constraints.proofs.Held.{Shows, agree_cell, same_cell, text_itself}

any_from_shown : (t : Table) (p : Values → Bool) (w : Values) → ((r : Values) → shown t r ≡ w → p r ≡ true)
    → (rows : List Values) → Shows t rows w → list_any p rows ≡ true
any_from_shown t p w so [] there = absurd (nothing w there)
any_from_shown t p w so (r ∷ rows) there = go (p r) refl (contains_cases (shown t r) w (map (shown t) rows) there)
    (any_from_shown t p w so rows)
  where
    go : (b : Bool) → p r ≡ b → (shown t r ≡ w) ⊎ Shows t rows w → (Shows t rows w → list_any p rows ≡ true)
        → list_any p (r ∷ rows) ≡ true
    go true e either later = ap (λ b. b || list_any p rows) e
    go false e (inl is) later = absurd (let no : false ≡ true = sym e ∙ so r is in let h : ⊥ = cc no in h)
    go false e (inr rest) later = ap (λ b. b || list_any p rows) e ∙ later rest

-- the run cycle of an offset is shown
pub offset_parents : (all : Tables) (app : List ℕ) (cycle : RunCycle) (place : ℕ) (k id : ℤ)
    → Shows table.RunCycle (all table.RunCycle) (cycle_values app cycle)
    → HasParents table.Offset (Int id ∷ offset_values app cycle.name place k) all
offset_parents all app cycle place k id there = (
  any_from_shown table.RunCycle (λ parent. agree plain (1 ∷ 2 ∷ []) parent (1 ∷ 2 ∷ []) row) (cycle_values app cycle)
      (λ r is. two_agrees 1 2 r row (same_as app (column r 1) (ap (λ (w : Values). column w 0) is))
      (same_as cycle.name (column r 2) (ap (λ (w : Values). column w 1) is))) (all table.RunCycle) there,
  tt,
)
  where
    row : Values
    row = Int id ∷ offset_values app cycle.name place k

    same_as : (t : List ℕ) (v : Value) → v ≡ Text t → same_cell v (Text t) ≡ true
    same_as t v is = subst (λ w. same_cell w (Text t) ≡ true) (sym is) (text_itself t t refl)

    two_agrees : (p q : ℕ) (a b : Values) → same_cell (column a p) (column b p) ≡ true
        → same_cell (column a q) (column b q) ≡ true → agree plain (p ∷ q ∷ []) a (p ∷ q ∷ []) b ≡ true
    two_agrees p q a b one two = agree_cell p (q ∷ []) a b ∙ and_from _ _ one (agree_cell q [] a b
        ∙ and_from _ _ two refl)
