-- Rows of parts of a definition differ in their first cells.
use Rattle.std.proofs.Common.{◌≡◌, ◌≢◌, ℕ, ℤ, ◌<◌, List, [], ◌∷◌, Some, get_or, arith, sym, ap, ◌∙◌, subst}
use Rattle.std.specs.Prelude.{AllPairs, slice_get, take}
use Rattle.std.proofs.lemmas.Option.{get_or_from_slice_get}
use Rattle.sqlite.specs.Order.{Row as Values}
use Rattle.sqlite.specs.declared.types.Value.TheVariants.{Text}
use Rattle.work_calendars.specs.Calendar.{CalendarEntries}
use Rattle.plan_periods.specs.Period.{Entry}
use Rattle.run_cycles.specs.declared.cycles.RunCycle.{RunCycle}
use Rattle.app_definition_records.specs.Rising.{AreRising}
use Rattle.app_definition_records.specs.declared.predecessors.Predecessor.{Predecessor}
use Rattle.app_definition_records.proofs.RisingLemmas.{own_names}
use Rattle.plan_tables_content.specs.Facts.{natural}
use Rattle.plan_tables_definitions.specs.Adding.{AreApart}
use Rattle.plan_tables_definitions.specs.Parts.{IsDateRow, IsLinkRow, IsListedRow, IsOffsetAt, IsOffsetOf, IsRowOfCycle}
use Rattle.plan_tables_definitions.specs.Parts.{IsWeekdayRow}
use Rattle.plan_tables_definitions.proofs.AddLemmas.{IsApartAt, under_get}

-- ---- of what stands in a list

pub pair_at : {X : Type 0} (R : X → X → Type 0) (xs : List X) (m n : ℕ) (y x : X) → AllPairs R xs → m < n
    → slice_get xs m ≡ Some y → slice_get xs n ≡ Some x → R y x
pair_at R xs m n y x pairs under there at = subst (λ z. R z x) (get_or_from_slice_get xs m y x there)
    (subst (λ z. R (get_or xs m x) z) (get_or_from_slice_get xs n x x at)
    (pairs m n x under (under_get xs n x at)))

-- where the names differ, and so the rows
pub apart_before : (cells : ℕ) {X : Type 0} (Is : X → Values → Type 0) (name_of : X → List ℕ) (xs : List X)
    (n : ℕ) (x : X) → AreRising name_of xs → slice_get xs n ≡ Some x
    → ((y : X) (v w : Values) → name_of y ≢ name_of x → Is y v → Is x w → AreApart cells v w)
    → IsApartAt cells (λ _. Is) xs n x
apart_before cells Is name_of xs n x rising at differ place y under there v w = differ y v w
    (pair_at (λ a b. name_of a ≢ name_of b) xs place n y x (own_names name_of xs rising) under there at)

-- ---- of each kind

keyed : (cells : ℕ) (v w a b : Values) → v ≡ a → w ≡ b → take cells v ≡ take cells w → take cells a ≡ take cells b
keyed cells v w a b is it same = ap (take cells) (sym is) ∙ same ∙ ap (take cells) it

pub links_apart : (app : List ℕ) (p q : Predecessor) (v w : Values) → p.name ≢ q.name → IsLinkRow app p v
    → IsLinkRow app q w → AreApart 2 v w
links_apart app p q v w other is it same = other
    (let k : Text app ∷ Text p.name ∷ [] ≡ Text app ∷ Text q.name ∷ [] = keyed 2 v w _ _ is it same in cc)

pub cycles_apart : (app : List ℕ) (a b : RunCycle) (v w : Values) → a.name ≢ b.name → IsRowOfCycle app a v
    → IsRowOfCycle app b w → AreApart 2 v w
cycles_apart app a b v w other is it same = other
    (let k : Text app ∷ Text a.name ∷ [] ≡ Text app ∷ Text b.name ∷ [] = keyed 2 v w _ _ is it same in cc)

pub offsets_apart : (app : List ℕ) (a b : RunCycle) (v w : Values) → a.name ≢ b.name → IsOffsetOf app a v
    → IsOffsetOf app b w → AreApart 3 v w
offsets_apart app a b v w other (m, j, there, is) (n, k, at, it) same = other
    (let e : Text app ∷ Text a.name ∷ natural m ∷ [] ≡ Text app ∷ Text b.name ∷ natural n ∷ [] =
    keyed 3 v w _ _ is it same in cc)

less_than_itself : (n : ℕ) → n < n → ⊥
less_than_itself n h = omega (arith, h)

-- places differ
module _ (m n : ℕ) (under : m < n) (name : List ℕ) (v w : Values) where
  differ : m ≡ n → ⊥
  differ e = less_than_itself n (subst (λ k. k < n) e under)

  pub offset_places_apart : (short : List ℕ) (j k : ℤ) → IsOffsetAt name short m j v → IsOffsetAt name short n k w
      → AreApart 3 v w
  offset_places_apart short j k is it same = differ
      (let e : Text name ∷ Text short ∷ natural m ∷ [] ≡ Text name ∷ Text short ∷ natural n ∷ [] =
      keyed 3 v w _ _ is it same in cc)

  pub entry_places_apart : (d e : Entry) → IsListedRow name m d v → IsListedRow name n e w → AreApart 2 v w
  entry_places_apart d e is it same = differ
      (let k : Text name ∷ natural m ∷ [] ≡ Text name ∷ natural n ∷ [] = keyed 2 v w _ _ is it same in cc)

  pub weekdays_apart : (c : CalendarEntries) → IsWeekdayRow name c m v → IsWeekdayRow name c n w → AreApart 3 v w
  weekdays_apart c (s, at, is) (t, there, it) same = differ
      (let k : Text name ∷ natural 0 ∷ natural m ∷ [] ≡ Text name ∷ natural 0 ∷ natural n ∷ [] =
      keyed 3 v w _ _ is it same in cc)

  pub dates_apart : (c : CalendarEntries) → IsDateRow name c m v → IsDateRow name c n w → AreApart 3 v w
  dates_apart c (s, at, is) (t, there, it) same = differ
      (let k : Text name ∷ natural 1 ∷ natural m ∷ [] ≡ Text name ∷ natural 1 ∷ natural n ∷ [] =
      keyed 3 v w _ _ is it same in cc)

-- kinds differ
pub kinds_apart : (name : List ℕ) (c : CalendarEntries) (m n : ℕ) (v w : Values) → IsWeekdayRow name c m v
    → IsDateRow name c n w → AreApart 3 v w
kinds_apart name c m n v w (s, at, is) (t, there, it) same =
    let k : Text name ∷ natural 0 ∷ natural m ∷ [] ≡ Text name ∷ natural 1 ∷ natural n ∷ [] =
    keyed 3 v w _ _ is it same in
    let h : ⊥ = cc in h
