-- Which rows go alone: run cycles do where their offsets are gone.
use Rattle.std.proofs.Common.{◌≡◌, Bool, true, false, not, cond, List, [], ◌∷◌, filter, refl, sym, ◌∙◌, ap}
use Rattle.std.proofs.Common.{ℕ, inl, inr}
use Rattle.std.specs.List.{AllByRecursion, Contains}
use Rattle.std.proofs.lemmas.Bool.{not-true}
use Rattle.sqlite.specs.Order.{Row as Values}
use Rattle.plan_store_lists.proofs.KeyLemmas.{contains_cases, nothing}
use Rattle.plan_tables_schema.specs.Rows.{IsAlone, matches, Tables, without_key}
use Rattle.plan_tables_schema.specs.declared.tables.Table.{Table}
use Rattle.plan_tables_schema.specs.declared.tables.Table.TheVariants as table
use Rattle.plan_tables_writing.specs.Redefining.{AreAlone, name_key}
use Rattle.plan_tables_writing.specs.Writing.{StandAlone, without_each}

-- what goes from a table goes from no other
pub alone_still : (t : Table) (key other : Values) (all : Tables) → IsAlone t key all
    → IsAlone t key (without_key t other all)
alone_still table.RunCycle key other all h = h
alone_still _ key other all h = tt

pub names_alone : (t : Table) (names : List (List ℕ)) (all : Tables) → StandAlone t → AreAlone t names all
names_alone t names all alone name has = alone (name_key name) all

-- ---- offsets

module _ (P : Values → Type 0) where
  one_of : (b : Bool) (rest : List Values) (r : Values) → (b ≡ true → P r) → AllByRecursion P rest
      → AllByRecursion P (cond b (r ∷ rest) rest)
  one_of true rest r here all = (here refl, all)
  one_of false rest r here all = all

  rest_all : (p : Values → Bool) (rows : List Values) → AllByRecursion P rows → AllByRecursion P (filter p rows)
  rest_all p [] all = all
  rest_all p (r ∷ rs) all = one_of (p r) (filter p rs) r (λ e. all.0) (rest_all p rs all.1)

  left_all : (p : Values → Bool) → ((r : Values) → p r ≡ true → P r) → (rows : List Values)
      → AllByRecursion P (filter p rows)
  left_all p tells [] = tt
  left_all p tells (r ∷ rs) = one_of (p r) (filter p rs) r (tells r) (left_all p tells rs)

  gone_all : (names : List (List ℕ)) (all : Tables) → AllByRecursion P (all table.Offset)
      → AllByRecursion P (without_each table.Offset name_key names all table.Offset)
  gone_all [] all are = are
  gone_all (x ∷ xs) all are = gone_all xs (without_key table.Offset (name_key x) all) (rest_all (λ r.
      not (matches table.Offset (name_key x) r)) (all table.Offset) are)

-- no offset of these names is left
none_left : (names : List (List ℕ)) (all : Tables) (name : List ℕ) → Contains names name
    → AllByRecursion (λ r. matches table.Offset (name_key name) r ≡ false)
    (without_each table.Offset name_key names all table.Offset)
none_left [] all name has = absurd (nothing name has)
none_left (x ∷ xs) all name has = elim (contains_cases x name xs has) [
  | inl is ↦ gone_all (λ r. matches table.Offset (name_key name) r ≡ false) xs
      (without_key table.Offset (name_key x) all) (left_all (λ r. matches table.Offset (name_key name) r ≡ false)
      (λ r. not (matches table.Offset (name_key x) r)) (λ r e. ap (λ n. matches table.Offset (name_key n) r) (sym is)
      ∙ not-true (matches table.Offset (name_key x) r) e) (all table.Offset))
  | inr rest ↦ none_left xs (without_key table.Offset (name_key x) all) name rest
]

-- so their run cycles go alone
pub cycles_alone : (names : List (List ℕ)) (all : Tables)
    → AreAlone table.RunCycle names (without_each table.Offset name_key names all)
cycles_alone names all name has = none_left names all name has
