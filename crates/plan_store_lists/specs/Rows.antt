-- The rows of a set, as a list and as a look-up by serial.
use Rattle.std.specs.Prelude.{◌≡◌, ℕ, List, Contains, Option, nat_eq}
use Rattle.std.specs.List.{AllPairs, find}
use Rattle.occurrences.specs.declared.place.Deletion.{Deletion}
use Rattle.occurrences.specs.declared.row.Row.{Row}
use Rattle.external_dependencies.specs.Arrival.{arrival_cmp}
use Rattle.external_dependencies.specs.Nearest.{arrival_of}
use Rattle.plan_store_lists.specs.Keyed.{IsKeyed}
use Rattle.occurrences.specs.declared.place.CurrentRow.{CurrentRow}

-- the first item of the list that has the number, as a function of the number
abbrev pub look_up : {X : Type 0} → (X → ℕ) → List X → ℕ → Option X
look_up number_of xs number = find (λ x. nat_eq (number_of x) number) xs

-- no two items have one number
abbrev pub OneEach : {X : Type 0} → (X → ℕ) → List X → Type 0
OneEach {X} number_of xs = (x y : X) → Contains xs x → Contains xs y → number_of x ≡ number_of y → x ≡ y

-- no serial appears twice in the list
abbrev pub HasEachOnce : {X : Type 0} → (X → Row) → List X → Type 0
HasEachOnce row_of xs = AllPairs (λ x y. (row_of x).serial ≡ (row_of y).serial → ⊥) xs

-- the rows of a set: by application, input arrival and serial, each serial once
pub record AreRows {X : Type 0} (row_of : X → Row) (xs : List X) : Type 0 where
  pub keyed : IsKeyed arrival_cmp (λ x. arrival_of (row_of x)) xs
  pub one_each : OneEach (λ x. (row_of x).serial) xs

-- the occurrence of what a set holds
abbrev pub of_row : Row → Row
of_row row = row

abbrev pub of_current : CurrentRow → Row
of_current current = current.row

abbrev pub of_deletion : Deletion → Row
of_deletion deletion = deletion.row
