-- The pairs of one application, found from its rows.
use Rattle.std.specs.Prelude.{◌≡◌, ◌↔◌, ◌⊎◌, ℕ, Bool, false, List, Contains, None, Option, Some}
use Rattle.std.specs.List.Sorted.{IsSortedByKey}
use Rattle.std.specs.Ordering.{nat_cmp}
use Rattle.occurrences.specs.declared.row.Row.{Row}
use Rattle.external_dependencies.specs.declared.pairs.Pair.{Pair}
use Rattle.planner_machine.specs.Content.{Content, Sets}
use Rattle.planner_machine.specs.Moves.{or_else}
use Rattle.plan_store_lists.specs.Rows.{OneEach, look_up}
use Rattle.plan_store.specs.Listed.{is_of_app, row_at}
use Rattle.plan_store.specs.Parts.{Rest, with_rest}
use Rattle.plan_store.specs.Views.{row_serial}

-- the sets with these rows in history too, each unless one of its serial is there
abbrev pub with_others : List Row → Sets → Sets
with_others others s = record {
  bounds = s.bounds;
  issued = s.issued;
  ltp = s.ltp;
  cp = s.cp;
  history = λ serial. or_else (s.history serial) (look_up row_serial others serial);
  deletions = s.deletions;
}

-- the rows are in the order of their serials, and those of one serial are equal
pub record AreBySerials (rows : List Row) : Type 0 where
  pub rising : IsSortedByKey row_serial nat_cmp rows
  pub one_each : OneEach row_serial rows

-- the pairs of each of the rows that is of the application are added, and no others than pairs of these
pub record AddsPairs {X : Type 0} (row_of : X → Row) (app : List ℕ) (pairs : List Pair) (rows : List X)
    (old new : List Pair) : Type 0 where
  pub stay : (pair : Pair) → Contains old pair → Contains new pair
  pub come : (pair : Pair) → Contains new pair → Contains old pair ⊎ Contains pairs pair
  pub found : (x : X) (pair : Pair) → Contains rows x → (row_of x).key.app ≡ app → Contains pairs pair
      → pair.successor ≡ (row_of x).serial → Contains new pair

-- of the pairs all whose successor is a row of the application in these sets, and maybe more
pub record HasAppPairs (app : List ℕ) (s : Sets) (pairs found : List Pair) : Type 0 where
  pub only : (pair : Pair) → Contains found pair → Contains pairs pair
  pub each : (pair : Pair) (row : Row) → Contains pairs pair → row_at s pair.successor ≡ Some row
      → row.key.app ≡ app → Contains found pair

-- the lists, of a content whose history and deletions these are, and the other rows have no row that isn't in the
-- content, and both rows of each pair of the application
pub record HasEnds (app : List ℕ) (rest : Rest) (others : List Row) (c : Content) : Type 0 where
  pub ordered : AreBySerials others
  pub only : (serial : ℕ) (row : Row) → row_at (with_others others c.sets) serial ≡ Some row
      → row_at (with_rest rest c).sets serial ≡ Some row
  pub successors : (pair : Pair) (row : Row) → Contains c.pairs pair
      → row_at (with_rest rest c).sets pair.successor ≡ Some row → row.key.app ≡ app
      → row_at (with_others others c.sets) pair.successor ≡ Some row
  pub predecessors : (pair : Pair) (row : Row) → Contains c.pairs pair
      → row_at (with_rest rest c).sets pair.successor ≡ Some row → row.key.app ≡ app
      → row_at (with_others others c.sets) pair.predecessor ≡ row_at (with_rest rest c).sets pair.predecessor

-- whether the successor is of the application and the predecessor is lacking
abbrev pub lacks_end : List ℕ → Option Row → Option Row → Bool
lacks_end app (Some successor) None = is_of_app (Some app) successor
lacks_end app (Some successor) (Some predecessor) = false
lacks_end app None predecessor = false

-- the serial is the predecessor of a row of the application by one of the pairs, and nothing is under it in these sets
pub record IsLacking (app : List ℕ) (s : Sets) (pairs : List Pair) (serial : ℕ) : Type 0 where
  pub pair : Pair
  pub among : Contains pairs pair
  pub predecessor : pair.predecessor ≡ serial
  pub successor : Row
  pub stands : row_at s pair.successor ≡ Some successor
  pub of_app : successor.key.app ≡ app
  pub lacks : row_at s pair.predecessor ≡ None

-- exactly those
abbrev pub AreLacking : List ℕ → Sets → List Pair → List ℕ → Type 0
AreLacking app s pairs serials = (serial : ℕ) → Contains serials serial ↔ IsLacking app s pairs serial

-- exactly the predecessors of the application's rows that the lists and the other rows don't have
abbrev pub AreUnknownEnds : List ℕ → List Row → Content → List ℕ → Type 0
AreUnknownEnds app others c serials = AreLacking app (with_others others c.sets) c.pairs serials
