-- Rows and pairs on their way to a listing.
use Rattle.std.specs.Prelude.{◌≡◌, ◌↔◌, ℕ, Bool, true, List, [], ◌∷◌, ◌++◌, Contains, Option, Some, None, map, nat_eq}
use Rattle.std.specs.Prelude.{if◌then◌else◌}
use Rattle.std.specs.Cmp.Lexicographic.{pointwise}
use Rattle.std.specs.List.{AllPairs}
use Rattle.std.specs.List.Sorted.{IsSortedByKey}
use Rattle.std.specs.Ordering.{nat_cmp}
use Rattle.occurrences.specs.Row.{RowBefore}
use Rattle.occurrences.specs.declared.place.CurrentRow.{CurrentRow}
use Rattle.occurrences.specs.declared.place.Deletion.{Deletion}
use Rattle.occurrences.specs.declared.row.Row.{Row}
use Rattle.external_dependencies.specs.declared.pairs.Pair.{Pair}
use Rattle.planner_machine.specs.Content.{Sets}
use Rattle.planner_machine.specs.Shown.{IsOfApp, LinkedRows}
use Rattle.plan_store_lists.specs.Rows.{AreRows}
use Rattle.plan_store.specs.Listings.{EndsSo, Shown, Marked, Plain}
use Rattle.plan_store.specs.declared.listings.ListFault.{ListFault}

-- the same rows, by input arrival, application and serial
pub record SortsRows {X : Type 0} (row_of : X → Row) (xs ys : List X) : Type 0 where
  pub rising : AreRows row_of xs → AllPairs (λ x y. RowBefore (row_of x) (row_of y)) ys
  pub same : (x : X) → Contains ys x ↔ Contains xs x

-- a row as a listing shows it, with its letter or plain
abbrev pub shown_as : {X : Type 0} → (X → Row) → (X → ℕ) → Bool → X → Shown
shown_as row_of letter_of is_plain x = if is_plain then Plain (row_of x) else Marked (row_of x) (letter_of x)

-- what a listing of the rows shows, of one application or of all
pub record ShowsSet {X : Type 0} (row_of : X → Row) (letter_of : X → ℕ) (is_plain : Bool) (xs : List X)
    (app : Option (List ℕ)) (items : List Shown) : Type 0 where
  pub rows : List X
  pub rising : AllPairs (λ x y. RowBefore (row_of x) (row_of y)) rows
  pub same : (x : X) → Contains rows x ↔ (Contains xs x × IsOfApp app (row_of x).key.app)
  pub shown : items ≡ map (shown_as row_of letter_of is_plain) rows

-- the sink accepted the first of these items, and the fault says why no more
pub record EndsWithin {K : Type 0} (Accepts Refuses : K → Shown → K → Type 0) (old : K) (items : List Shown) (new : K)
    (fault : ListFault) : Type 0 where
  pub done : List Shown
  pub rest : List Shown
  pub parts : items ≡ done ++ rest
  pub ends : EndsSo Accepts Refuses old done rest new fault

-- the row under a serial, in whatever set it is
abbrev pub row_in : Option Row → Option CurrentRow → Option Row → Option Deletion → Option Row
row_in (Some row) _ _ _ = Some row
row_in None (Some current) _ _ = Some current.row
row_in None None (Some row) _ = Some row
row_in None None None (Some deletion) = Some deletion.row
row_in None None None None = None

abbrev pub row_at : Sets → ℕ → Option Row
row_at s serial = row_in (s.ltp serial) (s.cp serial) (s.history serial) (s.deletions serial)

-- the rows of all sets, by serial
pub record AreBySerial {B : Type 0} (row_of : B → Row) (s : Sets) (rows : List B) : Type 0 where
  pub rising : IsSortedByKey (λ b. (row_of b).serial) nat_cmp rows
  pub only : (b : B) → Contains rows b → row_at s (row_of b).serial ≡ Some (row_of b)
  pub all : (serial : ℕ) (row : Row) → row_at s serial ≡ Some row → (b : B) × Contains rows b × (row_of b ≡ row)

-- whether a row is of the application, or every row counts
abbrev pub is_of_app : Option (List ℕ) → Row → Bool
is_of_app None row = true
is_of_app (Some app) row = pointwise nat_eq row.key.app app

-- both rows of a pair, where its successor is of the application
abbrev pub link_of : Option (List ℕ) → Option Row → Option Row → Option LinkedRows
link_of app (Some successor) (Some predecessor) =
    if is_of_app app successor then Some (record { successor = successor; predecessor = predecessor }) else None
link_of app (Some successor) None = None
link_of app None predecessor = None

abbrev pub link_at : Sets → Option (List ℕ) → Pair → Option LinkedRows
link_at s app pair = link_of app (row_at s pair.successor) (row_at s pair.predecessor)

abbrev pub linked_rows : Row × Row → LinkedRows
linked_rows both = record { successor = both.0; predecessor = both.1 }

-- with one more link in front, if there is one
abbrev pub with_link : Option LinkedRows → List LinkedRows → List LinkedRows
with_link (Some link) links = link ∷ links
with_link None links = links

abbrev pub links_at : Sets → Option (List ℕ) → List Pair → List LinkedRows
links_at s app [] = []
links_at s app (pair ∷ pairs) = with_link (link_at s app pair) (links_at s app pairs)
