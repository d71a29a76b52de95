-- The items that a listing yields, and what they make of the sink.
use Rattle.std.specs.Prelude.{◌≡◌, ℕ, List, [], ◌∷◌, ◌++◌, length, map, Option}
use Rattle.occurrences.specs.Place.{reason_letter}
use Rattle.occurrences.specs.Status.{status_letter}
use Rattle.occurrences.specs.declared.place.Place.{Place}
use Rattle.occurrences.specs.declared.place.Place.TheVariants.{LongTerm, Current, History, Deleted}
use Rattle.occurrences.specs.declared.row.Row.{Row}
use Rattle.occurrences.specs.declared.status.Status.TheVariants.{C}
use Rattle.external_dependencies.specs.declared.links.Link.{Link}
use Rattle.external_dependencies.specs.declared.rows.PlacedRow.{PlacedRow}
use Rattle.planner_machine.specs.Content.{Content}
use Rattle.planner_machine.specs.Shown.{Listed, LongTermPlan, CurrentPlan, InHistory, InDeletions}
use Rattle.planner_machine.specs.Shown.{LinkedRows, ListsLinks, ListsPairs, ListsRows}
use Rattle.plan_store.specs.declared.listings.Item.{Item}
use Rattle.plan_store.specs.declared.listings.Item.TheVariants as Items
use Rattle.plan_store.specs.declared.listings.ListFault.{ListFault}
use Rattle.plan_store.specs.declared.listings.ListFault.TheVariants as Faults
use Rattle.plan_store.specs.declared.listings.What.{What}
use Rattle.plan_store.specs.declared.listings.What.TheVariants as Whats

-- what an item shows: a row alone, a row and its letter, a successor and its predecessor, or an application and a
-- predecessor in its list with its limit
pub data Shown : Type 0 where
  Plain : Row → Shown
  Marked : Row → ℕ → Shown
  Linked : Row → Row → Shown
  InForce : Link → Shown

abbrev pub item_shown : Item → Shown
item_shown (Items.Plan row) = Plain row.now
item_shown (Items.Marked row letter) = Marked row.now letter
item_shown (Items.Pair successor predecessor) = Linked successor.now predecessor.now
item_shown (Items.Link link) = InForce link.now

-- a row as the list of its set shows it
abbrev pub shown_at : Place → Row → Shown
shown_at LongTerm row = Plain row
shown_at (Current status) row = Marked row (status_letter status)
shown_at History row = Marked row (status_letter C)
shown_at (Deleted reason) row = Marked row (reason_letter reason)

abbrev pub row_shown : PlacedRow → Shown
row_shown p = shown_at p.place p.row

abbrev pub link_shown : LinkedRows → Shown
link_shown l = Linked l.successor l.predecessor

abbrev pub in_force_shown : Link → Shown
in_force_shown link = InForce link

-- the items of a listing, in its order
abbrev pub ShowRows : Listed → Option (List ℕ) → Content → List Shown → Type 0
ShowRows listed app c items =
    (rows : List PlacedRow) × ListsRows listed app c.sets rows × (items ≡ map row_shown rows)

abbrev pub ShowPairs : Option (List ℕ) → Content → List Shown → Type 0
ShowPairs app c items = (links : List LinkedRows) × ListsPairs app c links × (items ≡ map link_shown links)

abbrev pub ShowLinks : Option (List ℕ) → Content → List Shown → Type 0
ShowLinks app c items = (links : List Link) × ListsLinks app c links × (items ≡ map in_force_shown links)

abbrev pub IsListing : What → Option (List ℕ) → Content → List Shown → Type 0
IsListing Whats.Ltp app c items = ShowRows LongTermPlan app c items
IsListing Whats.Cp app c items = ShowRows CurrentPlan app c items
IsListing Whats.History app c items = ShowRows InHistory app c items
IsListing Whats.Deletions app c items = ShowRows InDeletions app c items
IsListing Whats.Dependencies app c items = ShowPairs app c items
IsListing Whats.Links app c items = ShowLinks app c items

-- the sink accepts the items, one after another
abbrev pub AcceptsAll : {K : Type 0} → (K → Shown → K → Type 0) → K → List Shown → K → Type 0
AcceptsAll Accepts old [] new = new ≡ old
AcceptsAll {K} Accepts old (item ∷ items) new = (next : K) × Accepts old item next × AcceptsAll Accepts next items new

-- the sink accepted all items, and so many were counted
pub record EmitsAll {K : Type 0} (Accepts : K → Shown → K → Type 0) (IsWhole : List Shown → Type 0) (old new : K)
    (count : ℕ) : Type 0 where
  pub items : List Shown
  pub whole : IsWhole items
  pub taken : AcceptsAll Accepts old items new
  pub counted : count ≡ length items

-- the sink accepted the first items and, if it is to blame, refused the next
abbrev pub EndsSo : {K : Type 0} → (Accepts Refuses : K → Shown → K → Type 0) → K → List Shown → List Shown → K
    → ListFault
    → Type 0
EndsSo Accepts Refuses old done rest new Faults.Memory = AcceptsAll Accepts old done new
EndsSo Accepts Refuses old done rest new Faults.Device = AcceptsAll Accepts old done new
EndsSo {K} Accepts Refuses old done rest new (Faults.Sink _) =
    (last : K) × (item : Shown) × (later : List Shown)
    × (rest ≡ item ∷ later) × AcceptsAll Accepts old done last × Refuses last item new

pub record EmitsPart {K : Type 0} (Accepts Refuses : K → Shown → K → Type 0) (IsWhole : List Shown → Type 0) (old new : K)
    (fault : ListFault) : Type 0 where
  pub done : List Shown
  pub rest : List Shown
  pub whole : IsWhole (done ++ rest)
  pub ends : EndsSo Accepts Refuses old done rest new fault
