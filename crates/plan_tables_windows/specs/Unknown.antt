-- What has to be loaded of history and of the deletions, as serials.
use Rattle.std.specs.Prelude.{◌≡◌, ◌⊎◌, ◌||◌, ℕ, Bool, false, true, Contains, List, Some, is_some, nat_lt}
use Rattle.occurrences.specs.declared.key.Key.{Key}
use Rattle.occurrences.specs.declared.place.Deletion.{Deletion}
use Rattle.occurrences.specs.declared.row.Row.{Row}
use Rattle.external_dependencies.specs.declared.pairs.Pair.{Pair}
use Rattle.planner_machine.specs.Content.{Content, Sets}
use Rattle.planner_machine.specs.Sound.{IsSound}
use Rattle.plan_store_lists.specs.Rows.{of_current, of_deletion, of_row}
use Rattle.plan_store.specs.Parts.{IsPartOf, Knows, KnowsDeletion, Rest, is_planned, with_rest}
use Rattle.plan_store.specs.declared.changes.Change.{Change}

-- the serial is not issued, or it is planned
abbrev pub is_elsewhere : Sets → ℕ → Bool
is_elsewhere s serial = nat_lt s.issued serial || is_planned s serial

-- the lists already know what is under the serial in history: nothing is, or they have it
abbrev pub is_settled : Sets → ℕ → Bool
is_settled s serial = is_elsewhere s serial || is_some (s.history serial)

-- and the same of the deletions
abbrev pub is_settled_deletion : Sets → ℕ → Bool
is_settled_deletion s serial = is_elsewhere s serial || is_some (s.deletions serial)

-- exactly the serials are added that are named and not known
pub record AddsUnsettled (settled : ℕ → Bool) (Named : ℕ → Type 0) (old new : List ℕ) : Type 0 where
  pub stay : (serial : ℕ) → Contains old serial → Contains new serial
  pub come : (serial : ℕ) → Contains new serial → Contains old serial ⊎ (Named serial × (settled serial ≡ false))
  pub found : (serial : ℕ) → Named serial → (settled serial ≡ true) ⊎ Contains new serial

-- one of these names the serial
abbrev pub NamedByOne : {X : Type 0} → (X → ℕ → Type 0) → List X → ℕ → Type 0
NamedByOne {X} Names xs serial = (x : X) × Contains xs x × Names x serial

-- it is the serial of one of the rows
abbrev pub IsSerialIn : {X : Type 0} → (X → Row) → List X → ℕ → Type 0
IsSerialIn row_of rows = NamedByOne (λ x serial. serial ≡ (row_of x).serial) rows

-- it is the predecessor of one of the pairs
abbrev pub IsPredecessorIn : List Pair → ℕ → Type 0
IsPredecessorIn pairs = NamedByOne (λ (pair : Pair) serial. serial ≡ pair.predecessor) pairs

-- it is a predecessor of the other
abbrev pub IsPredecessorOf : Content → ℕ → ℕ → Type 0
IsPredecessorOf c successor serial = (pair : Pair) × Contains c.pairs pair × (pair.successor ≡ successor)
    × (serial ≡ pair.predecessor)

-- it is a predecessor of one of the rows
abbrev pub IsPredecessorOfRow : Content → List Row → ℕ → Type 0
IsPredecessorOfRow c rows = NamedByOne (λ (row : Row) serial. IsPredecessorOf c row.serial serial) rows

-- it is a predecessor of one of the rows, which are added to a plan, and may be in history
abbrev pub IsPredecessorOfNew : {X : Type 0} → (X → Row) → Content → List X → ℕ → Type 0
IsPredecessorOfNew row_of c rows = NamedByOne (λ x serial. (is_elsewhere c.sets (row_of x).serial ≡ false)
    × IsPredecessorOf c (row_of x).serial serial) rows

-- it is a predecessor of a row of the key that the lists have in history
abbrev pub IsPredecessorOfKey : Content → Key → ℕ → Type 0
IsPredecessorOfKey c key serial = (row : Row) × (c.sets.history row.serial ≡ Some row) × (row.key ≡ key)
    × IsPredecessorOf c row.serial serial

-- the change names it in history: a row goes or changes there; or it is the predecessor of a pair that is added, or of
-- a row that is added to a plan
abbrev pub IsNamed : Change → Content → ℕ → Type 0
IsNamed change c serial = IsSerialIn of_row change.history.gone.items serial
    ⊎ (IsSerialIn of_row change.history.changed.items serial ⊎ (IsPredecessorIn change.pairs.added serial
    ⊎ (IsPredecessorOfNew of_row c change.ltp.put.items serial
    ⊎ IsPredecessorOfNew of_current c change.cp.put.items serial)))

-- the change names it in the deletions: it goes or changes there
abbrev pub IsNamedDeletion : Change → ℕ → Type 0
IsNamedDeletion change serial = IsSerialIn of_deletion change.deletions.gone.items serial
    ⊎ IsSerialIn of_deletion change.deletions.changed.items serial

-- the lists have all that others have, with the same rest
pub record HasMore (rest : Rest) (c more : Content) : Type 0 where
  pub same : with_rest rest more ≡ with_rest rest c
  pub history : (serial : ℕ) (row : Row) → c.sets.history serial ≡ Some row → more.sets.history serial ≡ Some row
  pub deletions : (serial : ℕ) (deletion : Deletion) → c.sets.deletions serial ≡ Some deletion
      → more.sets.deletions serial ≡ Some deletion

-- whatever the rest is, lists that have a part of it and know these serials of history and of the deletions have what
-- is needed
abbrev pub FindsOut : Content → List ℕ → List ℕ → (Rest → Content → Type 0) → Type 0
FindsOut c history deletions IsSo = (rest : Rest) (more : Content) → HasMore rest c more → ∥ IsPartOf rest more ∥₁
    → ∥ IsSound (with_rest rest more) ∥₁ → ((serial : ℕ) → Contains history serial → Knows rest more serial)
    → ((serial : ℕ) → Contains deletions serial → KnowsDeletion rest more serial) → IsSo rest more
