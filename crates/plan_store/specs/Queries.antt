-- What is read of history, as a list: of an application the last row at a moment or before it, which is before the
-- next minute.
use Rattle.std.specs.Prelude.{◌≡◌, ◌≢◌, ◌⊎◌, ℕ, ◌+◌, ◌<◌, Contains, List, Option, Some}
use Rattle.std.specs.List.{AllPairs}
use Rattle.app_definitions.specs.declared.definitions.Definitions.{Definitions}
use Rattle.occurrences.specs.declared.place.CurrentRow.{CurrentRow}
use Rattle.occurrences.specs.declared.row.Row.{Row}
use Rattle.occurrences.specs.declared.status.Status.TheVariants.{W}
use Rattle.external_dependencies.specs.Link.{Lists}
use Rattle.external_dependencies.specs.declared.links.Link.{Link}
use Rattle.planner_machine.specs.declared.content.Bounds.{Bounds}
use Rattle.plan_store.specs.HistoryReads.{HasLast, IsLastOf, ListsDefined}
use Rattle.plan_store.specs.declared.queries.LastQuery.{LastQuery}

-- one of these is the last row of the application before the minute
abbrev pub IsQueriedIn : List LastQuery → List ℕ → ℕ → Type 0
IsQueriedIn queries app minute = (query : LastQuery) × Contains queries query × (query.app ≡ app)
    × (minute ≡ query.moment + 1)

-- exactly what is read is added to these
pub record AddsQueries (Asked : List ℕ → ℕ → Type 0) (old new : List LastQuery) : Type 0 where
  pub stay : (query : LastQuery) → Contains old query → Contains new query
  pub come : (query : LastQuery) → Contains new query → Contains old query ⊎ Asked query.app (query.moment + 1)
  pub found : (app : List ℕ) (minute : ℕ) → Asked app minute → IsQueriedIn new app minute

-- none of them appears twice
abbrev pub AreDistinct : {X : Type 0} → List X → Type 0
AreDistinct xs = AllPairs (λ x y. x ≢ y) xs

-- it is read for one of these
abbrev pub ReadByOne : {X : Type 0} → (X → List ℕ → ℕ → Type 0) → List X → List ℕ → ℕ → Type 0
ReadByOne {X} Asks xs app minute = (x : X) × Contains xs x × Asks x app minute

-- the last of that application before that minute
abbrev pub IsAsked : List ℕ → ℕ → List ℕ → ℕ → Type 0
IsAsked of_app before app minute = (app ≡ of_app) × (minute ≡ before)

-- the last before that minute of each application that is listed
abbrev pub ReadsEach : (List ℕ → Type 0) → ℕ → List ℕ → ℕ → Type 0
ReadsEach IsListed before app minute = (minute ≡ before) × IsListed app

-- the application is in a list that is defined
abbrev pub IsDefined : Definitions → List ℕ → Type 0
IsDefined all app = (naming : List ℕ) × ListsDefined all naming app

-- the application stands in the other's list that is in force, or in the one that is defined
abbrev pub IsInEither : List Link → Definitions → List ℕ → List ℕ → Type 0
IsInEither links all naming app = Lists links naming app ⊎ ListsDefined all naming app

-- of a row of the current plan, where it waits, the last at its arrival or before it of each application in its lists
abbrev pub ReadsRow : List Link → Definitions → CurrentRow → List ℕ → ℕ → Type 0
ReadsRow links all current app minute = (current.status ≡ W)
    × ReadsEach (IsInEither links all current.row.key.app) (current.row.key.ia + 1) app minute

-- the last at the plan end or before it, if there is a plan, of each application in a list
abbrev pub ReadsEnd : List Link → Definitions → Option Bounds → List ℕ → ℕ → Type 0
ReadsEnd links all bounds app minute = (known : Bounds) × (bounds ≡ Some known)
    × ReadsEach (λ named. (naming : List ℕ) × IsInEither links all naming named) (known.plan_end + 1) app minute

-- and of each application in the lists of one
abbrev pub ReadsEndOf : List Link → Definitions → Option Bounds → List ℕ → List ℕ → ℕ → Type 0
ReadsEndOf links all bounds naming app minute = (known : Bounds) × (bounds ≡ Some known)
    × ReadsEach (IsInEither links all naming) (known.plan_end + 1) app minute

-- no row of the application arrives before the minute
abbrev pub LacksBefore : (history : ℕ → Option Row) → List ℕ → ℕ → Type 0
LacksBefore history app minute = (serial : ℕ) (row : Row) → history serial ≡ Some row → row.key.app ≡ app
    → row.key.ia < minute → ⊥

-- the last row of the application before the minute is added, if there is any
pub record AddsLast (history : ℕ → Option Row) (app : List ℕ) (minute : ℕ) (old new : ℕ → Option Row) : Type 0 where
  pub stay : (serial : ℕ) (row : Row) → old serial ≡ Some row → new serial ≡ Some row
  pub come : (serial : ℕ) (row : Row) → new serial ≡ Some row
      → (old serial ≡ Some row) ⊎ ((history serial ≡ Some row) × IsLastOf history app minute row)
  pub held : HasLast history new app minute
