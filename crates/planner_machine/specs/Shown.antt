-- What `list` and the trials show: rows and their marks. The crates above say how they print.
use Rattle.std.specs.Prelude.{◌≡◌, ◌⊎◌, ◌↔◌, ℕ, ◌<◌, List, length, Contains, Option, Some, None}
use Rattle.std.specs.List.{AllPairs}
use Rattle.occurrences.specs.Row.{RowBefore}
use Rattle.occurrences.specs.declared.place.Place.{Place}
use Rattle.occurrences.specs.declared.place.Place.TheVariants.{LongTerm, Current, History, Deleted}
use Rattle.occurrences.specs.declared.place.Reason.TheVariants.{Plan, Withdrawn}
use Rattle.occurrences.specs.declared.reply.Reply.{Reply}
use Rattle.occurrences.specs.declared.reply.Reply.TheVariants.{Rows}
use Rattle.occurrences.specs.declared.row.Row.{Row}
use Rattle.occurrences.specs.declared.status.Status.{Status}
use Rattle.occurrences.specs.declared.status.Status.TheVariants.{W, C, D}
use Rattle.external_dependencies.specs.Link.{link_cmp}
use Rattle.external_dependencies.specs.Rising.{IsRising}
use Rattle.external_dependencies.specs.declared.links.Link.{Link}
use Rattle.external_dependencies.specs.declared.pairs.Pair.{Pair}
use Rattle.external_dependencies.specs.declared.rows.PlacedRow.{PlacedRow}
use Rattle.planner_machine.specs.Content.{Content, Sets, IsOnlyAt}
use Rattle.planner_machine.specs.Decision.{Decision}

-- of one application, or of any where none is given
abbrev pub IsOfApp : Option (List ℕ) → List ℕ → Type 0
IsOfApp None app = Unit {0}
IsOfApp (Some only) app = app ≡ only

-- `list` of a set

pub data Listed : Type 0 where
  LongTermPlan : Listed
  CurrentPlan : Listed
  InHistory : Listed
  InDeletions : Listed

-- the place is one of the set
abbrev pub IsPlaceOf : Listed → Place → Type 0
IsPlaceOf LongTermPlan LongTerm = Unit {0}
IsPlaceOf CurrentPlan (Current status) = Unit {0}
IsPlaceOf InHistory History = Unit {0}
IsPlaceOf InDeletions (Deleted reason) = Unit {0}
IsPlaceOf listed place = ⊥

abbrev pub IsListed : Listed → Option (List ℕ) → Sets → PlacedRow → Type 0
IsListed listed app s p = (serial : ℕ) × IsOnlyAt s serial p × IsPlaceOf listed p.place × IsOfApp app p.row.key.app

-- the rows of the set, by input arrival, application and serial; the place of each gives its mark: none in the
-- long-term plan, the status in the current plan, complete in history, the reason in the deletions
pub record ListsRows (listed : Listed) (app : Option (List ℕ)) (s : Sets) (shown : List PlacedRow) : Type 0 where
  pub rising : AllPairs (λ p q. RowBefore p.row q.row) shown
  pub exactly : (p : PlacedRow) → Contains shown p ↔ IsListed listed app s p

-- `list` of the dependencies

-- a successor and its predecessor
pub record LinkedRows : Type 0 where
  pub successor : Row
  pub predecessor : Row

abbrev pub IsLinked : Option (List ℕ) → Content → LinkedRows → Type 0
IsLinked app c l =
    (pair : Pair) × Contains c.pairs pair
    × ((place : Place) × IsOnlyAt c.sets pair.successor (record { row = l.successor; place = place }))
    × ((place : Place) × IsOnlyAt c.sets pair.predecessor (record { row = l.predecessor; place = place }))
    × IsOfApp app l.successor.key.app

-- by the successor's serial, then by the predecessor's
abbrev pub LinkedBefore : LinkedRows → LinkedRows → Type 0
LinkedBefore l m = (l.successor.serial < m.successor.serial)
    ⊎ ((l.successor.serial ≡ m.successor.serial) × (l.predecessor.serial < m.predecessor.serial))

pub record ListsPairs (app : Option (List ℕ)) (c : Content) (shown : List LinkedRows) : Type 0 where
  pub rising : AllPairs LinkedBefore shown
  pub exactly : (l : LinkedRows) → Contains shown l ↔ IsLinked app c l

-- `list` of the lists in force

-- a predecessor in the list of an application
abbrev pub IsInForce : Option (List ℕ) → Content → Link → Type 0
IsInForce app c link = Contains c.in_force link × IsOfApp app link.app

-- by application, then by predecessor
pub record ListsLinks (app : Option (List ℕ)) (c : Content) (shown : List Link) : Type 0 where
  pub rising : IsRising link_cmp shown
  pub exactly : (link : Link) → Contains shown link ↔ IsInForce app c link

-- all refuse nothing, reply how many items they show, and change nothing

abbrev pub list_rows : Listed → Option (List ℕ) → Decision Content
list_rows listed app = record {
  Refuses = λ c r. ⊥;
  Does = λ c reply c'. (c' ≡ c)
      × ((shown : List PlacedRow) × ListsRows listed app c.sets shown × (reply ≡ Rows (length shown)));
}

abbrev pub list_pairs : Option (List ℕ) → Decision Content
list_pairs app = record {
  Refuses = λ c r. ⊥;
  Does = λ c reply c'. (c' ≡ c) × ((shown : List LinkedRows) × ListsPairs app c shown × (reply ≡ Rows (length shown)));
}

abbrev pub list_links : Option (List ℕ) → Decision Content
list_links app = record {
  Refuses = λ c r. ⊥;
  Does = λ c reply c'. (c' ≡ c) × ((shown : List Link) × ListsLinks app c shown × (reply ≡ Rows (length shown)));
}

-- a trial of a planning statement: from the sets as they are to the sets as the statement would leave them

pub data PlanMark : Type 0 where
  WouldBeMade : PlanMark
  WouldBeWithdrawn : PlanMark

pub record PlanChange : Type 0 where
  pub row : Row
  pub mark : PlanMark

-- a row is made where its serial is new, and withdrawn where it leaves the long-term plan for the deletions
abbrev pub IsPlanStep : Sets → Sets → ℕ → Row → PlanMark → Type 0
IsPlanStep s s' serial row WouldBeMade = (s.issued < serial)
    × IsOnlyAt s' serial (record { row = row; place = LongTerm })
IsPlanStep s s' serial row WouldBeWithdrawn =
    IsOnlyAt s serial (record { row = row; place = LongTerm })
    × IsOnlyAt s' serial (record { row = row; place = Deleted Withdrawn })

abbrev pub IsPlanChange : Sets → Sets → PlanChange → Type 0
IsPlanChange s s' change = (serial : ℕ) × IsPlanStep s s' serial change.row change.mark

-- in one list, by input arrival, application and serial
pub record ShowsPlan (s s' : Sets) (shown : List PlanChange) : Type 0 where
  pub rising : AllPairs (λ a b. RowBefore a.row b.row) shown
  pub exactly : (change : PlanChange) → Contains shown change ↔ IsPlanChange s s' change

-- a trial of a daily plan

pub data DailyMark : Type 0 where
  WouldBeMoved : DailyMark
  WouldBeCarried : DailyMark
  WouldBeHistory : DailyMark
  WouldBeDeleted : DailyMark

pub record DailyChange : Type 0 where
  pub row : Row
  pub mark : DailyMark
  pub status : Status

-- a row is moved into the current plan and waits there; carried with its status; completed, into history; deleted,
-- into the deletions
abbrev pub IsDailyStep : DailyMark → Status → Place → Place → Type 0
IsDailyStep WouldBeMoved status before after = (status ≡ W) × (before ≡ LongTerm) × (after ≡ Current W)
IsDailyStep WouldBeCarried status before after = (before ≡ Current status) × (after ≡ Current status)
IsDailyStep WouldBeHistory status before after = (status ≡ C) × (before ≡ Current C) × (after ≡ History)
IsDailyStep WouldBeDeleted status before after = (status ≡ D) × (before ≡ Current D) × (after ≡ Deleted Plan)

abbrev pub IsDailyChange : Sets → Sets → DailyChange → Type 0
IsDailyChange s s' change =
    (serial : ℕ) × (before : Place) × (after : Place) × IsOnlyAt s serial (record { row = change.row; place = before })
    × IsOnlyAt s' serial (record { row = change.row; place = after })
    × IsDailyStep change.mark change.status before after

pub record ShowsDaily (s s' : Sets) (shown : List DailyChange) : Type 0 where
  pub rising : AllPairs (λ a b. RowBefore a.row b.row) shown
  pub exactly : (change : DailyChange) → Contains shown change ↔ IsDailyChange s s' change

-- what an accepted trial of a statement shows: the way from the sets as they are to the sets as the statement would
-- leave them
abbrev pub TrialShows : {Shown : Type 0} → (Sets → Sets → Shown → Type 0) → Decision Content → Content → Reply → Shown
    → Type 0
TrialShows Shows d c reply shown = (left : Content) × d.Does c reply left × Shows c.sets left.sets shown
