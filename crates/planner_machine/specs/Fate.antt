-- The fate of one occurrence: where a statement that is accepted leaves it. A fate reads that occurrence, the
-- statement, and the definitions and bounds of that moment. It reads no table and no other occurrence.
use Rattle.std.specs.Prelude.{◌≡◌, ◌≢◌, ◌⊎◌, ℕ, List, nat_lt, if◌then◌else◌, unwrap_or}
use Rattle.app_definitions.specs.declared.definitions.Definitions.{Definitions}
use Rattle.occurrences.specs.Key.{key_eq}
use Rattle.occurrences.specs.Status.{changed_status}
use Rattle.occurrences.specs.declared.key.Key.{Key}
use Rattle.occurrences.specs.declared.place.Place.{Place}
use Rattle.occurrences.specs.declared.place.Place.TheVariants.{LongTerm, Current, History, Deleted}
use Rattle.occurrences.specs.declared.place.Reason.TheVariants.{Operator, Plan, Withdrawn}
use Rattle.occurrences.specs.declared.row.Origin.{Origin}
use Rattle.occurrences.specs.declared.row.Origin.TheVariants.{Generated, Added}
use Rattle.occurrences.specs.declared.row.Row.{Row}
use Rattle.occurrences.specs.declared.status.Action.{Action}
use Rattle.occurrences.specs.declared.status.Status.TheVariants.{W, C, D}
use Rattle.external_dependencies.specs.declared.rows.PlacedRow.{PlacedRow}
use Rattle.planner_machine.specs.declared.content.Draft.{Draft}
use Rattle.planner_machine.specs.Drafts.{NamesDraft}

-- where an occurrence was before, and where it is after: its row and its place
abbrev pub Fate : Type 1
Fate = PlacedRow → PlacedRow → Type 0

-- most statements leave it
abbrev pub Stays : Fate
Stays p q = q ≡ p

-- a daily plan to t: what arrives before t in the long-term plan goes to the current plan, and waits there; what is
-- complete in the current plan goes to history, and what is deleted there to the deletions; all else stays
abbrev pub place_after_daily_plan : ℕ → Row → Place → Place
place_after_daily_plan t row LongTerm = if nat_lt row.key.ia t then Current W else LongTerm
place_after_daily_plan t row (Current C) = History
place_after_daily_plan t row (Current D) = Deleted Plan
place_after_daily_plan t row place = place

abbrev pub DailyFate : ℕ → Fate
DailyFate t p q = q ≡ record { row = p.row; place = place_after_daily_plan t p.row p.place }

-- an action on its key: in the current plan it takes the status that the action leads to, where its status allows it
abbrev pub place_after_action : Key → Action → Row → Place → Place
place_after_action key action row (Current status) =
    Current (if key_eq row.key key then unwrap_or (changed_status status action) status else status)
place_after_action key action row place = place

abbrev pub ActionFate : Key → Action → Fate
ActionFate key action p q = q ≡ record { row = p.row; place = place_after_action key action p.row p.place }

-- a deletion of its key from the long-term plan
abbrev pub place_after_deletion : Key → Row → Place → Place
place_after_deletion key row LongTerm = if key_eq row.key key then Deleted Operator else LongTerm
place_after_deletion key row place = place

abbrev pub DeletionFate : Key → Fate
DeletionFate key p q = q ≡ record { row = p.row; place = place_after_deletion key p.row p.place }

-- a run cycle named it, when it was made or later
abbrev pub IsGenerated : Origin → Type 0
IsGenerated (Generated name) = Unit {0}
IsGenerated Added = ⊥

-- its key is named now, and it has the run cycle and the deadline that are named now
pub record StaysNamed (all : Definitions) (p q : PlacedRow) : Type 0 where
  pub draft : Draft
  pub named : NamesDraft all draft
  pub keyed : draft.key ≡ p.row.key
  pub stays : q ≡ record {
    row = record {
      key = p.row.key;
      serial = p.row.serial;
      deadline = draft.deadline;
      origin = draft.origin;
    };
    place = LongTerm;
  }

-- its key is no longer named, and it is withdrawn
pub record IsWithdrawn (all : Definitions) (p q : PlacedRow) : Type 0 where
  pub unnamed : (draft : Draft) → NamesDraft all draft → draft.key ≢ p.row.key
  pub goes : q ≡ record { row = p.row; place = Deleted Withdrawn }

-- a modify statement looks at the rows of the long-term plan that a run cycle named, of all applications or of one
abbrev pub IsLookedAt : (List ℕ → Type 0) → PlacedRow → Type 0
IsLookedAt Looks p = (p.place ≡ LongTerm) × IsGenerated p.row.origin × Looks p.row.key.app

-- such a row stays named or is withdrawn; all others stay
abbrev pub ModifyFate : (List ℕ → Type 0) → Definitions → Fate
ModifyFate Looks all p q =
    (IsLookedAt Looks p × (StaysNamed all p q ⊎ IsWithdrawn all p q))
    ⊎ ((IsLookedAt Looks p → ⊥) × Stays p q)
