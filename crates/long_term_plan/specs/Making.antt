-- What statements that make rows of the long-term plan change.
use Rattle.std.specs.Prelude.{◌≡◌, ◌≢◌, ℕ, suc, ◌+◌, List, [], ◌∷◌, Contains, length, Option, None, Some}
use Rattle.app_occurrences.specs.Active.{HasNoCalendar, HasNoPeriod, IsLeastName}
use Rattle.app_definitions.specs.declared.definitions.Definitions.{Definitions}
use Rattle.occurrences.specs.declared.place.Place.TheVariants.{LongTerm}
use Rattle.occurrences.specs.declared.refusal.Refusal.{Refusal}
use Rattle.occurrences.specs.declared.refusal.Refusal.TheVariants.{CalendarUndefined, PeriodUndefined, TooManyRows}
use Rattle.occurrences.specs.declared.reply.Reply.TheVariants.{Made}
use Rattle.occurrences.specs.declared.row.Row.{Row}
use Rattle.external_dependencies.specs.declared.links.Link.{Link}
use Rattle.planner_machine.specs.declared.content.Bounds.{Bounds}
use Rattle.planner_machine.specs.declared.content.Draft.{Draft}
use Rattle.planner_machine.specs.Content.{Content, Sets, midnight}
use Rattle.planner_machine.specs.Drafts.{AreDrafts, IsMade, NamesWithin}
use Rattle.planner_machine.specs.Moves.{numbered_row, with_bounds, with_made}
use Rattle.planner_machine.specs.Pairs.{ArePairs}
use Rattle.planner_machine.specs.Plans.{HoldTooMany}
use Rattle.planner_machine.specs.RowsSound.{RowsSound}
use Rattle.plan_store.specs.Changes.{Fits, LeadsOn, MovesNothing, lists_after, pairs_after, sets_after}
use Rattle.plan_store.specs.declared.changes.Change.{Change}
use Rattle.plan_store.specs.declared.changes.DefinitionChange.TheVariants.{AsBefore}
use Rattle.plan_store.specs.declared.changes.Verdict.{Verdict}
use Rattle.plan_store.specs.declared.changes.Verdict.TheVariants.{Done, Refused}

-- the drafts as rows, numbered from n + 1 on in their order
abbrev pub numbered : ℕ → List Draft → List Row
numbered n [] = []
numbered n (draft ∷ more) = numbered_row (suc n) draft ∷ numbered (suc n) more

-- an application that lacks a definition: the least that lacks its calendar, and else the least that lacks a period
abbrev pub LacksDefinition : Definitions → Option Refusal → Type 0
LacksDefinition all None = IsLeastName (HasNoCalendar all) None × IsLeastName (HasNoPeriod all) None
LacksDefinition all (Some (CalendarUndefined app)) = IsLeastName (HasNoCalendar all) (Some app)
LacksDefinition all (Some (PeriodUndefined app)) =
    IsLeastName (HasNoCalendar all) None × IsLeastName (HasNoPeriod all) (Some app)
LacksDefinition all (Some _) = ⊥

-- what that application lacks where it is active: its calendar, and else a period
abbrev pub LacksOwnDefinition : Definitions → List ℕ → Option Refusal → Type 0
LacksOwnDefinition all app None = (HasNoCalendar all app → ⊥) × (HasNoPeriod all app → ⊥)
LacksOwnDefinition all app (Some (CalendarUndefined least)) = (least ≡ app) × HasNoCalendar all app
LacksOwnDefinition all app (Some (PeriodUndefined least)) =
    (HasNoCalendar all app → ⊥) × (least ≡ app) × HasNoPeriod all app
LacksOwnDefinition all app (Some _) = ⊥

-- the sets with these bounds, and with the drafts made in the long-term plan
abbrev pub planned_sets : Bounds → List Draft → Sets → Sets
planned_sets b new s = with_made LongTerm new (with_bounds b s)

-- the content admits the change, which makes these sets, puts the lists into force and lets the pairs follow; all else
-- stays, and no row is written that doesn't change
pub record MakesSets (c : Content) (s : Sets) (links : List Link) (change : Change) : Type 0 where
  pub fits : Fits change c
  pub sets : sets_after change c.sets ≡ s
  pub changed : (x : Row) → Contains change.ltp.changed.items x → c.sets.ltp x.serial ≢ Some x
  pub cp : MovesNothing change.cp
  pub history : MovesNothing change.history
  pub deletions : change.deletions.changed.items ≡ []
  pub in_force : lists_after change.in_force c.in_force ≡ links
  pub pairs : ArePairs c.pairs links s (pairs_after change.pairs c.pairs)
  pub leads : LeadsOn c.pairs change.pairs
  pub definitions : change.definitions ≡ AsBefore
  pub job : change.job ≡ None

-- the drafts are made, and counted in the reply
abbrev pub MakesDrafts : Content → Bounds → List Link → List Draft → Verdict → Type 0
MakesDrafts c b links new (Done change reply) =
    MakesSets c (planned_sets b new c.sets) links change × (reply ≡ Made (length new) 0)
MakesDrafts c b links new (Refused refusal) = ⊥

-- the rows stay sound where the drafts are made
abbrev pub KeepsRowsSound : Content → Bounds → List Draft → Type 0
KeepsRowsSound c b new = RowsSound (planned_sets b new c.sets)

-- the keys that are named from a moment to the last day of the bounds, and new
abbrev pub AreDaysAdded : Content → Bounds → ℕ → List Draft → Type 0
AreDaysAdded c b first new =
    AreDrafts (IsMade (NamesWithin c.definitions first (midnight (b.last_day + 1))) c.sets) new

-- they are made and the sets don't hold too many, or they would hold too many
abbrev pub IsMadeOrTooMany : Content → Bounds → List Link → List Draft → Verdict → Type 0
IsMadeOrTooMany c b links new (Done change reply) =
    (HoldTooMany (planned_sets b new c.sets) → ⊥) × MakesDrafts c b links new (Done change reply)
IsMadeOrTooMany c b links new (Refused refusal) = HoldTooMany (planned_sets b new c.sets) × (refusal ≡ TooManyRows)

-- all of them are made, or they would be too many
pub record AddsDays (c : Content) (b : Bounds) (first : ℕ) (links : List Link) (verdict : Verdict) : Type 0 where
  pub new : List Draft
  pub are_new : AreDaysAdded c b first new
  pub outcome : IsMadeOrTooMany c b links new verdict
