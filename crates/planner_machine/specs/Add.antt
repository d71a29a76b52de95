-- `ltp-add` and `cp-add`: an occurrence is added by hand, to the long-term plan, or waiting to the current plan.
use Rattle.std.specs.Prelude.{◌≡◌, ◌⊎◌, ℕ, ◌+◌, ◌<◌, ◌≤◌, [], ◌∷◌, None, Some}
use Rattle.app_definitions.specs.declared.definitions.Definitions.{Definitions}
use Rattle.occurrences.specs.Place.{IsLive}
use Rattle.occurrences.specs.declared.key.Key.{Key}
use Rattle.occurrences.specs.declared.place.Place.{Place}
use Rattle.occurrences.specs.declared.place.Place.TheVariants.{Current, LongTerm}
use Rattle.occurrences.specs.declared.refusal.Refusal.{Refusal}
use Rattle.occurrences.specs.declared.refusal.Refusal.TheVariants.{DatesOutOfRange, KeyIsLive, NoActiveApplication}
use Rattle.occurrences.specs.declared.refusal.Refusal.TheVariants.{NoPlan, TooManyRows}
use Rattle.occurrences.specs.declared.reply.Reply.{Reply}
use Rattle.occurrences.specs.declared.reply.Reply.TheVariants.{Numbered}
use Rattle.occurrences.specs.declared.status.Status.TheVariants.{W}
use Rattle.external_dependencies.specs.declared.rows.PlacedRow.{PlacedRow}
use Rattle.planner_machine.specs.declared.content.Bounds.{Bounds}
use Rattle.planner_machine.specs.Content.{Content, Sets, IsOnlyAt, midnight}
use Rattle.planner_machine.specs.Decision.{Decision}
use Rattle.planner_machine.specs.Drafts.{added}
use Rattle.planner_machine.specs.InForce.{PutsNone}
use Rattle.planner_machine.specs.Moves.{with_made}
use Rattle.planner_machine.specs.Plans.{ChangesPlans, IsPlannedApp, WouldHoldTooMany}
use Rattle.planner_machine.specs.Meaning.{Meaning, means}

-- the arrival lies outside the part of the days that the place takes: the long-term plan from the plan end to the end
-- of the last day, the current plan from the first day to before the plan end
abbrev pub IsOutside : Bounds → ℕ → Place → Type 0
IsOutside b ia LongTerm = (ia < b.plan_end) ⊎ (midnight (b.last_day + 1) ≤ ia)
IsOutside b ia _ = (ia < midnight b.first_day) ⊎ (b.plan_end ≤ ia)

-- a live occurrence has the key
abbrev pub IsLiveKey : Sets → Key → Type 0
IsLiveKey s key = (serial : ℕ) × (p : PlacedRow) × IsOnlyAt s serial p × IsLive p.place × (p.row.key ≡ key)

-- whether or not the calendars name the key, and whether or not it is in the deletions
abbrev pub Adds : Place → Key → Definitions → Sets → Reply → Sets → Type 0
Adds place key all s reply s' = (reply ≡ Numbered (s.issued + 1)) × (s' ≡ with_made place (added key ∷ []) s)

abbrev pub AddRefused : Place → Key → Content → Refusal → Type 0
AddRefused place key c NoPlan = c.sets.bounds ≡ None
AddRefused place key c DatesOutOfRange = (b : Bounds) × (c.sets.bounds ≡ Some b) × IsOutside b key.ia place
AddRefused place key c NoActiveApplication = IsPlannedApp c.definitions key.app → ⊥
AddRefused place key c KeyIsLive = IsLiveKey c.sets key
AddRefused place key c TooManyRows = WouldHoldTooMany (Adds place key) c
AddRefused place key c _ = ⊥

abbrev pub add : Place → Key → Decision Content
add place key = record { Refuses = AddRefused place key; Does = ChangesPlans (Adds place key) PutsNone }

abbrev pub ltp_add : Key → Decision Content
ltp_add = add LongTerm

abbrev pub cp_add : Key → Decision Content
cp_add = add (Current W)

abbrev pub add_means : Place → Key → Meaning
add_means place key = record (means (add place key)) {
  makes = λ all s drafts. drafts ≡ added key ∷ [];
  place = place;
}
