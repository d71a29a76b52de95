-- Definitions that tables can tell.
use Rattle.std.proofs.Common.{◌≡◌, ◌≢◌, ℕ, List, [], Option, Some, None, length, refl, ap, subst, arith}
use Rattle.std.specs.Prelude.{Contains, slice_get}
use Rattle.sqlite.specs.Order.{Row as Values}
use Rattle.work_calendars.specs.Calendar.{CalendarEntries}
use Rattle.plan_periods.specs.declared.periods.Period.{Period}
use Rattle.plan_periods.specs.declared.periods.Period.TheVariants as period
use Rattle.app_definition_records.specs.Rising.{AreRising}
use Rattle.app_definition_records.specs.declared.predecessors.Predecessor.{Predecessor}
use Rattle.plan_tables_content.specs.Content.{HasEntry, IsTold}
use Rattle.plan_tables_content.specs.Facts.{IsCalendarRow, IsPeriodRow, IsPredecessorRow}
use Rattle.plan_tables_content.specs.Facts.IsCalendarRow.{Weekday, Date}
use Rattle.plan_tables_definitions.specs.Representable.{ArePredecessors}

-- ---- calendars

renamed : (c : CalendarEntries) (a b : List ℕ) (v : Values) → IsCalendarRow a c v → (w : Values) × IsCalendarRow b c w
renamed c a b v (Weekday weekday status at is) = (_, Weekday weekday status at refl)
renamed c a b v (Date day status at is) = (_, Date day status at refl)

-- where it has a row
pub calendar_told : (name : List ℕ) (c : CalendarEntries) (v : Values) → length c.weekdays ≡ 7
    → IsCalendarRow name c v → IsTold c
calendar_told name c v week is = record { week = week; some = renamed c name [] v is }

none_some : {X : Type 0} (o : Option X) (x : X) → o ≡ None → o ≡ Some x → ⊥
none_some o x e h = let k : ⊥ = cc in k

-- ---- periods

pub period_told : (name : List ℕ) (p : Period) (v : Values) → IsPeriodRow name p v → HasEntry p
period_told name (period.All origin interval) v is = _
period_told name (period.Work origin interval) v is = _
period_told name (period.Listed origins) v (place, entry, at, is) = λ none. none_some (slice_get origins place) entry
    (ap (λ l. slice_get l place) none) at

-- ---- run cycles and predecessors

none_within : {X : Type 0} (xs : List X) (x : X) → Contains xs x → xs ≢ []
none_within xs x has none = let (k, under, at) = subst (λ l. Contains l x) none has in absurd (omega (arith, under))

pub predecessors_told : (app : List ℕ) (listed : List Predecessor) (v : Values)
    → AreRising (λ (p : Predecessor). p.name) listed → IsPredecessorRow app listed v → ArePredecessors listed
predecessors_told app listed v rising (p, has, is) =
    record { rising = rising; some = none_within listed p has }
