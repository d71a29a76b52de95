-- Filling the statuses of an index: weekday by weekday, and then the listed dates.
use Rattle.std.proofs.Common.{◌≡◌, ◌≢◌, ◌⊎◌, inl, inr, sym, ap, ◌∙◌, ℕ, ◌+◌, ◌-◌, ◌<◌, Bool, false, cond, List}
use Rattle.std.proofs.Common.{◌∷◌, length, slice_set, Some, None, arith}
use Rattle.std.specs.List.{slice_index_or}
use Rattle.std.specs.Map.{lookup}
use Rattle.std.specs.BTreeMap.{is_at}
use Rattle.std.specs.Ordering.{nat_cmp}
use Rattle.std.specs.FinMap as map
use Rattle.std.specs.FinMap.{get-empty}
use Rattle.std.proofs.Math.ListN.{length-set}
use Rattle.std.proofs.lemmas.Bool.{cases_eq}
use Rattle.std.proofs.lemmas.Bool.Decides.{nat_tests}
use Rattle.std.proofs.lemmas.List.{get_or-set_same, get_or-set_other}
use Rattle.work_calendars.specs.Calendar.{CalendarEntries, is_work_status, is_work_weekday, status_of_day}
use Rattle.work_calendars.specs.Calendar.{is_work_day, without_dates}
use Rattle.work_calendars.specs.Day.{IsDay, first_day, last_day}
use Rattle.work_calendars.specs.WorkIndex.{AreStatuses}
use Rattle.work_calendars.specs.declared.statuses.DayStatus.{DayStatus}
use Rattle.work_calendars.proofs.CalendarFacts.{is_day-in_range, lookup-listed}
use Rattle.work_calendars.proofs.Tables.{StatusesUpTo, StatusesBut}

is_work_day-not_listed : (c : CalendarEntries) (d : ℕ) → IsDay d →
    map.get c.dates d ≡ None → is_work_day c d ≡ is_work_weekday c d
unfolding is_work_day status_of_day
is_work_day-not_listed c d h none = rw (is_day-in_range d h, none)

is_work_day-listed : (c : CalendarEntries) (d : ℕ) (s : DayStatus) →
    IsDay d → map.get c.dates d ≡ Some s → is_work_day c d ≡ is_work_status s
unfolding is_work_day status_of_day
is_work_day-listed c d s h listed = rw (is_day-in_range d h, listed)

pub is_work_day-without_dates : (c : CalendarEntries) (d : ℕ) →
    IsDay d → is_work_day (without_dates c) d ≡ is_work_weekday c d
is_work_day-without_dates c d h =
    is_work_day-not_listed (without_dates c) d h (get-empty nat_cmp d)

pub AreStatuses-first : (c : CalendarEntries) (end : ℕ) (statuses first : List Bool) →
    StatusesUpTo (is_work_weekday c) end statuses → last_day < end →
    first_day + length first ≡ last_day + 1 → ((i : ℕ) → i < length first →
    slice_index_or first i false ≡ slice_index_or statuses i false) → AreStatuses (is_work_day (without_dates c)) first
AreStatuses-first c end statuses first t past len same = record {
  len = len;
  are = λ d h.
      let s : first_day + length statuses ≡ end = t.len in
      let within : d - first_day < length first = omega arith in
      let before : d - first_day < length statuses = omega arith in
      let e : first_day + (d - first_day) ≡ d = omega arith in
      same (d - first_day) within ∙ t.are (d - first_day) before ∙ ap (is_work_weekday c) e
      ∙ sym (is_work_day-without_dates c d h);
}

pub StatusesBut-start : (c : CalendarEntries) (entries : List (ℕ × DayStatus)) (statuses : List Bool) →
    c.dates ≡ map.from_entries entries → AreStatuses (is_work_day (without_dates c)) statuses →
    StatusesBut c entries statuses
StatusesBut-start c entries statuses e s = record {
  len = s.len;
  are = λ d h none.
      s.are d h ∙ is_work_day-without_dates c d h
      ∙ sym (is_work_day-not_listed c d h (ap (λ m. map.get m d) e ∙ sym (lookup-listed d entries) ∙ none));
}

other_key : (d k : ℕ) → d ≢ k → is_at (nat_cmp d) k ≡ false
other_key d k ne = grind (arith, nat_tests)

pub StatusesBut-more : (c : CalendarEntries) (k place : ℕ) (v : DayStatus) (left : List (ℕ ×
    DayStatus)) (statuses : List Bool) (b : Bool) → StatusesBut c ((k, v) ∷ left) statuses →
    IsDay k → first_day + place ≡ k → map.get c.dates k ≡ Some v →
    b ≡ is_work_status v → StatusesBut c left (slice_set statuses place b)
StatusesBut-more c k place v left statuses b t in_range at listed is = record {
  len = ap (λ n. first_day + n) (length-set statuses place b) ∙ t.len;
  are = λ d h none. by d h none (cases_eq d k);
}
  where
    by : (d : ℕ) → IsDay d → lookup (is_at (nat_cmp d)) left ≡ None →
        (d ≡ k) ⊎ (d ≢ k) → slice_index_or (slice_set statuses place b) (d - first_day) false ≡ is_work_day c d
    by d h none (inl e) =
        let len : first_day + length statuses ≡ last_day + 1 = t.len in
        let same : d - first_day ≡ place = omega arith in
        ap (λ i. slice_index_or (slice_set statuses place b) i false) same
        ∙ get_or-set_same statuses place b false (omega arith)
        ∙ is ∙ sym (is_work_day-listed c k v in_range listed) ∙ ap (is_work_day c) (sym e)
    by d h none (inr ne) =
        get_or-set_other statuses place (d - first_day) b false (λ e. ne (omega arith))
        ∙ t.are d h (ap (λ b. cond b (Some v) (lookup (is_at (nat_cmp d)) left)) (other_key d k ne) ∙ none)
