-- The parts of a definition make its rows.
use Rattle.std.proofs.Common.{◌≡◌, ◌↔◌, ◌⊎◌, inl, inr, ℕ, suc, ◌<◌, List, [], ◌∷◌, ◌++◌, Option, Some, None, length, true}
use Rattle.std.proofs.Common.{false}
use Rattle.std.proofs.Common.{cond, zero, refl, sym, ap, ◌∙◌, subst, arith, get_or, Ordering, Less, Equal, Greater}
use Rattle.std.specs.Prelude.{slice_get, Contains, map as list_map}
use Rattle.std.specs.Cmp.{nat_cmp_total}
use Rattle.std.specs.FinMap as map
use Rattle.std.specs.FinMap.{find, get-from_entries, nat_cmp-IsAntisymmetric}
use Rattle.std.specs.Ordering.{is_eq, nat_cmp}
use Rattle.std.proofs.lemmas.Option.{get_or_from_slice_get}
use Rattle.sqlite.specs.Order.{Row as Values}
use Rattle.work_calendars.specs.Calendar.{CalendarEntries}
use Rattle.work_calendars.specs.declared.statuses.DayStatus.{DayStatus}
use Rattle.plan_periods.specs.Period.{Entry}
use Rattle.plan_periods.specs.declared.periods.Period.TheVariants.{Listed}
use Rattle.run_cycles.specs.declared.cycles.RunCycle.{RunCycle}
use Rattle.app_definition_records.specs.declared.predecessors.Predecessor.{Predecessor}
use Rattle.plan_tables_content.specs.Facts.{IsCalendarRow, IsCycleRow, IsOffsetRow, IsPeriodRow, IsPredecessorRow}
use Rattle.plan_tables_content.specs.Facts.IsCalendarRow.{Weekday, Date}
use Rattle.plan_tables_definitions.specs.Adding.{Adds, IsOfPlace, IsUpTo}
use Rattle.plan_tables_definitions.specs.Parts.{IsDateRow, IsLinkRow, IsListedRow, IsOffsetAt, IsOffsetOf, IsRowOfCycle}
use Rattle.plan_tables_definitions.specs.Parts.{IsWeekdayRow}
use Rattle.plan_tables_definitions.proofs.AddLemmas.{adds_as, adds_both, of_list, of_places, row_added, under_get}
use Rattle.plan_tables_definitions.proofs.KeyLemmas.{kinds_apart}

pub predecessors_added : (app : List ℕ) (listed : List Predecessor) (a b : List Values)
    → Adds 2 (IsOfPlace (λ _. IsLinkRow app) listed (length listed)) a b → Adds 2 (IsPredecessorRow app listed) a b
predecessors_added app listed a b = adds_as 2 (IsOfPlace (λ _. IsLinkRow app) listed (length listed))
    (IsPredecessorRow app listed) a b (of_list (IsLinkRow app) listed)

pub listed_added : (name : List ℕ) (entries : List Entry) (a b : List Values)
    → Adds 2 (IsOfPlace (IsListedRow name) entries (length entries)) a b
    → Adds 2 (IsPeriodRow name (Listed entries)) a b
listed_added name entries a b = adds_as 2 (IsOfPlace (IsListedRow name) entries (length entries))
    (IsPeriodRow name (Listed entries)) a b (of_places (IsListedRow name) entries)

pub cycles_added : (app : List ℕ) (cycles : List RunCycle) (a b : List Values)
    → Adds 2 (IsOfPlace (λ _. IsRowOfCycle app) cycles (length cycles)) a b → Adds 2 (IsCycleRow app cycles) a b
cycles_added app cycles a b = adds_as 2 (IsOfPlace (λ _. IsRowOfCycle app) cycles (length cycles))
    (IsCycleRow app cycles) a b (of_list (IsRowOfCycle app) cycles)

pub offsets_of_one : (app : List ℕ) (cycle : RunCycle) (a b : List Values)
    → Adds 3 (IsOfPlace (IsOffsetAt app cycle.name) cycle.offsets (length cycle.offsets)) a b
    → Adds 3 (IsOffsetOf app cycle) a b
offsets_of_one app cycle a b = adds_as 3 (IsOfPlace (IsOffsetAt app cycle.name) cycle.offsets (length cycle.offsets))
    (IsOffsetOf app cycle) a b (of_places (IsOffsetAt app cycle.name) cycle.offsets)

offset_row : (app : List ℕ) (cycles : List RunCycle) (v : Values)
    → IsOfPlace (λ _. IsOffsetOf app) cycles (length cycles) v ↔ IsOffsetRow app cycles v
offset_row app cycles v = (
  λ is. let (cycle, has, (place, k, at, it)) = (of_list (IsOffsetOf app) cycles v).0 is in (
    cycle,
    has,
    place,
    k,
    at,
    it,
  ),
  λ (cycle, has, place, k, at, it). (of_list (IsOffsetOf app) cycles v).1 (cycle, has, (place, k, at, it)),
)

pub offsets_added : (app : List ℕ) (cycles : List RunCycle) (a b : List Values)
    → Adds 3 (IsOfPlace (λ _. IsOffsetOf app) cycles (length cycles)) a b → Adds 3 (IsOffsetRow app cycles) a b
offsets_added app cycles a b = adds_as 3 (IsOfPlace (λ _. IsOffsetOf app) cycles (length cycles))
    (IsOffsetRow app cycles) a b (offset_row app cycles)

-- ---- calendars

equal_is : (o : Ordering) → is_eq o ≡ true → o ≡ Equal
equal_is Less t = cc
equal_is Equal t = refl
equal_is Greater t = cc

-- what is found under a day stands in the list
found_day : (es : List (ℕ × DayStatus)) (day : ℕ) (s : DayStatus) → find nat_cmp day es ≡ Some s
    → Contains (list_map (λ (e : ℕ × DayStatus). e.0) es) day
found_day [] day s is = absurd (let h : ⊥ = cc in h)
found_day (e ∷ es) day s is =
    elim (is_eq (nat_cmp day e.0)) as (λ b. is_eq (nat_cmp day e.0) ≡ b
    → cond b (Some e.1) (find nat_cmp day es) ≡ Some s
    → Contains (list_map (λ (x : ℕ × DayStatus). x.0) (e ∷ es)) day) [
      | true ↦ λ here _. (0, omega arith, sym (nat_cmp-IsAntisymmetric day e.0 (equal_is (nat_cmp day e.0) here)))
      | false ↦ λ _ rest. let (place, under, same) = found_day es day s rest in (suc place, omega (arith, under), same)
    ] refl is

abbrev IsEither : List ℕ → CalendarEntries → List ℕ → Values → Type 0
IsEither name c days v = IsUpTo (IsWeekdayRow name c) 7 v ⊎ IsOfPlace (λ _. IsDateRow name c) days (length days) v

reads_some : {X : Type 0} (xs : List (Option X)) (n : ℕ) (x : X) → get_or xs n None ≡ Some x
    → slice_get xs n ≡ Some (Some x)
reads_some [] n x is = absurd (let h : ⊥ = cc in h)
reads_some (y ∷ ys) zero x is = ap Some is
reads_some (y ∷ ys) (suc n) x is = reads_some ys n x is

-- what is listed for one day
pub status_added : (cells : ℕ) (values_of : DayStatus → Values) (listed : Option DayStatus) (s : DayStatus)
    (row : Values) (a b : List Values) → listed ≡ Some s → row ≡ values_of s → b ≡ a ++ row ∷ []
    → Adds cells (λ v. (t : DayStatus) × (listed ≡ Some t) × (v ≡ values_of t)) a b
status_added cells values_of listed s row a b at is pushed = adds_as cells (λ v. v ≡ values_of s)
    (λ v. (t : DayStatus) × (listed ≡ Some t) × (v ≡ values_of t)) a b
    (λ v. (λ it. (s, at, it), λ (t, there, it). subst (λ x. v ≡ values_of x) (let e : t ≡ s = cc in e) it))
    (row_added cells (values_of s) row a b is pushed)

module _ (name : List ℕ) (c : CalendarEntries) (es : List (ℕ × DayStatus)) (week : length c.weekdays ≡ 7)
    (are : map.from_entries {R = nat_cmp} es ≡ c.dates) (days : List ℕ)
    (exactly : (day : ℕ) → Contains days day ↔ Contains (list_map (λ (e : ℕ × DayStatus). e.0) es) day) where
  either_to : (v : Values) → IsEither name c days v → IsCalendarRow name c v
  either_to v (inl (weekday, under, (status, at, is))) =
      Weekday weekday status (reads_some c.weekdays weekday status at) is
  either_to v (inr (place, day, under, there, (status, at, is))) = Date day status at is

  either_from : (v : Values) → IsCalendarRow name c v → IsEither name c days v
  either_from v (Weekday weekday status at is) = inl (
    weekday,
    let less : weekday < length c.weekdays = under_get c.weekdays weekday (Some status) at in omega (arith, less, week),
    (status, get_or_from_slice_get c.weekdays weekday (Some status) None at, is),
  )
  either_from v (Date day status at is) =
      let found : find nat_cmp day es ≡ Some status =
      sym (get-from_entries nat_cmp_total es day) ∙ ap (λ m. map.get m day) are ∙ at in
      inr ((of_list (IsDateRow name c) days v).1
      (day, (exactly day).1 (found_day es day status found), (status, at, is)))

  pub calendar_added : (a b d : List Values) → Adds 3 (IsUpTo (IsWeekdayRow name c) 7) a b
      → Adds 3 (IsOfPlace (λ _. IsDateRow name c) days (length days)) b d
      → Adds 3 (IsCalendarRow name c) a d
  calendar_added a b d first then = adds_as 3 (IsEither name c days) (IsCalendarRow name c) a d
      (λ v. (either_to v, either_from v))
      (adds_both 3 (IsUpTo (IsWeekdayRow name c) 7) (IsOfPlace (λ _. IsDateRow name c) days (length days)) a b d
      (λ v w (k, less, is) (place, day, under, there, it). kinds_apart name c k day v w is it) first then)
