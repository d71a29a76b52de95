-- The dates that a calendar lists, as a list.
use Rattle.std.proofs.Common.{◌≡◌, ◌≢◌, ℕ, suc, true, false, cond, List, [], ◌∷◌, refl, sym, ap, subst, ◌∙◌}
use Rattle.std.proofs.Common.{arith, Some, Ordering, Less, Equal, Greater}
use Rattle.std.specs.Prelude.{IsSome}
use Rattle.std.specs.Cmp.{nat_cmp_total}
use Rattle.std.specs.FinMap as map
use Rattle.std.specs.FinMap.{find, get-from_entries, nat_cmp-IsAntisymmetric}
use Rattle.std.specs.List.{All}
use Rattle.std.specs.Ordering.{is_eq, nat_cmp}
use Rattle.std.proofs.lemmas.Cmp.{tied_itself}
use Rattle.work_calendars.specs.Calendar.{CalendarEntries}
use Rattle.work_calendars.specs.Day.{IsDay}
use Rattle.work_calendars.specs.declared.statuses.DayStatus.{DayStatus}
use Rattle.app_definition_soundness.specs.Values.{ListsDate}

equal_is : (o : Ordering) → is_eq o ≡ true → o ≡ Equal
equal_is Less t = cc
equal_is Equal t = refl
equal_is Greater t = cc

found_day : (es : List (ℕ × DayStatus)) (d : ℕ) → All (λ e. IsDay e.0) es → IsSome (find nat_cmp d es) → IsDay d
found_day [] d days some = cc
found_day (e ∷ es) d days some =
    elim (is_eq (nat_cmp d e.0)) as (λ b. is_eq (nat_cmp d e.0) ≡ b → IsSome (cond b (Some e.1) (find nat_cmp d es))
    → IsDay d) [
      | true ↦ λ is here.
          subst IsDay (sym (nat_cmp-IsAntisymmetric d e.0 (equal_is (nat_cmp d e.0) is))) (days 0 e (omega arith))
      | false ↦ λ is rest. found_day es d (λ k x lt. days (suc k) x (omega arith)) rest
    ] refl some

module _ (c : CalendarEntries) (es : List (ℕ × DayStatus)) (are : map.from_entries {R = nat_cmp} es ≡ c.dates) where
  found : (d : ℕ) → map.get c.dates d ≡ find nat_cmp d es
  found d = ap (λ m. map.get m d) (sym are) ∙ get-from_entries nat_cmp_total es d

  pub listed_days : All (λ e. IsDay e.0) es → (d : ℕ) → IsSome (map.get c.dates d) → IsDay d
  listed_days days d some = found_day es d days (subst IsSome (found d) some)

  first_found : (l : List (ℕ × DayStatus)) → l ≢ [] → (d : ℕ) × IsSome (find nat_cmp d l)
  first_found [] some = absurd (some refl)
  first_found (e ∷ l) some = (
    e.0,
    subst (λ b. IsSome (cond b (Some e.1) (find nat_cmp e.0 l))) (sym (ap is_eq (tied_itself nat_cmp_total e.0))) refl,
  )

  pub date_listed : es ≢ [] → ListsDate c
  date_listed some = let (d, is) = first_found es some in (d, subst IsSome (sym (found d)) is)

  pub listed_date : ListsDate c → es ≢ []
  listed_date (d, some) none =
      let empty : List (ℕ × DayStatus) = [] in
      let wrong : IsSome (find nat_cmp d empty) =
      subst (λ (l : List (ℕ × DayStatus)). IsSome (find nat_cmp d l)) none (subst IsSome (found d) some) in
      cc
