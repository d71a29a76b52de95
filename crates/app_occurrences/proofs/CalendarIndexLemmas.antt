-- What is listed alike is the same.
use Rattle.std.proofs.Common.{◌≡◌, ℕ, Bool, true, ◌&&◌, List, [], ◌∷◌, length, get_or, refl, ap, ap₂, subst}
use Rattle.std.proofs.Common.{Option, None, Some, arith, rules}
use Rattle.std.specs.Bool.{Decides}
use Rattle.std.specs.Cmp.Lexicographic.{pointwise}
use Rattle.std.specs.Option.{option_eq}
use Rattle.std.proofs.lemmas.Bool.Decides.{Decides-and}
use Rattle.std.proofs.lemmas.Slice.Eq.{slice_eq-Decides}
use Rattle.work_calendars.specs.declared.statuses.DayStatus.{DayStatus}
use Rattle.work_calendars.specs.declared.statuses.DayStatus.TheVariants.{Work, Free}
use Rattle.work_calendars.specs.contracts.statuses.DayStatusPartialEq.TheImpl as statuses
use Rattle.work_calendars.specs.contracts.days.DayPartialEq.TheImpl as days
use Rattle.app_occurrences.specs.CalendarIndex.{IsIndexOf}

-- seven elements are the list
pub seven : {X : Type 0} (d : X) (xs : List X) → length xs ≡ 7
    → get_or xs 0 d ∷ get_or xs 1 d ∷ get_or xs 2 d ∷ get_or xs 3 d ∷ get_or xs 4 d ∷ get_or xs 5 d ∷ get_or xs 6 d ∷ []
    ≡ xs
seven d [] is = absurd (omega (arith, is))
seven d (a ∷ []) is = absurd (omega (arith, is))
seven d (a ∷ b ∷ []) is = absurd (omega (arith, is))
seven d (a ∷ b ∷ c ∷ []) is = absurd (omega (arith, is))
seven d (a ∷ b ∷ c ∷ e ∷ []) is = absurd (omega (arith, is))
seven d (a ∷ b ∷ c ∷ e ∷ f ∷ []) is = absurd (omega (arith, is))
seven d (a ∷ b ∷ c ∷ e ∷ f ∷ g ∷ []) is = absurd (omega (arith, is))
seven d (a ∷ b ∷ c ∷ e ∷ f ∷ g ∷ h ∷ []) is = refl
seven d (a ∷ b ∷ c ∷ e ∷ f ∷ g ∷ h ∷ i ∷ xs) is = absurd (omega (arith, is))

option_decides : {A : Type 0} {E : A → A → Bool} → ((a b : A) → Decides (E a b) (a ≡ b))
    → (a b : Option A) → Decides (option_eq E a b) (a ≡ b)
option_decides decides None None = (λ e. refl, λ e. refl)
option_decides decides None (Some b) = (λ e. cc, λ e. cc)
option_decides decides (Some a) None = (λ e. cc, λ e. cc)
option_decides decides (Some a) (Some b) =
    (λ e. ap Some ((decides a b).0 e), λ e. (decides a b).1 (let same : Some a ≡ Some b = e in cc))

status_decides : (a b : DayStatus) → Decides (statuses.ghosts.eq a b) (a ≡ b)
status_decides Work Work = (λ e. refl, λ e. search rules)
status_decides Work Free = (λ e. search rules, λ e. cc)
status_decides Free Work = (λ e. search rules, λ e. cc)
status_decides Free Free = (λ e. refl, λ e. search rules)

day_decides : (a b : ℕ) → Decides (days.ghosts.eq a b) (a ≡ b)
day_decides a b = (λ e. search rules, λ e. search rules)

date_decides : (a b : ℕ × DayStatus) → Decides (days.ghosts.eq a.0 b.0 && statuses.ghosts.eq a.1 b.1) (a ≡ b)
date_decides (a, s) (b, t) =
    let (to, from) = Decides-and (days.ghosts.eq a b) (statuses.ghosts.eq s t) (day_decides a b) (status_decides s t) in (
      λ e. let (x, y) = to e in ap₂ (λ u v. (u, v)) x y,
      λ e. from (ap (λ (p : ℕ × DayStatus). p.0) e, ap (λ (p : ℕ × DayStatus). p.1) e),
    )

pub same_weekdays : (xs ys : List (Option DayStatus)) (r : Bool) → r ≡ pointwise (option_eq statuses.ghosts.eq) xs ys
    → r ≡ true → xs ≡ ys
same_weekdays xs ys r told holds = (slice_eq-Decides (option_decides status_decides) xs ys r told).0 holds

pub same_dates : (xs ys : List (ℕ × DayStatus)) (r : Bool)
    → r ≡ pointwise (λ a b. days.ghosts.eq a.0 b.0 && statuses.ghosts.eq a.1 b.1) xs ys → r ≡ true → xs ≡ ys
same_dates xs ys r told holds = (slice_eq-Decides date_decides xs ys r told).0 holds

-- an index serves where the same is listed
pub serves : (weekdays others : List (Option DayStatus)) (dates days : List (ℕ × DayStatus)) (index : List Bool)
    → weekdays ≡ others → dates ≡ days → IsIndexOf weekdays dates index → IsIndexOf others days index
serves weekdays others dates days index same alike is = subst (λ w. IsIndexOf w days index) same
    (subst (λ l. IsIndexOf weekdays l index) alike is)
