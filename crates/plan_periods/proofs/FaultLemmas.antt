-- A period is sound exactly where no fault holds.
use Rattle.std.proofs.Common.{◌≡◌, ℕ, ◌<◌, ◌≤◌, ◌↔◌, Option, Some, None, List, length, get_or, IfSome, IsOk, IfErr}
use Rattle.std.proofs.Common.{OnOk, sym, Result, Ok, Err, arith, subst, refl, inl, inr}
use Rattle.std.proofs.lemmas.Bool.{cases_lt, false≢true}
use Rattle.std.proofs.lemmas.List.{get_or_default}
use Rattle.std.specs.List.{Any}
use Rattle.plan_periods.specs.Period.{Entry, IsIntervalLength, IsSoundPeriod, IsSoundList, HasRisingOrigins}
use Rattle.plan_periods.specs.Period.{EndsFromOrigin, EndsBeforeOrigin}
use Rattle.plan_periods.specs.Fault.{HasFault, HasListFault, HasNoFault, IsLeastListFault, number_of_fault}
use Rattle.plan_periods.specs.declared.periods.Period.{Period}
use Rattle.plan_periods.specs.declared.periods.Period.TheVariants.{All as AllDays, Work, Listed}
use Rattle.plan_periods.specs.declared.faults.PeriodFault.{PeriodFault}
use Rattle.plan_periods.specs.declared.faults.PeriodFault.TheVariants.{IntervalOutOfRange, EndBeforeOrigin}
use Rattle.plan_periods.specs.declared.faults.PeriodFault.TheVariants.{OriginsNotRising, NoOrigin}

ends_both_ways : (e : Entry) → EndsFromOrigin e → EndsBeforeOrigin e → ⊥
ends_both_ways e from (end, is, before) =
    let P : Option ℕ → Type 0 = λ o. IfSome o (λ day. e.0 ≤ day) in
    let low : e.0 ≤ end = subst P is from in omega arith

pub no_list_fault : (entries : List Entry) → IsSoundList entries → (f : PeriodFault) → ¬ (HasListFault entries f)
no_list_fault entries s IntervalOutOfRange h = h
no_list_fault entries s EndBeforeOrigin (k, e, within, is, before) =
    let P : Entry → Type 0 = EndsFromOrigin in ends_both_ways e (subst P is (s.1 k e within)) before
no_list_fault entries s OriginsNotRising h = h s.2
no_list_fault entries s NoOrigin h = omega (arith, h, s.0)

pub no_fault : (p : Period) → IsSoundPeriod p → HasNoFault p
no_fault (AllDays _ n) s IntervalOutOfRange h = h s
no_fault (AllDays _ n) s EndBeforeOrigin h = h
no_fault (AllDays _ n) s OriginsNotRising h = h
no_fault (AllDays _ n) s NoOrigin h = h
no_fault (Work _ n) s IntervalOutOfRange h = h s
no_fault (Work _ n) s EndBeforeOrigin h = h
no_fault (Work _ n) s OriginsNotRising h = h
no_fault (Work _ n) s NoOrigin h = h
no_fault (Listed entries) s f h = no_list_fault entries s f h

-- what a check answers, by its other two clauses
pub ok_where_no_fault : (p : Period) (r : Result (Unit {0}) PeriodFault) →
    (IsOk r → IsSoundPeriod p) → IfErr r (HasFault p) → IsOk r ↔ HasNoFault p
ok_where_no_fault p (Ok _) sound fault = (λ _. no_fault p (sound refl), λ _. refl)
ok_where_no_fault p (Err f) sound fault = (λ h. absurd (false≢true h), λ none. absurd (none f fault))

pub all_no_fault : (origin n : ℕ) (r : Result (Unit {0}) PeriodFault) →
    IsOk r ↔ IsIntervalLength n → IfErr r (λ f. f ≡ IntervalOutOfRange) → IsOk r ↔ HasNoFault (AllDays origin n)
all_no_fault origin n (Ok _) ok err = ok_where_no_fault (AllDays origin n) (Ok _) ok.0 tt
all_no_fault origin n (Err f) ok err =
    let P : PeriodFault → Type 0 = HasFault (AllDays origin n) in
    ok_where_no_fault (AllDays origin n) (Err f) ok.0 (subst P (sym err) (λ sound. false≢true (ok.1 sound)))

pub work_no_fault : (origin n : ℕ) (r : Result (Unit {0}) PeriodFault) →
    IsOk r ↔ IsIntervalLength n → IfErr r (λ f. f ≡ IntervalOutOfRange) → IsOk r ↔ HasNoFault (Work origin n)
work_no_fault origin n (Ok _) ok err = ok_where_no_fault (Work origin n) (Ok _) ok.0 tt
work_no_fault origin n (Err f) ok err =
    let P : PeriodFault → Type 0 = HasFault (Work origin n) in
    ok_where_no_fault (Work origin n) (Err f) ok.0 (subst P (sym err) (λ sound. false≢true (ok.1 sound)))

pub listed_no_fault : (entries : List Entry) (r : Result (Unit {0}) PeriodFault) →
    OnOk r (IsSoundList entries) → IfErr r (IsLeastListFault entries) → IsOk r ↔ HasNoFault (Listed entries)
listed_no_fault entries (Ok _) ok err = ok_where_no_fault (Listed entries) (Ok _) (λ _. ok) tt
listed_no_fault entries (Err f) ok err = ok_where_no_fault (Listed entries) (Err f) (λ h. absurd (false≢true h)) err.0

ends_from : (e : Entry) → (EndsBeforeOrigin e → ⊥) → EndsFromOrigin e
ends_from (origin, None) not_before = tt
ends_from (origin, Some end) not_before =
    elim (cases_lt end origin) [ inl before ↦ absurd (not_before (end, refl, before)) | inr from ↦ from ]

-- a list without any of the three faults
pub sound_list : (entries : List Entry) → (Any EndsBeforeOrigin entries → ⊥) →
    HasRisingOrigins entries → 0 < length entries → IsSoundList entries
sound_list entries not_before rising some = (
  some,
  (λ k d within.
      ends_from _ (λ before. not_before (
        k,
        get_or entries k d,
        within,
        get_or_default entries k (get_or entries k d) d within,
        before,
      ))),
  rising,
)

pub least_not_rising : (entries : List Entry) → (Any EndsBeforeOrigin entries → ⊥) →
    (HasRisingOrigins entries → ⊥) → IsLeastListFault entries OriginsNotRising
least_not_rising entries not_before not_rising = (not_rising, above) where
  above : (g : PeriodFault) → HasListFault entries g → 3 ≤ number_of_fault g
  above IntervalOutOfRange h = absurd h
  above EndBeforeOrigin h = absurd (not_before h)
  above OriginsNotRising h = omega arith
  above NoOrigin h = omega arith
