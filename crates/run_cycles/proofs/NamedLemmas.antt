-- That what was gathered are the days that a run cycle names in a window.
use Rattle.std.proofs.Common.{◌≡◌, ℕ, ◌+◌, ◌<◌, ◌≤◌, ◌⊎◌, ◌↔◌, ℤ, Bool, true, false, List, [], IsTrue, MatchBool, inl}
use Rattle.std.proofs.Common.{inr, ⊎_elim, sym, subst, refl, arith}
use Rattle.std.specs.Prelude.{Any, AllPairs, Contains}
use Rattle.std.proofs.lemmas.Bool.{cases_lt}
use Rattle.work_calendars.specs.Day.{IsDay, first_day, last_day}
use Rattle.work_calendars.specs.WorkDay.{IsNextWorkDay, IsPreviousWorkDay}
use Rattle.plan_periods.specs.declared.periods.Period.{Period}
use Rattle.plan_periods.specs.declared.periods.Period.TheVariants.{All as AllDays, Work, Listed}
use Rattle.plan_periods.specs.Period.{Entry}
use Rattle.plan_periods.specs.Walk.{VisitsFew}
use Rattle.run_cycles.specs.declared.cycles.RunCycle.{RunCycle}
use Rattle.run_cycles.specs.declared.rules.Rule.{Rule}
use Rattle.run_cycles.specs.declared.rules.Rule.TheVariants.{WorkDaysOnly, Before, After, Same, Skip}
use Rattle.run_cycles.specs.CountedDay.{IsCountedDay}
use Rattle.run_cycles.specs.Jump.{IsAfterPreviousWork, IsBeforeNextWork, IsRawRange, ListsNamedDays, WalksRawRange}
use Rattle.run_cycles.specs.NamedDay.{GivesDay, IsShiftedDay, IsValidOn}
use Rattle.run_cycles.specs.Offset.{Offset, offset_of}
use Rattle.run_cycles.specs.Searches.{AddsDays, GivesInMet, IsInWindow}
use Rattle.run_cycles.specs.Shift.{IsShifted}
use Rattle.run_cycles.proofs.JumpLemmas.{given_in}
use Rattle.run_cycles.proofs.NamedDayLemmas.{gives_counted, gives_shifted}
use Rattle.run_cycles.proofs.WalkLemmas.{holds_day, holds_work_day}

clash : (b : Bool) → b ≡ true → b ≡ false → ⊥
clash b p q = cc

module _ (work : ℕ → Bool) (from to d x : ℕ) (low : from ≤ d) (high : d ≤ to) (day : IsDay x) where
  -- a raw day that rule 1 brings into the window lies before the next work day after the window
  before_next : (h : ℕ) → IsBeforeNextWork work to h → work x ≡ false → IsPreviousWorkDay work x d → x ≤ h
  before_next h range free prev =
      ⊎_elim
      (λ next.
      let later : to < h + 1 = next.later in
      let here : d < x = prev.earlier in
      ⊎_elim
      (λ over. ⊎_elim
      (λ past. absurd (clash (work (h + 1)) next.is_work (prev.nearest (h + 1) (omega arith) past)))
      (λ same. let e : h + 1 ≡ x = omega arith in absurd (clash (work x) (let P : ℕ →
      Type 0 = λ n. IsTrue (work n) in subst P e next.is_work) free))
      (cases_lt (h + 1) x))
      (λ within. within)
      (cases_lt h x))
      (λ none. let e = none.1 in omega (arith, day.1))
      range

  after_previous : (l : ℕ) → IsAfterPreviousWork work from l → work x ≡ false → IsNextWorkDay work x d → l ≤ x
  after_previous l range free next =
      ⊎_elim
      (λ some.
      let (b, prev, e) = some in
      let earlier : b < from = prev.earlier in
      let here : x < d = next.later in
      ⊎_elim
      (λ under. ⊎_elim
      (λ past. absurd (clash (work b) prev.is_work (next.nearest b past (omega arith))))
      (λ same. let s : b ≡ x = omega arith in absurd (clash (work x) (let P : ℕ →
      Type 0 = λ n. IsTrue (work n) in subst P s prev.is_work) free))
      (cases_lt x b))
      (λ within. within)
      (cases_lt x l))
      (λ none. let e = none.1 in omega (arith, day.0))
      range

  reaches : (h : ℕ) → IsBeforeNextWork work to h → d ≤ h ⊎ (last_day < d)
  reaches h range =
      ⊎_elim (λ next. let later : to < h + 1 = next.later in
      inl (omega arith)) (λ none. let e = none.1 in ⊎_elim
      (λ over. inr over) (λ within. inl (omega (arith, e, within))) (cases_lt last_day d)) range

  begins : (l : ℕ) → IsAfterPreviousWork work from l → l ≤ d ⊎ (d < first_day)
  begins l range =
      ⊎_elim
      (λ some. let (b, prev, e) = some in let earlier : b < from = prev.earlier in inl (omega arith))
      (λ none. let e = none.1 in ⊎_elim (λ under. inr under)
      (λ within. inl (omega (arith, e, within))) (cases_lt d first_day))
      range

  -- a raw day that the rule brings into the window lies in the raw range
  pub in_raw_range : (rule : Rule) (l h : ℕ) → IsRawRange rule work from to l h →
      IsShifted rule work x d → (l ≤ x) × (x ≤ h)
  in_raw_range WorkDaysOnly l h range shifted =
      elim (work x) as (λ b. MatchBool b (d ≡ x) ⊥ → (l ≤ x) × (x ≤ h)) [
        | true ↦ λ e. (omega (arith, range.0), omega (arith, range.1))
        | false ↦ λ none. absurd none
      ] shifted
  in_raw_range Before l h range shifted =
      elim (work x) as (λ b. work x ≡ b → MatchBool b (d ≡ x) (IsPreviousWorkDay work x d) → (l ≤ x) × (x ≤ h)) [
        | true ↦ λ is e. (
          omega (arith, range.0),
          ⊎_elim (λ r. omega arith)
              (λ out. absurd (omega (arith, day.1))) (reaches h range.1),
        )
        | false ↦ λ is prev. (let here : d < x = prev.earlier in omega (arith, range.0), before_next h range.1 is prev)
      ] refl shifted
  in_raw_range After l h range shifted =
      elim (work x) as (λ b. work x ≡ b → MatchBool b (d ≡ x) (IsNextWorkDay work x d) → (l ≤ x) × (x ≤ h)) [
        | true ↦ λ is e. (
          ⊎_elim (λ r. omega arith) (λ out. absurd (omega (arith, day.0))) (begins l range.0),
          omega (arith, range.1),
        )
        | false ↦ λ is next. (
          after_previous l range.0 is next,
          (let here : x < d = next.later in omega (arith, range.1)),
        )
      ] refl shifted
  in_raw_range Same l h range shifted =
      elim (work x) as (λ b. MatchBool b (d ≡ x) (d ≡ x) → (l ≤ x) × (x ≤ h)) [
        | true ↦ λ e. (omega (arith, range.0), omega (arith, range.1))
        | false ↦ λ e. (omega (arith, range.0), omega (arith, range.1))
      ] shifted
  in_raw_range Skip l h range shifted =
      elim (work x) as (λ b. MatchBool b (d ≡ x) ⊥ → (l ≤ x) × (x ≤ h)) [
        | true ↦ λ e. (omega (arith, range.0), omega (arith, range.1))
        | false ↦ λ none. absurd none
      ] shifted

-- by a counted day the interval meets the window
counted_range : (work : ℕ → Bool) (from to l h : ℕ) → IsRawRange WorkDaysOnly work from to l h →
    (d : ℕ) → from ≤ d → d ≤ to → (l ≤ d) × (d ≤ h)
counted_range work from to l h range d low high = (omega (arith, range.0), omega (arith, range.1))

module _ (period : Period) (work : ℕ → Bool) (from to l h : ℕ) (no_work : (o n : ℕ) → ¬ (period ≡ Work o n)) where
  along : {A B : Type 0} → A ≡ B → A → B
  along e x = let P : Type 0 → Type 0 = λ T. T in subst P e x

  met_counted : IsRawRange WorkDaysOnly work from to l h → (k : Offset) (d : ℕ) →
      from ≤ d → d ≤ to → GivesInMet period WorkDaysOnly work l h k d ↔ GivesDay period WorkDaysOnly work d k
  met_counted range k d low high =
      let e = gives_counted period work d k no_work in
      let at = counted_range work from to l h range d low high in (
        (λ (first, end, interval, meets, is). along (sym e) (first, end, interval, is)),
        λ g.
            let (first, end, interval, is) = along e g in
            (first, end, interval, (d, holds_work_day k work first end d is, at.0, at.1), is),
      )

  met_shifted : (rule : Rule) → ¬ (rule ≡ WorkDaysOnly) → IsRawRange rule work from to l h →
      (k : Offset) (d : ℕ) → from ≤ d → d ≤ to → GivesInMet period rule work l h k d ↔ GivesDay period rule work d k
  met_shifted rule other range k d low high =
      let e = gives_shifted period rule work d k no_work other in (
        (λ (first, end, interval, meets, gives).
            let (x, day, at, shifted) = along (given_in rule work first end k d other) gives in
            let given : IsShiftedDay period rule work d k = (x, (day, (first, end, interval, at)), shifted) in
            along (sym e) given),
        λ g.
            let given : IsShiftedDay period rule work d k = along e g in
            let (x, raw, shifted) = given in
            let (day, some) = raw in
            let (first, end, interval, at) = some in
            let within = in_raw_range work from to d x low high day rule l h range shifted in (
              first,
              end,
              interval,
              (x, holds_day k first end x at, within.0, within.1),
              along (sym (given_in rule work first end k d other)) (x, day, at, shifted),
            ),
      )

  differ : (rule : Rule) → rule ≡ WorkDaysOnly ⊎ ¬ (rule ≡ WorkDaysOnly)
  differ WorkDaysOnly = inl refl
  differ Before = inr (λ e. cc)
  differ After = inr (λ e. cc)
  differ Same = inr (λ e. cc)
  differ Skip = inr (λ e. cc)

  -- the intervals that meet the raw range give the days that the period gives in the window
  pub met_gives : (rule : Rule) → IsRawRange rule work from to l h →
      (k : Offset) (d : ℕ) → from ≤ d → d ≤ to → GivesInMet period rule work l h k d ↔ GivesDay period rule work d k
  met_gives rule range =
      ⊎_elim
      (λ e.
      let P : Rule → Type 0 = λ r. IsRawRange r work from to l h →
      (k : Offset) (d : ℕ) → from ≤ d → d ≤ to → GivesInMet period r work l h k d ↔ GivesDay period r work d k in
      subst P (sym e) met_counted range)
      (λ other. met_shifted rule other range)
      (differ rule)

  pub walks : (rule : Rule) (visited : ℕ) → IsRawRange rule work from to l h →
      VisitsFew period l h visited → WalksRawRange period rule work from to visited
  walks rule visited range few = walks_at period no_work few
    where
      walks_at : (p : Period) → ((o n : ℕ) → ¬ (p ≡ Work o n)) →
          VisitsFew p l h visited → WalksRawRange p rule work from to visited
      walks_at (AllDays o n) other few = (l, h, range, few)
      walks_at (Work o n) other few = absurd (other o n refl)
      walks_at (Listed entries) other few = (l, h, range, few)

-- the days in the list are those of the window that the offsets give
pub lists_named : (cycle : RunCycle) (period : Period) (work : ℕ →
    Bool) (from to low high : ℕ) (P : Offset → ℕ → Type 0) (offsets : List ℤ) (old days left : List ℕ) →
    offsets ≡ cycle.offsets → old ≡ [] → ((d : ℕ) → ((low ≤ d) × (d < high)) ↔
    ((from ≤ d) × (d ≤ to) × IsValidOn cycle d)) → ((k : Offset) (d : ℕ) →
    from ≤ d → d ≤ to → P k d ↔ GivesDay period cycle.rule work d k) →
    AddsDays (IsInWindow low high P offsets) old days → ((d : ℕ) → Contains left d ↔ Contains days d) →
    AllPairs (λ a b. a < b) left → ListsNamedDays cycle period work from to left
lists_named cycle period work from to low high P offsets old days left same none window says adds exactly rising =
    record {
      exactly = λ d. (
        (λ h. ⊎_elim
            (λ o. let Q : List ℕ → Type 0 = λ l. Contains l d in
            absurd (let in' = subst Q none o in omega (arith, in'.1)))
            (λ g.
            let (l, u, any) = g in
            let (f, t, valid) = (window d).0 (l, u) in
            let R : List ℤ → Type 0 = λ ks. Any (λ k. GivesDay period cycle.rule work d (offset_of k)) ks in
            (f, t, (valid, subst R same (any.0, any.1, any.2, any.3, (says (offset_of any.1) d f t).0 any.4))))
            ((adds d).0 ((exactly d).0 h))),
        λ h.
            let (f, t, named) = h in
            let (valid, any') = named in
            let R : List ℤ → Type 0 = λ ks. Any (λ k. GivesDay period cycle.rule work d (offset_of k)) ks in
            let any = subst R (sym same) any' in
            let lu = (window d).1 (f, t, valid) in
            (exactly d).1 ((adds d).1 (inr (
              lu.0,
              lu.1,
              (
                any.0,
                any.1,
                any.2,
                any.3,
                (says (offset_of any.1) d f t).1 any.4,
              ),
            ))),
      );
      rising = rising;
    }

-- in a period of work days an offset gives the days that it counts
pub work_gives : (period : Period) (o n : ℕ) → period ≡ Work o n →
    (rule : Rule) (work : ℕ → Bool) (k : Offset) (d : ℕ) → IsCountedDay (Work o n) k work d ↔
    GivesDay period rule work d k
work_gives period o n e rule work k d =
    let P : Period → Type 0 = λ p. IsCountedDay (Work o n) k work d ↔ GivesDay p rule work d k in
    subst P (sym e) ((λ h. h), λ h. h)

pub work_walks : (period : Period) (o n : ℕ) → period ≡ Work o n →
    (rule : Rule) (work : ℕ → Bool) (from to visited : ℕ) → visited ≡ 0 → WalksRawRange period rule work from to visited
work_walks period o n e rule work from to visited none =
    let P : Period → Type 0 = λ p. WalksRawRange p rule work from to visited in
    subst P (sym e) none

pub not_work : (p : Period) → ((o : ℕ) × (n : ℕ) × (p ≡ AllDays o n)) ⊎
    ((es : List Entry) × (p ≡ Listed es)) → (o n : ℕ) → ¬ (p ≡ Work o n)
not_work p (inl (a, b, q)) o n e = cc
not_work p (inr (es, q)) o n e = cc
