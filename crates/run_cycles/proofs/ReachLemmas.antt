-- Offsets that lie within reach, and those left out, which name nothing.
use Rattle.std.proofs.Common.{◌≡◌, ℕ, ◌+◌, ◌-◌, ◌<◌, ◌≤◌, ℤ, pos, Bool, List, [], ◌∷◌, ◌++◌, Option, Some, length}
use Rattle.std.proofs.Common.{get_or, take, inl, inr, ⊎_elim, sym, subst, ◌∙◌, arith, length-take}
use Rattle.std.proofs.lemmas.List.{take_more, take_all}
use Rattle.std.proofs.lemmas.List.Elements.{Contains-append_left, Contains-push, Contains-push_cases}
use Rattle.std.specs.Prelude.{All, Contains}
use Rattle.plan_periods.specs.declared.periods.Period.{Period}
use Rattle.plan_periods.specs.declared.periods.Period.TheVariants.{All as AllDays, Work, Listed}
use Rattle.plan_periods.specs.Period.{IsSoundPeriod}
use Rattle.run_cycles.specs.declared.rules.Rule.{Rule}
use Rattle.run_cycles.specs.declared.rules.Rule.TheVariants.{WorkDaysOnly, Before, After, Same, Skip}
use Rattle.run_cycles.specs.CountedDay.{IsCountedDay, IsWorkDayAt}
use Rattle.run_cycles.specs.Offset.{Offset, FromFirst, FromLast, IsInReach, IsOffset, offset_of}
use Rattle.run_cycles.specs.RawDay.{IsDayAt}
use Rattle.run_cycles.specs.Searches.{AddsDays, AddsWithin, GivesIn, GivesInMet, IsInWindow, IsWithin, KeepsWithin}
use Rattle.run_cycles.specs.Searches.{reach_of}
use Rattle.run_cycles.proofs.AddLemmas.{adds_same}
use Rattle.run_cycles.proofs.CountLemmas.{among_few}

-- the offsets that are kept so far
pub kept_none : (n : ℕ) (offsets kept : List ℤ) → kept ≡ [] → KeepsWithin n (take 0 offsets) kept
kept_none n offsets kept none k =
    let P : List ℤ → Type 0 = λ l. Contains l k in (
      (λ h. let in' = subst P none h in absurd (omega (arith, in'.1))),
      λ h. absurd (omega (arith, length-take 0 offsets, h.0.1)),
    )

pub kept_more : (n : ℕ) (offsets : List ℤ) (i : ℕ) (k : ℤ) →
    i < length offsets → get_or offsets i (pos 0) ≡ k → (mid new : List ℤ) →
    KeepsWithin n (take i offsets) mid → AddsWithin n k mid new → KeepsWithin n (take (i + 1) offsets) new
kept_more n offsets i k in' at mid new before adds z =
    let more : take (i + 1) offsets ≡ take i offsets ++ k ∷ [] =
    take_more offsets i (pos 0) in' ∙ (let f : ℤ → List ℤ = λ y. take i offsets ++ y ∷ [] in λ j. f (at j)) in
    let P : List ℤ → Type 0 = λ l. Contains l z in (
      (λ h. ⊎_elim
          (λ m. let was = (before z).0 m in (
            subst P (sym more)
                (Contains-append_left (take i offsets) (k ∷ []) z was.0),
            was.1,
          ))
          (λ e. (
            subst P (sym more) (let Q : ℤ → Type 0 = λ y. Contains (take i offsets ++ k ∷ []) y in
                subst Q (sym e.0) (Contains-push (take i offsets) k)),
            e.1,
          ))
          ((adds z).0 h)),
      λ h. (adds z).1 (⊎_elim
          (λ a. inl ((before z).1 (a, h.1)))
          (λ e. inr (sym e, h.1))
          (Contains-push_cases (take i offsets) k z (subst P more h.0))),
    )

pub kept_all : (n : ℕ) (offsets : List ℤ) (i : ℕ) → length offsets ≤ i →
    (kept : List ℤ) → KeepsWithin n (take i offsets) kept → KeepsWithin n offsets kept
kept_all n offsets i whole kept h =
    let P : List ℤ → Type 0 = λ l. KeepsWithin n l kept in
    subst P (take_all i offsets whole) h

-- the offset of a day of an interval of n days
day_within : (k : Offset) (first n x : ℕ) → IsDayAt k first (Some (first + n - 1)) x → 1 ≤ n → IsWithin n k
day_within (FromFirst k) first n x h some = omega (arith, h.1, h.2)
day_within (FromLast k) first n x h some = omega (arith, h.1, h.2)

-- the offset of a work day of an interval of n days
work_day_within : (work : ℕ → Bool) (k : Offset) (first n d : ℕ) →
    IsWorkDayAt work k first (Some (first + n - 1)) d → 1 ≤ n → IsWithin n k
work_day_within work (FromFirst k) first n d h some =
    let high : d ≤ first + n - 1 = h.1.1 in
    let few = among_few work first (d + 1 - first) in
    omega (arith, h.2)
work_day_within work (FromLast k) first n d h some =
    let low : first ≤ d = h.1.0 in
    let few = among_few work d (first + n - 1 + 1 - d) in
    omega (arith, h.2)

given_within : (rule : Rule) (work : ℕ → Bool) (first n : ℕ) (k : Offset) (d : ℕ) →
    GivesIn rule work first (Some (first + n - 1)) k d → 1 ≤ n → IsWithin n k
given_within WorkDaysOnly work first n k d h some = work_day_within work k first n d h some
given_within Before work first n k d h some = day_within k first n h.0 h.2 some
given_within After work first n k d h some = day_within k first n h.0 h.2 some
given_within Same work first n k d h some = day_within k first n h.0 h.2 some
given_within Skip work first n k d h some = day_within k first n h.0 h.2 some

listed_within : (k : Offset) → IsInReach k → IsWithin 1999 k
listed_within (FromFirst k) h = h.1
listed_within (FromLast k) h = h.1

-- an offset that gives a day lies within reach
pub met_within : (period : Period) → IsSoundPeriod period → (rule : Rule) (work : ℕ →
    Bool) (l h : ℕ) (k : Offset) (d : ℕ) → IsInReach k → GivesInMet period rule work l h k d →
    IsWithin (reach_of period) k
met_within (AllDays o n) sound rule work l h k d in' (first, end, is, meets, gives) =
    let P : Option ℕ → Type 0 = λ e. GivesIn rule work first e k d in
    given_within rule work first n k d (subst P is.2 gives) sound.0
met_within (Work o n) sound rule work l h k d in' (first, end, is, meets, gives) = absurd is
met_within (Listed entries) sound rule work l h k d in' given = listed_within k in'

pub counted_within : (o n : ℕ) (k : Offset) (work : ℕ → Bool) (d : ℕ) → IsCountedDay (Work o n) k work d → IsWithin n k
counted_within o n (FromFirst k) work d h = h.2.1
counted_within o n (FromLast k) work d h = h.2.1

-- what the offsets within reach give is what all give
pub window_within : (n low high : ℕ) (P : Offset → ℕ → Type 0) (offsets kept : List ℤ) (old new : List ℕ) →
    All IsOffset offsets → KeepsWithin n offsets kept → ((k : Offset) (d : ℕ) → IsInReach k → P k d → IsWithin n k) →
    AddsDays (IsInWindow low high P kept) old new → AddsDays (IsInWindow low high P offsets) old new
window_within n low high P offsets kept old new sound keeps within adds =
    adds_same (IsInWindow low high P kept) (IsInWindow low high P offsets) old new
    (λ d. (
      (λ (l, u, any).
          let (i, k, in', at, gives) = any in
          let (j, in2, at2) = ((keeps k).0 (i, in', at)).0 in
          (l, u, (j, k, in2, at2, gives))),
      λ (l, u, any).
          let (i, k, in', at, gives) = any in
          let is : IsOffset k = subst IsOffset at (sound i k in') in
          let (j, in2, at2) = (keeps k).1 ((i, in', at), within (offset_of k) d is gives) in
          (l, u, (j, k, in2, at2, gives)),
    )) adds
