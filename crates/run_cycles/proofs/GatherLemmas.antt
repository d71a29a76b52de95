-- What is gathered on a walk over the intervals that meet a range.
use Rattle.std.proofs.Common.{◌≡◌, ℕ, zero, suc, ◌+◌, ◌*◌, ◌<◌, ◌≤◌, ◌⊎◌, ◌↔◌, ℤ, Bool, List, [], ◌∷◌, Some}
use Rattle.std.proofs.Common.{length, get_or, inl, inr, ⊎_elim, sym, subst, refl, arith}
use Rattle.std.proofs.Math.Nat.{mul-le-mul_right}
use Rattle.std.specs.Prelude.{Contains}
use Rattle.plan_periods.specs.declared.intervals.Interval.{Interval}
use Rattle.plan_periods.specs.declared.periods.Period.{Period}
use Rattle.plan_periods.specs.declared.periods.Period.TheVariants.{All as AllDays, Work, Listed}
use Rattle.plan_periods.specs.Interval.{IsInterval}
use Rattle.plan_periods.specs.Walk.{CountsVisits, ListsMeeting}
use Rattle.run_cycles.specs.declared.rules.Rule.{Rule}
use Rattle.run_cycles.specs.Searches.{AddsDays, GivesIn, GivesInMet, IsInWindow}

-- one of the intervals has P
abbrev pub AnyIn : (Interval → Type 0) → List Interval → Type 0
AnyIn P [] = ⊥
AnyIn P (x ∷ xs) = P x ⊎ AnyIn P xs

any_in : (P : Interval → Type 0) (xs : List Interval) → AnyIn P xs → (x : Interval) × Contains xs x × P x
any_in P [] h = absurd h
any_in P (x ∷ xs) (inl p) = (x, (0, omega arith, refl), p)
any_in P (x ∷ xs) (inr h) =
    let (y, (k, within, at), p) = any_in P xs h in
    (y, (suc k, omega (arith, within), at), p)

in_any : (P : Interval → Type 0) (xs : List Interval) (x : Interval) (k : ℕ) →
    k < length xs → get_or xs k x ≡ x → P x → AnyIn P xs
in_any P [] x k within at p = absurd (omega (arith, within))
in_any P (y ∷ xs) x zero within at p = inl (subst P (sym at) p)
in_any P (y ∷ xs) x (suc k) within at p = inr (in_any P xs x k (omega (arith, within)) at p)

-- what is gathered, and what the rest of the walk gives, is what was there, and what the whole walk gives
abbrev pub IsGathering : (ℕ → Interval → Type 0) → List ℕ → List Interval → List ℕ → List Interval → Type 0
IsGathering G old whole days left =
    (d : ℕ) → (Contains days d ⊎ AnyIn (G d) left) ↔ (Contains old d ⊎ AnyIn (G d) whole)

pub gathering_goes_on : (G : ℕ → Interval → Type 0) (old : List ℕ)
    (whole : List Interval) (days new : List ℕ) (left after : List Interval) (x : Interval) →
    left ≡ x ∷ after → AddsDays (λ d. G d x) days new → IsGathering G old whole days left →
    IsGathering G old whole new after
gathering_goes_on G old whole days new left after x e adds so d =
    let P : List Interval → Type 0 = λ l. (Contains days d ⊎ AnyIn (G d) l) ↔ (Contains old d ⊎ AnyIn (G d) whole) in
    let at = subst P e (so d) in (
      (λ h. at.0 (⊎_elim (λ n. ⊎_elim (λ o. inl o) (λ g. inr (inl g)) ((adds d).0 n)) (λ r. inr (inr r)) h)),
      λ h. ⊎_elim (λ o. inl ((adds d).1 (inl o))) (λ s. ⊎_elim (λ g. inl ((adds d).1 (inr g))) (λ r. inr r) s) (at.1 h),
    )

pub gathering_ends : (G : ℕ → Interval → Type 0) (old : List ℕ)
    (whole : List Interval) (days : List ℕ) (left : List Interval) →
    left ≡ [] → IsGathering G old whole days left → AddsDays (λ d. AnyIn (G d) whole) old days
gathering_ends G old whole days left e so d =
    let P : List Interval → Type 0 = λ l. (Contains days d ⊎ AnyIn (G d) l) ↔ (Contains old d ⊎ AnyIn (G d) whole) in
    let at = subst P e (so d) in
    ((λ h. at.0 (inl h)), λ h. ⊎_elim (λ o. o) (λ n. absurd n) (at.1 h))

pub contains_first : (x : Interval) (xs : List Interval) → Contains (x ∷ xs) x
contains_first x xs = (0, omega arith, refl)

pub contains_later : (x : Interval) (xs : List Interval) (y : Interval) → Contains xs y → Contains (x ∷ xs) y
contains_later x xs y h = (suc h.0, omega (arith, h.1), h.2)

-- what an interval gives
abbrev pub Given : ℕ → ℕ → Rule → (ℕ → Bool) → List ℤ → ℕ → Interval → Type 0
Given low high rule work offsets d i = IsInWindow low high (GivesIn rule work i.first i.last) offsets d

-- the intervals of the walk give what those of the period give that meet the range
pub walk_gives : (period : Period) (from to low high : ℕ) (rule : Rule) (work : ℕ →
    Bool) (offsets : List ℤ) (left : List Interval) → ListsMeeting period from to left →
    (d : ℕ) → AnyIn (Given low high rule work offsets d) left ↔
    IsInWindow low high (GivesInMet period rule work from to) offsets d
walk_gives period from to low high rule work offsets left lists d = (
  (λ h.
      let (x, has, given) = any_in (Given low high rule work offsets d) left h in
      let (l, u, any) = given in
      let (j, k, inside, there, gives) = any in
      let is = (lists.each x).0 has in
      (l, u, (j, k, inside, there, (x.first, x.last, is.0, is.1, gives)))),
  λ h.
      let (l, u, any) = h in
      let (j, k, inside, there, met) = any in
      let (first, end, interval, meets, gives) = met in
      let x : Interval = record { first = first; last = end } in
      let (n, within, at) = (lists.each x).1 (interval, meets) in
      in_any (Given low high rule work offsets d) left x n within at (l, u, (j, k, inside, there, gives)),
)

-- ---- counts

pub visits_some : (period : Period) (x : Interval) (before after : ℕ) →
    IsInterval period x.first x.last → CountsVisits period (Some x) before after → before + 1 ≤ after
visits_some (AllDays o n) x before after is h = omega (arith, h)
visits_some (Work o n) x before after is h = absurd is
visits_some (Listed entries) x before after is h = omega (arith, h.0)

pub more_visits : (v w m : ℕ) → v + 1 ≤ w → v * m + m ≤ w * m
more_visits v w m h = let l = mul-le-mul_right m h in omega (arith, l)
