-- Periods of work days: their intervals, by how many work days come before each.
use Rattle.std.proofs.Common.{◌≡◌, ℕ, ◌+◌, ◌-◌, ◌*◌, ◌/◌, ◌%◌, ◌<◌, ◌≤◌, ℤ, Bool, List, Some, IsTrue, inl, inr}
use Rattle.std.proofs.Common.{⊎_elim, sym, subst, ap, ◌∙◌, refl, arith}
use Rattle.std.specs.Prelude.{Any}
use Rattle.std.proofs.Math.Nat.{div-mul-le_self, mul-le-mul_right}
use Rattle.std.proofs.lemmas.Bool.{cases_lt}
use Rattle.std.proofs.lemmas.Nat.{div-add-mod', le-div, mod-mul-add, mod_below}
use Rattle.plan_periods.specs.declared.periods.Period.TheVariants.{Work}
use Rattle.work_calendars.specs.WorkDay.{work_days_before}
use Rattle.work_calendars.proofs.WorkDayFacts.{work_days_before-mono}
use Rattle.run_cycles.specs.declared.rules.Rule.TheVariants.{WorkDaysOnly}
use Rattle.run_cycles.specs.CountedDay.{HasPlace, IsCountedDay, work_days_among}
use Rattle.run_cycles.specs.Offset.{Offset, FromFirst, FromLast, offset_of}
use Rattle.run_cycles.specs.Searches.{AddsDays, IsGivenAt, IsInWindow}
use Rattle.run_cycles.proofs.AddLemmas.{adds_both, adds_same}
use Rattle.run_cycles.proofs.CountLemmas.{among_origin}
use Rattle.run_cycles.proofs.JumpLemmas.{from_first}

pub div_rises : (x y n : ℕ) → 0 < n → x ≤ y → x / n ≤ y / n
div_rises x y n some h = le-div (x / n) y n some (let l = div-mul-le_self x n in omega arith)

-- an interval that isn't past the last one begins no later than the work days end
pub block_small : (b x n : ℕ) → b ≤ x / n → b * n ≤ x
block_small b x n h = let l = mul-le-mul_right n h in let m = div-mul-le_self x n in omega arith

place_below : (c b n p k : ℕ) → c ≡ b * n + p → p < n → p + 1 ≡ k → HasPlace (FromFirst k) n c
place_below c b n p k is below e =
    let m : c % n ≡ p = ap (λ z. z % n) is ∙ mod-mul-add b n p below in
    (omega (arith, e), omega (arith, e, below), omega (arith, m, e))

place_above : (c b n p k : ℕ) → c ≡ b * n + p → p < n → p + k ≡ n → HasPlace (FromLast k) n c
place_above c b n p k is below e =
    let m : c % n ≡ p = ap (λ z. z % n) is ∙ mod-mul-add b n p below in
    (omega (arith, e, below), omega (arith, e), omega (arith, m, e))

module _ (work : ℕ → Bool) (o n : ℕ) (some : 0 < n) where
  -- the place of a work day among the intervals, at so many work days before the first of its interval
  abbrev pub At : ℕ → Offset → ℕ → Type 0
  At b k d = IsGivenAt WorkDaysOnly work (work_days_before work o + b * n)
      (Some (work_days_before work o + b * n + n)) k d

  block_counts : (b : ℕ) (k : Offset) (d : ℕ) → At b k d → IsCountedDay (Work o n) k work d
  block_counts b (FromFirst k) d (x, at, nth) =
      let on : IsTrue (work d) = nth.is_work in
      let place : work_days_before work d ≡ x = nth.place in
      let is : x + 1 ≡ work_days_before work o + b * n + k = at.1 in
      let low : o ≤ d = from_first work o d on (omega (arith, at.0)) in
      let count : work_days_among work o (d - o) ≡ work_days_before work d - work_days_before work o =
      among_origin work o d low in (
        on,
        low,
        place_below (work_days_among work o (d - o)) b n (k - 1) k (omega (
          arith,
          at.0,
        )) (omega (arith, at.0, at.2)) (omega (arith, at.0)),
      )
  block_counts b (FromLast k) d (x, at, nth) =
      let on : IsTrue (work d) = nth.is_work in
      let place : work_days_before work d ≡ x = nth.place in
      let start : work_days_before work o + b * n ≤ x = at.1 in
      let is : x + k ≡ work_days_before work o + b * n + n = at.2 in
      let low : o ≤ d = from_first work o d on (omega arith) in
      let count : work_days_among work o (d - o) ≡ work_days_before work d - work_days_before work o =
      among_origin work o d low in (
        on,
        low,
        place_above (work_days_among work o (d - o)) b n
            (n - k) k (omega arith) (omega (arith, at.0)) (omega arith),
      )

  counted_block : (k : Offset) (d : ℕ) → IsCountedDay (Work o n) k work d →
      At ((work_days_before work d - work_days_before work o) / n) k d
  counted_block (FromFirst k) d (on, low, has) =
      let c = work_days_before work d - work_days_before work o in
      let rises = work_days_before-mono work o d low in
      let count : work_days_among work o (d - o) ≡ c = among_origin work o d low in
      let m : c % n + 1 ≡ k = ap (λ z. z % n + 1) (sym count) ∙ has.2 in
      let parts : c / n * n + c % n ≡ c = div-add-mod' c n in
      let below : c % n < n = mod_below c n some in
      (work_days_before work d, (omega (arith, has.0), omega arith, omega arith), record { is_work = on; place = refl })
  counted_block (FromLast k) d (on, low, has) =
      let c = work_days_before work d - work_days_before work o in
      let rises = work_days_before-mono work o d low in
      let count : work_days_among work o (d - o) ≡ c = among_origin work o d low in
      let m : c % n + k ≡ n = ap (λ z. z % n + k) (sym count) ∙ has.2 in
      let parts : c / n * n + c % n ≡ c = div-add-mod' c n in
      let below : c % n < n = mod_below c n some in
      (work_days_before work d, (omega (arith, has.0), omega arith, omega arith), record { is_work = on; place = refl })

  module _ (low high : ℕ) (offsets : List ℤ) where
    -- d is given by one of the intervals from the one at `first` to before the one at `next`
    abbrev pub InBlocks : ℕ → ℕ → ℕ → Type 0
    InBlocks first next d =
        (low ≤ d) × (d < high) × ((b : ℕ) × (first ≤ b) × (b < next) × Any (λ k. At b (offset_of k) d) offsets)

    pub blocks_more : (first next : ℕ) → first ≤ next → (old mid new : List ℕ) →
        AddsDays (InBlocks first next) old mid → AddsDays (IsInWindow low high (At next) offsets) mid new →
        AddsDays (InBlocks first (next + 1)) old new
    blocks_more first next from old mid new before then =
        adds_both (InBlocks first next) (IsInWindow low high (At next) offsets) (InBlocks first (next + 1)) old mid new
        (λ d. (
          (λ (l, u, block).
              let (b, f, t, any) = block in
              ⊎_elim
              (λ under. inl (l, u, (b, f, under, any)))
              (λ over. let e : b ≡ next = omega (arith, t, over) in
              inr (l, u, (let P : ℕ → Type 0 = λ z. Any (λ k. At z (offset_of k) d) offsets in subst P e any)))
              (cases_lt b next)),
          λ s. ⊎_elim
              (λ h. (h.0, h.1, (h.2.0, h.2.1, omega (arith, h.2.2), h.2.3)))
              (λ h. (h.0, h.1, (next, from, omega arith, h.2)))
              s,
        ))
        before then

    -- the intervals from the one that the window begins in to the one that it ends in give all its counted days
    pub blocks_all : (from to next : ℕ) → from ≤ low → high ≤ to + 1 →
        (work_days_before work to - work_days_before work o) / n + 1 ≤ next →
        (old new : List ℕ) → AddsDays (InBlocks ((work_days_before work from - work_days_before work o) / n) next)
        old new → AddsDays (IsInWindow low high (λ k d. IsCountedDay (Work o n) k work d) offsets) old new
    blocks_all from to next begins ends past old new =
        adds_same (InBlocks ((work_days_before work from - work_days_before work o) / n) next)
        (IsInWindow low high (λ k d. IsCountedDay (Work o n) k work d) offsets) old new
        (λ d. (
          (λ (l, u, some_block).
              let (b, f, t, any) = some_block in
              (l, u, (any.0, any.1, any.2, any.3, block_counts b (offset_of any.1) d any.4))),
          λ (l, u, any).
              let c = work_days_before work d - work_days_before work o in
              let early = work_days_before-mono work from d (omega (arith, l, begins)) in
              let late = work_days_before-mono work d to (omega (arith, u, ends)) in
              let first = div_rises (work_days_before work from - work_days_before work o) c n some (omega arith) in
              let last = div_rises c (work_days_before work to - work_days_before work o) n some (omega arith) in (
                l,
                u,
                (
                  c / n,
                  first,
                  omega (arith, last, past),
                  (any.0, any.1, any.2, any.3, counted_block (offset_of any.1) d any.4),
                ),
              ),
        ))
