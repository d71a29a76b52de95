use Rattle.std.proofs.Common.{◌≡◌, ◌+◌, ◌-◌, ◌*◌, ◌/◌, ◌≤◌, ◌<◌, ℕ, Bool, List, Some, ap, subst, ◌∙◌, arith}
use Rattle.std.proofs.Math.Nat.{div-le_self}
use Rattle.work_calendars.specs.CountedIndex.{CountedStatuses}
use Rattle.work_calendars.specs.WorkDay.{work_days_before}
use Rattle.work_calendars.specs.WorkIndex.{is_work_in}
use Rattle.run_cycles.specs.declared.rules.Rule.TheVariants.{WorkDaysOnly}
use Rattle.run_cycles.specs.Searches.{AddsDays, IsGivenAt, IsInWindow}
use Rattle.run_cycles.proofs.BlockLemmas.{InBlocks, block_small, blocks_all, blocks_more}
use Rattle.run_cycles.proofs.JumpLemmas.{few_work_days}
use Rattle.run_cycles.proofs.jump.push_work_intervals.Goals as goal

pub overflow_add-place-end : goal.overflow_add-place-end
overflow_add-place-end c =
    let statuses : CountedStatuses → List Bool = λ s. s.statuses in
    let few = few_work_days c.rank.new.self.statuses c.args.to in
    let less = div-le_self c.saturating_sub-2.result c.from-length.result in
    omega arith

pub overflow_add-start-in-loop-place : goal.overflow_add-start-in-loop-place
overflow_add-start-in-loop-place c =
    let few = few_work_days c.rank.new.self.statuses c.args.to in
    let fewer = few_work_days c.args.index.now.statuses c.args.origin in
    let small = block_small c.loop-place.place c.saturating_sub-2.result c.from-length.result (omega arith) in
    omega arith

pub push_days-requires-clause-start : goal.push_days-requires-clause-start
push_days-requires-clause-start c =
    let few = few_work_days c.rank.new.self.statuses c.args.to in
    let fewer = few_work_days c.args.index.now.statuses c.args.origin in
    let small = block_small c.loop-place.place c.saturating_sub-2.result c.from-length.result (omega arith) in
    omega arith

pub loop-place-preserved : goal.loop-place-preserved
loop-place-preserved c =
    let inv = c.loop-place.invariant in
    let s = c.args.index.now.statuses in
    let o = c.args.origin in
    let n = c.args.interval in
    let place = c.loop-place.place in
    let low = c.args.window.now.low in
    let high = c.args.window.now.high in
    let offsets = c.args.offsets.now in
    let mid = c.loop-place.days.items in
    let new = c.push_days.new.days.items in
    let G : List Bool → ℕ → ℕ → Type 0 = λ t r m. AddsDays (IsInWindow low high
    (IsGivenAt WorkDaysOnly (is_work_in t) (r + place * m) (Some (r + place * m + m))) offsets) mid new in
    let before : c.rank-before_origin.result ≡ work_days_before (is_work_in s) o = c.rank-before_origin.ensures.value in
    let length : c.from-length.result ≡ n = c.from-length.ensures in
    let same : G c.loop-place.index.statuses c.rank-before_origin.result c.from-length.result ≡ G s
    (work_days_before (is_work_in s) o) n = λ i. G (inv.0 i) (before i) (length i) in
    let P : Type 0 → Type 0 = λ T. T in (
      c.in_ok-push_days.ensures.asked.0 ∙ inv.0,
      λ some. blocks_more (is_work_in s) o n some low high offsets
          (c.saturating_sub.result / c.from-length.result) place c.loop-place.auto.place c.args.days.now.items mid new
          (inv.1 some) (subst P same c.in_ok-push_days.ensures.days),
    )

pub returns-clause-days : goal.returns-clause-days
returns-clause-days c =
    let inv = c.loop-place.invariant in
    let s = c.args.index.now.statuses in
    let o = c.args.origin in
    let n = c.args.interval in
    let place = c.loop-place.place in
    let low = c.args.window.now.low in
    let high = c.args.window.now.high in
    let offsets = c.args.offsets.now in
    let some : 0 < n = omega (arith, c.requires.sound.0) in
    let statuses : CountedStatuses → List Bool = λ t. t.statuses in
    let one : c.rank-before_origin.new.self.statuses ≡ s = ap statuses c.rank-before_origin.ensures.counted in
    let two : c.rank.new.self.statuses ≡ s = ap statuses c.rank.ensures.counted ∙ one in
    let before : c.rank-before_origin.result ≡ work_days_before (is_work_in s) o = c.rank-before_origin.ensures.value in
    let from : c.rank.result ≡ work_days_before (is_work_in s) c.args.from =
    c.rank.ensures.value ∙ ap (λ t. work_days_before (is_work_in t) c.args.from) one in
    let to : c.rank-2.result ≡ work_days_before (is_work_in s) c.args.to =
    c.rank-2.ensures.value ∙ ap (λ t. work_days_before (is_work_in t) c.args.to) two in
    let length : c.from-length.result ≡ n = c.from-length.ensures in
    let first : c.saturating_sub.result / c.from-length.result ≡
    (work_days_before (is_work_in s) c.args.from - work_days_before (is_work_in s) o) / n
    = ap (λ x. x / c.from-length.result) c.saturating_sub.ensures ∙ (λ i. (from i - before i) / length i) in
    let last : c.saturating_sub-2.result / c.from-length.result ≡
    (work_days_before (is_work_in s) c.args.to - work_days_before (is_work_in s) o) / n
    = ap (λ x. x / c.from-length.result) c.saturating_sub-2.ensures ∙ (λ i. (to i - before i) / length i) in
    let past : c.saturating_sub-2.result / c.from-length.result + 1 ≤ place = c.loop-place-test.false in
    let Q : ℕ → Type 0 = λ x. x + 1 ≤ place in
    let Blocks : ℕ → Type 0 = λ f. AddsDays (InBlocks (is_work_in s) o n some low high offsets f place)
    c.args.days.now.items c.loop-place.days.items in
    blocks_all (is_work_in s) o n some low high offsets c.args.from c.args.to place c.requires.low c.requires.high
    (subst Q last past) c.args.days.now.items c.loop-place.days.items (subst Blocks first (inv.1 some))
