use Rattle.std.proofs.Common.{◌≡◌, ◌≤◌, ◌-◌, ℕ, sym, subst, ◌∙◌, arith}
use Rattle.std.proofs.lemmas.Bool.Decides.{nat_tests}
use Rattle.work_calendars.specs.WorkIndex.{is_work_in}
use Rattle.work_calendars.proofs.WorkDayFacts.{work_days_before-mono}
use Rattle.run_cycles.specs.CountedDay.{HasPlace, IsCountedDay, work_days_among}
use Rattle.run_cycles.specs.Offset.{offset_of}
use Rattle.plan_periods.specs.declared.periods.Period.TheVariants.{Work}
use Rattle.run_cycles.proofs.CountLemmas.{among_origin}
use Rattle.run_cycles.proofs.Iff.{Any-weaker}
use Rattle.run_cycles.proofs.counting.any_offset_has_place.Goals as goal

pub overflow_sub-rank : goal.overflow_sub-rank
overflow_sub-rank c =
    let lt = c.lt.ensures in
    let from : c.args.origin ≤ c.args.day = grind (arith, nat_tests) in
    let rises = work_days_before-mono (is_work_in c.args.index.now) c.args.origin c.args.day from in
    omega arith

pub returns : goal.returns
returns c =
    let lt = c.lt.ensures in
    let from : c.args.origin ≤ c.args.day = grind (arith, nat_tests) in
    let same : work_days_among (is_work_in c.args.index.now) c.args.origin
    (c.args.day - c.args.origin) ≡ c.rank.result - c.rank-2.result =
    among_origin (is_work_in c.args.index.now) c.args.origin c.args.day from ∙ cc in (
      (λ t. Any-weaker (λ k. HasPlace (offset_of k) c.args.interval (c.rank.result - c.rank-2.result))
          (λ k. IsCountedDay (Work c.args.origin c.args.interval)
          (offset_of k) (is_work_in c.args.index.now) c.args.day) c.args.offsets.now
          (λ k h. (
            sym c.is_work.ensures ∙ c.if-not-is_work.false,
            from,
            let P : ℕ → Type 0 = λ n. HasPlace (offset_of k) c.args.interval n in subst P (sym same) h,
          ))
          (c.any_has_place.ensures.0 t)),
      λ h. c.any_has_place.ensures.1 (Any-weaker (λ k. IsCountedDay
          (Work c.args.origin c.args.interval) (offset_of k) (is_work_in c.args.index.now) c.args.day)
          (λ k. HasPlace (offset_of k) c.args.interval (c.rank.result - c.rank-2.result)) c.args.offsets.now
          (λ k g. let P : ℕ → Type 0 = λ n. HasPlace (offset_of k) c.args.interval n in subst P same g.2)
          h),
    )
