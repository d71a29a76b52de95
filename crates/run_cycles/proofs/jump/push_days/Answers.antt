use Rattle.std.proofs.Common.{◌≡◌, ◌+◌, ◌*◌, ◌≤◌, ◌<◌, ℤ, Bool, List, pos, to_z, of_z, get_or, subst, arith}
use mir.Syntax.{w16}
use Rattle.work_calendars.specs.WorkIndex.{is_work_in}
use Rattle.run_cycles.specs.Offset.{offset_of}
use Rattle.run_cycles.specs.Searches.{AddsDays, IsGivenAt, questions_of}
use Rattle.run_cycles.proofs.AddLemmas.{asks_both, read, window_all, window_more}
use Rattle.run_cycles.proofs.jump.push_days.Goals as goal

pub loop-offset-preserved : goal.loop-offset-preserved
loop-offset-preserved c =
    let offsets = c.args.offsets.now in
    let n = c.loop-offset.offset-index in
    let low = c.args.window.now.low in
    let high = c.args.window.now.high in
    let k : ℤ = to_z w16 (of_z w16 (get_or offsets n (pos 0))) in
    let same : c.loop-offset.index.statuses ≡ c.args.index.now.statuses = c.loop-offset.invariant.1.0 in
    let P : List Bool → Type 0 = λ s. AddsDays (λ d. (low ≤ d) ×
    (d < high) × IsGivenAt c.args.rule (is_work_in s) c.args.start c.args.end (offset_of k) d)
    c.loop-offset.days.items c.push_day.new.days.items in (
      window_more low high (IsGivenAt c.args.rule (is_work_in c.args.index.now.statuses) c.args.start c.args.end)
          offsets n k c.loop-offset-test.true (read offsets n c.requires.offsets c.loop-offset-test.true)
          c.args.days.now.items c.loop-offset.days.items c.push_day.new.days.items c.loop-offset.invariant.0
          (subst P same c.in_ok-push_day.ensures.days),
      asks_both (n * questions_of c.args.rule) (questions_of c.args.rule)
          ((n + 1) * questions_of c.args.rule) c.args.index.now c.loop-offset.index c.push_day.new.index
          (omega arith) c.loop-offset.invariant.1 c.in_ok-push_day.ensures.asked,
    )

pub returns-clause-days : goal.returns-clause-days
returns-clause-days c =
    window_all c.args.window.now.low c.args.window.now.high (IsGivenAt c.args.rule
    (is_work_in c.args.index.now.statuses) c.args.start c.args.end)
    c.args.offsets.now c.loop-offset.offset-index c.loop-offset-test.false
    c.args.days.now.items c.loop-offset.days.items c.loop-offset.invariant.0
