use Rattle.std.proofs.Common.{sym, ap, ◌∙◌, arith}
use Rattle.std.specs.Option.{option_map}
use Rattle.planner_cli_stream.specs.Pages.{item_of}
use Rattle.planner_cli_stream.specs.declared.lines.ReadFault.TheVariants as Reads
use Rattle.planner_cli.proofs.Progress.{crashes_between, crashes_within, halts_between, halts_within}
use Rattle.planner_cli.proofs.Progress.{progress_answers, progress_starts}
use Rattle.planner_cli.proofs.StoreLemmas.{blamed_since}
use Rattle.planner_cli.proofs.stream.answer_all.Goals as goal

pub loop-init : goal.loop-init
loop-init g c = record {
  counts = omega arith;
  honest = λ h. h;
  clean = λ h. h;
  stays_honest = λ h clean. h;
  whole = λ h. h;
  settled = λ h own. own;
  progress = λ h. progress_starts _ _ _ _ _ c.new-tally.ensures.accepted c.new-tally.ensures.refused;
}

pub returns-in-Err-clause-fault : goal.returns-in-Err-clause-fault
returns-in-Err-clause-fault g c honest =
    halts_between _ _ _ _ _ _ _ _ c.in-Err.fault _ (c.loop.invariant.progress honest)
    (c.new.ensures.cause ∙ c.cause_of_read.ensures) c.new.ensures.tally

pub returns-in-Err-clause-crash : goal.returns-in-Err-clause-crash
returns-in-Err-clause-crash g c honest clean own left leaves =
    let still = c.loop.invariant.stays_honest honest clean in
    crashes_between _ _ _ _ _ _ _ _ c.in-Err.fault _ (c.loop.invariant.progress still)
    (c.new.ensures.cause ∙ c.cause_of_read.ensures) c.new.ensures.tally left
    (c.loop.invariant.settled still own left leaves)

pub returns-in-Err-clause-replied : goal.returns-in-Err-clause-replied
returns-in-Err-clause-replied g c honest clean = (
  _,
  halts_between _ _ _ _ _ _ _ _ c.in-Err.fault _ (c.loop.invariant.progress (c.loop.invariant.stays_honest honest clean))
      (c.new.ensures.cause ∙ c.cause_of_read.ensures) c.new.ensures.tally,
)

pub returns-clause-crash : goal.returns-clause-crash
returns-clause-crash g c honest clean own left leaves =
    let still = c.loop.invariant.stays_honest honest clean in
    crashes_between _ _ _ _ _ _ _ _ Reads.Reader _ (c.loop.invariant.progress still) c.new-2.ensures.cause
    c.new-2.ensures.tally left (c.loop.invariant.settled still own left leaves)

pub returns-clause-replied : goal.returns-clause-replied
returns-clause-replied g c honest clean = (
  _,
  halts_between _ _ _ _ _ _ _ _ Reads.Reader _ (c.loop.invariant.progress (c.loop.invariant.stays_honest honest clean))
      c.new-2.ensures.cause c.new-2.ensures.tally,
)

pub returns-in-Err-answer_one-clause-crash : goal.returns-in-Err-answer_one-clause-crash
returns-in-Err-answer_one-clause-crash g c honest clean own left leaves =
    let met = sym c.item.ensures.item ∙ ap (option_map item_of) c.in-Some.is in
    let halted = c.new-in-Err-answer_one.ensures in
    let before = c.loop.invariant.stays_honest honest (c.answer_one.ensures.clean clean) in
    let (last, breaks) = c.in-Err-answer_one.ensures.replied before clean in
    crashes_within _ _ _ _ _ _ _ _ _ _ _ _ _ c.in-Err-answer_one.cause _ (c.loop.invariant.progress before)
    c.in_default.ensures.read met halted.cause halted.tally breaks _ left
    (c.in-Err-answer_one.ensures.crash before clean (c.loop.invariant.settled before own) left leaves)

pub returns-in-Err-answer_one-clause-replied : goal.returns-in-Err-answer_one-clause-replied
returns-in-Err-answer_one-clause-replied g c honest clean =
    let met = sym c.item.ensures.item ∙ ap (option_map item_of) c.in-Some.is in
    let halted = c.new-in-Err-answer_one.ensures in
    let before = c.loop.invariant.stays_honest honest (c.answer_one.ensures.clean clean) in
    let (last, breaks) = c.in-Err-answer_one.ensures.replied before clean in (
      last,
      halts_within _ _ _ _ _ _ _ _ _ _ _ _ _ c.in-Err-answer_one.cause _ (c.loop.invariant.progress before)
          c.in_default.ensures.read met halted.cause halted.tally breaks,
    )

pub returns-in-Err-answer_one-clause-stays_honest : goal.returns-in-Err-answer_one-clause-stays_honest
returns-in-Err-answer_one-clause-stays_honest g c honest clean mild =
    c.in-Err-answer_one.ensures.stays_honest
    (c.loop.invariant.stays_honest honest (c.answer_one.ensures.clean clean)) clean (
      λ store. mild.0 (c.new-in-Err-answer_one.ensures.cause ∙ store),
      λ memory. mild.1 (c.new-in-Err-answer_one.ensures.cause ∙ memory),
    )

pub returns-clause-fault : goal.returns-clause-fault
returns-clause-fault g c honest =
    halts_between _ _ _ _ _ _ _ _ Reads.Reader _ (c.loop.invariant.progress honest) c.new-2.ensures.cause
    c.new-2.ensures.tally

pub returns-in-Err-answer_one-clause-fault : goal.returns-in-Err-answer_one-clause-fault
returns-in-Err-answer_one-clause-fault g c honest =
    let met = sym c.item.ensures.item ∙ ap (option_map item_of) c.in-Some.is in
    let halted = c.new-in-Err-answer_one.ensures in
    let before = c.answer_one.ensures.honest honest in
    halts_within _ _ _ _ _ _ _ _ _ _ _ _ _ c.in-Err-answer_one.cause _ (c.loop.invariant.progress before)
    c.in_default.ensures.read met halted.cause halted.tally
    (c.in-Err-answer_one.ensures.err honest)

pub returns-in-Err-answer_one-clause-blames : goal.returns-in-Err-answer_one-clause-blames
returns-in-Err-answer_one-clause-blames g c store =
    let blames = c.in-Err-answer_one.ensures.blames (sym c.new-in-Err-answer_one.ensures.cause ∙ store) in
    blamed_since _ _ _ c.loop.invariant.counts c.answer_one.ensures.counts blames

pub loop-preserved : goal.loop-preserved
loop-preserved g c =
    let met = sym c.item.ensures.item ∙ ap (option_map item_of) c.in-Some.is in
    record {
      counts = let a = c.loop.invariant.counts in let b = c.answer_one.ensures.counts in omega arith;
      honest = λ honest. c.loop.invariant.honest (c.answer_one.ensures.honest honest);
      clean = λ clean. c.loop.invariant.clean (c.answer_one.ensures.clean clean);
      stays_honest = λ honest clean. c.in-Ok.ensures.stays_honest
          (c.loop.invariant.stays_honest honest (c.answer_one.ensures.clean clean)) clean tt;
      whole = λ whole. c.in-Ok.ensures.stays_whole (c.loop.invariant.whole whole);
      settled = λ honest own.
          c.in-Ok.ensures.settled honest (c.loop.invariant.settled (c.answer_one.ensures.honest honest) own);
      progress = λ honest. progress_answers _ _ _ _ _ _ _ _ _ _ _ _ _ _ _
          (c.loop.invariant.progress (c.answer_one.ensures.honest honest))
          c.in_default.ensures.read met (c.in-Ok.ensures.ok honest) c.count.ensures.accepted c.count.ensures.refused;
    }
