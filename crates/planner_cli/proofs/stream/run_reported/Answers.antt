use Rattle.planner_cli.proofs.Progress.{crash_written, fault_written}
use Rattle.planner_cli.proofs.PlanLemmas.{crashed_leads, ran_leads, replied_leads, stopped_leads}
use Rattle.planner_cli.proofs.ReportLemmas.{line_ends, unwritten_line}
use Rattle.planner_cli.proofs.stream.run_reported.Goals as goal

pub returns-in-Ok-clause-plan : goal.returns-in-Ok-clause-plan
returns-in-Ok-clause-plan g c = record {
  ran = λ honest. ran_leads c.streams.ensures.sound c.streams.ensures.by_fate _ _ _ _ _ _
      (g.met.S.PlanStore.honest_is_sound c.args.store.now (c.answer_all.ensures.honest honest)) (c.in-Ok.ensures.ran honest);
  replied = λ honest clean. tt;
  fault = λ honest. tt;
  settled = c.in-Ok.ensures.settled;
  crash = λ honest own. tt;
  blames = tt;
  counts = c.answer_all.ensures.counts;
  honest = c.answer_all.ensures.honest;
  clean = c.answer_all.ensures.clean;
  stays_honest = λ honest clean fine. c.in-Ok.ensures.stays_honest honest clean tt;
  whole = c.in-Ok.ensures.stays_whole;
}

pub returns-in-Err-clause-plan : goal.returns-in-Err-clause-plan
returns-in-Err-clause-plan g c = record {
  ran = λ honest. tt;
  replied = λ honest clean.
      let (last, stopped) = c.in-Err.ensures.replied honest clean in
      replied_leads c.streams.ensures.sound c.streams.ensures.by_fate _ _ last _ _ _ _ (g.met.S.PlanStore.honest_is_sound c.args.store.now honest)
      (fault_written _ _ _ _ _ _ _ _ _ stopped c.cause.ensures c.write_fault-is_written.ensures.front);
  fault = λ honest. stopped_leads c.streams.ensures.sound c.streams.ensures.by_fate _ _ _ _ _ _
      (g.met.S.PlanStore.honest_is_sound c.args.store.now (c.answer_all.ensures.honest honest))
      (fault_written _ _ _ _ _ _ _ _ _ (c.in-Err.ensures.fault honest) c.cause.ensures c.write_fault-is_written.ensures.front);
  settled = λ honest own. tt;
  crash = λ honest own left leaves.
      crashed_leads c.streams.ensures.sound c.streams.ensures.by_fate _ _ _ _ _ _ left (g.met.S.PlanStore.honest_is_sound c.args.store.now honest)
      (crash_written _ _ _ _ _ _ _ _ _ left
      (c.in-Err.ensures.crash honest (g.met.S.PlanStore.left_is_clean _ left leaves) own left leaves)
      c.cause.ensures c.write_fault-is_written.ensures.front);
  blames = c.in-Err.ensures.blames;
  counts = c.answer_all.ensures.counts;
  honest = c.answer_all.ensures.honest;
  clean = c.answer_all.ensures.clean;
  stays_honest = c.in-Err.ensures.stays_honest;
  whole = tt;
}

pub returns-in-Err-clause-line : goal.returns-in-Err-clause-line
returns-in-Err-clause-line g c honest clean written =
    let (last, stopped) = c.in-Err.ensures.replied honest clean in
    line_ends _ _ _ _ _ _ stopped.written c.cause.ensures (c.write_fault-is_written.ensures.whole written)

pub returns-in-Err-clause-unwritten : goal.returns-in-Err-clause-unwritten
returns-in-Err-clause-unwritten g c short =
    unwritten_line _ _ _ _ c.cause.ensures (c.write_fault-is_written.ensures.short short)
