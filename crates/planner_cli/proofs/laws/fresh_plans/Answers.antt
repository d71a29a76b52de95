use Rattle.planner_cli.proofs.FreshRunLemmas.{crash_fresh, fault_fresh, items_fresh, run_fresh}
use Rattle.planner_cli.proofs.laws.fresh_plans.Goals as goal

pub returns-clause-items : goal.returns-clause-items
returns-clause-items c =
    items_fresh c.one_statement_per_line.ensures c.fresh_plans.ensures.streams c.streams.ensures.sound
    c.fresh_plans.ensures.create c.fresh_plans.ensures.modify c.sound_content_stays_sound.ensures

pub returns-clause-ran : goal.returns-clause-ran
returns-clause-ran c =
    run_fresh c.one_statement_per_line.ensures c.fresh_plans.ensures.streams c.streams.ensures.sound
    c.fresh_plans.ensures.create c.fresh_plans.ensures.modify c.sound_content_stays_sound.ensures

pub returns-clause-after_fault : goal.returns-clause-after_fault
returns-clause-after_fault c =
    fault_fresh c.one_statement_per_line.ensures c.fresh_plans.ensures.streams c.streams.ensures.sound
    c.fresh_plans.ensures.create c.fresh_plans.ensures.modify c.sound_content_stays_sound.ensures

pub returns-clause-after_crash : goal.returns-clause-after_crash
returns-clause-after_crash c =
    crash_fresh c.one_statement_per_line.ensures c.fresh_plans.ensures.streams c.streams.ensures.sound
    c.fresh_plans.ensures.create c.fresh_plans.ensures.modify c.sound_content_stays_sound.ensures
