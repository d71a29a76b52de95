use Rattle.std.proofs.Common.{refl}
use Rattle.std.proofs.lemmas.Option.{slice_get_read}
use Rattle.plan_tables_definitions.proofs.PeriodLemmas.{origin_at}
use Rattle.plan_tables_definitions.proofs.PlaceLemmas.{none_is_some}
use Rattle.plan_tables_definitions.proofs.periods.origins_of.Goals as goal

pub returns-in-None-clause-found : goal.returns-in-None-clause-found
returns-in-None-clause-found c es days same =
    let xs = c.args.entries.now in
    let (e, ends, is) = origin_at es c.loop-entry.entry-index xs c.entry-item.result days same
    (slice_get_read xs _ c.loop-entry.entry-index c.entry-item.result refl c.loop-entry-test.true c.entry-item.is) in
    absurd (none_is_some c.origin_of.result e c.in-None.is (c.origin_of.ensures.found e ends is))
