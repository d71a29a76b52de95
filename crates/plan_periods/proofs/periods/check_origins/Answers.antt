use Rattle.std.proofs.Common.{refl, arith}
use Rattle.std.proofs.lemmas.Bool.{false≢true}
use Rattle.plan_periods.proofs.FaultLemmas.{least_not_rising, sound_list}
use Rattle.plan_periods.proofs.periods.check_origins.Goals as goal

pub returns-then-not-has_rising_origins-clause-err : goal.returns-then-not-has_rising_origins-clause-err
returns-then-not-has_rising_origins-clause-err c =
    least_not_rising c.args.entries.now
    (λ before. false≢true ((c.if-any_end_before_origin.ensures).1 before))
    (λ rising. false≢true ((c.if-not-has_rising_origins.ensures).1 rising))

pub returns-clause-ok : goal.returns-clause-ok
returns-clause-ok c =
    sound_list c.args.entries.now
    (λ before. false≢true ((c.if-any_end_before_origin.ensures).1 before))
    ((c.if-not-has_rising_origins.ensures).0 refl)
    (grind (arith, c.if-is_empty.ensures))
