use Rattle.std.proofs.Common.{◌∙◌, None, sym}
use Rattle.daily_planning.proofs.DailyByLemmas.{no_end, no_plan}
use Rattle.daily_planning.proofs.DailyWindowLemmas.{need_bounds}
use Rattle.daily_planning.proofs.daily_plans.without_end.Goals as goal

pub returns-in-Some : goal.returns-in-Some
returns-in-Some c days count c' end shows =
    no_end c' days count c.in-Some.field-0
    (sym (need_bounds c.args.view.now c' None shows) ∙ (sym c.bounds.ensures ∙ c.in-Some.is)) end

pub returns-in-None : goal.returns-in-None
returns-in-None c days count c' end shows =
    no_plan c' days count (sym (need_bounds c.args.view.now c' None shows) ∙ (sym c.bounds.ensures ∙ c.in-None.is))
