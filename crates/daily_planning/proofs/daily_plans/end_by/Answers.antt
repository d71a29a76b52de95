use Rattle.std.proofs.Common.{◌≡◌, ◌∙◌, None, Some, sym}
use Rattle.daily_planning.proofs.DailyByLemmas.{end_is}
use Rattle.daily_planning.proofs.DailyWindowLemmas.{need_bounds, need_definitions}
use Rattle.daily_planning.proofs.daily_plans.end_by.Goals as goal

pub returns-in-Some : goal.returns-in-Some
returns-in-Some c = end_is c.args.days c.args.count c.in-Some.bounds c.definitions.result.now c.new_end.result
    c.new_end.ensures.some c.new_end.ensures.none (λ c' shows. (
      sym (need_bounds c.args.view.now c' None shows) ∙ (sym c.bounds.ensures ∙ c.in-Some.is),
      c.definitions.ensures ∙ need_definitions c.args.view.now c' None shows,
    ))

pub returns-in-None : goal.returns-in-None
returns-in-None c c' shows b at t new =
    let none = sym (need_bounds c.args.view.now c' None shows) ∙ (sym c.bounds.ensures ∙ c.in-None.is) in
    let no : None ≡ Some b = sym none ∙ at in cc
