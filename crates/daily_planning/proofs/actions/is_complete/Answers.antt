use Rattle.std.proofs.Common.{subst}
use Rattle.occurrences.specs.Place.{IsComplete}
use Rattle.external_dependencies.specs.declared.rows.PlacedRow.{PlacedRow}
use Rattle.plan_store.specs.Views.{with_hidden}
use Rattle.planner_machine.proofs.SeatLemmas.{one_place}
use Rattle.daily_planning.proofs.WaitLemmas.{outside_dead}
use Rattle.daily_planning.proofs.actions.is_complete.Goals as goal

pub returns-in-Some : goal.returns-in-Some
returns-in-Some c h numbered has lives =
    let at = c.in-Some.ensures h numbered has in
    let is = c.is_complete.ensures in (
      (λ yes. (c.in-Some.placed, at.0, is.0 yes)),
      λ (p, stands, complete). is.1 (subst (λ (q : PlacedRow). IsComplete q.place)
          (one_place (with_hidden h c.args.view.now).sets c.args.pair.now.predecessor p c.in-Some.placed stands at.0)
          complete),
    )

pub returns-in-None : goal.returns-in-None
returns-in-None c h numbered has lives =
    absurd (outside_dead (with_hidden h c.args.view.now).sets c.args.pair.now.predecessor
    (c.in-None.ensures h numbered has) lives)
