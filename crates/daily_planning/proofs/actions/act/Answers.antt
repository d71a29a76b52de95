use Rattle.std.proofs.Common.{◌≡◌, ◌∙◌, Some, subst, sym}
use Rattle.occurrences.specs.Status.{changed_status}
use Rattle.occurrences.specs.declared.place.CurrentRow.{CurrentRow}
use Rattle.occurrences.specs.declared.status.Action.{Action}
use Rattle.occurrences.specs.declared.refusal.Refusal.TheVariants.{PredecessorUncompleted}
use Rattle.occurrences.specs.declared.reply.Reply.TheVariants.{Changed}
use Rattle.planner_machine.specs.Act.{cp_action}
use Rattle.plan_store.specs.Verdicts.{VerdictIs}
use Rattle.plan_store.specs.Views.{with_hidden}
use Rattle.plan_store.specs.declared.changes.Verdict.TheVariants.{Done, Refused}
use Rattle.daily_planning.specs.Actions.{IsActedOn, WaitsFor}
use Rattle.daily_planning.proofs.ActLemmas.{action_done, action_waits, refused_status}
use Rattle.daily_planning.proofs.WaitLemmas.{started_waits}
use Rattle.daily_planning.proofs.actions.act.Goals as goal

pub returns-in_default : goal.returns-in_default
returns-in_default c h sound sees some is =
    refused_status c.args.current.now.row.key c.args.action (with_hidden h c.args.view.now) some c.args.current.now is
    (sym c.next_status.ensures ∙ c.in_default.is)

pub returns-in-Some-waited_for : goal.returns-in-Some-waited_for
returns-in-Some-waited_for c h sound sees some is =
    let content = with_hidden h c.args.view.now in
    let current = c.args.current.now in
    let changed : CurrentRow = record { row = current.row; status = c.in-Some.status } in
    let acted : IsActedOn content c.args.action changed =
    record { was = current.status; stands = is.0; live = is.2; allowed = sym c.next_status.ensures ∙ c.in-Some.is }
    in
    subst (λ n. VerdictIs (cp_action current.row.key c.args.action) content (Refused (PredecessorUncompleted n)))
    (sym c.get.ensures.number)
    (action_waits content sound c.args.action changed acted some c.in-Some-waited_for.predecessor
    (subst (WaitsFor content c.args.action current.row.serial) c.in-Some-waited_for.is
    (c.waited_for.ensures h sound sees is.0 (λ start. started_waits current.status changed.status
    (subst (λ (a : Action). changed_status current.status a ≡ Some changed.status) start acted.allowed)))))

pub returns : goal.returns
returns c h sound sees some is =
    let content = with_hidden h c.args.view.now in
    let current = c.args.current.now in
    let changed : CurrentRow = record { row = current.row; status = c.in-Some.status } in
    let acted : IsActedOn content c.args.action changed =
    record { was = current.status; stands = is.0; live = is.2; allowed = sym c.next_status.ensures ∙ c.in-Some.is }
    in
    subst (λ n. VerdictIs (cp_action current.row.key c.args.action) content
    (Done c.in_ok-change.change (Changed n c.in-Some.status))) (sym c.get-2.ensures.number)
    (action_done content sound c.args.action changed acted c.in_ok-change.change (c.in_ok-change.ensures h sound sees acted)
    some
    (subst (WaitsFor content c.args.action current.row.serial) c.in_default-waited_for.is
    (c.waited_for.ensures h sound sees is.0 (λ start. started_waits current.status changed.status
    (subst (λ (a : Action). changed_status current.status a ≡ Some changed.status) start acted.allowed)))))
