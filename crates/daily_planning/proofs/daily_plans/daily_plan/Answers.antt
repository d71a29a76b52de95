use Rattle.std.proofs.Common.{◌≡◌, ◌∙◌, arith, length, refl, ap, Some}
use Rattle.planner_machine.specs.DailyPlan.{waiting}
use Rattle.plan_store.specs.declared.changes.Change.{Change}
use Rattle.daily_planning.proofs.DailyLemmas.{daily_replied}
use Rattle.daily_planning.proofs.DailyWindowLemmas.{daily_cp, daily_ltp}
use Rattle.daily_planning.proofs.daily_plans.daily_plan.Goals as goal

pub returns : goal.returns
returns c c' shows sound is =
    let t = c.args.to in
    let b = c.args.bounds.now in
    let none = c.none-change.result in
    let nothing = c.none-change.ensures in
    let change : Change = record none {
      bounds = Some (record b { plan_end = t });
      ltp = record none.ltp { gone = c.in_ok-moved.moved };
      cp = record none.cp { gone = c.in_ok-finished.finished; put = c.in_ok-change.field-0 };
      history = record none.history { put = c.in_ok-completed.completed };
      deletions = record none.deletions { put = c.in_ok-deleted.deleted };
    } in
    let rows = c.cp.result.now.items in
    let finished = rw (c.deref.ensures.value, c.in_ok-rows.ensures) at c.in_ok-finished.ensures in
    let completed = rw (c.deref-2.ensures.value, c.in_ok-rows.ensures) at c.in_ok-completed.ensures in
    let deleted = rw (c.deref-3.ensures.value, c.in_ok-rows.ensures) at c.in_ok-deleted.ensures in
    let uncompleted = rw (c.deref-4.ensures.value, c.in_ok-rows.ensures) at c.count_uncompleted.ensures in
    let moved = c.in_ok-moved.moved.items in
    let view = c.args.view.now in
    let moved_list = daily_ltp t view c' shows moved c.in_ok-moved.ensures in
    daily_replied t b c' sound is moved rows moved_list (daily_cp t view c' shows rows c.cp.ensures.rows) change
    (record {
      definitions = nothing.definitions;
      bounds = refl;
      issued = nothing.issued;
      in_force = nothing.in_force;
      ltp_gone = refl;
      ltp_changed = nothing.ltp.changed;
      ltp_put = nothing.ltp.put;
      cp_gone = finished;
      cp_changed = nothing.cp.changed;
      cp_put = c.in_ok-change.ensures ∙ ap (λ xs. Rattle.std.proofs.Common.map waiting xs) c.as_slice.ensures.value;
      history_gone = nothing.history.gone;
      history_changed = nothing.history.changed;
      history_put = completed;
      deletions_gone = nothing.deletions.gone;
      deletions_changed = nothing.deletions.changed;
      deletions_put = deleted;
      removed = nothing.removed;
      added = nothing.added;
      job = nothing.job;
    })
    c.len.result c.count_uncompleted.result c.len-2.result c.len-3.result
    (let e : c.len.result ≡ length c.in_ok-moved.moved.items = omega arith in e)
    uncompleted
    (let e : c.len-2.result ≡ length c.in_ok-completed.completed.items = omega arith in
    e ∙ ap length completed)
    (let e : c.len-3.result ≡ length c.in_ok-deleted.deleted.items = omega arith in
    e ∙ ap length deleted)
