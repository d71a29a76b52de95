use Rattle.std.proofs.Common.{inl, inr, refl}
use Rattle.sqlite.specs.Held.{state}
use Rattle.plan_tables_schema.proofs.ResultLemmas.{if_ok}
use Rattle.plan_store.specs.Contents.{content_of}
use Rattle.plan_tables_loading.specs.Reading.{HasPlan}
use Rattle.plan_tables_opening.proofs.KeptLemmas.{untouched}
use Rattle.plan_tables_opening.proofs.OpenedLemmas.{opened_of, unmade_of, unread_in}
use Rattle.plan_tables_opening.proofs.OpeningLemmas.{room_has_none}
use Rattle.plan_tables_opening.proofs.SoundLemmas.{common_of}
use Rattle.plan_tables_opening.proofs.opening.open_content.Goals as goal

pub returns-in-Ok-Plan-clause-opened : goal.returns-in-Ok-Plan-clause-opened
unfolding HasPlan
returns-in-Ok-Plan-clause-opened g c =
    let old = state g.S.Store c.args.conn.now in
    let new = state g.S.Store c.open_plan.new.conn in
    let plan = rw c.in-Ok-Plan.field-0-is at c.in-Ok-Plan.ensures in
    opened_of c.open_plan.result old new content_of c.open_plan.ensures.sound c.open_plan.ensures.opened
    (λ clean. if_ok c.open_plan.result _ _ (λ content tells. inl (plan, tells)) (c.open_plan.ensures.told clean))
    (λ room. absurd (room_has_none old room plan)) (λ _ room. absurd (room_has_none old room plan))

pub returns-in-Ok-Plan-clause-unopened : goal.returns-in-Ok-Plan-clause-unopened
returns-in-Ok-Plan-clause-unopened g c clean =
    let old = state g.S.Store c.args.conn.now in
    let new = state g.S.Store c.open_plan.new.conn in
    let plan = rw c.in-Ok-Plan.field-0-is at c.in-Ok-Plan.ensures in
    unread_in c.open_plan.result old new plan (c.open_plan.ensures.unread clean)

pub returns-in-Ok-Room-clause-opened : goal.returns-in-Ok-Room-clause-opened
returns-in-Ok-Room-clause-opened g c =
    let old = state g.S.Store c.args.conn.now in
    let new = state g.S.Store c.open_new.new.conn in
    let room = rw c.in-Ok-Room.field-0-is at c.in-Ok-Room.ensures in
    opened_of c.open_new.result old new content_of c.open_new.ensures.sound c.open_new.ensures.opened
    (λ clean. if_ok c.open_new.result _ _ (λ content is. inr (room, is)) c.open_new.ensures.empty)
    (λ _. c.open_new.ensures.empty) (λ clean _. c.open_new.ensures.beside clean)

pub returns-in-Ok-Room-clause-unopened : goal.returns-in-Ok-Room-clause-unopened
returns-in-Ok-Room-clause-unopened g c clean =
    let room = rw c.in-Ok-Room.field-0-is at c.in-Ok-Room.ensures in
    unmade_of c.open_new.result (state g.S.Store c.args.conn.now) (state g.S.Store c.open_new.new.conn)
    room (c.open_new.ensures.unmade clean)

pub returns-in-Ok-Others-clause-unopened : goal.returns-in-Ok-Others-clause-unopened
returns-in-Ok-Others-clause-unopened g c clean =
    let others = rw c.in-Ok-Others.field-0-is at c.in-Ok-Others.ensures in
    inr (inr (inr (others, c.foreign_fault.ensures.told clean)))

pub returns-in-Ok-Plan-clause-holds : goal.returns-in-Ok-Plan-clause-holds
returns-in-Ok-Plan-clause-holds g c clean holds =
    let old = state g.S.Store c.args.conn.now in
    let new = state g.S.Store c.open_plan.new.conn in
    let plan = rw c.in-Ok-Plan.field-0-is at c.in-Ok-Plan.ensures in
    common_of c.open_plan.result old new holds
    (unread_in c.open_plan.result old new plan (c.open_plan.ensures.unread clean))

pub returns-in-Ok-Plan-clause-tells : goal.returns-in-Ok-Plan-clause-tells
returns-in-Ok-Plan-clause-tells g c clean holds = c.open_plan.ensures.told clean

pub returns-in-Ok-Room-clause-holds : goal.returns-in-Ok-Room-clause-holds
returns-in-Ok-Room-clause-holds g c clean holds =
    absurd (room_has_none (state g.S.Store c.args.conn.now) (rw c.in-Ok-Room.field-0-is at c.in-Ok-Room.ensures) holds.0)

pub returns-in-Ok-Room-clause-tells : goal.returns-in-Ok-Room-clause-tells
returns-in-Ok-Room-clause-tells g c clean holds =
    absurd (room_has_none (state g.S.Store c.args.conn.now) (rw c.in-Ok-Room.field-0-is at c.in-Ok-Room.ensures) holds.0)

pub returns-in-Ok-Others-clause-holds : goal.returns-in-Ok-Others-clause-holds
returns-in-Ok-Others-clause-holds g c clean holds =
    let others = rw c.in-Ok-Others.field-0-is at c.in-Ok-Others.ensures in
    absurd (others.0 holds.0)

pub returns-in-Err-clause-unopened : goal.returns-in-Err-clause-unopened
returns-in-Err-clause-unopened g c clean = inl (refl, untouched (state g.S.Store c.args.conn.now))

pub returns-in-Err-clause-holds : goal.returns-in-Err-clause-holds
returns-in-Err-clause-holds g c clean holds = record { now = λ _. refl; committed = λ _. refl }
