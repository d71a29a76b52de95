use Rattle.std.proofs.Common.{◌∙◌, ap, subst, sym}
use Rattle.std.specs.Prelude.{IfErr, IfOk, not}
use Rattle.sqlite.specs.Held.{state}
use Rattle.sqlite.proofs.StateLemmas.{survives_weaker}
use Rattle.planner_machine.specs.Sound.{IsSound}
use Rattle.plan_store.specs.Contents.{content_of}
use Rattle.plan_tables_schema.specs.Rows.{tables_of}
use Rattle.plan_tables_content.specs.Content.{IsContentOf}
use Rattle.plan_tables_schema.proofs.ResultLemmas.{if_ok}
use Rattle.plan_tables_opening.specs.Judging.{told}
use Rattle.plan_tables_opening.specs.Opened.{IsStored}
use Rattle.plan_tables_opening.specs.Opening.{IsUnread}
use Rattle.plan_tables_opening.proofs.JudgedLemmas.{told_content, told_sound, unread_of}
use Rattle.plan_tables_opening.proofs.KeptLemmas.{kept_if_left}
use Rattle.plan_tables_opening.proofs.opening.open_plan.Goals as goal

pub returns-clause-opened : goal.returns-clause-opened
returns-clause-opened g c clean =
    let old = state g.S.Store c.args.conn.now in
    let new = state g.S.Store c.read_plan-found.new.conn in
    let found = c.read_plan-found in
    let tells = told_content old new found.result (found.ensures.judged clean) in
    subst (λ r. IfOk r (λ content. IsStored new (content_of content))) (sym c.tell.ensures)
    (if_ok (told found.result) _ _ (λ content h. h.0) tells)

pub returns-clause-told : goal.returns-clause-told
returns-clause-told g c clean =
    let old = state g.S.Store c.args.conn.now in
    let new = state g.S.Store c.read_plan-found.new.conn in
    let found = c.read_plan-found in
    let tells = told_content old new found.result (found.ensures.judged clean) in
    subst (λ r. IfOk r (λ content. IsContentOf (tables_of old.now.trees) (content_of content))) (sym c.tell.ensures)
    (if_ok (told found.result) _ _ (λ content h. h.1) tells)

pub returns-clause-sound : goal.returns-clause-sound
returns-clause-sound g c =
    subst (λ r. IfOk r (λ content. IsSound (content_of content))) (sym c.tell.ensures)
    (told_sound c.read_plan-found.result c.read_plan-found.ensures.sound)

pub returns-clause-unread : goal.returns-clause-unread
returns-clause-unread g c clean =
    let old = state g.S.Store c.args.conn.now in
    let new = state g.S.Store c.read_plan-found.new.conn in
    let found = c.read_plan-found.ensures in
    let kept = kept_if_left old new (c.is_autocommit-settled.ensures.settled (c.is_autocommit-settled.ensures.value
    ∙ ap not c.requires.mode)) (found.looks.leaves clean c.requires.plan) in
    subst (λ r. IfErr r (IsUnread old new)) (sym c.tell.ensures) (unread_of old new c.read_plan-found.result kept
    (found.judged clean) (found.fails clean))

pub returns-clause-survives : goal.returns-clause-survives
returns-clause-survives g c =
    survives_weaker (state g.S.Store c.args.conn.now) (state g.S.Store c.read_plan-found.new.conn) _ _
    (λ clean db none. none c.requires.plan) c.read_plan-found.ensures.looks.survives
