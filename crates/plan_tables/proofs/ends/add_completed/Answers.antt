use Rattle.std.proofs.Common.{◌≡◌, ◌++◌, ◌∙◌, ℕ, Option, ap, sym}
use Rattle.std.specs.Prelude.{option_to_list}
use Rattle.std.proofs.lemmas.List.{append-nil}
use Rattle.occurrences.specs.declared.row.Row.{Row}
use Rattle.planner_machine.specs.Content.{Content}
use Rattle.plan_tables.proofs.ListLemmas.{finds_as, finds_not, finds_short}
use Rattle.plan_tables.proofs.ends.add_completed.Goals as goal

abbrev Is : ℕ → Content → Option Row → Type 0
Is serial c found = found ≡ c.sets.history serial

pub returns-in_ok-push-in-Some : goal.returns-in_ok-push-in-Some
returns-in_ok-push-in-Some g c =
    finds_as g.S.Store c.args.conn.now c.completed_row.new.conn _ tt (Is c.args.serial) _
    (rw c.in-Some.is at c.in_ok-row.ensures) (λ k _ is. c.in_ok-push-in-Some.ensures.items
    ∙ ap (λ (o : Option Row). c.args.found.now.items ++ option_to_list o) is)

pub returns-in_err-push-in-Some : goal.returns-in_err-push-in-Some
returns-in_err-push-in-Some g c =
    finds_short g.S.Store c.args.conn.now c.completed_row.new.conn _ (Is c.args.serial) _
    (rw c.in-Some.is at c.in_ok-row.ensures) c.from_residual-in_err-push-in-Some.result c.from_residual-in_err-push-in-Some.ensures.1

pub returns-in-None : goal.returns-in-None
returns-in-None g c =
    finds_as g.S.Store c.args.conn.now c.completed_row.new.conn _ tt (Is c.args.serial) _
    (rw c.in-None.is at c.in_ok-row.ensures)
    (λ k _ is. sym (ap (λ (o : Option Row). c.args.found.now.items ++ option_to_list o) (sym is)
    ∙ append-nil c.args.found.now.items))

pub returns-in_err-row : goal.returns-in_err-row
returns-in_err-row g c =
    finds_not g.S.Store c.args.conn.now c.completed_row.new.conn c.in_err-row.field-0.0 _ _ c.in_err-row.ensures c.from_residual.result
    c.from_residual.ensures.1
