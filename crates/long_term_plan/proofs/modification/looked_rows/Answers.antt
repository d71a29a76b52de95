use Rattle.std.proofs.Common.{◌≡◌, ◌++◌, ◌∙◌, ℕ, List, Option, IfOk, ap, subst, sym}
use Rattle.std.proofs.lemmas.Result.{IfOk-weaker}
use Rattle.occurrences.specs.declared.row.Row.{Row}
use Rattle.plan_store_lists.specs.Rows.{of_row}
use Rattle.plan_store.specs.Views.{IsAny, ListsSet, shown}
use Rattle.long_term_plan.specs.Modifying.{Looks}
use Rattle.long_term_plan.proofs.modification.looked_rows.Goals as goal

pub returns-in_ok-extend_from_slice-in-Some : goal.returns-in_ok-extend_from_slice-in-Some
returns-in_ok-extend_from_slice-in-Some c =
    let own = c.ltp_of.result.now in
    let all : c.extend_from_slice.new.self.items ≡ own = c.in_ok-extend_from_slice-in-Some.ensures.items
    ∙ ap (λ (l : List Row). l ++ own) c.new-rows.ensures.items in
    subst (λ (o : Option (List ℕ)). ListsSet of_row (shown c.args.view.now).sets.ltp
    (λ (row : Row). Looks o row.key.app) c.extend_from_slice.new.self.items) (sym c.in-Some.is)
    (rw all c.ltp_of.ensures)

pub returns-in-None : goal.returns-in-None
returns-in-None c = IfOk-weaker c.to_vec.result _ _ (λ rows same.
    subst (λ (o : Option (List ℕ)). ListsSet of_row (shown c.args.view.now).sets.ltp
    (λ (row : Row). Looks o row.key.app) rows.items) (sym c.in-None.is)
    (subst (λ (l : List Row). ListsSet of_row (shown c.args.view.now).sets.ltp
    IsAny l) (sym same) c.ltp.ensures.rows)) c.to_vec.ensures
