use Rattle.std.proofs.Common.{◌≡◌, List, inr, length, rules, subst, sym}
use Rattle.std.specs.List.{Contains}
use Rattle.occurrences.specs.declared.row.Row.{Row}
use Rattle.plan_store_pairs.proofs.LaterLemmas.{enough_from, none_in}
use Rattle.plan_store_pairs.proofs.later.planned_for.Goals as goal

pub returns-then-is_empty : goal.returns-then-is_empty
returns-then-is_empty c =
    let none : length c.args.touch.now.lists.items ≡ 0 = search rules in
    enough_from c.args.touch.now c.args.planned.now.items c.first_of.result (λ later. later.items) c.later_rows.result
    (inr (record {
      lists = none_in c.args.touch.now.lists.items none;
      made = λ row there. c.first_of.ensures row (subst (λ (l : List Row). Contains l row) (sym c.deref.ensures.value)
          there);
    }))
    c.later_rows.ensures
