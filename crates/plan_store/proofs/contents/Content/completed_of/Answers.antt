use Rattle.occurrences.specs.declared.row.Row.{Row}
use Rattle.plan_store.proofs.PartLemmas.{rows_of_key}
use Rattle.plan_store.proofs.contents.Content.completed_of.Goals as goal

pub returns : goal.returns
returns c =
    let kept = c.args.self.now in
    rows_of_key (λ (row : Row). row.key) c.args.key.now kept.history.items c.with_key.result.now
    kept.history_rows.one_each c.with_key.ensures.all
