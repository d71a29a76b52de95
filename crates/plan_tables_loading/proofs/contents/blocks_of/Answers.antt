use Rattle.std.proofs.Common.{◌≡◌, ◌∙◌, List, subst, sym}
use Rattle.std.proofs.lemmas.Result.{IfOk-weaker}
use Rattle.external_dependencies.specs.Rising.{HaveSame}
use Rattle.external_dependencies.specs.declared.pairs.Pair.{Pair}
use Rattle.plan_tables_loading.proofs.contents.blocks_of.Goals as goal

pub returns-clause-same : goal.returns-clause-same
returns-clause-same c =
    let pairs = c.args.pairs.items in
    IfOk-weaker c.from_slice.result (λ (blocks : List Pair). blocks ≡ c.as_slice.result.now)
    (λ (blocks : List Pair). HaveSame blocks pairs)
    (λ blocks is. subst (λ (l : List Pair). HaveSame l pairs) (sym (is ∙ c.as_slice.ensures.all)) c.from_vec-rising.ensures)
    c.from_slice.ensures
