use Rattle.std.proofs.Common.{List, subst}
use Rattle.external_dependencies.specs.declared.pairs.Pair.{Pair}
use Rattle.plan_store.specs.AppPairs.{AreLacking, with_others}
use Rattle.plan_store.specs.Contents.{content_of}
use Rattle.plan_store.proofs.LackLemmas.{lacks_found}
use Rattle.plan_store.proofs.contents.Content.unknown_ends.Goals as goal

pub returns : goal.returns
returns c are =
    let seen = with_others c.args.others.now (content_of c.args.self.now).sets in
    lacks_found c.args.app.now seen c.args.self.now.pairs c.in_ok-found.found _ _ c.in_ok-found.ensures
    (subst (λ (l : List Pair). AreLacking c.args.app.now seen l c.in_ok-serials.serials.items) c.as_slice.ensures.all
    (c.in_ok-serials.ensures are)) c.sort_unstable.ensures.permutation
