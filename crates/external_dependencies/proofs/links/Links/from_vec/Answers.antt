use Rattle.external_dependencies.proofs.OrderLemmas.{names_kept}
use Rattle.external_dependencies.proofs.links.Links.from_vec.Goals as goal

pub returns-clause-kept : goal.returns-clause-kept
returns-clause-kept c = names_kept c.args.links.items c.into_ordered.result.items c.into_ordered.ensures.only
    c.into_ordered.ensures.all
