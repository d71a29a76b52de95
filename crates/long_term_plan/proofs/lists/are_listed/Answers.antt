use Rattle.std.proofs.lemmas.List.Elements.{AllWithin-more, at_read}
use Rattle.std.specs.List.{Contains}
use Rattle.external_dependencies.specs.declared.links.Link.{Link}
use Rattle.long_term_plan.proofs.lists.are_listed.Goals as goal

-- one more predecessor is among the names
pub loop-link-preserved : goal.loop-link-preserved
loop-link-preserved c =
    AllWithin-more (λ (link : Link). Contains c.args.names.now link.predecessor) c.args.links.now 0 c.loop-link.link-index
    c.loop-link.invariant
    (at_read c.args.links.now (λ (link : Link). Contains c.args.names.now link.predecessor) c.loop-link.link-index
    c.link-item.result c.loop-link-test.true c.link-item.is (c.has_app.ensures c.if-not-has_app.false))
