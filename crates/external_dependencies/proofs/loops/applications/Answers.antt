use Rattle.std.proofs.Common.{◌≡◌, map, ap, ◌∙◌}
use Rattle.external_dependencies.specs.declared.links.Link.{Link}
use Rattle.external_dependencies.proofs.OrderLemmas.{name_ties}
use Rattle.external_dependencies.proofs.LoopLemmas.{applications_are}
use Rattle.external_dependencies.proofs.loops.applications.Goals as goal

pub into_rising-requires : goal.into_rising-requires
into_rising-requires c = name_ties

pub returns : goal.returns
returns c =
    let mapped : c.in_ok-apps.field-0.items ≡ map (λ (link : Link). link.app) c.args.links.now =
    c.in_ok-apps.ensures ∙ ap (map (λ (link : Link). link.app)) c.as_slice.ensures.all in
    applications_are c.args.links.now c.in_ok-apps.field-0.items c.into_rising.result.items mapped
    c.into_rising.ensures.rising c.into_rising.ensures.same
