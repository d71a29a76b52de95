use Rattle.std.proofs.Common.{None, [], arith}
use Rattle.std.proofs.lemmas.List.{ext_get_or}
use Rattle.external_dependencies.specs.declared.links.Link.{Link}
use Rattle.long_term_plan.proofs.lists.are_same.Goals as goal

pub returns : goal.returns
returns c _ =
    let none : Link = record { app = []; predecessor = []; within = None } in
    ext_get_or none c.args.links.now c.args.others.now (omega (arith, c.if-links-others.false))
    (λ k lt. c.loop-place.invariant k none (omega (arith, lt)))
