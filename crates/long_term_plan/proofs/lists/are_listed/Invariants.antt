use Rattle.std.specs.List.{AllWithin, Contains}
use Rattle.external_dependencies.specs.declared.links.Link.{Link}
use Rattle.long_term_plan.proofs.lists.are_listed.Given as goal

-- the links so far
abbrev pub invariant-loop-link : goal.invariant-loop-link
invariant-loop-link l = AllWithin (λ (link : Link). Contains l.names link.predecessor) l.links 0 l.link-index
