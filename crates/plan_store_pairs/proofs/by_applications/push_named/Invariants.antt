use Rattle.std.proofs.Common.{◌≡◌, ◌++◌, map, take}
use Rattle.external_dependencies.specs.declared.links.Link.{Link}
use Rattle.plan_store_pairs.proofs.by_applications.push_named.Given as goal

-- the predecessors of the links so far
abbrev pub invariant-loop-link : goal.invariant-loop-link
invariant-loop-link l =
    l.named.items ≡ l.initial.named.items ++ map (λ (link : Link). link.predecessor) (take l.link-index l.list)
