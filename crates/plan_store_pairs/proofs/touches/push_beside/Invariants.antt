use Rattle.std.proofs.Common.{◌⊎◌, ℕ, List, Contains, take}
use Rattle.external_dependencies.specs.declared.links.Link.{Link}
use Rattle.plan_store_pairs.proofs.touches.push_beside.Given as goal

-- of the links so far; and those before stay
abbrev pub invariant-loop-link : goal.invariant-loop-link
invariant-loop-link l = ((app : List ℕ) → Contains l.initial.apps.items app → Contains l.apps.items app)
    × ((link : Link) → Contains (take l.link-index l.links) link
    → Contains l.others.items link ⊎ Contains l.apps.items link.app)
