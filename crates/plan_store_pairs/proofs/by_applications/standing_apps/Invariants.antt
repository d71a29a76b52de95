use Rattle.std.proofs.Common.{Contains, take}
use Rattle.external_dependencies.specs.declared.links.Link.{Link}
use Rattle.plan_store_pairs.proofs.by_applications.standing_apps.Given as goal

-- of the applications so far
abbrev pub invariant-loop-app : goal.invariant-loop-app
invariant-loop-app l = (link : Link) → Contains l.lists.items link
    → Contains (take l.app-index l.apps) link.predecessor → Contains l.naming.items link.app
