use Rattle.std.proofs.Common.{Contains, take}
use Rattle.external_dependencies.specs.declared.links.Link.{Link}
use Rattle.plan_store_lists.specs.ListsThen.{links_then}
use Rattle.plan_store_pairs.proofs.by_applications.named_apps.Given as goal

-- of the applications so far
abbrev pub invariant-loop-app : goal.invariant-loop-app
invariant-loop-app l = (link : Link) → Contains (links_then l.then) link → Contains (take l.app-index l.apps) link.app
    → Contains l.named.items link.predecessor
