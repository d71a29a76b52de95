use Rattle.std.proofs.Common.{◌↔◌, take}
use Rattle.std.specs.List.{Contains}
use Rattle.external_dependencies.specs.declared.links.Link.{Link}
use Rattle.plan_store_lists.specs.ListsThen.{links_then}
use Rattle.plan_store_lists.proofs.lists_then.ListsThen.of_apps.Given as goal

-- the lists of the applications so far
abbrev pub invariant-loop-app : goal.invariant-loop-app
invariant-loop-app l = (link : Link) → Contains l.found.items link
    ↔ (Contains (links_then l.self) link × Contains (take l.app-index l.apps) link.app)
