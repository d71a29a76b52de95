use Rattle.std.proofs.Common.{◌≡◌, ◌++◌, map, take}
use Rattle.plan_store_lists.specs.declared.namings.Naming.{Naming}
use Rattle.plan_store_pairs.proofs.by_applications.push_naming.Given as goal

-- the applications so far
abbrev pub invariant-loop-naming : goal.invariant-loop-naming
invariant-loop-naming l =
    l.apps.items ≡ l.initial.apps.items ++ map (λ (naming : Naming). naming.link.app) (take l.naming-index l.found)
