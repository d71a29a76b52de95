use Rattle.std.proofs.Common.{None, Some, refl, subst}
use Rattle.external_dependencies.specs.Loop.{IsLeastOnLoop}
use Rattle.plan_store_soundness.proofs.links.has_no_loop.Goals as goal

pub returns-in-None : goal.returns-in-None
returns-in-None c =
    let links = c.args.content.now.in_force.items in
    let none : IsLeastOnLoop links None =
    rw c.in_ok-links.ensures at (subst (IsLeastOnLoop c.in_ok-links.links) c.in-None.is c.in_ok-find_loop.ensures) in
    ((λ yes. none), λ all. refl)

pub returns : goal.returns
returns c =
    let links = c.args.content.now.in_force.items in
    let found : IsLeastOnLoop links (Some c.in-Some.field-0) =
    rw c.in_ok-links.ensures at (subst (IsLeastOnLoop c.in_ok-links.links) c.in-Some.is c.in_ok-find_loop.ensures) in
    ((λ yes. cc), λ none. absurd (none c.in-Some.field-0 found.0))
