-- Loops of the lists that would be in force.
use Rattle.std.proofs.Common.{ℕ, List, subst, None}
use Rattle.external_dependencies.specs.Loop.{IsLeastOnLoop, OnLoop}
use Rattle.external_dependencies.specs.declared.links.Link.{Link}
use Rattle.planner_machine.specs.Content.{Content}
use Rattle.planner_machine.specs.InForce.{PutsLists}
use Rattle.planner_machine.specs.Plans.{WouldLoop}
use Rattle.planner_machine.proofs.LinkLemmas.{PutsOneList}

-- where the lists that are put have no loop, there would be none
pub no_loop : (Puts : PutsLists) → PutsOneList Puts → (c : Content) (links : List Link)
    → Puts c.definitions c.in_force links → IsLeastOnLoop links None → (app : List ℕ) → WouldLoop Puts c app → ⊥
no_loop Puts one c links puts none app (others, puts', least) =
    let same = one c.definitions c.in_force others links puts' puts in
    none app (subst (λ (l : List Link). OnLoop l app) same least.0)
