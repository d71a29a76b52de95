use Rattle.std.proofs.Common.{List, subst, sym}
use Rattle.std.specs.List.{Contains}
use Rattle.plan_store_lists.specs.Keyed.{AreApart}
use Rattle.plan_store_lists.specs.LinkBlocks.{names_in}
use Rattle.plan_store_lists.specs.declared.namings.Naming.{Naming}
use Rattle.plan_store_lists.proofs.LinkBlockLemmas.{namings_apart, namings_are}
use Rattle.plan_store_lists.proofs.namings.namings_of.Goals as goal

pub returns-clause-keyed : goal.returns-clause-keyed
returns-clause-keyed c = c.sort.ensures.keyed (subst (AreApart names_in) (sym c.in_ok-namings.ensures)
    (namings_apart c.args.links.now c.requires))

pub returns-clause-all : goal.returns-clause-all
returns-clause-all c naming =
    let are = namings_are c.args.links.now naming in
    let same = c.sort.ensures.same naming in (
      (λ there. are.0 (subst (λ (l : List Naming). Contains l naming) c.in_ok-namings.ensures (same.0 there))),
      λ there. same.1 (subst (λ (l : List Naming). Contains l naming) (sym c.in_ok-namings.ensures) (are.1 there)),
    )
