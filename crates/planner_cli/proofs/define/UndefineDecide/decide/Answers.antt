use Rattle.std.proofs.Common.{refl, subst}
use Rattle.app_definitions.specs.Definitions.{IsDefined}
use Rattle.planner_machine.specs.Content.{Content}
use Rattle.plan_store.specs.declared.changes.DefinitionChange.TheVariants.{Removed}
use Rattle.planner_cli.proofs.ChangeLemmas.{fits_redefined, leads_redefined, redefined_so, redefines}
use Rattle.planner_cli.proofs.ServeLemmas.{not_refused}
use Rattle.planner_cli.proofs.define.UndefineDecide.decide.Goals as goal

pub returns : goal.returns
returns c c' end shows sound =
    let kind = c.args.self.kind in
    let name = c.args.self.name in
    let d = Removed kind name in
    let only = redefines c.none-change.result d c.none-change.ensures in
    let defined : IsDefined c'.definitions kind name =
    subst (λ (x : Content). IsDefined x.definitions kind name) shows.is
    (subst (λ d. IsDefined d kind name) c.definitions.ensures (c.is_defined.ensures.0 c.if-not-is_defined.false)) in (
      fits_redefined _ d only c',
      (not_refused kind name c' defined, (refl, redefined_so _ d only c')),
      leads_redefined _ d only c',
    )
