use Rattle.std.proofs.Common.{sym, subst}
use Rattle.planner_machine.specs.Laws.{IsWellFormed}
use Rattle.planner_cli.specs.Changes.{change_of}
use Rattle.planner_cli.proofs.ServeLemmas.{key_well_formed}
use Rattle.planner_cli.proofs.well_formed.change_is_well_formed.Goals as goal

pub returns-in-OnKey : goal.returns-in-OnKey
returns-in-OnKey c =
    subst (λ r. IsWellFormed (change_of r)) (sym c.in-OnKey.is) (key_well_formed c.in-OnKey.key c.in-OnKey.act)
