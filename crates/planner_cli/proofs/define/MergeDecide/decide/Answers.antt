use Rattle.std.proofs.Common.{ap}
use Rattle.occurrences.specs.declared.reply.Reply.TheVariants.{Defined}
use Rattle.plan_store.specs.declared.changes.DefinitionChange.TheVariants.{Merged}
use Rattle.planner_cli.proofs.ChangeLemmas.{fits_redefined, leads_redefined, redefined_so, redefines}
use Rattle.planner_cli.proofs.define.MergeDecide.decide.Goals as goal

pub returns : goal.returns
returns c c' end shows sound =
    let d = Merged c.args.self.block in
    let only = redefines c.none-change.result d c.none-change.ensures in
    (fits_redefined _ d only c', ((λ q h. h), (ap Defined c.len-names.ensures, redefined_so _ d only c')), leads_redefined _ d only c')
