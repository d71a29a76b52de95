use Rattle.app_definition_records.proofs.ByNameLemmas.{IfOk-map}
use Rattle.app_occurrences.proofs.NamedLemmas.{named_listed}
use Rattle.app_occurrences.proofs.named.named_by_index.Goals as goal

pub returns : goal.returns
returns c = IfOk-map c.generate.result _ _
    (λ list lists. named_listed c.args.all.now c.args.app.now c.args.application.now c.args.index.now
    c.cycles_of-cycles.result.now c.in_ok-periods.periods c.args.from c.args.to list.items
    c.requires.index c.cycles_of-cycles.ensures.value c.in_ok-periods.ensures lists) c.generate.ensures
