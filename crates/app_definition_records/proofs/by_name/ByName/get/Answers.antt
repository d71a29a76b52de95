use Rattle.std.proofs.Common.{sym, ap, ◌∙◌}
use Rattle.std.specs.FinMap as map
use Rattle.app_definition_records.proofs.ByNameLemmas.{get-view_of}
use Rattle.app_definition_records.proofs.by_name.ByName.get.Goals as goal

pub returns : goal.returns
returns g c = c.get.ensures.value ∙ sym (get-view_of c.self.inside.by_name.entries c.args.name.now)
    ∙ ap (λ m. map.get m c.args.name.now) c.self.view_is
