use Rattle.std.proofs.Common.{◌∙◌, sym, ap}
use Rattle.std.specs.FinMap as map
use Rattle.app_definition_records.proofs.ByNameLemmas.{len-view_of}
use Rattle.app_definition_records.proofs.by_name.ByName.len.Goals as goal

pub returns : goal.returns
returns g c = c.len.ensures.len ∙ sym (len-view_of c.self.inside.by_name.entries c.len.ensures.unique)
    ∙ ap map.len c.self.view_is
