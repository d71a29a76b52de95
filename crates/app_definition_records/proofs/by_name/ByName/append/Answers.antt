use Rattle.std.proofs.Common.{◌∙◌, sym, ap}
use Rattle.std.specs.FinMap as map
use Rattle.app_definition_records.proofs.ByNameLemmas.{get-view_of, get-appended, len-view_of, same_by_name}
use Rattle.app_definition_records.proofs.by_name.ByName.append.Goals as goal

pub returns-clause-ok : goal.returns-clause-ok
returns-clause-ok g c =
    rw (← c.self.view_is, ← c.more.view_is) (same_by_name _ _ (λ q.
    get-view_of c.append.new.self.entries q
    ∙ c.in_ok-append.ensures.inserts.0 q
    ∙ get-appended c.self.inside.by_name.entries c.more.inside.by_name.entries q c.len-count.ensures.unique))

pub returns-clause-counted : goal.returns-clause-counted
returns-clause-counted g c =
    c.len-count.ensures.len ∙ sym (len-view_of c.more.inside.by_name.entries c.len-count.ensures.unique)
    ∙ ap map.len c.more.view_is
