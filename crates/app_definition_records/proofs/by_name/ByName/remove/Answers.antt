use Rattle.std.proofs.Common.{◌∙◌, sym, ap, cond, None, nat_eq}
use Rattle.std.specs.Prelude.{is_some}
use Rattle.std.specs.FinMap as map
use Rattle.std.specs.Cmp.Lexicographic.{pointwise}
use Rattle.app_definition_records.proofs.ByNameLemmas.{get-view_of, get-removed, same_by_name}
use Rattle.app_definition_records.proofs.by_name.ByName.remove.Goals as goal

pub returns-clause-found : goal.returns-clause-found
returns-clause-found g c =
    let seen = c.swap_remove.ensures.value ∙ sym (get-view_of c.self.inside.by_name.entries c.args.name.now)
    ∙ ap (λ m. map.get m c.args.name.now) c.self.view_is in
    let told = c.is_some.ensures ∙ ap is_some seen in
    rw told (λ h. h, λ h. h)

pub returns-clause-removed : goal.returns-clause-removed
returns-clause-removed g c =
    same_by_name _ _ (λ q.
    get-view_of c.swap_remove.new.self.entries q
    ∙ c.swap_remove.ensures.updates.0 q
    ∙ ap (λ o. cond (pointwise nat_eq c.args.name.now q) None o)
    (sym (get-view_of c.self.inside.by_name.entries q) ∙ ap (λ m. map.get m q) c.self.view_is)
    ∙ sym (get-removed c.args.self.now c.args.name.now q))
