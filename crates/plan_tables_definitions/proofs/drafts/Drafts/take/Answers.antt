use Rattle.std.proofs.Common.{◌∙◌, sym, ap, cond, None, nat_eq}
use Rattle.std.specs.FinMap as map
use Rattle.std.specs.Cmp.Lexicographic.{pointwise}
use Rattle.app_definition_records.proofs.ByNameLemmas.{get-view_of, get-removed, same_by_name}
use Rattle.plan_tables_definitions.proofs.drafts.Drafts.take.Goals as goal

pub returns-clause-taken : goal.returns-clause-taken
returns-clause-taken g c =
    c.swap_remove.ensures.value ∙ sym (get-view_of c.self.inside.by_name.entries c.args.name.now)
    ∙ ap (λ m. map.get m c.args.name.now) c.self.view_is

pub returns-clause-removed : goal.returns-clause-removed
returns-clause-removed g c =
    same_by_name _ _ (λ q.
    get-view_of c.swap_remove.new.self.entries q
    ∙ c.swap_remove.ensures.updates.0 q
    ∙ ap (λ o. cond (pointwise nat_eq c.args.name.now q) None o)
    (sym (get-view_of c.self.inside.by_name.entries q) ∙ ap (λ m. map.get m q) c.self.view_is)
    ∙ sym (get-removed c.args.self.now c.args.name.now q))
