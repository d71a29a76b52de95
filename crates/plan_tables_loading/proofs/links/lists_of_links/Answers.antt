use Rattle.std.proofs.Common.{◌≡◌, ◌∙◌, subst, sym, true≢false}
use Rattle.std.specs.List.{All, Contains}
use Rattle.std.proofs.lemmas.List.Elements.{same_from_all_zip}
use Rattle.external_dependencies.specs.Link.{KeepsNames}
use Rattle.plan_tables_loading.proofs.LinkLemmas.{listed_same, once_listed}
use Rattle.plan_tables_loading.proofs.links.lists_of_links.Goals as goal

pub returns-then-are_listed-clause-same : goal.returns-then-are_listed-clause-same
returns-then-are_listed-clause-same c =
    let given = c.args.links.items in
    let lists = c.from_vec-lists.result in
    let copied : c.in_ok-clone.field-0.items ≡ given =
    same_from_all_zip _ given c.in_ok-clone.field-0.items c.in_ok-clone.ensures.cases.0 (λ x y is. is) in
    listed_same given lists (subst (λ l. KeepsNames l lists) copied c.from_vec-lists.ensures.kept)
    (subst (All (Contains lists)) c.deref.ensures.value (c.are_listed.ensures.0 c.if-are_listed.true))

pub returns-clause-none : goal.returns-clause-none
returns-clause-none c _ once =
    let given = c.args.links.items in
    let lists = c.from_vec-lists.result in
    let copied : c.in_ok-clone.field-0.items ≡ given =
    same_from_all_zip _ given c.in_ok-clone.field-0.items c.in_ok-clone.ensures.cases.0 (λ x y is. is) in
    let all = once_listed given lists (subst (λ l. KeepsNames l lists) copied c.from_vec-lists.ensures.kept) once in
    true≢false (sym (c.are_listed.ensures.1 (subst (All (Contains lists)) (sym c.deref.ensures.value) all))
    ∙ c.if-are_listed.false)
