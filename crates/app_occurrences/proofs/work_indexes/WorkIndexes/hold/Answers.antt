use Rattle.std.proofs.Common.{sym, ap, subst, ◌∙◌}
use Rattle.std.specs.FinMap as map
use Rattle.app_occurrences.specs.NamedOccurrences.{AreIndexesOf, HoldsAlso, IndexMap}
use Rattle.app_occurrences.proofs.NamedLemmas.{index_held, indexes_more}
use Rattle.app_occurrences.proofs.work_indexes.WorkIndexes.hold.Goals as goal

pub returns-in_ok-insert-clause-held : goal.returns-in_ok-insert-clause-held
returns-in_ok-insert-clause-held c =
    let name = c.args.name.now in
    let put = λ (m : IndexMap). map.insert m name c.in_ok-index.index in
    subst (λ m. HoldsAlso c.args.self.now m name) (sym (c.in_ok-insert.ensures.ok ∙ ap put c.self.view_is))
    (index_held c.args.self.now name c.in_ok-index.index)

pub returns-in_ok-insert-clause-indexes : goal.returns-in_ok-insert-clause-indexes
returns-in_ok-insert-clause-indexes c =
    let name = c.args.name.now in
    let put = λ (m : IndexMap). map.insert m name c.in_ok-index.index in
    subst (AreIndexesOf c.args.all.now) (sym (c.in_ok-insert.ensures.ok ∙ ap put c.self.view_is))
    (indexes_more c.args.all.now c.args.self.now name c.in_ok-index.index c.in_ok-index.ensures c.requires)
