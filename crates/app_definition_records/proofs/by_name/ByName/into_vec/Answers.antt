use Rattle.std.proofs.lemmas.Iterator.{items_from_collect}
use Rattle.std.proofs.lemmas.Iterator.Consumers.{YieldsList-from_rest}
use Rattle.std.proofs.Common.{subst, sym}
use Rattle.app_definition_records.specs.ByName.{AreEntriesOf}
use Rattle.app_definition_records.specs.Rising.{AreRising}
use Rattle.app_definition_records.proofs.ByNameLemmas.{IfOk-map}
use Rattle.app_definition_records.proofs.EntryLemmas.{reordered, entries-rise}
use Rattle.app_definition_records.proofs.by_name.ByName.into_vec.Goals as goal

pub returns-clause-entries : goal.returns-clause-entries
returns-clause-entries g c =
    let sorted = c.in_ok-sort_unstable_keys.ensures in
    let all = items_from_collect c.collect.result c.collect.ensures.ran
    (YieldsList-from_rest _ c.into_iter.ensures.into_iter_gives.0) in
    let are = reordered c.self.inside.by_name.entries c.sort_unstable_keys.new.self.entries c.args.self c.self.view_is
    sorted.reordered.2 sorted.unique in
    IfOk-map c.collect.result _ _ (λ entries is. subst (λ es. AreEntriesOf es c.args.self) (sym is) are) all

pub returns-clause-rising : goal.returns-clause-rising
returns-clause-rising g c =
    let sorted = c.in_ok-sort_unstable_keys.ensures in
    let all = items_from_collect c.collect.result c.collect.ensures.ran
    (YieldsList-from_rest _ c.into_iter.ensures.into_iter_gives.0) in
    let rise = entries-rise c.sort_unstable_keys.new.self.entries sorted.sorted sorted.unique in
    IfOk-map c.collect.result _ _ (λ entries is. subst (AreRising (λ e. e.0)) (sym is) rise) all
