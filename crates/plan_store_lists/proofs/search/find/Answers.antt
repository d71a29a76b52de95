use Rattle.std.proofs.Common.{rules}
use Rattle.std.proofs.lemmas.List.Sorted.{answers_always}
use Rattle.plan_store_lists.proofs.KeyLemmas.{found, missed}
use Rattle.plan_store_lists.proofs.search.find.Goals as goal

pub returns-clause-taken : goal.returns-clause-taken
returns-clause-taken g c =
    let key = g.T.Keyed.key_of in
    let is = c.binary_search_by_key.ensures in
    found g.met.T.Key.Ord.total g.met.T.Keyed.ties key c.args.list.now c.args.key.now c.binary_search_by_key.result
    is.bound (is.position (λ x. key x) (answers_always _ _ _ (λ f a r q called. search rules)))

pub returns-clause-free : goal.returns-clause-free
returns-clause-free g c keyed =
    let key = g.T.Keyed.key_of in
    let is = c.binary_search_by_key.ensures in
    missed g.met.T.Key.Ord.total g.met.T.Keyed.ties key c.args.list.now c.args.key.now c.binary_search_by_key.result
    is.bound (is.position (λ x. key x) (answers_always _ _ _ (λ f a r q called. search rules))) keyed
