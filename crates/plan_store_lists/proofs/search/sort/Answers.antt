use Rattle.std.proofs.Common.{rules}
use Rattle.std.proofs.lemmas.List.Sorted.{answers_always, Contains-permutation, IsPermutation-sym}
use Rattle.plan_store_lists.proofs.EditLemmas.{sorted_keyed}
use Rattle.plan_store_lists.proofs.search.sort.Goals as goal

pub returns-clause-keyed : goal.returns-clause-keyed
returns-clause-keyed g c distinct =
    let key = g.T.Keyed.key_of in
    let is = c.sort_unstable_by_key.ensures in
    sorted_keyed g.met.T.Key.Ord.total g.met.T.Keyed.ties key c.args.list.now.items
    c.sort_unstable_by_key.new.self.items distinct is.permutation
    (is.sorted (λ x. key x) (answers_always _ _ _ (λ f a r q called. search rules)))

pub returns-clause-same : goal.returns-clause-same
returns-clause-same g c x =
    let moves = c.sort_unstable_by_key.ensures.permutation in
    (Contains-permutation _ _ x (IsPermutation-sym _ _ moves), Contains-permutation _ _ x moves)
