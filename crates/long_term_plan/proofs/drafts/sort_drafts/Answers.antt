use Rattle.std.proofs.Common.{rules}
use Rattle.std.specs.declared.cmp.Ordering.TheVariants.{Less}
use Rattle.std.proofs.lemmas.List.Sorted.{answers_always, Contains-permutation, IsPermutation-sym}
use Rattle.occurrences.proofs.KeyLemmas.{key_cmp_total, key_equal, key_ranks}
use Rattle.occurrences.proofs.OrderLemmas.{answer_means}
use Rattle.occurrences.specs.Key.{KeyBefore, key_cmp}
use Rattle.plan_store_lists.proofs.EditLemmas.{sorted_keyed}
use Rattle.planner_machine.specs.declared.content.Draft.{Draft}
use Rattle.long_term_plan.proofs.drafts.sort_drafts.Goals as goal

pub returns-clause-in_order : goal.returns-clause-in_order
returns-clause-in_order c distinct i j d lt within =
    let is = c.sort_unstable_by_key.ensures in
    let keyed = sorted_keyed key_cmp_total key_equal (λ (x : Draft). x.key) c.args.drafts.now.items
    c.sort_unstable_by_key.new.self.items distinct is.permutation
    (is.sorted (λ (x : Draft). x.key) (answers_always _ _ _ (λ f a r q called. search rules))) in
    answer_means key_cmp KeyBefore key_ranks _ _ Less (keyed i j d lt within)

pub returns-clause-same : goal.returns-clause-same
returns-clause-same c x =
    let moves = c.sort_unstable_by_key.ensures.permutation in
    (Contains-permutation _ _ x (IsPermutation-sym _ _ moves), Contains-permutation _ _ x moves)
