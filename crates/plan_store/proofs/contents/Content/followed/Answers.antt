use Rattle.std.proofs.Common.{ℕ, ◌∙◌, sym, ap, nat_eq}
use Rattle.std.specs.List.{list_any}
use Rattle.std.proofs.lemmas.List.Sorted.{IsNonDecreasingBy-from_sort, list_any-IsPermutation}
use Rattle.plan_store.specs.Contents.{content_of}
use Rattle.plan_store.proofs.PartLemmas.{planned_followed}
use Rattle.plan_store.proofs.contents.Content.followed.Goals as goal

pub returns-clause-order : goal.returns-clause-order
returns-clause-order c = IsNonDecreasingBy-from_sort (λ (n : ℕ). n) _ c.sort_unstable.ensures.sorted

pub returns-clause-all : goal.returns-clause-all
returns-clause-all c serial =
    let is = λ (n : ℕ). nat_eq n serial in
    sym (list_any-IsPermutation is _ _ c.sort_unstable.ensures.permutation) ∙ ap (list_any is) c.in_ok-serials.ensures
    ∙ planned_followed (content_of c.args.self.now) serial
