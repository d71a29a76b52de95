use Rattle.std.proofs.Common.{◌↔◌, refl, subst, sym}
use Rattle.std.specs.Bool.{IsTrue}
use Rattle.std.specs.List.{Contains}
use Rattle.external_dependencies.proofs.LexLemmas.{pair_total}
use Rattle.external_dependencies.proofs.PairLemmas.{pair_ties}
use Rattle.plan_store_pairs.proofs.TouchedLemmas.{search_tells}
use Rattle.plan_store_pairs.proofs.withdrawals.has_pair.Goals as goal

pub returns : goal.returns
returns c =
    let list = c.pairs_of_successor.result.now in
    let pair = c.args.pair.now in
    let all = c.pairs_of_successor.ensures.all pair in
    let is = subst (λ b. IsTrue b ↔ Contains list pair) (sym c.is_ok.ensures.value)
    (search_tells pair_total pair_ties list c.pairs_of_successor.ensures.rising pair c.binary_search.result
    c.binary_search.ensures.bound c.binary_search.ensures.position) in
    ((λ yes. (all.0 (is.0 yes)).0), λ there. is.1 (all.1 (there, refl)))
