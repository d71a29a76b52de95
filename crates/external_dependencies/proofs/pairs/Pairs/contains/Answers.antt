use Rattle.std.proofs.Common.{◌↔◌, length, sym, subst}
use Rattle.std.specs.Bool.{IsTrue}
use Rattle.std.specs.List.{Contains}
use Rattle.std.specs.List.Sorted.{IsBinarySearchResult, IsSearchInRange}
use Rattle.external_dependencies.specs.Pair.{pair_cmp}
use Rattle.external_dependencies.proofs.LexLemmas.{pair_total}
use Rattle.external_dependencies.proofs.PairLemmas.{pair_ties}
use Rattle.external_dependencies.proofs.PlaceLemmas.{search_tells}
use Rattle.external_dependencies.proofs.pairs.Pairs.contains.Goals as goal

pub returns : goal.returns
returns c =
    let pairs = c.self.inside.pairs.items in
    let pair = c.args.pair.now in
    let found = c.binary_search.result in
    let bound : IsSearchInRange found (length pairs) =
    subst (λ xs. IsSearchInRange found (length xs)) c.deref.ensures.value c.binary_search.ensures.bound in
    let position : IsBinarySearchResult (λ y. pair_cmp y pair) pairs found =
    subst (λ xs. IsBinarySearchResult
    (λ y. pair_cmp y pair) xs found) c.deref.ensures.value c.binary_search.ensures.position in
    let tells = search_tells pair_total pair_ties pairs c.self.invariant pair found bound position in
    let is : IsTrue c.is_ok.result ↔ Contains pairs pair =
    subst (λ b. IsTrue b ↔ Contains pairs pair) (sym c.is_ok.ensures.value) tells in
    subst (λ xs. IsTrue c.is_ok.result ↔ Contains xs pair) c.self.view_is is
