use Rattle.std.proofs.Common.{◌≡◌, ◌↔◌, map, sym, ap, subst, ◌∙◌}
use Rattle.std.specs.List.{Contains}
use Rattle.external_dependencies.specs.Pair.{follower_of, pair_of}
use Rattle.external_dependencies.proofs.PairLemmas.{turned_has}
use Rattle.external_dependencies.proofs.followers.Followers.build.Goals as goal

pub returns : goal.returns
returns c follower =
    let items : c.in_ok-turned.field-0.items ≡ map follower_of c.args.pairs.now =
    c.in_ok-turned.ensures ∙ ap (map follower_of) c.as_slice.ensures.all in
    let is : Contains c.in_ok-turned.field-0.items follower ↔ Contains c.args.pairs.now (pair_of follower) =
    subst (λ xs. Contains xs follower ↔ Contains c.args.pairs.now (pair_of follower)) (sym items)
    (turned_has c.args.pairs.now follower) in
    let same = c.into_rising.ensures.same follower in
    ((λ here. is.0 (same.0 here)), λ here. same.1 (is.1 here))
