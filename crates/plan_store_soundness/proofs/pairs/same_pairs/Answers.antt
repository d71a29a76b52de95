use Rattle.std.proofs.Common.{◌≡◌, ◌∙◌, IsTrue, subst, sym}
use Rattle.std.specs.List.{All, Contains}
use Rattle.std.proofs.lemmas.List.Elements.{All-contains_itself}
use Rattle.std.proofs.lemmas.Slice.Eq.{slice_eq-Decides}
use Rattle.external_dependencies.specs.Rising.{HaveSame}
use Rattle.external_dependencies.specs.declared.pairs.Pair.{Pair}
use Rattle.plan_store_soundness.proofs.pairs.same_pairs.Goals as goal

pub returns : goal.returns
returns c =
    let xs = c.args.pairs.now in
    let ys = c.args.others.now in
    let (to, from) = slice_eq-Decides c.pair_order.ensures.equal c.as_slice.result.now c.as_slice-2.result.now
    c.eq.result c.eq.ensures in
    let first = c.as_slice.ensures.all in
    let second = c.as_slice-2.ensures.all in
    let same : IsTrue c.eq.result → xs ≡ ys = λ yes. sym first ∙ to yes ∙ second in
    let have : All (Contains ys) xs → All (Contains xs) ys → HaveSame xs ys = λ a b (x : Pair). (
      (λ (k, lt, is). subst (Contains ys) is (a k x lt)),
      λ (k, lt, is). subst (Contains xs) is (b k x lt),
    ) in (
      (
        (λ yes. (
          subst (λ l. All (Contains l) xs) (same yes) (All-contains_itself xs),
          subst (λ l. All (Contains xs) l) (same yes) (All-contains_itself xs),
        )),
        λ both. from (first ∙ c.rising_is_unique.ensures.pairs xs ys c.as_slice.ensures.rising
            c.as_slice-2.ensures.rising (have both.0 both.1) ∙ sym second),
      ),
      c.as_slice.ensures.rising,
    )
