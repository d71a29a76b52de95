use Rattle.std.proofs.Common.{ℕ, List, sym, subst}
use Rattle.std.specs.Prelude.{Contains}
use Rattle.std.proofs.lemmas.List.Filters.{dedup_is}
use Rattle.std.proofs.lemmas.List.Kept.{AllPairs-from_increasing, Contains-dedup_nat, Contains-from_dedup}
use Rattle.std.proofs.lemmas.List.Sorted.{Contains-permutation, IsPermutation-sym}
use Rattle.std.proofs.lemmas.Map.Keys.{IsStrictlyIncreasing-dedup}
use Rattle.run_cycles.proofs.jump.JumpDays.sorted.Goals as goal

pub returns-clause-rising : goal.returns-clause-rising
returns-clause-rising c =
    let is = dedup_is _ _ _ c.dedup.ensures.filtered in
    rw is (AllPairs-from_increasing _ (IsStrictlyIncreasing-dedup _ c.sort_unstable.ensures.sorted))

pub returns-clause-exactly : goal.returns-clause-exactly
returns-clause-exactly c =
    let is = dedup_is _ _ _ c.dedup.ensures.filtered in
    λ d.
    let P : List ℕ → Type 0 = λ l. Contains l d in (
      (λ h. Contains-permutation _ _ d (IsPermutation-sym _ _ c.sort_unstable.ensures.permutation)
          (Contains-from_dedup _ _ d (subst P is h))),
      λ h. subst P (sym is) (Contains-dedup_nat _ d (Contains-permutation _ _ d c.sort_unstable.ensures.permutation h)),
    )
