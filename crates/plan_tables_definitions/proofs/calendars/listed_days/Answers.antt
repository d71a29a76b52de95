use Rattle.std.proofs.Common.{ℕ, List, sym, subst}
use Rattle.std.specs.Prelude.{Contains}
use Rattle.std.proofs.lemmas.List.Filters.{dedup_is}
use Rattle.std.proofs.lemmas.List.Kept.{AllPairs-from_increasing, Contains-dedup_nat, Contains-from_dedup}
use Rattle.std.proofs.lemmas.List.Sorted.{Contains-permutation, IsPermutation-sym}
use Rattle.std.proofs.lemmas.Map.Keys.{IsStrictlyIncreasing-dedup}
use Rattle.plan_tables_definitions.proofs.calendars.listed_days.Goals as goal

pub returns-clause-rising : goal.returns-clause-rising
returns-clause-rising c =
    let is = dedup_is _ _ _ c.dedup.ensures.filtered in
    rw is (AllPairs-from_increasing _ (IsStrictlyIncreasing-dedup _ c.sort_unstable.ensures.sorted))

pub returns-clause-exactly : goal.returns-clause-exactly
returns-clause-exactly c day =
    let is = dedup_is _ _ _ c.dedup.ensures.filtered in
    let P : List ℕ → Type 0 = λ l. Contains l day in (
      λ h. subst P c.in_ok-days.ensures (Contains-permutation _ _ day
          (IsPermutation-sym _ _ c.sort_unstable.ensures.permutation) (Contains-from_dedup _ _ day (subst P is h))),
      λ h. subst P (sym is) (Contains-dedup_nat _ day
          (Contains-permutation _ _ day c.sort_unstable.ensures.permutation (subst P (sym c.in_ok-days.ensures) h))),
    )
