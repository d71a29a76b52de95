use Rattle.std.proofs.Common.{◌≡◌, ℕ, ltb, ◌+◌, ◌≤◌, Option, subst, sym, arith, rules}
use Rattle.std.proofs.lemmas.Bool.{lt-ltb, ltb-true}
use Rattle.std.proofs.lemmas.List.Sorted.{IsPartitionPoint-from_clause}
use Rattle.external_dependencies.specs.Touch.{IsWithin}
use Rattle.plan_store_lists.proofs.SliceLemmas.{front, parted_before}
use Rattle.plan_store.proofs.SliceLemmas.{arrivals_rise}
use Rattle.plan_store.proofs.spans.up_to.Goals as goal

pub returns : goal.returns
returns g c keyed one x =
    let xs = c.args.rows.now in
    let last = c.in-Some.last in
    let at : c.number.result ≡ last = c.number.ensures.value in
    let m = c.number.result + 1 in
    let f = λ (y : g.row.T.Denot). (g.T.PlanRow.row_of y).key.ia in
    let below = λ (y : g.row.T.Denot). ltb (f y) m in
    let point = IsPartitionPoint-from_clause below _ _ c.partition_point-count.ensures.partitioned
    (parted_before f xs m (arrivals_rise g.T.PlanRow.row_of xs keyed one)) (λ a r q k. search rules) in
    let within = subst (λ (l : Option ℕ). IsWithin l (f x)) c.in-Some.is in
    let of_within = subst (λ (l : Option ℕ). IsWithin l (f x)) (sym c.in-Some.is) in
    let is = front xs below c.partition_point-count.result c.partition_point-count.ensures.bound point x in (
      (λ there.
          let both = is.0 there in
          let lt = ltb-true (f x) m both.1 in
          let le : f x ≤ last = omega (arith, lt, at) in
          (both.0, of_within le)),
      λ both. let le : f x ≤ last = within both.1 in is.1 (both.0, lt-ltb (f x) m (omega (arith, le, at))),
    )
