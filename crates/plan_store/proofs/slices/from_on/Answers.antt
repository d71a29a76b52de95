use Rattle.std.proofs.Common.{◌≡◌, ◌∙◌, Bool, true, false, ltb, refl, rules}
use Rattle.std.specs.Prelude.{not}
use Rattle.std.proofs.lemmas.Bool.{le-ltb, ltb-false}
use Rattle.std.proofs.lemmas.List.{take_rest}
use Rattle.std.proofs.lemmas.List.Sorted.{IsPartitionPoint-from_clause}
use Rattle.external_dependencies.specs.Arrival.{arrival_cmp}
use Rattle.external_dependencies.specs.Nearest.{arrival_of}
use Rattle.plan_store_lists.proofs.KeyLemmas.{contains_filter, filter_contains}
use Rattle.plan_store_lists.proofs.SliceLemmas.{drop_keyed, parted_before}
use Rattle.plan_store.proofs.SliceLemmas.{arrivals_rise, filter_back}
use Rattle.plan_store.proofs.slices.from_on.Goals as goal

not_true : (b : Bool) → not b ≡ true → b ≡ false
not_true true is = cc
not_true false is = refl

is_not : (b : Bool) → b ≡ false → not b ≡ true
is_not true is = cc
is_not false is = refl

pub returns-clause-value : goal.returns-clause-value
returns-clause-value g c keyed one =
    let xs = c.args.rows.now in
    let m = c.args.first in
    let f = λ (y : g.row.T.Denot). (g.T.PlanRow.row_of y).key.ia in
    let below = λ (y : g.row.T.Denot). ltb (f y) m in
    let count = c.partition_point-count.result in
    let rises = arrivals_rise g.T.PlanRow.row_of xs keyed one in
    let point = IsPartitionPoint-from_clause below _ _ c.partition_point-count.ensures.partitioned
    (parted_before f xs m rises) (λ a r q k. search rules) in
    take_rest xs count ∙ filter_back below xs count c.partition_point-count.ensures.bound point

pub returns-clause-keyed : goal.returns-clause-keyed
returns-clause-keyed g c keyed =
    let xs = c.args.rows.now in
    let count = c.partition_point-count.result in
    rw (take_rest xs count) (drop_keyed arrival_cmp (λ (x : g.row.T.Denot). arrival_of (g.T.PlanRow.row_of x)) xs keyed
    count)

pub returns-clause-all : goal.returns-clause-all
returns-clause-all g c keyed one =
    let xs = c.args.rows.now in
    let m = c.args.first in
    let f = λ (y : g.row.T.Denot). (g.T.PlanRow.row_of y).key.ia in
    let late = λ (y : g.row.T.Denot). not (ltb (f y) m) in
    rw (returns-clause-value g c keyed one) (λ x. (
      (λ there.
          let both = contains_filter late xs x there in
          (both.0, ltb-false (f x) m (not_true (ltb (f x) m) both.1))),
      λ both. filter_contains late xs x both.0 (is_not (ltb (f x) m) (le-ltb (f x) m both.1)),
    ))
