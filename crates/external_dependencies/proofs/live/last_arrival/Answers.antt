use Rattle.std.proofs.Common.{◌≡◌, ◌+◌, ◌<◌, ◌≤◌, length, true, false, sym, ap, subst, arith, ◌∙◌, rules, Some, None}
use Rattle.std.specs.List.{Contains}
use Rattle.std.specs.List.Sorted.{IsPartitionedBy, IsPartitionPoint}
use Rattle.std.specs.Cmp.Lexicographic.{slice_cmp}
use Rattle.std.specs.Ordering.{nat_cmp, ordering_then, is_lt}
use Rattle.std.proofs.lemmas.List.Sorted.{IsPartitionPoint-from_clause}
use Rattle.external_dependencies.specs.declared.live.Arrival.{Arrival}
use Rattle.external_dependencies.specs.Nearest.{IsNearestArrival}
use Rattle.external_dependencies.proofs.NearestLemmas.{parted, none_before, nearest_is, none_of_app, IsLimit}
use Rattle.external_dependencies.proofs.NearestLemmas.{own_limit, other_limit, names_equal, names_differ}
use Rattle.external_dependencies.proofs.live.last_arrival.Goals as goal
use Rattle.external_dependencies.proofs.live.last_arrival.Goals.{then-eq, else-eq}

-- nothing arrives before the limit
pub returns-then-count-eq0 : goal.returns-then-count-eq0
returns-then-count-eq0 c =
    let live = c.live.inside.arrivals.items in
    let key = c.args.key.now in
    let app = c.args.app.now in
    let limit = c.if-eq.limit in
    let count = c.partition_point-count.result in
    let before = λ (a : Arrival). is_lt (ordering_then (slice_cmp nat_cmp a.app app) (nat_cmp a.ia limit)) in
    let exact : IsLimit key app limit = elim c.if-eq.branch [
      | then-eq w ↦ own_limit key app limit (names_equal app key.app (sym c.eq.ensures ∙ w.if-eq.true))
          (w.limit-is ∙ c.number-arrival.ensures.value)
      | else-eq w ↦ other_limit key app limit (names_differ app key.app (sym c.eq.ensures ∙ w.if-eq.false))
          (w.limit-is ∙ ap (λ n. n + 1) c.number-arrival.ensures.value)
    ] in
    let divided : IsPartitionedBy before c.deref.result.now =
    subst (IsPartitionedBy before) (sym c.deref.ensures.value) (parted live c.live.invariant app limit) in
    let point = IsPartitionPoint-from_clause before _ _ c.partition_point-count.ensures.partitioned divided
    (λ a r q k. search rules) in
    let here : IsPartitionPoint (λ a. before a ≡ true) (λ a. before a ≡ false) live count =
    subst (λ ls. IsPartitionPoint (λ a. before a ≡ true)
    (λ a. before a ≡ false) ls count) c.deref.ensures.value point in
    subst (λ ls. IsNearestArrival (Contains ls) key app None None) c.live.view_is
    (none_before live c.live.invariant app limit key exact count here c.if-count-eq0.true)

-- the last arrival before the limit is of the application
pub returns-then-eq-2 : goal.returns-then-eq-2
returns-then-eq-2 c =
    let live = c.live.inside.arrivals.items in
    let key = c.args.key.now in
    let app = c.args.app.now in
    let limit = c.if-eq.limit in
    let count = c.partition_point-count.result in
    let before = λ (a : Arrival). is_lt (ordering_then (slice_cmp nat_cmp a.app app) (nat_cmp a.ia limit)) in
    let exact : IsLimit key app limit = elim c.if-eq.branch [
      | then-eq w ↦ own_limit key app limit (names_equal app key.app (sym c.eq.ensures ∙ w.if-eq.true))
          (w.limit-is ∙ c.number-arrival.ensures.value)
      | else-eq w ↦ other_limit key app limit (names_differ app key.app (sym c.eq.ensures ∙ w.if-eq.false))
          (w.limit-is ∙ ap (λ n. n + 1) c.number-arrival.ensures.value)
    ] in
    let divided : IsPartitionedBy before c.deref.result.now =
    subst (IsPartitionedBy before) (sym c.deref.ensures.value) (parted live c.live.invariant app limit) in
    let point = IsPartitionPoint-from_clause before _ _ c.partition_point-count.ensures.partitioned divided
    (λ a r q k. search rules) in
    let here : IsPartitionPoint (λ a. before a ≡ true) (λ a. before a ≡ false) live count =
    subst (λ ls. IsPartitionPoint (λ a. before a ≡ true)
    (λ a. before a ≡ false) ls count) c.deref.ensures.value point in
    let some : 0 < count = omega arith in
    let within : count ≤ length live = omega
    (arith, c.partition_point-count.ensures.bound, ap length c.deref.ensures.value) in
    let same : c.index.result.now.app ≡ app =
    names_equal c.index.result.now.app app (sym c.eq-2.ensures ∙ c.if-eq-2.true) in
    subst (λ ls. IsNearestArrival (Contains ls) key app None (Some c.index.result.now)) c.live.view_is
    (nearest_is live c.live.invariant app limit key exact count here some within c.index.result.now c.index.ensures
    same)

-- it is of another
pub returns-else-eq-2 : goal.returns-else-eq-2
returns-else-eq-2 c =
    let live = c.live.inside.arrivals.items in
    let key = c.args.key.now in
    let app = c.args.app.now in
    let limit = c.if-eq.limit in
    let count = c.partition_point-count.result in
    let before = λ (a : Arrival). is_lt (ordering_then (slice_cmp nat_cmp a.app app) (nat_cmp a.ia limit)) in
    let exact : IsLimit key app limit = elim c.if-eq.branch [
      | then-eq w ↦ own_limit key app limit (names_equal app key.app (sym c.eq.ensures ∙ w.if-eq.true))
          (w.limit-is ∙ c.number-arrival.ensures.value)
      | else-eq w ↦ other_limit key app limit (names_differ app key.app (sym c.eq.ensures ∙ w.if-eq.false))
          (w.limit-is ∙ ap (λ n. n + 1) c.number-arrival.ensures.value)
    ] in
    let divided : IsPartitionedBy before c.deref.result.now =
    subst (IsPartitionedBy before) (sym c.deref.ensures.value) (parted live c.live.invariant app limit) in
    let point = IsPartitionPoint-from_clause before _ _ c.partition_point-count.ensures.partitioned divided
    (λ a r q k. search rules) in
    let here : IsPartitionPoint (λ a. before a ≡ true) (λ a. before a ≡ false) live count =
    subst (λ ls. IsPartitionPoint (λ a. before a ≡ true)
    (λ a. before a ≡ false) ls count) c.deref.ensures.value point in
    let some : 0 < count = omega arith in
    let within : count ≤ length live = omega
    (arith, c.partition_point-count.ensures.bound, ap length c.deref.ensures.value) in
    let differ = names_differ c.index.result.now.app app (sym c.eq-2.ensures ∙ c.if-eq-2.false) in
    subst (λ ls. IsNearestArrival (Contains ls) key app None None) c.live.view_is
    (none_of_app live c.live.invariant app limit key exact count here some within c.index.result.now c.index.ensures
    differ)
