use Rattle.std.proofs.Common.{◌≡◌, ◌∙◌, List, subst, sym, filter}
use Rattle.std.specs.Prelude.{map}
use Rattle.std.specs.List.{Contains}
use Rattle.std.proofs.lemmas.List.Elements.{AllWithin-more, at_read}
use Rattle.occurrences.specs.declared.key.Key.{Key}
use Rattle.occurrences.specs.declared.place.Deletion.{Deletion}
use Rattle.plan_store_soundness.specs.Arrivals.{IsFreeOf, by_operator}
use Rattle.plan_store_soundness.proofs.RuleLemmas.{operator_from, operator_to}
use Rattle.plan_store_soundness.proofs.arrivals.none_deleted.Goals as goal

pub loop-row-preserved : goal.loop-row-preserved
loop-row-preserved c =
    let deletions = c.args.deletions.now in
    let row = c.row-item.result in
    let keys : c.deref.result.now ≡ map (λ (d : Deletion). d.row.key) (filter by_operator deletions) =
    c.deref.ensures.value ∙ c.in_ok-keys.ensures in
    AllWithin-more (IsFreeOf deletions) c.args.rows.now 0 c.loop-row.row-index c.loop-row.invariant
    (at_read c.args.rows.now (IsFreeOf deletions) c.loop-row.row-index row c.loop-row-test.true c.row-item.is
    (λ generated operator. (c.is_free.ensures.0 c.if-not-is_free.false) generated
    ((c.in_ok-set.ensures row.key).1
    (subst (λ (ks : List Key). Contains ks row.key) (sym keys) (operator_from deletions row.key operator)))))

pub returns-then-not-is_free : goal.returns-then-not-is_free
returns-then-not-is_free c = (
  (λ yes. cc),
  λ all.
      let deletions = c.args.deletions.now in
      let row = c.row-item.result in
      let keys : c.deref.result.now ≡ map (λ (d : Deletion). d.row.key) (filter by_operator deletions) =
      c.deref.ensures.value ∙ c.in_ok-keys.ensures in
      let free : IsFreeOf deletions row =
      subst (IsFreeOf deletions) (sym c.row-item.is) (all c.loop-row.row-index row c.loop-row-test.true) in
      let passes = c.is_free.ensures.1 (λ generated within. free generated
      (operator_to deletions row.key
      (subst (λ (ks : List Key). Contains ks row.key) keys ((c.in_ok-set.ensures row.key).0 within)))) in
      let fails = c.if-not-is_free.true in cc,
)
