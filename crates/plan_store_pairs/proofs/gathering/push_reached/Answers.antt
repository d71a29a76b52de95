use Rattle.std.proofs.Common.{◌≡◌, ◌+◌, ◌++◌, ◌∷◌, ◌∙◌, [], take, refl, sym, ap, subst, arith}
use Rattle.std.proofs.lemmas.Bool.{false≢true}
use Rattle.std.proofs.lemmas.List.{take_all, take_more}
use Rattle.plan_store_pairs.specs.Gathering.{AddsEach, AddsIf, IsReachedAmong, MayPrecede}
use Rattle.plan_store_pairs.specs.declared.gathering.Reached.{Reached}
use Rattle.plan_store_pairs.proofs.EachLemmas.{adds_nothing, adds_one, each_more}
use Rattle.plan_store_pairs.proofs.gathering.push_reached.Goals as goal
use Rattle.plan_store_pairs.proofs.gathering.push_reached.Goals.{then-is_open+then-may_precede+in_ok-push, else-is_open}
use Rattle.plan_store_pairs.proofs.gathering.push_reached.Goals.{else-is_open-via-then-is_open+else-may_precede}
use Rattle.plan_store_pairs.proofs.gathering.push_reached.Goals.{else-is_open-via-else-is_open}

-- one more row
pub loop-placed-preserved : goal.loop-placed-preserved
loop-placed-preserved c =
    let row = c.args.row.now in
    let within = c.args.link.now.within in
    let rows = c.args.rows.now in
    let placed = c.placed-item.result in
    let index = c.loop-placed.placed-index in
    let first = c.args.found.now.items in
    let old = c.loop-placed.found.items in
    let front : take (index + 1) rows ≡ take index rows ++ placed ∷ [] =
    take_more rows index placed c.loop-placed-test.true
    ∙ ap (λ x. take index rows ++ x ∷ []) (sym c.placed-item.is) in
    let one : AddsIf (IsReachedAmong row within placed) old c.if-is_open.found.items = elim c.if-is_open.branch [
      | then-is_open+then-may_precede+in_ok-push w ↦
          let x : Reached = record { placed = placed; within = within } in
          let pushed : w.push.new.self.items ≡ old ++ x ∷ [] = w.in_ok-push.ensures.items in
          rw (w.found-is, pushed) (adds_one (IsReachedAmong row within placed) old x
          (refl, c.is_open.ensures.0 w.if-is_open.true, w.may_precede.ensures.0 w.if-may_precede.true)
          (λ y is. sym is.0))
      | else-is_open w ↦
          rw w.found-is (adds_nothing (IsReachedAmong row within placed) old (λ y is. elim w.else-is_open.branch [
            | else-is_open-via-then-is_open+else-may_precede v ↦
                let may = subst (MayPrecede row) is.0 is.2 in
                absurd (false≢true (sym v.if-may_precede.false ∙ v.may_precede.ensures.1 may))
            | else-is_open-via-else-is_open v ↦
                absurd (false≢true (sym v.if-is_open.false ∙ c.is_open.ensures.1 is.1))
          ]))
    ] in
    subst (λ ps. AddsEach (IsReachedAmong row within) ps first c.if-is_open.found.items) (sym front)
    (each_more (IsReachedAmong row within) (take index rows) placed first old c.if-is_open.found.items
    c.loop-placed.invariant one)

-- all rows
pub returns : goal.returns
returns c =
    subst (λ ps. AddsEach (IsReachedAmong c.args.row.now c.args.link.now.within) ps c.args.found.now.items
    c.loop-placed.found.items)
    (take_all c.loop-placed.placed-index c.args.rows.now (omega arith)) c.loop-placed.invariant
