use Rattle.std.proofs.Common.{◌≡◌, ◌≢◌, ◌+◌, ◌++◌, ◌∷◌, ◌∙◌, [], arith, ap, subst, sym, take}
use Rattle.std.proofs.lemmas.Bool.{false≢true}
use Rattle.std.proofs.lemmas.List.{take_all, take_more}
use Rattle.occurrences.specs.declared.status.Status.TheVariants.{D}
use Rattle.plan_store_pairs.specs.LiveRows.{AddsCurrent}
use Rattle.plan_store_pairs.proofs.RowLemmas.{current_more, current_skip, not_live}
use Rattle.plan_store_pairs.proofs.listing.push_current.Goals as goal
use Rattle.plan_store_pairs.proofs.listing.push_current.Goals.{then-is_live+in_ok-push, else-is_live}

-- one more row
pub loop-current-preserved : goal.loop-current-preserved
loop-current-preserved c =
    let list = c.args.list.now in
    let old = c.args.rows.now.items in
    let current = c.current-item.result in
    let index = c.loop-current.current-index in
    let front : take (index + 1) list ≡ take index list ++ current ∷ [] =
    take_more list index current c.loop-current-test.true
    ∙ ap (λ x. take index list ++ x ∷ []) (sym c.current-item.is) in
    let more : AddsCurrent (take index list ++ current ∷ []) old c.if-is_live.rows.items = elim c.if-is_live.branch [
      | then-is_live+in_ok-push w ↦
          let stays : current.status ≢ D = c.is_live.ensures.0 w.if-is_live.true in
          rw (w.rows-is, w.in_ok-push.ensures.items) (current_more (take index list) old c.loop-current.rows.items
          current stays c.loop-current.invariant)
      | else-is_live w ↦
          let deleted : current.status ≡ D = not_live current.status
          (λ live. false≢true (sym w.if-is_live.false ∙ c.is_live.ensures.1 live)) in
          rw w.rows-is (current_skip (take index list) old c.loop-current.rows.items current deleted
          c.loop-current.invariant)
    ] in
    subst (λ rs. AddsCurrent rs old c.if-is_live.rows.items) (sym front) more

pub returns : goal.returns
returns c =
    let whole = take_all c.loop-current.current-index c.args.list.now (omega arith) in
    subst (λ rs. AddsCurrent rs c.args.rows.now.items c.loop-current.rows.items) whole c.loop-current.invariant
