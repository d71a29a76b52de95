use Rattle.std.proofs.Common.{◌≡◌, ◌+◌, ◌++◌, ◌∷◌, [], take, sym, ap, subst, arith, ◌∙◌}
use Rattle.std.proofs.lemmas.Bool.{false≢true}
use Rattle.std.proofs.lemmas.List.{take_more, take_all}
use Rattle.occurrences.specs.Place.{IsOpen}
use Rattle.external_dependencies.specs.declared.rows.PlacedRow.{PlacedRow}
use Rattle.external_dependencies.specs.Reached.{AreAsked}
use Rattle.external_dependencies.specs.Touch.{MayReach}
use Rattle.external_dependencies.proofs.GatherLemmas.{passed, passed_over}
use Rattle.external_dependencies.proofs.repair.asked_rows.Goals as goal
use Rattle.external_dependencies.proofs.repair.asked_rows.Goals.{then-is_asked+in_ok-push, else-is_asked}

-- one more row
pub loop-placed-preserved : goal.loop-placed-preserved
loop-placed-preserved c touch is =
    let rows = c.as_slice-placed-items.result.now in
    let placed = c.placed-item.result in
    let index = c.loop-placed.placed-index in
    let links = c.args.links.now in
    let so_far = c.loop-placed.invariant touch is in
    let tells = c.is_asked.ensures touch is in
    let front : take (index + 1) rows ≡ take index rows ++ placed ∷ [] =
    take_more rows index placed c.loop-placed-test.true
    ∙ ap (λ x. take index rows ++ x ∷ []) (sym c.placed-item.is) in
    let more : AreAsked touch links (take index rows ++ placed ∷ []) c.if-is_asked.asked.items =
    elim c.if-is_asked.branch [
      | then-is_asked+in_ok-push w ↦
          let pushed : w.push.new.self.items ≡ c.loop-placed.asked.items ++ placed ∷ [] =
          w.in_ok-push.ensures.items in
          rw (w.asked-is, pushed) (passed (λ (q : PlacedRow). IsOpen q.place × MayReach touch links q.row)
          (take index rows) c.loop-placed.asked.items so_far placed (tells.0 w.if-is_asked.true))
      | else-is_asked w ↦ rw w.asked-is (passed_over (λ (q : PlacedRow). IsOpen q.place
          × MayReach touch links q.row) (take index rows) c.loop-placed.asked.items so_far placed
          (λ asked. false≢true (sym w.if-is_asked.false ∙ tells.1 asked)))
    ] in
    subst (λ rs. AreAsked touch links rs c.if-is_asked.asked.items) (sym front) more

-- all rows
pub returns : goal.returns
returns c touch is =
    let whole : take c.loop-placed.placed-index c.as_slice-placed-items.result.now ≡ c.args.rows.now =
    take_all c.loop-placed.placed-index c.as_slice-placed-items.result.now (omega arith)
    ∙ c.as_slice-placed-items.ensures in
    subst (λ rs. AreAsked touch c.args.links.now rs c.loop-placed.asked.items) whole (c.loop-placed.invariant touch is)
