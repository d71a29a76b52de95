use Rattle.std.proofs.Common.{◌≡◌, ◌↔◌, ◌+◌, ◌++◌, ◌∷◌, [], take, sym, ap, subst, arith, ◌∙◌}
use Rattle.std.specs.List.{Contains}
use Rattle.std.proofs.lemmas.Bool.{false≢true}
use Rattle.std.proofs.lemmas.List.{take_more, take_all}
use Rattle.external_dependencies.specs.Pair.{IsPairAmong}
use Rattle.external_dependencies.proofs.PairLemmas.{AreAllPairs, all_skip, all_more}
use Rattle.external_dependencies.proofs.pairs.resolve_some.Goals as goal
use Rattle.external_dependencies.proofs.pairs.resolve_some.Goals.{then-is_open+in_ok-push_pairs, else-is_open}

-- one more row
pub loop-placed-preserved : goal.loop-placed-preserved
loop-placed-preserved c =
    let all = c.args.rows.now in
    let links = c.args.links.now in
    let rows = c.args.asked.now in
    let placed = c.placed-item.result in
    let index = c.loop-placed.placed-index in
    let front : take (index + 1) rows ≡ take index rows ++ placed ∷ [] =
    take_more rows index placed c.loop-placed-test.true
    ∙ ap (λ x. take index rows ++ x ∷ []) (sym c.placed-item.is) in
    let more : AreAllPairs all (take index rows ++ placed ∷ []) links c.if-is_open.pairs.items =
    elim c.if-is_open.branch [
      | then-is_open+in_ok-push_pairs w ↦ rw w.pairs-is
          (all_more all (take index rows) links c.loop-placed.pairs.items c.loop-placed.invariant placed
          c.in_ok-live.live c.in_ok-live.ensures w.list-list.result.now w.list-list.ensures.all
          (c.is_open.ensures.0 w.if-is_open.true) w.push_pairs.new.pairs.items w.in_ok-push_pairs.ensures)
      | else-is_open w ↦ rw w.pairs-is (all_skip all
          (take index rows) links c.loop-placed.pairs.items c.loop-placed.invariant placed
          (λ is_open. false≢true (sym w.if-is_open.false ∙ c.is_open.ensures.1 is_open)))
    ] in
    subst (λ rs. AreAllPairs all rs links c.if-is_open.pairs.items) (sym front) more

-- all rows
pub returns : goal.returns
returns c pair =
    let whole : take c.loop-placed.placed-index c.args.asked.now ≡ c.args.asked.now =
    take_all c.loop-placed.placed-index c.args.asked.now (omega arith) in
    let is : Contains c.loop-placed.pairs.items pair ↔ IsPairAmong c.args.rows.now c.args.asked.now c.args.links.now pair =
    subst (λ rs. AreAllPairs c.args.rows.now rs c.args.links.now c.loop-placed.pairs.items) whole
    c.loop-placed.invariant pair in
    let same = c.from_vec.ensures pair in
    ((λ here. is.0 (same.0 here)), λ here. same.1 (is.1 here))
