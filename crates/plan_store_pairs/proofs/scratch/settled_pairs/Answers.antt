use Rattle.std.proofs.Common.{◌≡◌, ◌↔◌, ◌+◌, ◌++◌, ◌∷◌, ◌∙◌, [], true, false, arith, ap, rules, subst, sym, take}
use Rattle.std.specs.List.{Contains}
use Rattle.std.proofs.lemmas.Bool.{false≢true}
use Rattle.std.proofs.lemmas.List.{take_all, take_more}
use Rattle.external_dependencies.specs.Pair.{IsPairOf}
use Rattle.plan_store_pairs.proofs.ScratchLemmas.{AreSoFar, held_more, held_none, held_skip, pairs_are}
use Rattle.plan_store_pairs.proofs.scratch.settled_pairs.Goals as goal
use Rattle.plan_store_pairs.proofs.scratch.settled_pairs.Goals.{then-not-is_open+in_ok-extend_from_slice, else-not-is_open}

pub loop-placed-init : goal.loop-placed-init
loop-placed-init c = held_none c.args.rows.now c.args.links.now c.args.before.now c.into_vec-pairs.result.items
    (λ pair. subst (λ ps. Contains ps pair ↔ IsPairOf c.args.rows.now c.args.links.now pair)
    (sym c.into_vec-pairs.ensures.all) (c.in_ok-resolve_all.ensures pair))

-- one more row
pub loop-placed-preserved : goal.loop-placed-preserved
loop-placed-preserved c =
    let all = c.args.rows.now in
    let links = c.args.links.now in
    let before = c.args.before.now in
    let rows = c.as_slice-placed-items.result.now in
    let placed = c.placed-item.result in
    let index = c.loop-placed.placed-index in
    let front : take (index + 1) rows ≡ take index rows ++ placed ∷ [] =
    take_more rows index placed c.loop-placed-test.true
    ∙ ap (λ x. take index rows ++ x ∷ []) (sym c.placed-item.is) in
    let more : AreSoFar all links before (take index rows ++ placed ∷ []) c.if-not-is_open.pairs.items =
    elim c.if-not-is_open.branch [
      | then-not-is_open+in_ok-extend_from_slice w ↦
          let closed : c.is_open.result ≡ false = search rules in
          rw (w.pairs-is, w.in_ok-extend_from_slice.ensures.items)
          (held_more all links before (take index rows) c.loop-placed.pairs.items c.loop-placed.invariant placed
          (λ waits. false≢true (sym closed ∙ c.is_open.ensures.1 waits)) w.of_successor.result.now
          w.of_successor.ensures.all)
      | else-not-is_open w ↦
          let waits : c.is_open.result ≡ true = search rules in
          rw w.pairs-is (held_skip all links before (take index rows) c.loop-placed.pairs.items c.loop-placed.invariant
          placed (c.is_open.ensures.0 waits))
    ] in
    subst (λ rs. AreSoFar all links before rs c.if-not-is_open.pairs.items) (sym front) more

-- all rows
pub returns : goal.returns
returns c s are pair =
    let all = c.args.rows.now in
    let whole : take c.loop-placed.placed-index c.as_slice-placed-items.result.now ≡ all =
    take_all c.loop-placed.placed-index c.as_slice-placed-items.result.now (omega arith)
    ∙ c.as_slice-placed-items.ensures in
    let so_far = subst (λ rs. AreSoFar all c.args.links.now c.args.before.now rs c.loop-placed.pairs.items) whole
    c.loop-placed.invariant in
    let is = pairs_are s all are c.args.links.now c.args.before.now c.loop-placed.pairs.items so_far pair in
    let same = c.from_vec.ensures pair in
    ((λ there. is.0 (same.0 there)), λ here. same.1 (is.1 here))
