use Rattle.std.proofs.Common.{◌≡◌, ◌∙◌, true, false, sym, ap, arith, refl}
use Rattle.std.specs.Ordering.{is_ge}
use Rattle.std.proofs.lemmas.Bool.{false≢true}
use Rattle.std.proofs.lemmas.List.Sorted.{all_adjacent_more}
use Rattle.std.specs.declared.cmp.Ordering.TheVariants.{Less}
use Rattle.plan_store_lists.proofs.RiseLemmas.{adjacent_keyed, below_next, not_below}
use Rattle.plan_store_lists.proofs.search.are_keyed.Goals as goal

pub loop-at-preserved : goal.loop-at-preserved
loop-at-preserved g c =
    let cmp = g.T.Key.Ord.cmp in
    let key = g.T.Keyed.key_of in
    let before = c.index-list-at.result in
    let here = c.index-list-at-in-loop-at.result in
    let is : is_ge (cmp (key before) (key here)) ≡ false = ap (λ a. is_ge (cmp a (key here))) (sym c.key-before.ensures)
    ∙ ap (λ a. is_ge (cmp c.key-before.result a)) (sym c.key-here.ensures) ∙ ap is_ge (sym c.cmp.ensures)
    ∙ sym c.is_ge.ensures ∙ c.if-is_ge.false in
    all_adjacent_more c.args.list.now (λ (x y : g.row.T.Denot). cmp (key x) (key y) ≡ Less) c.loop-at.at (omega arith)
    c.loop-at.invariant (below_next key cmp c.args.list.now c.loop-at.at before here (omega arith) (omega arith)
    c.index-list-at.is c.index-list-at-in-loop-at.is is)

pub returns-then-is_ge : goal.returns-then-is_ge
returns-then-is_ge g c =
    let cmp = g.T.Key.Ord.cmp in
    let key = g.T.Keyed.key_of in
    let before = c.index-list-at.result in
    let here = c.index-list-at-in-loop-at.result in
    let is : is_ge (cmp (key before) (key here)) ≡ true = ap (λ a. is_ge (cmp a (key here))) (sym c.key-before.ensures)
    ∙ ap (λ a. is_ge (cmp c.key-before.result a)) (sym c.key-here.ensures) ∙ ap is_ge (sym c.cmp.ensures)
    ∙ sym c.is_ge.ensures ∙ c.if-is_ge.true in (
      (λ no. absurd (false≢true no)),
      λ keyed. absurd (not_below key cmp c.args.list.now c.loop-at.at before here (omega arith) (omega arith)
          c.index-list-at.is c.index-list-at-in-loop-at.is is keyed),
    )

pub returns : goal.returns
returns g c = (
  (λ _. adjacent_keyed g.met.T.Key.Ord.total g.T.Keyed.key_of c.args.list.now c.loop-at.at
      c.loop-at.invariant (omega (arith, c.loop-at))),
  λ _. refl,
)
