use Rattle.std.proofs.Common.{◌≡◌, ◌+◌, ◌++◌, ◌∷◌, ◌∙◌, ℕ, List, [], take, sym, ap, subst, arith}
use Rattle.std.proofs.lemmas.List.{take_all, take_more}
use Rattle.external_dependencies.specs.declared.pairs.Pair.{Pair}
use Rattle.plan_store.specs.Contents.{content_of}
use Rattle.plan_tables_windows.specs.Unknown.{AddsUnsettled, IsPredecessorIn, is_settled}
use Rattle.plan_tables_windows.proofs.UnknownLemmas.{adds_begin, adds_more}
use Rattle.plan_tables_windows.proofs.unknown.add_predecessors.Goals as goal

pub loop-pair-init : goal.loop-pair-init
loop-pair-init c =
    adds_begin (is_settled (content_of c.args.lists.now).sets) (λ (pair : Pair) (n : ℕ). n ≡ pair.predecessor) c.args.serials.now.items

-- one more
pub loop-pair-preserved : goal.loop-pair-preserved
loop-pair-preserved c =
    let settled = is_settled (content_of c.args.lists.now).sets in
    let list = c.args.pairs.now in
    let one = c.pair-item.result in
    let index = c.loop-pair.pair-index in
    let old = c.args.serials.now.items in
    let new = c.add_serial.new.serials.items in
    let front : take (index + 1) list ≡ take index list ++ one ∷ [] = take_more list index one c.loop-pair-test.true
    ∙ ap (λ x. take index list ++ x ∷ []) (sym c.pair-item.is) in
    subst (λ (xs : List Pair). AddsUnsettled settled (IsPredecessorIn xs) old new) (sym front)
    (adds_more settled (λ (pair : Pair) (n : ℕ). n ≡ pair.predecessor) (take index list) one old c.loop-pair.serials.items new c.loop-pair.invariant
    c.in_ok-add_serial.ensures)

-- all
pub returns : goal.returns
returns c =
    subst (λ (xs : List Pair). AddsUnsettled (is_settled (content_of c.args.lists.now).sets) (IsPredecessorIn xs)
    c.args.serials.now.items c.loop-pair.serials.items)
    (take_all c.loop-pair.pair-index c.args.pairs.now (omega arith)) c.loop-pair.invariant
