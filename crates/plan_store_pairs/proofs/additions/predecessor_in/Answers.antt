use Rattle.std.proofs.Common.{◌≡◌, ◌+◌, ◌++◌, ◌∷◌, ◌∙◌, List, [], take, sym, ap, subst, arith, inl, inr}
use Rattle.std.specs.List.{Contains}
use Rattle.std.proofs.lemmas.List.{take_all, take_more}
use Rattle.std.proofs.lemmas.List.Elements.{Contains-push_cases}
use Rattle.external_dependencies.specs.declared.pairs.Pair.{Pair}
use Rattle.external_dependencies.specs.declared.rows.PlacedRow.{PlacedRow}
use Rattle.external_dependencies.proofs.NearestLemmas.{names_differ, names_equal}
use Rattle.planner_machine.specs.Content.{IsOnlyAt}
use Rattle.planner_machine.specs.Pairs.{pair_of}
use Rattle.planner_machine.proofs.SeatLemmas.{one_place}
use Rattle.plan_store.specs.Views.{IsFoundAt, shown, with_hidden}
use Rattle.plan_store_pairs.proofs.PairInLemmas.{outside_none}
use Rattle.plan_store_pairs.proofs.additions.predecessor_in.Goals as goal
use Rattle.plan_store_pairs.proofs.additions.predecessor_in.Goals.{in-Some+else-eq, in_default}

pub predecessor-requires : goal.predecessor-requires
predecessor-requires c =
    let list = c.pairs_of_successor-pair-items.result.now in
    let there : Contains list c.pair-item.result = (c.loop-pair.pair-index, c.loop-pair-test.true, sym c.pair-item.is) in
    ((c.pairs_of_successor-pair-items.ensures.all c.pair-item.result).0 there).0

-- it is found
pub returns-then-eq : goal.returns-then-eq
returns-then-eq c h numbered has =
    let s = (with_hidden h c.args.view.now).sets in
    let list = c.pairs_of_successor-pair-items.result.now in
    let pair = c.pair-item.result in
    let placed = c.in-Some.placed in
    let there : Contains list pair = (c.loop-pair.pair-index, c.loop-pair-test.true, sym c.pair-item.is) in
    let both = (c.pairs_of_successor-pair-items.ensures.all pair).0 there in
    let found = subst (IsFoundAt s pair.predecessor) c.in-Some.is (c.predecessor.ensures h numbered has) in
    let number = numbered.numbered pair.predecessor placed found.0 in
    let whole : pair ≡ pair_of c.args.successor placed.row.serial =
    λ i. record { successor = both.1 i; predecessor = sym number i } in (
      subst (Contains (shown c.args.view.now).pairs) whole both.0,
      subst (λ n. IsOnlyAt s n placed) (sym number) found.0,
      names_equal placed.row.key.app c.args.app.now (sym c.eq.ensures ∙ c.if-eq.true),
    )

-- one more pair
pub loop-pair-preserved : goal.loop-pair-preserved
loop-pair-preserved c h numbered has pair p there stands outside same_app =
    let s = (with_hidden h c.args.view.now).sets in
    let list = c.pairs_of_successor-pair-items.result.now in
    let now = c.pair-item.result in
    let index = c.loop-pair.pair-index in
    let front : take (index + 1) list ≡ take index list ++ now ∷ [] = take_more list index now c.loop-pair-test.true
    ∙ ap (λ x. take index list ++ x ∷ []) (sym c.pair-item.is) in
    elim (Contains-push_cases (take index list) now pair (subst (λ (ps : List Pair). Contains ps pair) front there)) [
      | inl before ↦ c.loop-pair.invariant h numbered has pair p before stands outside same_app
      | inr same ↦
          let here : IsOnlyAt s now.predecessor p = subst (λ (q : Pair). IsOnlyAt s q.predecessor p) (sym same) stands in
          elim c.match-predecessor.branch [
            | in-Some+else-eq w ↦
                let placed = w.in-Some.placed in
                let found = subst (IsFoundAt s now.predecessor) w.in-Some.is (c.predecessor.ensures h numbered has) in
                let one : placed ≡ p = one_place s now.predecessor placed p found.0 here in
                names_differ placed.row.key.app c.args.app.now (sym w.eq.ensures ∙ w.if-eq.false)
                (ap (λ (q : PlacedRow). q.row.key.app) one ∙ same_app)
            | in_default w ↦
                let none = subst (IsFoundAt s now.predecessor) w.in_default.is (c.predecessor.ensures h numbered has) in
                outside_none s now.predecessor none p here outside
          ]
    ]

-- none is found
pub returns : goal.returns
returns c h numbered has pair p there same stands outside =
    let list = c.pairs_of_successor-pair-items.result.now in
    let listed = (c.pairs_of_successor-pair-items.ensures.all pair).1 (there, same) in
    let so_far = subst (λ (ps : List Pair). Contains ps pair)
    (sym (take_all c.loop-pair.pair-index list (omega arith))) listed in
    c.loop-pair.invariant h numbered has pair p so_far stands outside
