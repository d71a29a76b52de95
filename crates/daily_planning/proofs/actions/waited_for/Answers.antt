use Rattle.std.proofs.Common.{◌≡◌, ◌∙◌, Some, subst, sym, arith}
use Rattle.std.proofs.lemmas.Bool.{false≢true}
use Rattle.occurrences.specs.declared.status.Status.{Status}
use Rattle.occurrences.specs.declared.status.Status.TheVariants.{W}
use Rattle.plan_store.specs.Views.{shown, with_hidden}
use Rattle.plan_store_pairs.proofs.PartLemmas.{asked_waiting, pairs_are}
use Rattle.daily_planning.proofs.WaitLemmas.{first_waits, more_done, none_waits, predecessor_lives}
use Rattle.daily_planning.proofs.actions.waited_for.Goals as goal

pub loop-pair-init : goal.loop-pair-init
loop-pair-init c h sound sees at waits k d low lt = absurd (omega (arith, lt))

-- the pair of the turn is shown
pub is_complete-requires : goal.is_complete-requires
is_complete-requires c = ((c.pairs_of_successor-pair-items.ensures.all c.pair-item.result).0
    (c.loop-pair.pair-index, c.loop-pair-test.true, sym c.pair-item.is)).0

pub returns-then-not-is_complete : goal.returns-then-not-is_complete
returns-then-not-is_complete c h sound sees at waits =
    let view = c.args.view.now in
    let content = with_hidden h view in
    let current = c.args.current.now in
    let start = c.is_start.ensures.0 c.if-not-is_start.false in
    let list = c.pairs_of_successor-pair-items.result.now in
    let of = pairs_are (Some current.row.key) content.sets (shown view).pairs content.pairs list sees.pairs
    current.row.serial (asked_waiting (Some current.row.key) content.sets current.row.serial current at (waits start))
    c.pairs_of_successor-pair-items.ensures.all in
    let pair = c.pair-item.result in
    let there = (of pair).0 (c.loop-pair.pair-index, c.loop-pair-test.true, sym c.pair-item.is) in
    let is : content.sets.cp current.row.serial ≡ Some (record { row = current.row; status = W }) =
    subst (λ (st : Status). content.sets.cp current.row.serial ≡ Some (record { row = current.row; status = st }))
    (waits start) at in
    let lives = predecessor_lives content sound current.row is pair there.0 there.1 in (
      start,
      first_waits content current.row.serial list c.pairs_of_successor-pair-items.ensures.rising of
          c.loop-pair.pair-index c.loop-pair-test.true (c.loop-pair.invariant h sound sees at (waits start)) pair
          (sym c.pair-item.is)
          (λ complete. false≢true (sym c.if-not-is_complete.true ∙ (c.is_complete.ensures h sound.serials
          sees.predecessors lives).1 complete)),
    )

pub loop-pair-preserved : goal.loop-pair-preserved
loop-pair-preserved c h sound sees at waits =
    let view = c.args.view.now in
    let content = with_hidden h view in
    let current = c.args.current.now in
    let list = c.pairs_of_successor-pair-items.result.now in
    let of = pairs_are (Some current.row.key) content.sets (shown view).pairs content.pairs list sees.pairs
    current.row.serial (asked_waiting (Some current.row.key) content.sets current.row.serial current at waits)
    c.pairs_of_successor-pair-items.ensures.all in
    let pair = c.pair-item.result in
    let there = (of pair).0 (c.loop-pair.pair-index, c.loop-pair-test.true, sym c.pair-item.is) in
    let is : content.sets.cp current.row.serial ≡ Some (record { row = current.row; status = W }) =
    subst (λ (st : Status). content.sets.cp current.row.serial ≡ Some (record { row = current.row; status = st }))
    waits at in
    let lives = predecessor_lives content sound current.row is pair there.0 there.1 in
    more_done content current.row.serial list c.pairs_of_successor-pair-items.ensures.rising of
    c.loop-pair.pair-index c.loop-pair-test.true (c.loop-pair.invariant h sound sees at waits) pair
    (sym c.pair-item.is)
    ((c.is_complete.ensures h sound.serials sees.predecessors lives).0
    c.if-not-is_complete.false)

pub returns : goal.returns
returns c h sound sees at waits start n uncompleted =
    let view = c.args.view.now in
    let content = with_hidden h view in
    let current = c.args.current.now in
    let list = c.pairs_of_successor-pair-items.result.now in
    let of = pairs_are (Some current.row.key) content.sets (shown view).pairs content.pairs list sees.pairs
    current.row.serial (asked_waiting (Some current.row.key) content.sets current.row.serial current at (waits start))
    c.pairs_of_successor-pair-items.ensures.all in
    none_waits content current.row.serial list c.pairs_of_successor-pair-items.ensures.rising of
    (λ k d low lt. c.loop-pair.invariant h sound sees at (waits start) k d low (omega arith)) n uncompleted
