use Rattle.std.proofs.Common.{◌≤◌, ◌∙◌, Some, inl, inr, refl, subst, sym}
use Rattle.std.proofs.lemmas.Bool.{cases_lt, false≢true}
use Rattle.planner_machine.specs.Pairs.{pair_of}
use Rattle.plan_store.specs.Views.{shown, with_hidden}
use Rattle.plan_store_pairs.specs.Additions.{IsLeftPair, IsOvertaken, IsPredecessorIn, IsTurnedPair}
use Rattle.plan_store_pairs.specs.Gathering.{AddsIf}
use Rattle.plan_store_pairs.proofs.EachLemmas.{adds_nothing, adds_one}
use Rattle.plan_store_pairs.proofs.PairInLemmas.{found_none, found_pair, none_overtaken, not_overtaken, one_pair, some_overtaken}
use Rattle.plan_store_pairs.proofs.PartLemmas.{open_shown, shown_stood}
use Rattle.plan_store_pairs.proofs.additions.turn.Goals as goal
use Rattle.plan_store_pairs.proofs.additions.turn.Goals.{in-Some+else-arrives_later+in_ok-push, in_default}

-- what precedes it now arrives later
pub returns-then-arrives_later : goal.returns-then-arrives_later
returns-then-arrives_later c h sound sees once is =
    let content = with_hidden h c.args.view.now in
    let row = c.args.row.now in
    let x = c.args.x.now in
    let was = c.in-Some.was in
    let pairs = (shown c.args.view.now).pairs in
    let stood = shown_stood (Some row.key) content.sets pairs h.pairs sees.pairs in
    let has = open_shown (Some row.key) content.sets pairs h.pairs sees.pairs x.placed is.stands is.waits in
    let found = subst (IsPredecessorIn pairs content.sets x.placed.row.serial row.key.app) c.in-Some.is
    (c.predecessor_in.ensures h sound.serials sees.predecessors) in
    let never = not_overtaken content sound once row x is (pair_of x.placed.row.serial was.row.serial)
    (found_pair content sound once row x is pairs stood has was found)
    (c.arrives_later.ensures.0 c.if-arrives_later.true) in (
      adds_nothing (IsLeftPair content row x) c.args.removed.now.items (λ y left. never left.0),
      adds_nothing (IsTurnedPair content row x) c.args.added.now.items (λ y turned. never turned.0),
    )

-- it is turned to the row
pub returns : goal.returns
returns c h sound sees once is =
    let content = with_hidden h c.args.view.now in
    let row = c.args.row.now in
    let x = c.args.x.now in
    let pairs = (shown c.args.view.now).pairs in
    let stood = shown_stood (Some row.key) content.sets pairs h.pairs sees.pairs in
    let has = open_shown (Some row.key) content.sets pairs h.pairs sees.pairs x.placed is.stands is.waits in
    let Left = IsLeftPair content row x in
    let Turned = IsTurnedPair content row x in
    let old = c.args.removed.now.items in
    let found = c.predecessor_in.ensures h sound.serials sees.predecessors in
    let left : IsOvertaken content row x × AddsIf Left old c.match-predecessor_in.removed.items =
    elim c.match-predecessor_in.branch [
      | in-Some+else-arrives_later+in_ok-push w ↦
          let was = w.in-Some.was in
          let pair = pair_of x.placed.row.serial was.row.serial in
          let at = found_pair content sound once row x is pairs stood has was
          (subst (IsPredecessorIn pairs content.sets x.placed.row.serial row.key.app) w.in-Some.is found) in
          let upto : was.row.key.ia ≤ row.key.ia = elim (cases_lt row.key.ia was.row.key.ia) [
            | inl later ↦ absurd (false≢true (sym w.if-arrives_later.false ∙ w.arrives_later.ensures.1 later))
            | inr upto ↦ upto
          ] in
          let over = some_overtaken content sound once row x is pair at upto in
          rw (w.removed-is, w.in_ok-push.ensures.items)
          (over, adds_one Left old pair (over, at) (λ y other. one_pair content sound once row x is pair y at other.1))
      | in_default w ↦
          let never = found_none content sound once row x is pairs stood has
          (subst (IsPredecessorIn pairs content.sets x.placed.row.serial row.key.app) w.in_default.is found) in
          let over = none_overtaken content sound once row x is never in
          rw w.removed-is (over, adds_nothing Left old (λ y other. never y other.1))
    ] in (
      left.1,
      subst (AddsIf Turned c.args.added.now.items) (sym c.in_ok-push-2.ensures.items)
          (adds_one Turned c.args.added.now.items (pair_of x.placed.row.serial row.serial) (left.0, refl)
          (λ y other. sym other.1)),
    )
