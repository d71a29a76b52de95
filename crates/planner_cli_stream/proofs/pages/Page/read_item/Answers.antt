use Rattle.std.proofs.Common.{◌≢◌, ap, inr, arith, rules}
use Rattle.std.specs.Prelude.{Ok}
use Rattle.std.proofs.lemmas.Result.{err_from_is_err_and}
use Rattle.planner_cli_stream.specs.declared.pages.Held.TheVariants.{Skipped}
use Rattle.planner_cli_stream.proofs.Kept.{if_some_weaken}
use Rattle.planner_cli_stream.proofs.Measured.{keeps_room_trans, needs_before, measures_trans, nothing_held}
use Rattle.planner_cli_stream.proofs.Parts.{skipping_ends}
use Rattle.planner_cli_stream.proofs.pages.Page.read_item.Goals as goal

pub returns-then-ne-clause-read : goal.returns-then-ne-clause-read
returns-then-ne-clause-read g c =
    let part = c.in_ok-held.ensures in
    let other : c.in_ok-held.held ≢ Skipped = search rules in
    if_some_weaken (g.R.Read.remaining c.args.reader.now) _ _
    (λ text s. skipping_ends text _ _ c.in_ok-held.held _ _ other s part.part (λ e. part.end (ap Ok e)))
    c.loop-turn.invariant.1

pub returns-then-ne-clause-falls : goal.returns-then-ne-clause-falls
returns-then-ne-clause-falls g c some =
    let part = c.in_ok-held.ensures in
    omega (arith, c.loop-turn.invariant.2, part.falls (λ none. some (nothing_held _ _ _ none)))

pub returns-then-ne-clause-measured : goal.returns-then-ne-clause-measured
returns-then-ne-clause-measured g c =
    measures_trans _ _ _ _ _ _ c.loop-turn.invariant.3 c.read_part.ensures.measured

pub returns-in_err-held-clause-measured : goal.returns-in_err-held-clause-measured
returns-in_err-held-clause-measured g c =
    measures_trans _ _ _ _ _ _ c.loop-turn.invariant.3 c.read_part.ensures.measured

pub returns-then-ne-clause-room : goal.returns-then-ne-clause-room
returns-then-ne-clause-room g c =
    keeps_room_trans c.args.self.now c.loop-turn.self c.read_part.new.self c.loop-turn.invariant.4 c.read_part.ensures.room

pub returns-in_err-held-clause-room : goal.returns-in_err-held-clause-room
returns-in_err-held-clause-room g c =
    keeps_room_trans c.args.self.now c.loop-turn.self c.read_part.new.self c.loop-turn.invariant.4 c.read_part.ensures.room

pub returns-in_err-held-clause-memory : goal.returns-in_err-held-clause-memory
returns-in_err-held-clause-memory g c =
    let p = err_from_is_err_and c.from_residual.result c.from_residual.ensures.1 in
    rw (p.1, p.2) (
    λ is. needs_before c.args.self.now c.loop-turn.self c.loop-turn.invariant.4 (c.in_err-held.ensures.memory is)
    )

-- so many turns read all bytes that a stream may have
pub returns-clause-blamed : goal.returns-clause-blamed
returns-clause-blamed g c = λ is. inr (omega (arith, c.loop-turn.invariant.2))
