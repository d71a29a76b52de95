use Rattle.std.proofs.Common.{◌≡◌, ◌≢◌, ◌<◌, [], ◌++◌, length, sym, ap, ◌∙◌, inl, inr, arith, length-append, true≢false}
use Rattle.std.proofs.lemmas.List.Elements.{All-append, All-nil}
use Rattle.std.specs.Prelude.{◌↔◌, IsTrue}
use Rattle.std.specs.Io.BufRead.{take_through}
use Rattle.std.specs.Io.Iter.{u64_saturate}
use Rattle.std.proofs.KnownBytes.{Consumes-trans, Consumes-nil}
use Rattle.std.proofs.BufReadLemmas.{Consumes_through}
use Rattle.planner_cli_stream.specs.Buffers.{kept}
use Rattle.planner_cli_stream.proofs.Kept.{kept_grown, kept_none, some_taken, if_some_weaken}
use Rattle.std.proofs.lemmas.Bool.Decides.{nat_tests}
use Rattle.std.proofs.lemmas.Result.{err_from_is_err_and}
use Rattle.planner_cli_stream.proofs.Measured.{measures_consumed, measures_trans}
use Rattle.planner_cli_stream.proofs.lines.read_line.Goals as goal

pub loop-turn-init : goal.loop-turn-init
loop-turn-init g c = (
  [],
  omega arith,
  All-nil (λ x. x ≢ 10),
  Consumes-nil _,
  kept_none _ _,
  kept_none _ _,
  omega arith,
  omega arith,
  omega arith,
  omega arith,
  omega arith,
  omega arith,
)

pub loop-turn-preserved : goal.loop-turn-preserved
loop-turn-preserved g c =
    let (seen, count, none, read, head, all, head_bound, all_bound, falls, turns, head_grows, all_grows) = c.loop-turn.invariant in
    let p = c.in_ok-len.ensures.part in (
      seen ++ p.bytes,
      omega (arith, length-append seen p.bytes, c.saturating_add-total.ensures),
      All-append (λ x. x ≢ 10) seen p.bytes none (p.not_done (λ e. true≢false (sym e ∙ c.if-is_done.false))),
      Consumes-trans _ _ _ _ _ read p.consumed,
      kept_grown c.args.head_limit c.args.head.now.items seen p.bytes _ _ head p.head_keeps,
      kept_grown c.args.all_limit c.args.all.now.items seen p.bytes _ _ all p.all_keeps,
      omega (arith, c.in_ok-len.ensures.head_bound),
      omega (arith, c.in_ok-len.ensures.all_bound),
      omega (arith, length-append seen p.bytes, p.len_is, falls, c.in_ok-len.ensures.falls),
      omega (
        arith,
        length-append seen p.bytes,
        p.len_is,
        turns,
        c.in_ok-len.ensures.some (λ e. true≢false (sym e ∙ c.if-is_done.false)),
      ),
      omega (arith, head_grows, c.in_ok-len.ensures.head_grows),
      omega (arith, all_grows, c.in_ok-len.ensures.all_grows),
    )

pub returns-then-is_done : goal.returns-then-is_done
returns-then-is_done g c =
    let (seen, count, none, read, head, all, head_bound, all_bound, falls, turns, head_grows, all_grows) = c.loop-turn.invariant in
    let p = c.in_ok-len.ensures.part in
    let whole =
    Consumes_through 10 _ _ _ seen p.bytes read none p.consumed p.stops (p.done c.if-is_done.true)
    (p.no_more c.if-is_done.true) in
    let known = g.R.Read.remaining c.args.reader.now in
    let head_is = kept_grown c.args.head_limit c.args.head.now.items seen p.bytes _ _ head p.head_keeps in
    let all_is = kept_grown c.args.all_limit c.args.all.now.items seen p.bytes _ _ all p.all_keeps in
    let counted : c.saturating_add-total.result ≡ u64_saturate (length (seen ++ p.bytes)) =
    omega (arith, length-append seen p.bytes, c.saturating_add-total.ensures) in
    let taken : IsTrue _ ↔ (0 < length (seen ++ p.bytes)) = grind (arith, nat_tests, counted) in
    record {
      some = some_taken known (seen ++ p.bytes) _ taken whole.0;
      rest = whole.1;
      head =
          if_some_weaken known (λ xs. seen ++ p.bytes ≡ take_through 10 xs) _
          (λ xs e. head_is ∙ ap (kept c.args.head_limit c.args.head.now.items) e) whole.0;
      all =
          if_some_weaken known (λ xs. seen ++ p.bytes ≡ take_through 10 xs) _
          (λ xs e. all_is ∙ ap (kept c.args.all_limit c.args.all.now.items) e) whole.0;
      head_bound = omega (arith, c.in_ok-len.ensures.head_bound);
      all_bound = omega (arith, c.in_ok-len.ensures.all_bound);
      falls = λ any. omega (arith, length-append seen p.bytes, p.len_is, falls, c.in_ok-len.ensures.falls, taken.0 any);
      most = omega (arith, falls, c.in_ok-len.ensures.falls);
      measured = measures_trans _ _ _ _ _ _ (measures_consumed _ _ seen _ _ read falls) c.consume_part.ensures.measured;
      head_grows = omega (arith, head_grows, c.in_ok-len.ensures.head_grows);
      all_grows = omega (arith, all_grows, c.in_ok-len.ensures.all_grows);
      blamed = tt;
      memory = tt;
    }

pub returns-in_err-len-clause-head_bound : goal.returns-in_err-len-clause-head_bound
returns-in_err-len-clause-head_bound g c =
    let (seen, count, none, read, head, all, head_bound, all_bound, falls, turns, head_grows, all_grows) = c.loop-turn.invariant in
    omega (arith, head_bound, c.consume_part.ensures.head_bound)

pub returns-in_err-len-clause-all_bound : goal.returns-in_err-len-clause-all_bound
returns-in_err-len-clause-all_bound g c =
    let (seen, count, none, read, head, all, head_bound, all_bound, falls, turns, head_grows, all_grows) = c.loop-turn.invariant in
    omega (arith, all_bound, c.consume_part.ensures.all_bound)

pub returns-in_err-len-clause-most : goal.returns-in_err-len-clause-most
returns-in_err-len-clause-most g c =
    let (seen, count, none, read, head, all, head_bound, all_bound, falls, turns, head_grows, all_grows) = c.loop-turn.invariant in
    omega (arith, falls, c.in_err-len.ensures.stays)

pub returns-in_err-len-clause-measured : goal.returns-in_err-len-clause-measured
returns-in_err-len-clause-measured g c =
    let (seen, count, none, read, head, all, head_bound, all_bound, falls, turns, head_grows, all_grows) = c.loop-turn.invariant in
    measures_trans _ _ _ _ _ _ (measures_consumed _ _ seen _ _ read falls) c.consume_part.ensures.measured

pub returns-in_err-len-clause-head_grows : goal.returns-in_err-len-clause-head_grows
returns-in_err-len-clause-head_grows g c =
    let (seen, count, none, read, head, all, head_bound, all_bound, falls, turns, head_grows, all_grows) = c.loop-turn.invariant in
    omega (arith, head_grows, c.consume_part.ensures.head_grows)

pub returns-in_err-len-clause-all_grows : goal.returns-in_err-len-clause-all_grows
returns-in_err-len-clause-all_grows g c =
    let (seen, count, none, read, head, all, head_bound, all_bound, falls, turns, head_grows, all_grows) = c.loop-turn.invariant in
    omega (arith, all_grows, c.consume_part.ensures.all_grows)

-- a buffer that may have to grow now might have had to from the start
pub returns-in_err-len-clause-memory : goal.returns-in_err-len-clause-memory
returns-in_err-len-clause-memory g c =
    let (seen, count, none, read, head, all, head_bound, all_bound, falls, turns, head_grows, all_grows) = c.loop-turn.invariant in
    let p = err_from_is_err_and c.from_residual.result c.from_residual.ensures.1 in
    rw (p.1, p.2) (λ is. elim (c.in_err-len.ensures.memory is) [
      | inl low ↦ inl (omega (arith, low, head_bound, head_grows))
      | inr low ↦ inr (omega (arith, low, all_bound, all_grows))
    ])

pub returns-clause-head_grows : goal.returns-clause-head_grows
returns-clause-head_grows g c =
    let (seen, count, none, read, head, all, head_bound, all_bound, falls, turns, head_grows, all_grows) = c.loop-turn.invariant in
    head_grows

pub returns-clause-all_grows : goal.returns-clause-all_grows
returns-clause-all_grows g c =
    let (seen, count, none, read, head, all, head_bound, all_bound, falls, turns, head_grows, all_grows) = c.loop-turn.invariant in
    all_grows

pub returns-clause-head_bound : goal.returns-clause-head_bound
returns-clause-head_bound g c =
    let (seen, count, none, read, head, all, head_bound, all_bound, falls, turns, head_grows, all_grows) = c.loop-turn.invariant in
    head_bound

pub returns-clause-all_bound : goal.returns-clause-all_bound
returns-clause-all_bound g c =
    let (seen, count, none, read, head, all, head_bound, all_bound, falls, turns, head_grows, all_grows) = c.loop-turn.invariant in
    all_bound

pub returns-clause-most : goal.returns-clause-most
returns-clause-most g c =
    let (seen, count, none, read, head, all, head_bound, all_bound, falls, turns, head_grows, all_grows) = c.loop-turn.invariant in
    omega (arith, falls)

pub returns-clause-measured : goal.returns-clause-measured
returns-clause-measured g c =
    let (seen, count, none, read, head, all, head_bound, all_bound, falls, turns, head_grows, all_grows) = c.loop-turn.invariant in
    measures_consumed _ _ seen _ _ read falls

-- so many turns read all bytes that a stream may have
pub returns-clause-blamed : goal.returns-clause-blamed
returns-clause-blamed g c =
    let (seen, count, none, read, head, all, head_bound, all_bound, falls, turns, head_grows, all_grows) = c.loop-turn.invariant in
    λ is. inr (omega (arith, falls, turns))
