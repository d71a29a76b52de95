use Rattle.std.proofs.Common.{◌≡◌, inl, inr, true, false, sym, ap, subst, ◌∙◌, rules, arith, length, take}
use Rattle.std.proofs.lemmas.Result.{err_from_is_err_and}
use Rattle.planner_cli_stream.specs.Lines.{ends_data}
use Rattle.planner_cli_stream.specs.Blocks.{BlockRead, ending_of}
use Rattle.planner_cli_stream.specs.Items.{end_room}
use Rattle.planner_cli_stream.proofs.Kept.{if_some_weaken}
use Rattle.planner_cli_stream.proofs.Measured.{measures_same, measures_trans}
use Rattle.planner_cli_stream.proofs.Parts.{Reading, front_line, reading_starts, reading_on, reading_ends, reading_missing}
use Rattle.planner_cli_stream.proofs.blocks.read_block.Goals as goal

pub loop-turn-init : goal.loop-turn-init
loop-turn-init g c = (reading_starts _ _ c.clear.ensures.items, search rules, search rules, omega arith, measures_same _ _, search rules, search rules)

pub loop-turn-preserved : goal.loop-turn-preserved
loop-turn-preserved g c =
    let read = c.in_ok-read_line.ensures in
    let b = g.R.Read.remaining c.loop-turn.reader in
    let any : c.in_ok-read_line.field-0 ≡ true = search rules in
    let here =
    front_line b end_room _ _ _ _ any c.clear-in-loop-turn.ensures.items read.some read.head
    c.trim_line_end.ensures.line in
    let more : ends_data c.trim_line_end.new.line.items ≡ false = search rules in (
      if_some_weaken (g.R.Read.remaining c.args.reader.now) (λ xs. Reading xs b c.loop-turn.block.items) _
          (λ xs r. reading_on xs b _ _ _ _ r here read.all read.rest more) c.loop-turn.invariant.0,
      omega (arith, read.head_bound, c.trim_line_end.ensures.shorter, ap length c.clear-in-loop-turn.ensures.items),
      omega (arith, read.all_bound),
      omega (arith, c.loop-turn.invariant.3, read.falls any),
      measures_trans _ _ _ _ _ _ c.loop-turn.invariant.4 read.measured,
      omega (
        arith,
        c.loop-turn.invariant.5,
        c.clear-in-loop-turn.ensures.capacity,
        read.head_grows,
        c.trim_line_end.ensures.capacity,
      ),
      omega (arith, c.loop-turn.invariant.6, read.all_grows),
    )

pub returns-then-not-branch-clause-read : goal.returns-then-not-branch-clause-read
returns-then-not-branch-clause-read g c =
    let read = c.in_ok-read_line.ensures in
    let b = g.R.Read.remaining c.loop-turn.reader in
    let none : c.in_ok-read_line.field-0 ≡ false = search rules in
    if_some_weaken (g.R.Read.remaining c.args.reader.now) (λ xs. Reading xs b c.loop-turn.block.items) _
    (λ xs r. reading_missing xs b _ _ c.read_line.new.all.items _ r read.some read.rest none) c.loop-turn.invariant.0

pub returns-then-ends_data-clause-read : goal.returns-then-ends_data-clause-read
returns-then-ends_data-clause-read g c =
    let read = c.in_ok-read_line.ensures in
    let b = g.R.Read.remaining c.loop-turn.reader in
    let any : c.in_ok-read_line.field-0 ≡ true = search rules in
    let here =
    front_line b end_room _ _ _ _ any c.clear-in-loop-turn.ensures.items read.some read.head
    c.trim_line_end.ensures.line in
    let last : ends_data c.trim_line_end.new.line.items ≡ true = search rules in
    let held = c.loop-turn.block.items in
    let size : c.len-held.result ≡ length held = search rules in
    let left = g.R.Read.remaining c.read_line.new.reader in
    let end : c.ending_of.result ≡ ending_of (length held) = c.ending_of.ensures.value ∙ ap ending_of size in
    let block : c.truncate.new.self.items ≡ take (length held) c.read_line.new.all.items =
    c.truncate.ensures.items ∙ ap (λ k. take k c.read_line.new.all.items) size in
    if_some_weaken (g.R.Read.remaining c.args.reader.now) (λ xs. Reading xs b held)
    (λ xs. BlockRead xs c.ending_of.result c.truncate.new.self.items left)
    (λ xs r. subst (λ e. BlockRead xs e c.truncate.new.self.items left) (sym end)
    (subst (λ l. BlockRead xs (ending_of (length held)) l left) (sym block)
    (reading_ends xs b left _ _ _ r here read.all read.rest last))) c.loop-turn.invariant.0

pub returns-then-not-branch-clause-measured : goal.returns-then-not-branch-clause-measured
returns-then-not-branch-clause-measured g c =
    measures_trans _ _ _ _ _ _ c.loop-turn.invariant.4 c.read_line.ensures.measured

pub returns-then-ends_data-clause-measured : goal.returns-then-ends_data-clause-measured
returns-then-ends_data-clause-measured g c =
    measures_trans _ _ _ _ _ _ c.loop-turn.invariant.4 c.read_line.ensures.measured

pub returns-in_err-read_line-clause-measured : goal.returns-in_err-read_line-clause-measured
returns-in_err-read_line-clause-measured g c =
    measures_trans _ _ _ _ _ _ c.loop-turn.invariant.4 c.read_line.ensures.measured

pub returns-in_err-read_line-clause-memory : goal.returns-in_err-read_line-clause-memory
returns-in_err-read_line-clause-memory g c =
    let p = err_from_is_err_and c.from_residual.result c.from_residual.ensures.1 in
    rw (p.1, p.2) (λ is. elim (c.in_err-read_line.ensures.memory is) [
      | inl low ↦ inl (
          omega (
            arith,
            low,
            ap length c.clear-in-loop-turn.ensures.items,
            c.clear-in-loop-turn.ensures.capacity,
            c.loop-turn.invariant.5,
          )
          )
      | inr low ↦ inr (omega (arith, low, c.loop-turn.invariant.2, c.loop-turn.invariant.6))
    ])

-- so many turns read all bytes that a stream may have
pub returns-clause-blamed : goal.returns-clause-blamed
returns-clause-blamed g c = λ is. inr (omega (arith, c.loop-turn.invariant.3))
