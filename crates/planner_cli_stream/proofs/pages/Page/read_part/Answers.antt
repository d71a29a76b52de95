use Rattle.std.proofs.Common.{◌≡◌, inl, inr, true, false, ap, sym, subst, ◌∙◌, rules, arith, length}
use Rattle.std.specs.Prelude.{IfSome}
use Rattle.std.proofs.lemmas.Result.{err_from_is_err_and}
use Rattle.planner_cli_stream.specs.Lines.{line_room, opens_data, kind_of}
use Rattle.planner_cli_stream.specs.Pages.{PartRead, held_alone, held_with_data, item_held}
use Rattle.planner_cli_stream.proofs.Parts.{front_line, part_end, part_alone, part_with_data}
use Rattle.planner_cli_stream.proofs.pages.Page.read_part.Goals as goal

pub returns-then-not-branch-clause-part : goal.returns-then-not-branch-clause-part
returns-then-not-branch-clause-part g c =
    let read = c.in_ok-read_line.ensures in
    let none : c.in_ok-read_line.field-0 ≡ false = search rules in
    (part_end (g.R.Read.remaining c.args.reader.now) _ _ read.some read.rest none).0

pub returns-then-not-branch-clause-end : goal.returns-then-not-branch-clause-end
returns-then-not-branch-clause-end g c =
    let read = c.in_ok-read_line.ensures in
    let none : c.in_ok-read_line.field-0 ≡ false = search rules in
    λ _. (part_end (g.R.Read.remaining c.args.reader.now) _ _ read.some read.rest none).1

pub returns-else-opens_data-clause-part : goal.returns-else-opens_data-clause-part
returns-else-opens_data-clause-part g c =
    let read = c.in_ok-read_line.ensures in
    let a = g.R.Read.remaining c.args.reader.now in
    let any : c.in_ok-read_line.field-0 ≡ true = search rules in
    let line = c.trim_line_end.new.line.items in
    let first =
    front_line a line_room _ _ _ _ any c.clear.ensures.items read.some read.head c.trim_line_end.ensures.line in
    let closed : opens_data line ≡ false = search rules in
    let kind : c.kind_of-kind.result ≡ kind_of line = search rules in
    let held : c.held_alone.result ≡ held_alone (kind_of line) = c.held_alone.ensures ∙ ap held_alone kind in
    let block = c.read_line.new.all.items in
    subst (λ h. IfSome a (λ xs. PartRead xs (item_held h line block) (g.R.Read.remaining c.read_line.new.reader)))
    (sym held)
    (part_alone a (g.R.Read.remaining c.read_line.new.reader) line block first read.rest closed)

pub returns-in_ok-ending-clause-part : goal.returns-in_ok-ending-clause-part
returns-in_ok-ending-clause-part g c =
    let read = c.in_ok-read_line.ensures in
    let a = g.R.Read.remaining c.args.reader.now in
    let any : c.in_ok-read_line.field-0 ≡ true = search rules in
    let line = c.trim_line_end.new.line.items in
    let first =
    front_line a line_room _ _ _ _ any c.clear.ensures.items read.some read.head c.trim_line_end.ensures.line in
    let opened : opens_data line ≡ true = search rules in
    let kind : c.kind_of-kind.result ≡ kind_of line = search rules in
    let held : c.held_with_data.result ≡ held_with_data (kind_of line) c.in_ok-ending.ending =
    c.held_with_data.ensures ∙ ap (λ k. held_with_data k c.in_ok-ending.ending) kind in
    let left = g.R.Read.remaining c.read_block.new.reader in
    let block = c.read_block.new.block.items in
    subst (λ h. IfSome a (λ xs. PartRead xs (item_held h line block) left)) (sym held)
    (part_with_data a (g.R.Read.remaining c.read_line.new.reader) left line block c.in_ok-ending.ending first read.rest
    opened c.in_ok-ending.ensures.read)

pub returns-in_err-read_line-clause-memory : goal.returns-in_err-read_line-clause-memory
returns-in_err-read_line-clause-memory g c =
    let p = err_from_is_err_and c.from_residual.result c.from_residual.ensures.1 in
    rw (p.1, p.2) (λ is. elim (c.in_err-read_line.ensures.memory is) [
      | inl low ↦ inl (omega (arith, low, ap length c.clear.ensures.items, c.clear.ensures.capacity))
      | inr low ↦ inr (inl (omega (arith, low, c.args.self.now.block_bound)))
    ])

pub returns-in_err-ending-clause-memory : goal.returns-in_err-ending-clause-memory
returns-in_err-ending-clause-memory g c =
    let p = err_from_is_err_and c.from_residual-in_err-ending.result c.from_residual-in_err-ending.ensures.1 in
    rw (p.1, p.2) (λ is. elim (c.in_err-ending.ensures.memory is) [
      | inl low ↦ inr (inr low)
      | inr low ↦ inr (inl (omega (arith, low, c.in_ok-read_line.ensures.all_grows)))
    ])
