use Rattle.planner_cli_stream.proofs.LineLemmas.{first_off, no_word}
use Rattle.planner_cli_stream.proofs.line.next_word.Goals as goal

pub returns-then-end-eq0-clause-none : goal.returns-then-end-eq0-clause-none
returns-then-end-eq0-clause-none c =
    no_word c.args.line.now c.blanks_before.result c.word_len-end.result c.blanks_before.ensures.count
    c.word_len-end.ensures.count c.if-end-eq0.true

pub returns-clause-some : goal.returns-clause-some
returns-clause-some c =
    first_off c.args.line.now c.blanks_before.result c.word_len-end.result c.blanks_before.ensures.count
    c.word_len-end.ensures.count c.if-end-eq0.false
