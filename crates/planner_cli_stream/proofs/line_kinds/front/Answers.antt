use Rattle.std.proofs.Common.{sym, arith, length-take-le}
use Rattle.planner_cli_stream.specs.Lines.{longest_line}
use Rattle.planner_cli_stream.proofs.Kept.{take_short}
use Rattle.planner_cli_stream.proofs.line_kinds.front.Goals as goal

pub slice_bounds-result-end : goal.slice_bounds-result-end
slice_bounds-result-end c = sym (length-take-le longest_line c.args.line.now (omega arith))

pub returns-else-line-gt-LONGEST_LINE : goal.returns-else-line-gt-LONGEST_LINE
returns-else-line-gt-LONGEST_LINE c = sym (take_short longest_line c.args.line.now (omega arith))
