-- the rows so far are those of the occurrences so far
use Rattle.std.proofs.Common.{◌≡◌, ℕ, List, take}
use Rattle.std.specs.Prelude.{flat_map}
use Rattle.planner_cli.specs.Replies.{ended}
use Rattle.planner_cli.specs.Rows.{AreDaysLines}
use Rattle.planner_cli.proofs.rows.days_rows.Given as goal

abbrev pub invariant-loop-one : goal.invariant-loop-one
invariant-loop-one l = (rows : List (List ℕ)) × AreDaysLines (take l.one-index l.named) rows
    × (l.text.items ≡ flat_map ended rows)
