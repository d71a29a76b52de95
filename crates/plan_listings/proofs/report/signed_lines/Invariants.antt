-- the lines so far are those of the rows so far
use Rattle.std.proofs.Common.{◌≡◌, ℕ, List, take}
use Rattle.std.specs.Prelude.{flat_map}
use Rattle.plan_listings.specs.Line.{AreLinesOf, ended}
use Rattle.plan_listings.specs.Report.{IsSignedText}
use Rattle.plan_listings.proofs.report.signed_lines.Given as goal

abbrev pub invariant-loop-row : goal.invariant-loop-row
invariant-loop-row l = (lines : List (List ℕ)) × AreLinesOf IsSignedText (take l.row-index l.rows) lines
    × (l.text.items ≡ flat_map ended lines)
