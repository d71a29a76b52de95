use Rattle.std.proofs.Common.{◌≡◌, take}
use Rattle.std.specs.List.{filter_map}
use Rattle.long_term_plan.specs.Drafting.{DraftsRise}
use Rattle.long_term_plan.specs.Modifying.{outcome}
use Rattle.long_term_plan.proofs.parting.staying_rows.Given as goal

-- the rows so far
abbrev pub invariant-loop-row : goal.invariant-loop-row
invariant-loop-row l = DraftsRise l.named → l.kept.items ≡ filter_map (outcome l.only l.named) (take l.row-index l.rows)
