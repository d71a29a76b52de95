use Rattle.std.proofs.Common.{◌≡◌, filter, length, take}
use Rattle.std.specs.Prelude.{is_none}
use Rattle.long_term_plan.specs.Drafting.{DraftsRise}
use Rattle.long_term_plan.specs.Modifying.{AreChanged, AreMet, outcome}
use Rattle.long_term_plan.proofs.parting.parted_rows.Given as goal

-- the rows so far
abbrev pub invariant-loop-row : goal.invariant-loop-row
invariant-loop-row l = record {
  count : length l.met.items ≡ length l.named;
  gone : DraftsRise l.named
      → l.gone.items ≡ filter (λ row. is_none (outcome l.only l.named row)) (take l.row-index l.rows);
  changed : DraftsRise l.named → AreChanged (outcome l.only l.named) (take l.row-index l.rows) l.changed.items;
  met : DraftsRise l.named → AreMet (take l.row-index l.rows) l.named l.met.items;
}
