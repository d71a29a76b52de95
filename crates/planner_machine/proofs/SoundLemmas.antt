-- The rows of a sound content are sound.
use Rattle.std.proofs.Common.{◌≡◌, ℕ, refl, Option, None, Some}
use Rattle.external_dependencies.specs.declared.rows.PlacedRow.{PlacedRow}
use Rattle.planner_machine.specs.declared.content.Bounds.{Bounds}
use Rattle.planner_machine.specs.Content.{Content, IsOnlyAt}
use Rattle.planner_machine.specs.Sound.{IsSound}
use Rattle.planner_machine.specs.RowsSound.{IsPlacedIn, RowsSound}
use Rattle.planner_machine.proofs.SeatLemmas.{not_empty}

placed_in : (c : Content) → IsSound c → (o : Option Bounds) → c.sets.bounds ≡ o → (serial : ℕ) (p : PlacedRow)
    → IsOnlyAt c.sets serial p → IsPlacedIn o p
placed_in c sound None is serial p there = not_empty c.sets serial p there ((sound.bounds.before is).rows serial)
placed_in c sound (Some b) is serial p there = sound.arrivals.in_bounds b is serial p there

pub rows_sound : (c : Content) → IsSound c → RowsSound c.sets
rows_sound c sound = record {
  bounds = sound.bounds.after;
  placed = sound.serials.placed;
  unissued = sound.serials.unissued;
  numbered = sound.serials.numbered;
  arrivals = placed_in c sound c.sets.bounds refl;
  keys = sound.keys;
}
