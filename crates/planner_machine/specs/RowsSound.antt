-- The part of sound content that speaks of rows alone.
use Rattle.std.specs.Prelude.{◌≡◌, ℕ, ◌<◌, ◌≤◌, ◌⊎◌, Option, Some, None}
use Rattle.occurrences.specs.Place.{IsLive}
use Rattle.external_dependencies.specs.declared.rows.PlacedRow.{PlacedRow}
use Rattle.planner_machine.specs.declared.content.Bounds.{Bounds}
use Rattle.planner_machine.specs.Content.{Sets, IsOnlyAt, empty_seat, seat}
use Rattle.planner_machine.specs.Sound.{AreBounds, ArrivesIn}

-- before creation there are no rows
abbrev pub IsPlacedIn : Option Bounds → PlacedRow → Type 0
IsPlacedIn None p = ⊥
IsPlacedIn (Some b) p = ArrivesIn b p.row.key.ia p.place

pub record RowsSound (s : Sets) : Type 0 where
  pub bounds : (b : Bounds) → s.bounds ≡ Some b → AreBounds b
  pub placed : (serial : ℕ) → 1 ≤ serial → serial ≤ s.issued → (p : PlacedRow) × IsOnlyAt s serial p
  pub unissued : (serial : ℕ) → (serial ≡ 0) ⊎ (s.issued < serial) → seat s serial ≡ empty_seat
  pub numbered : (serial : ℕ) (p : PlacedRow) → IsOnlyAt s serial p → p.row.serial ≡ serial
  pub arrivals : (serial : ℕ) (p : PlacedRow) → IsOnlyAt s serial p → IsPlacedIn s.bounds p
  pub keys : (m n : ℕ) (p q : PlacedRow) → IsOnlyAt s m p → IsOnlyAt s n q → IsLive p.place → IsLive q.place
      → p.row.key ≡ q.row.key → m ≡ n
