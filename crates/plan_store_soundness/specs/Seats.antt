-- Rows by their serials.
use Rattle.std.specs.Prelude.{◌≡◌, ◌⊎◌, ℕ, ◌+◌, ◌-◌, ◌<◌, ◌≤◌, Bool, true, false, List, length, slice_index_or}
use Rattle.std.specs.Prelude.{slice_set}
use Rattle.std.specs.Prelude.{Contains, Option, Some, None}
use Rattle.external_dependencies.specs.declared.rows.PlacedRow.{PlacedRow}

-- each serial from 1 to the number issued is that of one of the rows, and no other serial is
pub record AreSeated (issued : ℕ) (all : List PlacedRow) : Type 0 where
  pub each : (serial : ℕ) → 1 ≤ serial → serial ≤ issued → (p : PlacedRow) × Contains all p × (p.row.serial ≡ serial)
  pub within : (p : PlacedRow) → Contains all p → (1 ≤ p.row.serial) × (p.row.serial ≤ issued)
  pub own : (p q : PlacedRow) → Contains all p → Contains all q → p.row.serial ≡ q.row.serial → p ≡ q

-- the table has the rows at the places of their serials, from 1 on
pub record IsTable (issued : ℕ) (all : List PlacedRow) (table : List (Option PlacedRow)) : Type 0 where
  pub long : length table ≡ issued
  pub full : (k : ℕ) → k < issued → (p : PlacedRow) × (slice_index_or table k None ≡ Some p)
  pub from : (k : ℕ) (p : PlacedRow) → slice_index_or table k None ≡ Some p → Contains all p × (p.row.serial ≡ k + 1)
  pub kept : (p : PlacedRow) → Contains all p
      → (1 ≤ p.row.serial) × (p.row.serial ≤ issued) × (slice_index_or table (p.row.serial - 1) None ≡ Some p)

-- a row is put at the free place of its serial, or there is no such place, or that has a row
abbrev pub Puts : PlacedRow → List (Option PlacedRow) → List (Option PlacedRow) → Bool → Type 0
Puts p old new true = (1 ≤ p.row.serial) × (p.row.serial ≤ length old)
    × (slice_index_or old (p.row.serial - 1) None ≡ None) × (new ≡ slice_set old (p.row.serial - 1) (Some p))
Puts p old new false = (length old < p.row.serial)
    ⊎ ((q : PlacedRow) × (slice_index_or old (p.row.serial - 1) None ≡ Some q))
