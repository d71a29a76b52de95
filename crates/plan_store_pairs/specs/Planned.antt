-- Pairs of what is open in the two plans.
use Rattle.std.specs.Prelude.{◌≡◌, ◌⊎◌, ◌↔◌, ℕ, List, Contains, Some}
use Rattle.occurrences.specs.declared.place.CurrentRow.{CurrentRow}
use Rattle.occurrences.specs.declared.row.Row.{Row}
use Rattle.occurrences.specs.declared.status.Status.TheVariants.{W}
use Rattle.external_dependencies.specs.declared.pairs.Pair.{Pair}
use Rattle.planner_machine.specs.Content.{Sets}

-- those of the pairs are added whose successor passes
abbrev pub AddsPairsOf : List Pair → (ℕ → Type 0) → List Pair → List Pair → Type 0
AddsPairsOf all Passes old new =
    (pair : Pair) → Contains new pair ↔ (Contains old pair ⊎ (Contains all pair × Passes pair.successor))

-- one of the rows waits under the serial
abbrev pub HasWaiting : List CurrentRow → ℕ → Type 0
HasWaiting list serial = (row : Row) × Contains list (record { row = row; status = W }) × (row.serial ≡ serial)

-- the row is open: it is in the long-term plan, or waits in the current plan
abbrev pub IsOpenRow : Sets → Row → Type 0
IsOpenRow s row = (s.ltp row.serial ≡ Some row) ⊎ (s.cp row.serial ≡ Some (record { row = row; status = W }))

-- an open row has the serial
abbrev pub IsOpenAt : Sets → ℕ → Type 0
IsOpenAt s serial = (row : Row) × IsOpenRow s row × (row.serial ≡ serial)

-- a row of the current plan waits under the serial
abbrev pub IsWaitingAt : Sets → ℕ → Type 0
IsWaitingAt s serial = (row : Row) × (s.cp row.serial ≡ Some (record { row = row; status = W })) × (row.serial ≡ serial)

-- an open row of one application has the serial
abbrev pub IsOpenOf : Sets → List ℕ → ℕ → Type 0
IsOpenOf s app serial = (row : Row) × IsOpenRow s row × (row.key.app ≡ app) × (row.serial ≡ serial)

-- the same of one of these applications
abbrev pub IsOpenOfOne : Sets → List (List ℕ) → ℕ → Type 0
IsOpenOfOne s apps serial = (row : Row) × IsOpenRow s row × Contains apps row.key.app × (row.serial ≡ serial)
