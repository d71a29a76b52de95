-- Of a sound content what stands somewhere has a serial.
use Rattle.std.proofs.Common.{◌≡◌, ℕ, ◌≤◌, Some, sym, subst, inl, inr, arith}
use Rattle.occurrences.specs.Serial.{IsSerial}
use Rattle.occurrences.specs.declared.place.Deletion.{Deletion}
use Rattle.occurrences.specs.declared.place.Place.TheVariants.{History, Deleted}
use Rattle.occurrences.specs.declared.row.Row.{Row}
use Rattle.occurrences.specs.declared.serial.TheConstants.{GREATEST_SERIAL}
use Rattle.external_dependencies.specs.declared.rows.PlacedRow.{PlacedRow}
use Rattle.planner_machine.specs.Content.{Content, IsOnlyAt}
use Rattle.planner_machine.specs.Sound.{IsSound}
use Rattle.planner_machine.proofs.SeatLemmas.{cases_issued, not_empty}
use Rattle.plan_store.proofs.PlaceLemmas.{stands_deleted, stands_history}
use Rattle.plan_tables_loading.specs.Cells.{IsNumberedRow}

small : (n issued : ℕ) → n ≤ issued → issued ≤ GREATEST_SERIAL → n ≤ GREATEST_SERIAL
small n issued within few = omega arith

is_serial : (c : Content) → IsSound c → (n : ℕ) (p : PlacedRow) → IsOnlyAt c.sets n p → IsSerial n
is_serial c sound n p there = elim (cases_issued c.sets.issued n) [
  | inl within ↦ (within.0, small n c.sets.issued within.1 sound.sizes.issued)
  | inr past ↦ absurd (not_empty c.sets n p there (sound.serials.unissued n past))
]

pub serial_of : (c : Content) → IsSound c → (n : ℕ) (p : PlacedRow) → IsOnlyAt c.sets n p → IsSerial p.row.serial
serial_of c sound n p there =
    subst IsSerial (sym (sound.serials.numbered n p there)) (is_serial c sound n p there)

-- and has its form
pub completed_formed : (c : Content) → IsSound c → (n : ℕ) (row : Row) → c.sets.history n ≡ Some row
    → IsNumberedRow row
completed_formed c sound n row has =
    let placed : PlacedRow = record { row = row; place = History } in
    let stands = stands_history c.sets sound.serials n row has in
    (sound.ranges.rows n placed stands, serial_of c sound n placed stands)

pub deleted_formed : (c : Content) → IsSound c → (n : ℕ) (d : Deletion) → c.sets.deletions n ≡ Some d
    → IsNumberedRow d.row
deleted_formed c sound n d has =
    let placed : PlacedRow = record { row = d.row; place = Deleted d.reason } in
    let stands = stands_deleted c.sets sound.serials n d has in
    (sound.ranges.rows n placed stands, serial_of c sound n placed stands)
