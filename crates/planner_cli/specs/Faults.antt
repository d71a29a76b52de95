-- Faults: their numbers, and their lines.
use Rattle.std.specs.Prelude.{◌≡◌, ◌≢◌, ℕ, List, [], Result, Ok, Err, ◌==◌, if◌then◌else◌, codes}
use Rattle.planner_cli.specs.Replies.{ended}
use Rattle.planner_cli.specs.declared.tally.Tally.{Tally}
use Rattle.planner_cli_stream.specs.declared.lines.ReadFault.{ReadFault}
use Rattle.planner_cli_stream.specs.declared.lines.ReadFault.TheVariants as Reads
use Rattle.plan_store.specs.declared.stores.StoreFault.{StoreFault}
use Rattle.plan_store.specs.declared.stores.StoreFault.TheVariants as Stores
use Rattle.planner_cli.specs.declared.faults.FaultSource.TheVariants.{Store, Reader, Writer}
use Rattle.planner_cli.specs.declared.faults.Cause.{Cause}
use Rattle.planner_cli.specs.declared.faults.Cause.TheVariants as Causes
use Rattle.planner_cli.specs.declared.faults.RunFault.{RunFault}
use Rattle.planner_cli.specs.declared.faults.RunFault.TheVariants as Faults

-- why a run ended
abbrev pub cause_of : RunFault → Cause
cause_of (Faults.Memory tally) = Causes.Memory
cause_of (Faults.Device part tally) = Causes.Device part

-- the statements acknowledged before it
abbrev pub tally_in : RunFault → Tally
tally_in (Faults.Memory tally) = tally
tally_in (Faults.Device part tally) = tally

-- the store is not blamed; and where memory was refused, the store is whole
abbrev pub IsMildCause : Type 0 → Cause → Type 0
IsMildCause is_whole cause = (cause ≢ Causes.Device Store) × (cause ≡ Causes.Memory → is_whole)

abbrev pub fault_number : Cause → ℕ
fault_number Causes.Memory = 40
fault_number (Causes.Device part) = 41

abbrev pub read_cause : ReadFault → Cause
read_cause Reads.Memory = Causes.Memory
read_cause Reads.Reader = Causes.Device Reader

abbrev pub store_cause : StoreFault → Cause
store_cause Stores.Memory = Causes.Memory
store_cause Stores.Device = Causes.Device Store

-- the line of a fault; none where the writer failed
unfoldable pub fault_line : Cause → List ℕ
fault_line Causes.Memory = ended (codes "fault 40")
fault_line (Causes.Device Store) = ended (codes "fault 41")
fault_line (Causes.Device Reader) = ended (codes "fault 41")
fault_line (Causes.Device Writer) = []

-- the exit status of a run
abbrev pub status_of : Result Tally RunFault → ℕ
status_of (Ok tally) = if tally.refused == 0 then 0 else 4
status_of (Err fault) = 8
