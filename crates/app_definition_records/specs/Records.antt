-- What the records of a block have to be, and which one a fault names if they aren't.
use Rattle.std.specs.Prelude.{ℕ, ◌+◌, ◌-◌, ◌<◌, ◌≤◌, List, [], length, take, get_or}
use Rattle.csv.specs.Reading.{records, default_config, strip_bom}
use Rattle.csv.specs.declared.error.ErrorKind.{ErrorKind}
use Rattle.csv.specs.declared.error.ErrorKind.TheVariants as kind
use Rattle.app_definition_records.specs.declared.records.BlockFault.{BlockFault}
use Rattle.app_definition_records.specs.declared.records.BlockFault.TheVariants.{Faulty, Memory}

-- a record: the bytes of each of its fields
abbrev pub Record : Type 0
Record = List (List ℕ)

-- records, in order
abbrev pub Records : Type 0
Records = List Record

-- the records that `csv` gives of a block's bytes with its defaults and no header row: those after a byte order mark
abbrev pub block_records : List ℕ → Records
block_records bytes = records default_config (strip_bom bytes)

-- the record at a place, counted from 0, is good after the records before it
abbrev pub IsGoodAt : (Records → Record → Type 0) → Records → ℕ → Type 0
IsGoodAt Fits rows k = Fits (take k rows) (get_or rows k [])

-- every record is good after those before it
abbrev pub AllGood : (Records → Record → Type 0) → Records → Type 0
AllGood Fits rows = (k : ℕ) → k < length rows → IsGoodAt Fits rows k

-- the record of this number, counted from 1, is faulty, and every one before it is good
pub record FirstFaulty (Fits : Records → Record → Type 0) (rows : Records) (number : ℕ) : Type 0 where
  pub counted : 1 ≤ number
  pub there : number ≤ length rows
  pub faulty : ¬ (IsGoodAt Fits rows (number - 1))
  pub before : (k : ℕ) → k + 1 < number → IsGoodAt Fits rows k

-- a fault names the first faulty record, or is lack of memory
abbrev pub IsFirstFaulty : (Records → Record → Type 0) → Records → BlockFault → Type 0
IsFirstFaulty Fits rows (Faulty number) = FirstFaulty Fits rows number
IsFirstFaulty Fits rows Memory = Unit {0}

-- the fault that an error of the reader is, at the record of this number
abbrev pub fault_of_kind : ErrorKind → ℕ → BlockFault
fault_of_kind (kind.UnequalLengths pos expected len) number = Faulty number
fault_of_kind (kind.Io e) number = Memory
fault_of_kind (kind.Utf8 pos err) number = Memory
fault_of_kind kind.OutOfMemory number = Memory
fault_of_kind (kind.Serialize text) number = Memory
fault_of_kind (kind.Deserialize pos err) number = Memory
