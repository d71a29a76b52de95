-- The records of predecessors: application, predecessor, and a limit in hours where the records of the block have one.
use Rattle.std.specs.Prelude.{◌↔◌, ℕ, List, [], ◌∷◌, Option, None, Some, map, Contains}
use Rattle.work_calendars.specs.Name.{IsName}
use Rattle.work_calendars.specs.Within.{IsWithinHours}
use Rattle.app_definition_records.specs.Fields.{field, IsEmptyOr, IsNumber, number_value}
use Rattle.app_definition_records.specs.Rising.{AreRising}
use Rattle.app_definition_records.specs.Records.{Record, Records}
use Rattle.app_definition_records.specs.declared.columns.TheConstants.{PREDECESSOR, PREDECESSOR_WITHIN}
use Rattle.app_definition_records.specs.declared.predecessors.Predecessor.{Predecessor}

-- the decimal digits of the hours of a limit
abbrev pub IsWithinText : List ℕ → Type 0
IsWithinText text = IsNumber text × IsWithinHours (number_value text)

-- no limit where the field is empty or not there, else the hours that it spells
abbrev pub within_of : List ℕ → Option ℕ
within_of [] = None
within_of (b ∷ bytes) = Some (number_value (b ∷ bytes))

-- the predecessor that a record names, and its limit
abbrev pub predecessor_of : Record → Predecessor
predecessor_of row = record { name = field row PREDECESSOR; within = within_of (field row PREDECESSOR_WITHIN) }

-- the predecessors that the records of an application name, in their order
abbrev pub predecessors_of : Records → List Predecessor
predecessors_of rows = map predecessor_of rows

-- the names of these
abbrev pub named_by : Records → List (List ℕ)
named_by rows = map (λ row. field row PREDECESSOR) rows

-- a record's predecessor is a name, and its limit is 1 to 9999 hours, or empty
pub record IsPredecessorRecord (row : Record) : Type 0 where
  pub named : IsName (field row PREDECESSOR)
  pub within : IsEmptyOr IsWithinText (field row PREDECESSOR_WITHIN)

-- a record after the earlier ones of its application: it names a predecessor, which may be the application itself, and
-- no earlier record has that name
pub record FitsPredecessors (before : Records) (row : Record) : Type 0 where
  pub is : IsPredecessorRecord row
  pub new : ¬ (Contains (named_by before) (field row PREDECESSOR))

-- a list of predecessors has those that these records of its application give, in byte order of their names
pub record ArePredecessorsOf (listed : List Predecessor) (rows : Records) : Type 0 where
  pub rising : AreRising (λ p. p.name) listed
  pub exactly : (p : Predecessor) → Contains listed p ↔ Contains (predecessors_of rows) p
