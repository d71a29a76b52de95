-- The records of run cycles: application, name, type, period, rule, offsets, in effect, out of effect, input arrival,
-- deadline day, deadline time.
use Rattle.std.specs.Prelude.{◌≡◌, ◌≤◌, ◌==◌, ℕ, ℤ, pos, neg_ℤ, Bool, false, List, [], ◌∷◌, drop, length, map, All}
use Rattle.std.specs.Prelude.{Any, Contains, Some, None, codes, if◌then◌else◌}
use Rattle.std.specs.List.{slice_split}
use Rattle.std.specs.Str.{byte}
use Rattle.run_cycles.specs.declared.cycles.Deadline.{Deadline}
use Rattle.run_cycles.specs.declared.cycles.CycleType.{CycleType}
use Rattle.run_cycles.specs.declared.cycles.CycleType.TheVariants.{Normal, Negative}
use Rattle.run_cycles.specs.declared.cycles.RunCycle.{RunCycle}
use Rattle.run_cycles.specs.declared.cycles.TheConstants.{MAX_DEADLINE_DAYS}
use Rattle.run_cycles.specs.declared.offsets.TheConstants.{MAX_OFFSET, MAX_OFFSETS}
use Rattle.run_cycles.specs.declared.rules.Rule.{Rule}
use Rattle.run_cycles.specs.declared.rules.Rule.TheVariants.{WorkDaysOnly, Before, After, Same, Skip}
use Rattle.work_calendars.specs.Name.{IsShort}
use Rattle.work_calendars.specs.Spelling.{SpellsDay, SpellsMinute}
use Rattle.app_definition_records.specs.Fields.{field, IsNumberUpTo, number_value, SpellsOptionalDay}
use Rattle.app_definition_records.specs.Rising.{AreRising}
use Rattle.app_definition_records.specs.Records.{Record, Records}
use Rattle.app_definition_records.specs.declared.columns.TheConstants.{CYCLE_NAME, CYCLE_TYPE, CYCLE_PERIOD, CYCLE_RULE}
use Rattle.app_definition_records.specs.declared.columns.TheConstants.{CYCLE_OFFSETS, CYCLE_IN_EFFECT, CYCLE_OUT_EFFECT}
use Rattle.app_definition_records.specs.declared.columns.TheConstants.{CYCLE_IA, CYCLE_DEADLINE_DAY, CYCLE_DEADLINE_TIME}

-- the letter of each rule
abbrev pub rule_text : Rule → List ℕ
rule_text WorkDaysOnly = codes "E"
rule_text Before = codes "1"
rule_text After = codes "2"
rule_text Same = codes "3"
rule_text Skip = codes "4"

-- the text begins with a minus sign
abbrev pub has_minus : List ℕ → Bool
has_minus [] = false
has_minus (b ∷ text) = b == byte "-"

-- the digits of an offset: all of its text, a minus sign aside
abbrev pub offset_digits : List ℕ → List ℕ
offset_digits text = if has_minus text then drop 1 text else text

abbrev pub offset_value : List ℕ → ℤ
offset_value text =
    if has_minus text then neg_ℤ (pos (number_value (offset_digits text))) else pos (number_value (offset_digits text))

-- 1 to MAX_OFFSET in decimal digits without a leading zero
abbrev pub IsDistanceText : List ℕ → Type 0
IsDistanceText digits = IsNumberUpTo MAX_OFFSET digits × (1 ≤ number_value digits)

-- such a number, or a minus sign and such a number
abbrev pub IsOffsetText : List ℕ → Type 0
IsOffsetText text = IsDistanceText (offset_digits text)

-- the pieces of a text between its blanks
abbrev pub pieces_of : List ℕ → List (List ℕ)
pieces_of text = slice_split (λ b. b == byte " ") text

-- the text spells 1 to 64 offsets, separated by one blank each
pub record SpellsOffsets (text : List ℕ) (offsets : List ℤ) : Type 0 where
  pub each : All IsOffsetText (pieces_of text)
  pub few : length (pieces_of text) ≤ MAX_OFFSETS
  pub values : offsets ≡ map offset_value (pieces_of text)

-- the two fields spell a deadline: 0 to 99 days in decimal, and a time of the day
pub record SpellsDeadline (day : List ℕ) (time : List ℕ) (deadline : Deadline) : Type 0 where
  pub day_text : IsNumberUpTo MAX_DEADLINE_DAYS day
  pub days : deadline.days ≡ number_value day
  pub clock : SpellsMinute time deadline.time

-- the letter and the two fields of the deadline spell a type: N needs a deadline, X may have both fields empty
abbrev pub SpellsType : List ℕ → List ℕ → List ℕ → CycleType → Type 0
SpellsType letter day time (Normal deadline) = (letter ≡ codes "N") × SpellsDeadline day time deadline
SpellsType letter day time (Negative (Some deadline)) = (letter ≡ codes "X") × SpellsDeadline day time deadline
SpellsType letter day time (Negative None) = (letter ≡ codes "X") × (day ≡ []) × (time ≡ [])

-- the record spells the run cycle, field by field
pub record SpellsRunCycle (row : Record) (cycle : RunCycle) : Type 0 where
  pub short_name : IsShort (field row CYCLE_NAME)
  pub name : cycle.name ≡ field row CYCLE_NAME
  pub kind : SpellsType (field row CYCLE_TYPE) (field row CYCLE_DEADLINE_DAY) (field row CYCLE_DEADLINE_TIME) cycle.kind
  pub short_period : IsShort (field row CYCLE_PERIOD)
  pub period : cycle.period ≡ field row CYCLE_PERIOD
  pub rule : field row CYCLE_RULE ≡ rule_text cycle.rule
  pub offsets : SpellsOffsets (field row CYCLE_OFFSETS) cycle.offsets
  pub in_effect : SpellsDay (field row CYCLE_IN_EFFECT) cycle.in_effect
  pub out_effect : SpellsOptionalDay (field row CYCLE_OUT_EFFECT) cycle.out_effect
  pub ia : SpellsMinute (field row CYCLE_IA) cycle.ia

-- a record that spells a run cycle
abbrev pub IsRunCycleText : Record → Type 0
IsRunCycleText row = (cycle : RunCycle) × SpellsRunCycle row cycle

-- the names in the records of an application's run cycles
abbrev pub cycle_names_of : Records → List (List ℕ)
cycle_names_of rows = map (λ row. field row CYCLE_NAME) rows

-- a record after the earlier ones of its application: it spells a run cycle, and no earlier one has its name
abbrev pub FitsRunCycle : Records → Record → Type 0
FitsRunCycle before row = IsRunCycleText row × ¬ (Contains (cycle_names_of before) (field row CYCLE_NAME))

-- the run cycles of an application are those that its records spell, in byte order of their names
pub record AreRunCyclesOf (cycles : List RunCycle) (rows : Records) : Type 0 where
  pub rising : AreRising (λ cycle. cycle.name) cycles
  pub each : All (λ cycle. Any (λ row. SpellsRunCycle row cycle) rows) cycles
  pub all : All (λ row. Any (SpellsRunCycle row) cycles) rows
