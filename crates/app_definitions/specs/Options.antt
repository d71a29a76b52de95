-- The options, as one TOML document gives them.
use Rattle.std.specs.Prelude.{◌≡◌, ◌⊎◌, ◌≤◌, ℕ, pos, List, codes, Option, Some, None, IsSome, IsUtf8}
use Rattle.std.proofs.Common.{lit≤}
use Rattle.toml.specs.Data.{Data, Members, string, integer, get_member}
use Rattle.toml.specs.Parse.{parse_document}
use Rattle.work_calendars.specs.Name.{IsName}
use Rattle.app_definitions.specs.declared.options.Options.{Options}
use Rattle.app_definitions.specs.declared.options.TheConstants.{MAX_EXTENSION_HOURS}
use Rattle.app_definition_records.specs.declared.records.BlockFault.{BlockFault}
use Rattle.app_definition_records.specs.declared.records.BlockFault.TheVariants.{Faulty, Memory}

-- the options where none are given
abbrev pub default_options : Options
default_options = record {
  default_calendar = codes "DEFAULT";
  max_extension_hours = MAX_EXTENSION_HOURS;
  some = lit≤ tt;
  in_range = lit≤ tt;
}

-- the default calendar that its key gives: the name that the string is, and DEFAULT where the key is missing
abbrev pub GivesCalendar : Option Data → List ℕ → Type 0
GivesCalendar None name = name ≡ codes "DEFAULT"
GivesCalendar (Some d) name = (d ≡ string name) × IsName name

-- the hours that their key gives: a whole number of at least 1 and at most the greatest, which is the value where the
-- key is missing
abbrev pub GivesHours : Option Data → ℕ → Type 0
GivesHours None hours = hours ≡ MAX_EXTENSION_HOURS
GivesHours (Some d) hours = (d ≡ integer (pos hours)) × (1 ≤ hours) × (hours ≤ MAX_EXTENSION_HOURS)

-- a key of an option
abbrev pub IsOptionKey : List ℕ → Type 0
IsOptionKey key = (key ≡ codes "default_calendar") ⊎ (key ≡ codes "max_extension_hours")

-- no other key has a value
abbrev pub HasOnlyOptions : Members → Type 0
HasOnlyOptions members = (key : List ℕ) → IsSome (get_member key members) → IsOptionKey key

-- the options that the members of a table give
pub record AreOptionsIn (o : Options) (members : Members) : Type 0 where
  pub only : HasOnlyOptions members
  pub calendar : GivesCalendar (get_member (codes "default_calendar") members) o.default_calendar
  pub hours : GivesHours (get_member (codes "max_extension_hours") members) o.max_extension_hours

-- the options that a text gives: it is a document, and they are those of its table
abbrev pub AreOptionsOf : Options → List ℕ → Type 0
AreOptionsOf o text = IsUtf8 text × (members : Members) × (parse_document text ≡ Some members) × AreOptionsIn o members

-- a text that gives no options is faulty at its one record
pub record IsFaultyOptions (text : List ℕ) (number : ℕ) : Type 0 where
  pub first : number ≡ 1
  pub no_options : (o : Options) → ¬ (AreOptionsOf o text)

-- a fault says that no options are given, or is lack of memory
abbrev pub IsOptionsFault : List ℕ → BlockFault → Type 0
IsOptionsFault text (Faulty number) = IsFaultyOptions text number
IsOptionsFault text Memory = Unit {0}
