use Rattle.std.proofs.Common.{◌≡◌, ◌≤◌, take}
use Rattle.std.specs.Prelude.{All}
use Rattle.std.specs.Char.{IsAsciiDigit}
use Rattle.app_definition_records.specs.Fields.{number_value}
use Rattle.app_definition_records.proofs.fields.number_of.Given as goal

abbrev pub invariant-loop-byte : goal.invariant-loop-byte
invariant-loop-byte l =
    (l.value ≡ number_value (take l.byte-index l.bytes)) × (l.value ≤ l.greatest)
    × All IsAsciiDigit (take l.byte-index l.bytes)
