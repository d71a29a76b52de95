-- The limit of data blocks, in figures. A limit that changes is refused until this page says the same.
use Rattle.std.specs.Prelude.{◌≡◌, refl}
use Rattle.app_definition_records.specs.declared.records.TheConstants.{LONGEST_BLOCK}

-- bytes of a data block
pub longest_block : LONGEST_BLOCK ≡ 262144
longest_block = refl
