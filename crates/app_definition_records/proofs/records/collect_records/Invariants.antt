use Rattle.std.proofs.Common.{◌≡◌, ◌<◌, ℕ, List, Some, false, length}
use Rattle.csv.specs.Reading.{Reached, Ready, default_config, source_of, strip_bom}
use Rattle.csv.specs.declared.parser.State.TheVariants as st
use Rattle.csv.specs.declared.reader.Trim.TheVariants as trim
use Rattle.app_definition_records.specs.ByName.{FitsKind, AreGivenBy}
use Rattle.app_definition_records.specs.Records.{Records, AllGood}
use Rattle.app_definition_records.proofs.LengthLemmas.{Expects}
use Rattle.app_definition_records.proofs.records.collect_records.Given as goal

abbrev pub invariant-loop-row : goal.invariant-loop-row
invariant-loop-row g l = (l.row-iterator.rdr.trim ≡ trim.None) × Ready l.row-iterator.rdr × (0 < l.row-iterator.left)
    × (l.row-iterator.rdr.config ≡ default_config)
    × (l.row-iterator.rdr.flexible ≡ false) × (rows : Records) × Expects rows l.row-iterator.rdr.expected
    × (l.number ≡ length rows)
    × AllGood (FitsKind g.D.Definition.HasFields g.D.Definition.FitsName) rows
    × AreGivenBy g.D.Definition.IsMadeOf l.into rows
    × (y : List ℕ) × (source_of (λ s. Some s.now) l.row-iterator.rdr ≡ Some y)
    × Reached default_config st.StartRecord (strip_bom l.fn.text) rows l.row-iterator.rdr.state y
