-- How the files of a run were left.
use Rattle.std.specs.Prelude.{Bool, true, false}
use Rattle.opcplan.specs.declared.endings.Closed.{Closed}
use Rattle.opcplan.specs.declared.endings.Closed.TheVariants as closed
use Rattle.opcplan.specs.declared.endings.Ending.{Ending}
use Rattle.opcplan.specs.declared.endings.Ending.TheVariants as left
use Rattle.opcplan.specs.declared.looks.Fate.{Fate}
use Rattle.opcplan.specs.declared.looks.Fate.TheVariants.{Gone, Other, Same}

-- by what became of FILE, whether it was cut, what became of FILE-wal, and how they were closed: the first that holds
abbrev pub ending_of : Fate → Bool → Fate → Closed → Ending
ending_of Gone _ _ _ = left.TakenAway
ending_of Other _ _ closed.Whole = left.Replaced
ending_of Other _ Same _ = left.ReplacedBesideLog
ending_of Other _ _ _ = left.Replaced
ending_of Same true _ _ = left.Cut
ending_of Same false Other closed.Whole = left.OtherLog
ending_of Same false _ closed.Whole = left.Whole
ending_of Same false Same closed.NoMemory = left.LogStands
ending_of Same false _ _ = left.LogDamaged

-- whether the files have the acknowledged statements
abbrev pub keeps_answers : Ending → Bool
keeps_answers left.TakenAway = false
keeps_answers left.Replaced = false
keeps_answers left.ReplacedBesideLog = false
keeps_answers left.Cut = false
keeps_answers _ = true

-- whether FILE and FILE-wal are said to have all that was written
abbrev pub has_all : Ending → Bool
has_all left.Whole = true
has_all left.OtherLog = true
has_all left.LogStands = true
has_all _ = false
