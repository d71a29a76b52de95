-- What is found of a database that has the tables of the plan, and what is reported of it.
use Rattle.std.specs.Prelude.{Option, None, Some, Result, Ok, Err, ⊤}
use Rattle.sqlite.specs.State.{IsUnchanged, State}
use Rattle.sqlite.specs.declared.error.Error.{Error}
use Rattle.planner_machine.specs.Sound.{IsSound}
use Rattle.plan_store.specs.Contents.{content_of}
use Rattle.plan_store.specs.declared.contents.Content.{Content}
use Rattle.plan_tables_schema.specs.Rows.{tables_of}
use Rattle.plan_tables_content.specs.Content.{IsContentOf}
use Rattle.plan_tables_opening.specs.Faults.{fault_for}
use Rattle.plan_tables_opening.specs.Held.{HasVersion, HoldsPlan}
use Rattle.plan_tables_opening.specs.Opened.{IsStored}
use Rattle.plan_tables_opening.specs.declared.faults.OpenFault.{OpenFault}
use Rattle.plan_tables_opening.specs.declared.faults.OpenFault.TheVariants.{Memory, Unopened, Rows, Tables as OtherTables}
use Rattle.plan_tables_opening.specs.declared.judging.Judged.{Judged}
use Rattle.plan_tables_opening.specs.declared.judging.Judged.TheVariants.{Sound, Unsound, Unknown, Unjudged}

-- what a judgement finds that may be refused memory
abbrev pub found_by : {E : Type 0} → Result (Option Content) E → Judged
found_by (Ok (Some content)) = Sound content
found_by (Ok None) = Unsound
found_by (Err e) = Unjudged

-- what is reported of it: lack of memory only if the error of a call says so, or if memory was refused to the
-- judgement
abbrev pub told : Result Judged Error → Result Content OpenFault
told (Ok (Sound content)) = Ok content
told (Ok Unsound) = Err Rows
told (Ok Unknown) = Err Unopened
told (Ok Unjudged) = Err Memory
told (Err e) = Err (fault_for e OtherTables)

-- it is as it was found; if there was no judgement, it was read and nothing changed
abbrev pub IsJudged : State → State → Judged → Type 0
IsJudged old new (Sound content) =
    IsStored new (content_of content) × IsContentOf (tables_of old.now.trees) (content_of content)
IsJudged old new Unsound = HasVersion old × (HoldsPlan old → ⊥)
IsJudged old new Unknown = HasVersion old → ⊥
IsJudged old new Unjudged = IsUnchanged old new

-- what is found sound is sound
abbrev pub IsSoundIfFound : Judged → Type 0
IsSoundIfFound (Sound content) = IsSound (content_of content)
IsSoundIfFound _ = ⊤
