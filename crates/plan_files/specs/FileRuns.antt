-- Runs over one file, by what the statements of each lead to.
use Rattle.std.specs.Prelude.{◌≡◌, ℕ, zero, suc, List, IfOk, Option, Some, Result, Ok, Err}
use Rattle.planner_machine.specs.Content.{Content, nothing_known}
use Rattle.planner_machine.specs.Sound.{IsSound}
use Rattle.planner_machine.specs.Statement.{Statement}
use Rattle.planner_cli_stream.specs.Items.{items_of}
use Rattle.planner_cli.specs.Plans.{CrashedPlan, RanPlan}
use Rattle.planner_cli.specs.Reruns.{EndsAsOneRun}
use Rattle.planner_cli.specs.Runs.{Ends, Ran, ends_of}
use Rattle.planner_cli.specs.Steps.{Step}
use Rattle.planner_cli.specs.declared.faults.RunFault.{RunFault}
use Rattle.planner_cli.specs.declared.tally.Tally.{Tally}
use Rattle.plan_files.specs.Life.{AreRuns, IsLived}

-- what a run that ended so may leave in its files: what it left; or, after a fault, that after the acknowledged
-- statements, or after the one in progress too
abbrev pub Leaves : Ends → Result Tally RunFault → Content → Type 0
Leaves ends (Ok tally) c = c ≡ ends.after
Leaves ends (Err fault) c = CrashedPlan ends fault c

-- a run that was begun from one content left the other in its files: it came to the end of its stream, or a fault or a
-- crash ended it
pub record IsRunFrom (c c' : Content) : Type 0 where
  pub ends : Ends
  pub outcome : Result Tally RunFault
  pub begins : ends.before ≡ c
  pub ran : IfOk outcome (RanPlan ends)
  pub leaves : Leaves ends outcome c'

-- so many runs, each from what the one before it left in the files
abbrev pub AreFileRuns : ℕ → Content → Content → Type 0
AreFileRuns zero c c' = c' ≡ c
AreFileRuns (suc n) c c' = (between : Content) × IsRunFrom c between × AreFileRuns n between c'

-- the law of a plan's life: they lead from nothing known to a sound content in which each serial ever issued is in
-- exactly one place, where its fates put it
abbrev pub FilesLive : Type 0
FilesLive = (n : ℕ) (c : Content) → AreFileRuns n nothing_known c
    → (streams : List (List Statement)) × AreRuns streams nothing_known c × IsLived streams c

-- so many runs over the same stream
abbrev pub AreRunsOf : ℕ → (text : List ℕ) (c c' : Content) → Type 0
AreRunsOf zero text c c' = c' ≡ c
AreRunsOf (suc n) text c c' =
    (between : Content) × ((run : IsRunFrom c between) × (run.ends.remaining ≡ Some text)) × AreRunsOf n text between c'

-- however many there were, and however each ended, a run over the stream on what is left then ends as one run of it
abbrev pub FilesRerun : Type 0
FilesRerun =
    (n : ℕ) (text : List ℕ) (c left c' : Content) (written written' : Option (List ℕ)) (tally : Tally) → IsSound c
    → AreRunsOf n text c left → (again : Ran Step (ends_of left c' written written' (Some text)) tally)
    → EndsAsOneRun (items_of text) c c' again.replies
