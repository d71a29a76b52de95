-- The next opening of the files that a run left, however it ended, and any number of runs and refusals from the bytes of the
-- first to those of the last.
use Rattle.std.specs.Prelude.{◌≡◌, ◌⊎◌, ℕ, Bool, [], ◌∷◌, IfOk, IfSome, List, Ok, Result, Some}
use Rattle.sqlite_disk.specs.declared.Disk as disk
use Rattle.sqlite_store.specs.FileStore.{state, view}
use Rattle.sqlite_store.specs.declared.store.FileStore.{FileStore}
use Rattle.sqlite_trees.specs.View.{IsClean}
use Rattle.sqlite_wal.specs.Files.{outcomes}
use Rattle.sqlite_wal.specs.Recovery.{Image}
use Rattle.plan_files_closing.specs.declared.closing.ClosedFiles.{ClosedFiles}
use Rattle.planner_machine.specs.Content.{Content, nothing_known}
use Rattle.planner_machine.specs.Sound.{IsSound}
use Rattle.planner_machine.specs.Statement.{Statement}
use Rattle.planner_cli_stream.specs.Items.{items_of}
use Rattle.planner_cli.specs.Plans.{RanPlan}
use Rattle.planner_cli.specs.Replies.{AnswerLines, prints}
use Rattle.planner_cli.specs.Reruns.{EndsAsOneRun}
use Rattle.planner_cli.specs.Runs.{Ends}
use Rattle.planner_cli.specs.declared.faults.RunFault.{RunFault}
use Rattle.planner_cli.specs.declared.tally.Tally.{Tally}
use Rattle.plan_tables.specs.Found.{IsFoundIn}
use Rattle.plan_tables.specs.Stored.{HoldsSound}
use Rattle.plan_files.specs.Accounts.{Account, AreAllOver, AreRemembered, Link, Refusal, Run, account_of}
use Rattle.plan_files.specs.FileRuns.{IsRunFrom, Leaves}
use Rattle.plan_files.specs.Found.{IsFirstFoundIn}
use Rattle.plan_files.specs.Left.{HoldsLed}
use Rattle.plan_files.specs.Life.{IsLived}
use Rattle.plan_files.specs.Over.{AreHonest, RunsOverFiles}
use Rattle.plan_files.specs.Unrun.{HoldsNoPlan}
use Rattle.plan_files.specs.declared.refusals.Unrun.{Unrun}

-- what a run may find in the files: the content of their tables, of the current schema or of schema 1; nothing known
-- if they hold no plan
abbrev pub MayFind : Image → Content → Type 0
MayFind image c = IsFoundIn image c ⊎ IsFirstFoundIn image c

-- a run with this account, from the bytes of both files to these that a crash may have left of them since
pub record IsRunOver (image : Image) (run : Account) (left : Image) : Type 0 where
  pub ends : Ends
  pub outcome : Result Tally RunFault
  pub is : run ≡ account_of ends outcome
  pub ran : IfOk outcome (RanPlan ends)
  pub found : MayFind image ends.before
  pub sound : IsSound ends.before
  pub holds : HoldsLed left (Leaves ends outcome)

-- a run that was refused, from the bytes of both files to these that a crash may have left of them since: what may be found
-- in them was found in them before; and if they held a sound plan, they hold one
pub record IsRefusedOver (image left : Image) : Type 0 where
  pub finds : (c : Content) → MayFind left c → MayFind image c
  pub keeps : HoldsSound image → HoldsSound left

-- each run over files is one with its own account, however it ended and its files were closed, and whatever a crash left
-- of them
abbrev pub CarriesOn : {D : Type 0} → disk.Ghosts D → Type 0
CarriesOn {D} g = (image : Image) (ends : Ends) (outcome : Result Tally RunFault) (is_whole : Bool) (go : ClosedFiles D)
    → RunsOverFiles g image ends outcome is_whole go → AreHonest g go.files → (left : Image)
    → outcomes g go.files.log go.files.db left → ∥ IsRunOver image (account_of ends outcome) left ∥₁

-- and so is each that was refused over files that were opened: also if they then have the first tables of a plan, or its
-- tables of schema 1 were migrated
abbrev pub PassesOn : {D : Type 0} → disk.Ghosts D → Type 0
PassesOn {D} g = (image : Image) (fault : Unrun) (it : FileStore D g) → HoldsNoPlan {D = D} {g = g} image fault it
    → IsClean (view it) → (left : Image) → (state it).may_leave left → ∥ IsRefusedOver image left ∥₁

-- what is found after a run is what it left, and nothing else
abbrev pub FindsNext : Type 0
FindsNext = (image : Image) (ends : Ends) (outcome : Result Tally RunFault) (c : Content)
    → HoldsLed image (Leaves ends outcome) → MayFind image c → Leaves ends outcome c

-- the files hold a sound plan, so that no stream is refused over them for anything in them
abbrev pub HoldsNext : Type 0
HoldsNext = (image left : Image) (run : Account) → IsRunOver image run left → HoldsSound left

-- so the next run goes on from there: both are runs of one plan's life
abbrev pub GoesOn : Type 0
GoesOn = (image left : Image) (run : Account) (c : Content) → (over : IsRunOver image run left) → MayFind left c
    → IsRunFrom over.ends.before c

-- a run or a refusal
abbrev pub IsLink : Image → Link → Image → Type 0
IsLink image (Run run) left = IsRunOver image run left
IsLink image Refusal left = IsRefusedOver image left

-- these, each over what the one before it left, from these bytes to those
abbrev pub AreLinks : List Link → Image → Image → Type 0
AreLinks [] first last = last ≡ first
AreLinks (link ∷ links) first last = (between : Image) × IsLink first link between × AreLinks links between last

-- what may be found after them was led to from what may be found before them, by what each run acknowledged, in order, and
-- after a fault perhaps by the item in progress too: nothing that was acknowledged is lost
abbrev pub BytesLive : Type 0
BytesLive = (links : List Link) (first last : Image) (c : Content) → AreLinks links first last → MayFind last c
    → (was : Content) × MayFind first was × (streams : List (List Statement)) × AreRemembered links streams was c

-- and where nothing was known before them: it is sound, and each serial issued is in exactly one place in it, where
-- its fates put it
abbrev pub WholeLife : Type 0
WholeLife = (links : List Link) (first last : Image) (c : Content)
    → ((was : Content) → MayFind first was → was ≡ nothing_known)
    → AreLinks links first last → MayFind last c
    → (streams : List (List Statement)) × AreRemembered links streams nothing_known c × IsLived streams c

-- if all of them had one text to read, a run over it that then comes to its end ends as one run over what was found at
-- first, also by the replies that it wrote
abbrev pub BytesRerun : Type 0
BytesRerun = (links : List Link) (first left last : Image) (text : List ℕ) (again : Account) (tally : Tally) (c : Content)
    → AreAllOver text links → AreLinks links first left → IsRunOver left again last → again.text ≡ Some text
    → again.outcome ≡ Ok tally → MayFind last c
    → (was : Content) × MayFind first was × (replies : List AnswerLines)
    × IfSome again.written (λ bytes. bytes ≡ prints replies) × EndsAsOneRun (items_of text) was c replies
