-- All statements: for each its decision, the fate that it gives an occurrence, and the occurrences that it makes.
use Rattle.std.specs.Prelude.{◌≡◌, ◌⊎◌, ℕ, List, Option, Some, None, Result, Err}
use Rattle.app_definitions.specs.Blocks.{IsFaultyAt, ReadsAs}
use Rattle.app_definitions.specs.declared.definitions.Definitions.{Definitions}
use Rattle.app_definitions.specs.declared.kinds.Block.{Block}
use Rattle.app_definitions.specs.declared.kinds.Kind.{Kind}
use Rattle.occurrences.specs.declared.key.Key.{Key}
use Rattle.occurrences.specs.declared.place.Place.{Place}
use Rattle.occurrences.specs.declared.place.Place.TheVariants.{Current, LongTerm}
use Rattle.occurrences.specs.declared.refusal.Refusal.{Refusal}
use Rattle.occurrences.specs.declared.refusal.Refusal.TheVariants.{FaultyData}
use Rattle.occurrences.specs.declared.reply.Reply.{Reply}
use Rattle.occurrences.specs.declared.status.Action.{Action}
use Rattle.occurrences.specs.declared.status.Status.TheVariants.{W}
use Rattle.planner_machine.specs.declared.content.Bounds.{Bounds}
use Rattle.planner_machine.specs.declared.content.Draft.{Draft}
use Rattle.planner_machine.specs.declared.counts.Count.{Count}
use Rattle.planner_machine.specs.Act.{act_means}
use Rattle.planner_machine.specs.Add.{add_means}
use Rattle.planner_machine.specs.Content.{Content, Sets}
use Rattle.planner_machine.specs.Create.{create_means}
use Rattle.planner_machine.specs.DailyExtend.{daily_extend_means}
use Rattle.planner_machine.specs.DailyExtendBy.{daily_extend_by_means}
use Rattle.planner_machine.specs.Days.{days}
use Rattle.planner_machine.specs.Decision.{Decides, Decision, trial}
use Rattle.planner_machine.specs.Define.{define, define_means, undefine_means}
use Rattle.planner_machine.specs.Delete.{delete_means}
use Rattle.planner_machine.specs.Extend.{extend_means}
use Rattle.planner_machine.specs.Fate.{Fate}
use Rattle.planner_machine.specs.Jobs.{AnswersJob}
use Rattle.planner_machine.specs.Meaning.{Meaning}
use Rattle.planner_machine.specs.ModifyAll.{modify_all_means}
use Rattle.planner_machine.specs.ModifyOne.{modify_one_means}
use Rattle.planner_machine.specs.Replan.{replan_means}
use Rattle.planner_machine.specs.Shown.{Listed, list_links, list_pairs, list_rows}

-- the statements that change something
pub data Change : Type 0 where
  Define : Block → Change
  Undefine : Kind → List ℕ → Change
  Create : (from to : ℕ) → Change
  Extend : (to : ℕ) → Change
  ModifyAll : Change
  ModifyOne : List ℕ → Change
  Add : Key → Change
  Delete : Key → Change
  DailyExtend : (to : ℕ) → Change
  DailyExtendBy : (n : ℕ) → Count → Change
  Replan : Change
  AddCurrent : Key → Change
  Act : Action → Key → Change

-- the table of statements: the only list of them all
abbrev pub meaning_of : Change → Meaning
meaning_of (Define block) = define_means block
meaning_of (Undefine kind name) = undefine_means kind name
meaning_of (Create from to) = create_means from to
meaning_of (Extend to) = extend_means to
meaning_of ModifyAll = modify_all_means
meaning_of (ModifyOne app) = modify_one_means app
meaning_of (Add key) = add_means LongTerm key
meaning_of (Delete key) = delete_means key
meaning_of (DailyExtend to) = daily_extend_means to
meaning_of (DailyExtendBy n count) = daily_extend_by_means n count
meaning_of Replan = replan_means
meaning_of (AddCurrent key) = add_means (Current W) key
meaning_of (Act action key) = act_means key action

abbrev pub decision_of : Change → Decision Content
decision_of change = (meaning_of change).decision

-- the fate of an occurrence at an accepted statement, by the definitions and bounds of that moment
abbrev pub fate_of : Change → Definitions → Option Bounds → Fate
fate_of change = (meaning_of change).fate

-- the occurrences that an accepted statement makes, as drafts in the order of their serials
abbrev pub MakesDrafts : Change → Definitions → Sets → List Draft → Type 0
MakesDrafts change = (meaning_of change).makes

-- where they are made
abbrev pub place_of_made : Change → Place
place_of_made change = (meaning_of change).place

-- the statements of a stream, each with its values. `define` has the bytes of its block, or none where the block is
-- too long or has no end; a trial is one of the statements that plan
pub data Statement : Type 0 where
  DefineJob : (number : ℕ) (text : List ℕ) (kind : Kind) (data_of : Option (List ℕ)) → Statement
  Job : (number : ℕ) (text : List ℕ) → Change → Statement
  Days : (app : List ℕ) (from to : ℕ) → Statement
  Trial : Change → Statement
  ListRows : Listed → Option (List ℕ) → Statement
  ListPairs : Option (List ℕ) → Statement
  ListLinks : Option (List ℕ) → Statement

abbrev pub Answer : Type 0
Answer = Result Reply Refusal

-- the data are faulty at that record, or are no block
abbrev pub IsFaulty : Kind → Option (List ℕ) → ℕ → Type 0
IsFaulty kind None number = number ≡ 0
IsFaulty kind (Some text) number = IsFaultyAt kind text number

-- the data are read as the block
abbrev pub AreRead : Kind → Option (List ℕ) → Block → Type 0
AreRead kind None block = ⊥
AreRead kind (Some text) block = ReadsAs kind text block

-- data are read before the job number is looked up: faulty data are refused, and nothing is kept
abbrev pub AnswersDefine : ℕ → List ℕ → Kind → Option (List ℕ) → Content → Answer → Content → Type 0
AnswersDefine number text kind given c answer c' =
    ((record_number : ℕ) × IsFaulty kind given record_number × (answer ≡ Err (FaultyData record_number)) × (c' ≡ c))
    ⊎ ((block : Block) × AreRead kind given block × AnswersJob number text (define block) c answer c')

-- one step: where the content is c, the statement gets the reply, and leaves c'
abbrev pub Steps : Statement → Content → Answer → Content → Type 0
Steps (DefineJob number text kind given) c answer c' = AnswersDefine number text kind given c answer c'
Steps (Job number text change) c answer c' = AnswersJob number text (decision_of change) c answer c'
Steps (Days app from to) c answer c' = Decides (days app from to) c answer c'
Steps (Trial change) c answer c' = Decides (trial (decision_of change)) c answer c'
Steps (ListRows listed app) c answer c' = Decides (list_rows listed app) c answer c'
Steps (ListPairs app) c answer c' = Decides (list_pairs app) c answer c'
Steps (ListLinks app) c answer c' = Decides (list_links app) c answer c'
