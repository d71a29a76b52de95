-- The statement of the planner's machine that an item is.
use Rattle.std.specs.Prelude.{◌≡◌, ℕ, List, [], ◌∷◌, ◌++◌, Option, None, Some, option_and_then, option_map}
use Rattle.app_definitions.specs.declared.kinds.Kind.{Kind}
use Rattle.plan_store.specs.declared.listings.What.{What}
use Rattle.plan_store.specs.declared.listings.What.TheVariants as what
use Rattle.planner_machine.specs.Shown.{CurrentPlan, InDeletions, InHistory, LongTermPlan}
use Rattle.planner_machine.specs.Statement.{Days, DefineJob, Job, ListLinks, ListPairs, ListRows, Statement, Trial}
use Rattle.planner_cli_stream.specs.Statement.{Reads}
use Rattle.planner_cli_stream.specs.declared.statements.Statement.{Statement as LineStatement}
use Rattle.planner_cli_stream.specs.declared.statements.Statement.TheVariants as statement
use Rattle.planner_cli_stream.specs.Items.{Alone, DataBlock, Item, NoStatement, TooLong, Unended, Whole, WithBlock}
use Rattle.planner_cli.specs.Changes.{change_of, daily_change, plan_change}
use Rattle.planner_cli.specs.Kinds.{definitions_kind, what_of}
use Rattle.planner_cli.specs.Texts.{data_text, line_text}

-- the listing that is requested
abbrev pub list_asked : What → Option (List ℕ) → Statement
list_asked what.Ltp app = ListRows LongTermPlan app
list_asked what.Cp app = ListRows CurrentPlan app
list_asked what.History app = ListRows InHistory app
list_asked what.Deletions app = ListRows InDeletions app
list_asked what.Dependencies app = ListPairs app
list_asked what.Links app = ListLinks app

-- a line without data; `define` needs them
abbrev pub asked_alone : List ℕ → LineStatement → Statement
asked_alone line (statement.Define kind job) = DefineJob job (line_text line) (definitions_kind kind) None
asked_alone line (statement.Change change job) = Job job (line_text line) (change_of change)
asked_alone line (statement.Days app from to) = Days app from to
asked_alone line (statement.PlanTrial function) = Trial (plan_change function)
asked_alone line (statement.DailyTrial function) = Trial (daily_change function)
asked_alone line (statement.List word) = list_asked (what_of word) None
asked_alone line (statement.ListApp word app) = list_asked (what_of word) (Some app)

-- `define` and its data: their bytes, or none where they are too many or have no end
abbrev pub define_asked : List ℕ → ℕ → Kind → DataBlock → Statement
define_asked line number kind (Whole bytes) = DefineJob number (data_text line bytes) kind (Some bytes)
define_asked line number kind TooLong = DefineJob number (line_text line) kind None
define_asked line number kind Unended = DefineJob number (line_text line) kind None

-- a line with data, which no other statement has
abbrev pub asked_with : List ℕ → DataBlock → LineStatement → Option Statement
asked_with line block (statement.Define kind job) = Some (define_asked line job (definitions_kind kind) block)
asked_with line block _ = None

-- the item is this statement of the machine, or none
abbrev pub Asks : Item → Option Statement → Type 0
Asks NoStatement asked = asked ≡ None
Asks (Alone line) asked =
    (read : Option LineStatement) × Reads line read × (asked ≡ option_map (asked_alone line) read)
Asks (WithBlock line block) asked =
    (read : Option LineStatement) × Reads line read × (asked ≡ option_and_then (asked_with line block) read)

-- a statement that may be missing
abbrev pub if_asked : Option Statement → List Statement
if_asked None = []
if_asked (Some statement) = statement ∷ []

-- the items are these statements, in order
abbrev pub AreAsked : List Item → List Statement → Type 0
AreAsked [] stream = stream ≡ []
AreAsked (item ∷ items) stream =
    (asked : Option Statement) × (rest : List Statement) × (stream ≡ if_asked asked ++ rest) × Asks item asked
    × AreAsked items rest
