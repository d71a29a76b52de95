-- The step of the planner: the reply to an item, and the content after it.
use Rattle.std.specs.Prelude.{◌≡◌, ℕ, List, [], Option, None, Some, Ok, flat_map}
use Rattle.occurrences.specs.declared.refusal.Refusal.TheVariants.{NotAStatement}
use Rattle.occurrences.specs.declared.reply.Reply.{Reply}
use Rattle.plan_listings.specs.Line.{AreLinesOf}
use Rattle.plan_store.specs.Listings.{ShowLinks, ShowPairs, ShowRows, Shown}
use Rattle.run_cycles.specs.declared.named.Named.{Named}
use Rattle.planner_machine.specs.Content.{Content}
use Rattle.planner_machine.specs.Days.{ListsDays}
use Rattle.planner_machine.specs.Statement.{Answer, Change, Days, ListLinks, ListPairs, ListRows, Statement, Steps, Trial}
use Rattle.planner_machine.specs.Stream.{IsStatement}
use Rattle.planner_cli_stream.specs.Items.{Item}
use Rattle.planner_cli.specs.Requests.{Asks}
use Rattle.planner_cli.specs.Outcomes.{answer_text, refusing}
use Rattle.planner_cli.specs.Replies.{Prints, AnswerLines, ended}
use Rattle.planner_cli.specs.declared.answers.Printed.{Printed}
use Rattle.planner_cli.specs.Rows.{AreDaysLines, IsShownText, ShowsTrial}

-- the rows that a statement prints before its reply line
abbrev pub ShowsRows : Statement → Content → Answer → List (List ℕ) → Type 0
ShowsRows (Days app from to) c (Ok reply) rows =
    (shown : List Named) × ListsDays c.definitions app from to shown × AreDaysLines shown rows
ShowsRows (Trial change) c (Ok reply) rows = ShowsTrial change c reply rows
ShowsRows (ListRows listed app) c (Ok reply) rows =
    (items : List Shown) × ShowRows listed app c items × AreLinesOf IsShownText items rows
ShowsRows (ListPairs app) c (Ok reply) rows =
    (items : List Shown) × ShowPairs app c items × AreLinesOf IsShownText items rows
ShowsRows (ListLinks app) c (Ok reply) rows =
    (items : List Shown) × ShowLinks app c items × AreLinesOf IsShownText items rows
ShowsRows statement c answer rows = rows ≡ []

-- a statement gets its reply by a step of the planner's machine, and the reply prints its rows and its reply line
pub record Serves (statement : Statement) (c : Content) (reply : AnswerLines) (c' : Content) : Type 0 where
  pub answer : Answer
  pub steps : Steps statement c answer c'
  pub rows : ShowsRows statement c answer reply.rows
  pub line : reply.line ≡ answer_text answer
  -- its values are such as a line and a block give
  pub well_formed : IsStatement statement

-- the rows of an accepted trial of the change, each with its line feed
pub record ShowsAccepted (change : Change) (c : Content) (reply : Reply) (text : List ℕ) : Type 0 where
  pub lines : List (List ℕ)
  pub text_is : text ≡ flat_map ended lines
  pub serves : Serves (Trial change) c (record { rows = lines; line = answer_text (Ok reply) }) c

-- what is printed is the reply to a trial of the change, and the content stays as it is
abbrev pub PrintsTrial : Change → Content → Printed → Type 0
PrintsTrial change c printed =
    (reply : AnswerLines) × Serves (Trial change) c reply c × Prints reply printed.text.items printed.is_accepted

-- what is no statement is refused, and nothing changes
abbrev pub AnswersAsked : Option Statement → Content → AnswerLines → Content → Type 0
AnswersAsked None c reply c' = (reply ≡ refusing NotAStatement) × (c' ≡ c)
AnswersAsked (Some statement) c reply c' = Serves statement c reply c'

-- one step: where the content is c, the item gets this reply, and c' is left
abbrev pub Step : Content → Item → AnswerLines → Content → Type 0
Step c item reply c' = (asked : Option Statement) × Asks item asked × AnswersAsked asked c reply c'
