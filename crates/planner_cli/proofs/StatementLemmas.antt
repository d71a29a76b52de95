-- Lemmas on lines that are read as statements.
use Rattle.std.proofs.Common.{◌≡◌, ℕ, List, refl, sym, ap}
use Rattle.std.specs.Prelude.{Bool, IfErr, IfOk, None, Option, Result, Some}
use Rattle.occurrences.specs.declared.refusal.Refusal.TheVariants.{NotAStatement}
use Rattle.planner_machine.specs.Statement.{Statement}
use Rattle.plan_store.specs.declared.stores.PlanStore.{Ghosts}
use Rattle.plan_store.specs.declared.stores.StoreFault.{StoreFault}
use Rattle.plan_store.specs.declared.stores.StoreFault.TheVariants.{Memory}
use Rattle.planner_cli_stream.specs.Statement.{Reads}
use Rattle.planner_cli_stream.specs.declared.statements.Statement.{Statement as LineStatement}
use Rattle.planner_cli_stream.specs.Items.{Alone, DataBlock, Item, WithBlock}
use Rattle.planner_cli.specs.Requests.{Asks, asked_alone, asked_with}
use Rattle.planner_cli.specs.Outcomes.{refusing}
use Rattle.planner_cli.specs.Replies.{Prints}
use Rattle.planner_cli.specs.Steps.{Serves, Step}
use Rattle.planner_cli.specs.Stores.{AnswersBy}
use Rattle.planner_cli.specs.Writes.{AnswersItem, IsUnwritten, IsWritten}
use Rattle.planner_cli.specs.declared.answers.Printed.{Printed}
use Rattle.planner_cli.specs.declared.faults.Cause.{Cause}
use Rattle.planner_cli.proofs.StoreLemmas.{answers_so, untouched}
use Rattle.planner_cli.proofs.WriteLemmas.{wrote}

-- what a line with data asks
pub asks_with : (line : List ℕ) (block : DataBlock) (read : LineStatement) (asked : Option Statement)
    → Reads line (Some read) → asked_with line block read ≡ asked → Asks (WithBlock line block) asked
asks_with line block read asked reads is = (Some read, reads, sym is)

-- and what a line without data asks
pub asks_alone : (line : List ℕ) (read : LineStatement) (s : Statement) → Reads line (Some read)
    → asked_alone line read ≡ s → Asks (Alone line) (Some s)
asks_alone line read s reads is = (Some read, reads, sym (ap Some is))

module _ {S : Type 0} (g : Ghosts S) where
  -- an item that asks a statement of the machine is answered as that statement is
  pub item_served : (before now : S) (result : Result Printed StoreFault) (item : Item) (s : Statement)
      → Asks item (Some s)
      → AnswersBy g before now result (Serves s (g.content before))
      → AnswersBy g before now result (Step (g.content before) item)
  item_served before now result item s asks a =
      answers_so g before now result _ _ (λ honest reply c' h. (Some s, asks, h)) a

  -- and one that asks none is refused
  pub item_refused : (store : S) (result : Result Printed StoreFault) (item : Item) → Asks item None
      → IfOk result (λ printed. Prints (refusing NotAStatement) printed.text.items printed.is_accepted)
      → IfErr result (λ fault. fault ≡ Memory)
      → AnswersBy g store store result (Step (g.content store) item)
  item_refused store result item asks prints memory =
      untouched g store result (refusing NotAStatement) _
      (None, asks, (refl, refl)) prints memory

  -- the answer to a line that is read as a statement of the machine, on its way to the writer
  pub line_served : (before now : S) (old new : Option (List ℕ)) (line : List ℕ) (read : LineStatement) (s : Statement)
      (answered : Result Printed StoreFault) (result : Result Bool Cause)
      → Reads line (Some read) → asked_alone line read ≡ s
      → AnswersBy g before now answered (Serves s (g.content before))
      → IfOk result (IsWritten answered old new) → IfErr result (IsUnwritten answered old new)
      → AnswersItem g before now old new (Alone line) result
  line_served before now old new line read s answered result reads is a ok err =
      wrote g before now old new (Alone line) answered result
      (item_served before now answered (Alone line) s (asks_alone line read s reads is) a) ok err
