-- Runs as they are known from outside, and what is remembered of them.
use Rattle.std.specs.Prelude.{◌≡◌, ◌⊎◌, ℕ, List, [], ◌∷◌, ◌++◌, IfSome, None, Option, Some, Result, Ok, Err, drop, length}
use Rattle.planner_machine.specs.Content.{Content}
use Rattle.planner_machine.specs.Statement.{Statement}
use Rattle.planner_cli_stream.specs.Items.{Item, items_of}
use Rattle.planner_cli.specs.Faults.{tally_in}
use Rattle.planner_cli.specs.Meaning.{Answers, tally_of}
use Rattle.planner_cli.specs.Plans.{AreAnswered}
use Rattle.planner_cli.specs.Replies.{AnswerLines, prints}
use Rattle.planner_cli.specs.Requests.{AreAsked}
use Rattle.planner_cli.specs.Runs.{Ends, LeavesInProgress, with_hand}
use Rattle.planner_cli.specs.Steps.{Step}
use Rattle.planner_cli.specs.declared.faults.RunFault.{RunFault}
use Rattle.planner_cli.specs.declared.tally.Tally.{Tally}
use Rattle.plan_files.specs.Life.{Leads}

-- the account of a run: the text that it had to read and the bytes that it wrote, where these are known, and how it ended
pub record Account : Type 0 where
  pub text : Option (List ℕ)
  pub written : Option (List ℕ)
  pub outcome : Result Tally RunFault

-- the bytes that a writer took, by what was written before and after
abbrev pub written_between : Option (List ℕ) → Option (List ℕ) → Option (List ℕ)
written_between (Some old) (Some new) = Some (drop (length old) new)
written_between (Some old) None = None
written_between None new = None

abbrev pub account_of : Ends → Result Tally RunFault → Account
account_of ends outcome = record {
  text = ends.remaining;
  written = written_between ends.written_before ends.written_after;
  outcome = outcome;
}

-- what a run acknowledged, by how it ended: each item of its text, and it wrote what their replies print and nothing else;
-- or, before a fault, these items of its text, the first ones, and what it wrote begins with what their replies print
abbrev pub Acknowledges : (text written : Option (List ℕ)) → Result Tally RunFault → (done : List Item) → Option Item
    → List AnswerLines → Type 0
Acknowledges text written (Ok tally) done hand replies =
    (hand ≡ None) × IfSome text (λ t. items_of t ≡ done) × IfSome written (λ bytes. bytes ≡ prints replies)
    × (tally ≡ tally_of replies)
Acknowledges text written (Err fault) done hand replies =
    IfSome text (λ t. (rest : List Item) × (items_of t ≡ done ++ with_hand hand rest))
    × IfSome written (λ bytes. (tail : List ℕ) × (bytes ≡ prints replies ++ tail)) × (tally_in fault ≡ tally_of replies)

-- what is remembered of a run: its acknowledged items got their replies by the planner's steps from what was there before;
-- and what is there after it is what they left, or after a fault what the item in progress left too. The statements are
-- those of just these items
pub record IsRemembered (run : Account) (stream : List Statement) (c c' : Content) : Type 0 where
  pub done : List Item
  pub hand : Option Item
  pub replies : List AnswerLines
  pub acknowledged : Acknowledges run.text run.written run.outcome done hand replies
  pub between : Content
  pub answers : Answers Step c done replies between
  pub leaves : (c' ≡ between) ⊎ LeavesInProgress Step between hand c'
  pub items : List Item
  pub are_answered : AreAnswered done hand items
  pub asked : AreAsked items stream
  pub leads : Leads stream c c'

-- a link of a plan's life: a run, or one that was refused
pub data Link : Type 0 where
  Run : Account → Link
  Refusal : Link

-- the runs among them are remembered in order, each by its statements; a refusal changes nothing
abbrev pub AreRemembered : List Link → List (List Statement) → Content → Content → Type 0
AreRemembered [] [] c c' = c' ≡ c
AreRemembered [] (stream ∷ streams) c c' = ⊥
AreRemembered (Run run ∷ links) [] c c' = ⊥
AreRemembered (Run run ∷ links) (stream ∷ streams) c c' =
    (between : Content) × IsRemembered run stream c between × AreRemembered links streams between c'
AreRemembered (Refusal ∷ links) streams c c' = AreRemembered links streams c c'

-- each of the runs among them had this text to read
abbrev pub AreAllOver : List ℕ → List Link → Type 0
AreAllOver text [] = Unit {0}
AreAllOver text (Run run ∷ links) = (run.text ≡ Some text) × AreAllOver text links
AreAllOver text (Refusal ∷ links) = AreAllOver text links
