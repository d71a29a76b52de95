-- What a reply without rows prints.
use Rattle.std.specs.Prelude.{ℕ, List, [], Ok, Err}
use Rattle.occurrences.specs.declared.refusal.Refusal.{Refusal}
use Rattle.plan_listings.specs.Reply.{reply_text, refusal_text}
use Rattle.planner_machine.specs.Statement.{Answer}
use Rattle.planner_cli.specs.Replies.{AnswerLines}

-- the line of an answer
abbrev pub answer_text : Answer → List ℕ
answer_text (Ok reply) = reply_text reply
answer_text (Err refusal) = refusal_text refusal

-- the line alone
abbrev pub answering : Answer → AnswerLines
answering answer = record { rows = []; line = answer_text answer }

-- that of a refused statement
abbrev pub refusing : Refusal → AnswerLines
refusing refusal = answering (Err refusal)
