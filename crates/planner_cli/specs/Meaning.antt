-- The meaning of a text: the replies to its items, in order, and what is known after them.
use Rattle.std.specs.Prelude.{◌≡◌, List, [], ◌∷◌, ◌+◌, count_by}
use Rattle.std.specs.Io.Iter.{u64_saturate}
use Rattle.planner_cli_stream.specs.Items.{Item}
use Rattle.planner_cli.specs.Replies.{AnswerLines, is_accepted, is_refused}
use Rattle.planner_cli.specs.declared.tally.Tally.{Tally}

-- a step of a planner: where s is known, an item gets a reply, and t is known after it
abbrev pub StepOf : Type 0 → Type 1
StepOf S = S → Item → AnswerLines → S → Type 0

-- where s is known, the items get these replies, one each and in order, and t is known after them
abbrev pub Answers : {S : Type 0} (Step : StepOf S) → S → List Item → List AnswerLines → S → Type 0
Answers Step s [] replies t = (replies ≡ []) × (t ≡ s)
Answers {S} Step s (item ∷ items) replies t =
    (reply : AnswerLines) × (rest : List AnswerLines) × (between : S)
    × (replies ≡ reply ∷ rest) × Step s item reply between × Answers Step between items rest t

-- a tally after more replies; each count stays at the greatest number of 64 bits
unfoldable pub tally_after : Tally → List AnswerLines → Tally
tally_after t replies = record {
  accepted = u64_saturate (t.accepted + count_by is_accepted replies);
  refused = u64_saturate (t.refused + count_by is_refused replies);
}

-- the tally of these replies
unfoldable pub tally_of : List AnswerLines → Tally
tally_of replies = tally_after (record { accepted = 0; refused = 0 }) replies
