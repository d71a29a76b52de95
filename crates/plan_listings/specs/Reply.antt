-- The lines of replies and refusals, without their line feed.
use Rattle.std.specs.Prelude.{ℕ, List, [], ◌∷◌, ◌++◌, codes}
use Rattle.std.specs.Fmt.{decimal}
use Rattle.occurrences.specs.Refusal.{refusal_number}
use Rattle.occurrences.specs.Status.{status_letter}
use Rattle.occurrences.specs.declared.refusal.Refusal.{Refusal}
use Rattle.occurrences.specs.declared.refusal.Refusal.TheVariants as refusal
use Rattle.occurrences.specs.declared.reply.Reply.{Reply}
use Rattle.occurrences.specs.declared.reply.Reply.TheVariants as reply

-- a word, a blank and a number
abbrev pub counted : List ℕ → ℕ → List ℕ
counted word n = word ++ 32 ∷ decimal n

-- the line of an accepted statement
abbrev pub reply_text : Reply → List ℕ
reply_text (reply.Defined names) = counted (codes "ok defined") names
reply_text reply.Undefined = codes "ok undefined"
reply_text (reply.Made made withdrawn) = counted (codes "ok made") made ++ counted (codes " withdrawn") withdrawn
reply_text (reply.Numbered serial) = counted (codes "ok serial") serial
reply_text (reply.Changed serial status) = counted (codes "ok serial") serial ++ codes " status "
    ++ status_letter status ∷ []
reply_text (reply.Moved moved carried completed deleted) =
    counted (codes "ok moved") moved ++ counted (codes " carried") carried
    ++ counted (codes " completed") completed ++ counted (codes " deleted") deleted
reply_text (reply.Rows rows) = counted (codes "ok rows") rows

-- what a refusal shows after its number
abbrev pub refusal_detail : Refusal → List ℕ
refusal_detail (refusal.FaultyData record_number) = 32 ∷ decimal record_number
refusal_detail (refusal.CalendarUndefined app) = 32 ∷ app
refusal_detail (refusal.PeriodUndefined app) = 32 ∷ app
refusal_detail (refusal.Loop app) = 32 ∷ app
refusal_detail (refusal.PredecessorUncompleted serial) = 32 ∷ decimal serial
refusal_detail _ = []

-- the line of a refused statement
abbrev pub refusal_text : Refusal → List ℕ
refusal_text r = counted (codes "refused") (refusal_number r) ++ refusal_detail r
