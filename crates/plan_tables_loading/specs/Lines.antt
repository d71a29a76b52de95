-- The words of a line.
use Rattle.std.specs.Prelude.{◌≡◌, ◌<◌, ◌^◌, ℕ, List, [], ◌∷◌, ◌==◌, codes, Option, Some, Result, Ok, Err}
use Rattle.std.specs.Fmt.{decimal}
use Rattle.occurrences.specs.Status.{status_letter}
use Rattle.occurrences.specs.declared.refusal.Refusal.{Refusal}
use Rattle.occurrences.specs.declared.refusal.Refusal.TheVariants as refusal
use Rattle.occurrences.specs.declared.reply.Reply.{Reply}
use Rattle.occurrences.specs.declared.reply.Reply.TheVariants as reply
use Rattle.occurrences.specs.declared.status.Status.{Status}
use Rattle.planner_machine.specs.Sound.{IsShown}
use Rattle.work_calendars.specs.Name.{IsName}
use Rattle.std.specs.List.{after_first, before_first}

-- up to the first blank, and after it
abbrev pub front : List ℕ → List ℕ
front text = before_first (λ b. b == 32) text

abbrev pub back : List ℕ → List ℕ
back text = after_first (λ b. b == 32) text

-- what follows the first two words
abbrev pub behind_two : List ℕ → List ℕ
behind_two text = back (back text)

-- the numbers of occurrences made and withdrawn, with a word between them
abbrev pub IsMade : List ℕ → Option (Result Reply Refusal) → Type 0
IsMade text found = (m w : ℕ) → m < 2 ^ 64 → w < 2 ^ 64 → front text ≡ decimal m
    → front (behind_two text) ≡ decimal w → found ≡ Some (Ok (reply.Made m w))

-- the same of those moved, carried, completed and deleted
abbrev pub IsMoved : List ℕ → Option (Result Reply Refusal) → Type 0
IsMoved text found = (m a k d : ℕ) → m < 2 ^ 64 → a < 2 ^ 64 → k < 2 ^ 64 → d < 2 ^ 64 → front text ≡ decimal m
    → front (behind_two text) ≡ decimal a → front (behind_two (behind_two text)) ≡ decimal k
    → front (behind_two (behind_two (behind_two text))) ≡ decimal d → found ≡ Some (Ok (reply.Moved m a k d))

-- the serial of an occurrence, alone or with a word and its status
pub record IsOccurrence (text : List ℕ) (found : Option (Result Reply Refusal)) : Type 0 where
  pub numbered : (n : ℕ) → IsShown n → front text ≡ decimal n → behind_two text ≡ []
      → found ≡ Some (Ok (reply.Numbered n))
  pub changed : (n : ℕ) (s : Status) → IsShown n → front text ≡ decimal n
      → behind_two text ≡ status_letter s ∷ [] → found ≡ Some (Ok (reply.Changed n s))

-- what the second word of a line, and the text after it, choose: each answer that is kept where these are its own
pub record IsChosen (word text : List ℕ) (found : Option (Result Reply Refusal)) : Type 0 where
  pub defined : (n : ℕ) → n < 2 ^ 64 → word ≡ codes "defined" → front text ≡ decimal n
      → found ≡ Some (Ok (reply.Defined n))
  pub undefined : word ≡ codes "undefined" → found ≡ Some (Ok reply.Undefined)
  pub made : word ≡ codes "made" → IsMade text found
  pub serial : word ≡ codes "serial" → IsOccurrence text found
  pub moved : word ≡ codes "moved" → IsMoved text found
  pub not_defined : word ≡ codes "13" → found ≡ Some (Err refusal.NotDefined)
  pub no_plan : word ≡ codes "20" → found ≡ Some (Err refusal.NoPlan)
  pub plan_exists : word ≡ codes "21" → found ≡ Some (Err refusal.PlanExists)
  pub calendar : IsName text → word ≡ codes "22" → found ≡ Some (Err (refusal.CalendarUndefined text))
  pub period : IsName text → word ≡ codes "23" → found ≡ Some (Err (refusal.PeriodUndefined text))
  pub dates : word ≡ codes "24" → found ≡ Some (Err refusal.DatesOutOfRange)
  pub loops : IsName text → word ≡ codes "25" → found ≡ Some (Err (refusal.Loop text))
  pub inactive : word ≡ codes "26" → found ≡ Some (Err refusal.NoActiveApplication)
  pub live : word ≡ codes "27" → found ≡ Some (Err refusal.KeyIsLive)
  pub no_occurrence : word ≡ codes "28" → found ≡ Some (Err refusal.NoSuchOccurrence)
  pub status : word ≡ codes "29" → found ≡ Some (Err refusal.StatusForbids)
  pub uncompleted : (n : ℕ) → IsShown n → word ≡ codes "30" → front text ≡ decimal n
      → found ≡ Some (Err (refusal.PredecessorUncompleted n))
  pub too_many : word ≡ codes "31" → found ≡ Some (Err refusal.TooManyRows)
  pub plan_end : word ≡ codes "32" → found ≡ Some (Err refusal.PlanEndOutOfRange)
