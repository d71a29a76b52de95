-- What is decoded from the values of a row: the fact that they encode.
use Rattle.std.specs.Prelude.{ℕ, ℤ, List, [], ◌∷◌, Bool, Option, Some, None, Result, Ok, Err, pos, negsuc, nat_eq, cond}
use Rattle.std.specs.Prelude.{drop, get_or}
use Rattle.std.specs.Str.Parse.{digits_value}
use Rattle.sqlite.specs.Order.{Row as Values, column}
use Rattle.sqlite.specs.declared.types.Value.{Value}
use Rattle.sqlite.specs.declared.types.Value.TheVariants.{Null, Int, Real, Text, Blob}
use Rattle.occurrences.specs.declared.place.CurrentRow.{CurrentRow}
use Rattle.occurrences.specs.declared.place.Deletion.{Deletion}
use Rattle.occurrences.specs.declared.place.Reason.{Reason}
use Rattle.occurrences.specs.declared.place.Reason.TheVariants.{Operator, Withdrawn, Plan}
use Rattle.occurrences.specs.declared.refusal.Refusal.{Refusal}
use Rattle.occurrences.specs.declared.refusal.Refusal.TheVariants as refusal
use Rattle.occurrences.specs.declared.reply.Reply.{Reply}
use Rattle.occurrences.specs.declared.reply.Reply.TheVariants as reply
use Rattle.occurrences.specs.declared.row.Origin.{Origin}
use Rattle.occurrences.specs.declared.row.Origin.TheVariants.{Added, Generated}
use Rattle.occurrences.specs.declared.row.Row.{Row}
use Rattle.occurrences.specs.declared.status.Status.{Status}
use Rattle.occurrences.specs.declared.status.Status.TheVariants.{W, S, E, C, D}
use Rattle.app_definition_records.specs.declared.applications.Application.{Application}
use Rattle.external_dependencies.specs.declared.links.Link.{Link}
use Rattle.planner_machine.specs.declared.job.Job.{Job}

abbrev pub nat_in : Value → ℕ
nat_in (Int (pos n)) = n
nat_in (Int (negsuc n)) = n
nat_in Null = 0
nat_in (Real x) = 0
nat_in (Text t) = 0
nat_in (Blob b) = 0

abbrev pub int_in : Value → ℤ
int_in (Int n) = n
int_in Null = pos 0
int_in (Real x) = pos 0
int_in (Text t) = pos 0
int_in (Blob b) = pos 0

abbrev pub text_in : Value → List ℕ
text_in (Text t) = t
text_in Null = []
text_in (Int n) = []
text_in (Real x) = []
text_in (Blob b) = b

abbrev pub or_text : Value → Option (List ℕ)
or_text (Text t) = Some t
or_text Null = None
or_text (Int n) = None
or_text (Real x) = None
or_text (Blob b) = None

abbrev pub or_nat : Value → Option ℕ
or_nat (Int (pos n)) = Some n
or_nat (Int (negsuc n)) = None
or_nat Null = None
or_nat (Real x) = None
or_nat (Text t) = None
or_nat (Blob b) = None

abbrev pub bool_in : Value → Bool
bool_in v = nat_eq (nat_in v) 1

abbrev pub first_of : List ℕ → ℕ
first_of [] = 0
first_of (n ∷ rest) = n

abbrev pub letter_in : Value → ℕ
letter_in v = first_of (text_in v)

abbrev pub origin_in : Option (List ℕ) → Origin
origin_in None = Added
origin_in (Some name) = Generated name

abbrev pub status_of : ℕ → Status
status_of n = cond (nat_eq n 87) W (cond (nat_eq n 83) S (cond (nat_eq n 69) E (cond (nat_eq n 67) C D)))

abbrev pub reason_of : ℕ → Reason
reason_of n = cond (nat_eq n 79) Operator (cond (nat_eq n 87) Withdrawn Plan)

abbrev pub row_of : Values → Row
row_of v = record {
  key = record { ia = nat_in (column v 2); app = text_in (column v 1) };
  serial = nat_in (column v 0);
  deadline = nat_in (column v 3);
  origin = origin_in (or_text (column v 4));
}

abbrev pub current_of : Values → CurrentRow
current_of v = record { row = row_of v; status = status_of (letter_in (column v 5)) }

abbrev pub deletion_of : Values → Deletion
deletion_of v = record { row = row_of v; reason = reason_of (letter_in (column v 5)) }

abbrev pub link_of : Values → Link
link_of v = record {
  app = text_in (column v 0);
  predecessor = text_in (column v 1);
  within = or_nat (column v 2);
}

abbrev pub application_of : Values → Application
application_of v = record { active = bool_in (column v 1); calendar = or_text (column v 2) }

-- ---- the reply of a job

-- a line up to its first blank, and after it
unfoldable pub before : List ℕ → List ℕ
before [] = []
before (b ∷ bs) = cond (nat_eq b 32) [] (b ∷ before bs)

unfoldable pub behind : List ℕ → List ℕ
behind [] = []
behind (b ∷ bs) = cond (nat_eq b 32) bs (behind bs)

-- the number up to the first blank of a line
abbrev pub number_in : List ℕ → ℕ
number_in text = digits_value 10 (before text)

-- an occurrence, and the status that may follow it
unfoldable pub occurrence_in : ℕ → List ℕ → Reply
occurrence_in serial [] = reply.Numbered serial
occurrence_in serial (b ∷ bs) = reply.Changed serial (status_of (get_or (b ∷ bs) 7 0))

unfoldable pub moved_in : List ℕ → Reply
moved_in text =
    let carried = drop 8 (behind text) in
    let completed = drop 10 (behind carried) in
    let deleted = drop 8 (behind completed) in
    reply.Moved (number_in text) (number_in carried) (number_in completed) (number_in deleted)

abbrev pub reply_in : List ℕ → Reply
reply_in text = cond (nat_eq (get_or text 3 0) 100) (reply.Defined (number_in (drop 11 text)))
    (cond (nat_eq (get_or text 3 0) 117) reply.Undefined
    (cond (nat_eq (get_or text 3 0) 114) (reply.Rows (number_in (drop 8 text)))
    (cond (nat_eq (get_or text 3 0) 115) (occurrence_in (number_in (drop 10 text)) (behind (drop 10 text)))
    (cond (nat_eq (get_or text 4 0) 97)
    (reply.Made (number_in (drop 8 text)) (number_in (drop 10 (behind (drop 8 text)))))
    (moved_in (drop 9 text))))))

unfoldable pub refusal_of : ℕ → List ℕ → Refusal
refusal_of n rest =
    cond (nat_eq n 10) refusal.NotAStatement (cond (nat_eq n 11) (refusal.FaultyData (digits_value 10 rest))
    (cond (nat_eq n 12) refusal.JobWithAnotherText (cond (nat_eq n 13) refusal.NotDefined
    (cond (nat_eq n 20) refusal.NoPlan (cond (nat_eq n 21) refusal.PlanExists
    (cond (nat_eq n 22) (refusal.CalendarUndefined rest) (cond (nat_eq n 23) (refusal.PeriodUndefined rest)
    (cond (nat_eq n 24) refusal.DatesOutOfRange (cond (nat_eq n 25) (refusal.Loop rest)
    (cond (nat_eq n 26) refusal.NoActiveApplication (cond (nat_eq n 27) refusal.KeyIsLive
    (cond (nat_eq n 28) refusal.NoSuchOccurrence (cond (nat_eq n 29) refusal.StatusForbids
    (cond (nat_eq n 30) (refusal.PredecessorUncompleted (digits_value 10 rest))
    (cond (nat_eq n 31) refusal.TooManyRows refusal.PlanEndOutOfRange)))))))))))))))

abbrev pub refusal_in : List ℕ → Refusal
refusal_in text = refusal_of (number_in (drop 8 text)) (behind (drop 8 text))

abbrev pub answer_in : List ℕ → Result Reply Refusal
answer_in text = cond (nat_eq (get_or text 0 0) 111) (Ok (reply_in text)) (Err (refusal_in text))

abbrev pub job_of : Values → Job
job_of v = record {
  number = nat_in (column v 0);
  text = text_in (column v 1);
  reply = answer_in (text_in (column v 2));
}
