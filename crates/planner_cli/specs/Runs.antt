-- What a run leaves: all answers, or those before a fault.
use Rattle.std.specs.Prelude.{◌≡◌, ◌⊎◌, ℕ, ◌≤◌, List, ◌∷◌, ◌++◌, IfSome, Option, None, Some, flat_map, length, take}
use Rattle.std.specs.Io.KnownBytes.{Appends}
use Rattle.planner_machine.specs.Content.{Content}
use Rattle.planner_cli_stream.specs.Items.{Item, items_of}
use Rattle.planner_cli.specs.Lists.{BeginsInProgress, ListsInProgress}
use Rattle.planner_cli.specs.Replies.{AnswerLines, ended, printed, prints}
use Rattle.planner_cli.specs.Meaning.{Answers, StepOf, tally_of}
use Rattle.planner_cli.specs.Faults.{cause_of, tally_in}
use Rattle.planner_cli.specs.declared.tally.Tally.{Tally}
use Rattle.planner_cli.specs.declared.faults.FaultSource.TheVariants.{Store, Reader, Writer}
use Rattle.planner_cli.specs.declared.faults.Cause.{Cause}
use Rattle.planner_cli.specs.declared.faults.Cause.TheVariants.{Memory, Device}
use Rattle.planner_cli.specs.declared.faults.RunFault.{RunFault}

-- the two ends of a run: the content before and after it, all that was written before and after it, and what was left
-- to read before it. Of a writer and of a reader whose bytes are not known there is none
pub record Ends : Type 0 where
  pub before : Content
  pub after : Content
  pub written_before : Option (List ℕ)
  pub written_after : Option (List ℕ)
  pub remaining : Option (List ℕ)

abbrev pub ends_of : (before after : Content) (written_before written_after remaining : Option (List ℕ)) → Ends
ends_of before after written_before written_after remaining = record {
  before = before;
  after = after;
  written_before = written_before;
  written_after = written_after;
  remaining = remaining;
}

-- a run to the end of a stream: all its items are acknowledged and counted, and what their replies print is written.
-- If the bytes to read are known, the items are those that they read as
pub record Ran (Step : StepOf Content) (ends : Ends) (tally : Tally) : Type 0 where
  pub items : List Item
  pub replies : List AnswerLines
  pub read : IfSome ends.remaining (λ text. items_of text ≡ items)
  pub answers : Answers Step ends.before items replies ends.after
  pub written : Appends ends.written_before ends.written_after (prints replies)
  pub tally_is : tally ≡ tally_of replies

-- xs is a front of ys
abbrev pub IsFrontOf : List ℕ → List ℕ → Type 0
IsFrontOf xs ys = (n : ℕ) × (n ≤ length ys) × (xs ≡ take n ys)

-- the item in progress, if there is one, and those after it
abbrev pub with_hand : Option Item → List Item → List Item
with_hand None rest = rest
with_hand (Some item) rest = item ∷ rest

-- a step on the item in progress, if there is one, leaves t
abbrev pub LeavesInProgress : {S : Type 0} (Step : StepOf S) → S → Option Item → S → Type 0
LeavesInProgress Step s hand t = (item : Item) × (hand ≡ Some item) × ((reply : AnswerLines) × Step s item reply t)

-- the item's change is made, and these bytes are a front of what its reply prints
abbrev pub IsCutOff : {S : Type 0} (Step : StepOf S) → S → Option Item → S → List ℕ → Type 0
IsCutOff Step s hand t tail =
    (item : Item) × (hand ≡ Some item) × ((reply : AnswerLines) × Step s item reply t × IsFrontOf tail (printed reply))

-- nothing is changed, and these bytes are a front of the first lines of a listing
abbrev pub IsListCutOff : Content → Option Item → Content → List ℕ → Type 0
IsListCutOff s hand t tail =
    (t ≡ s) × ((lines : List (List ℕ)) × ListsInProgress s hand lines × IsFrontOf tail (flat_map ended lines))

-- the first lines of a listing, if the item in progress is one, and then a front of the line of the fault
abbrev pub WritesFault : Content → Option Item → (line tail : List ℕ) → Type 0
WritesFault s hand line tail =
    (front : List ℕ) × (last : List ℕ) × (tail ≡ front ++ last) × BeginsInProgress s hand front × IsFrontOf last line

-- how a run ended after the replies, if `between` was known and this item was in progress, if one was: with a front of
-- the line of the fault, and nothing changed. If the item in progress is `list`, its first lines may come before. If
-- the store failed, the item's change may be made; if the writer failed, it is, and a front of its reply is written
abbrev pub EndsBy : (Step : StepOf Content)
    → Cause → (line : List ℕ) → (between t : Content) → (hand : Option Item) → (tail : List ℕ) → Type 0
EndsBy Step Memory line between t hand tail = (t ≡ between) × WritesFault between hand line tail
EndsBy Step (Device Store) line between t hand tail =
    ((t ≡ between) ⊎ LeavesInProgress Step between hand t) × WritesFault between hand line tail
EndsBy Step (Device Reader) line between t hand tail = (t ≡ between) × IsFrontOf tail line
EndsBy Step (Device Writer) line between t hand tail =
    IsCutOff Step between hand t tail ⊎ IsListCutOff between hand t tail

-- a run that a fault ended: the items in `done` are acknowledged and counted. If the bytes to read are known, they
-- read as these items, the one in progress, and others
pub record Stopped (Step : StepOf Content) (line : Cause → List ℕ) (ends : Ends) (fault : RunFault) : Type 0 where
  pub done : List Item
  pub hand : Option Item
  pub replies : List AnswerLines
  pub between : Content
  pub tail : List ℕ
  pub read : IfSome ends.remaining (λ text. (rest : List Item) × (items_of text ≡ done ++ with_hand hand rest))
  pub answers : Answers Step ends.before done replies between
  pub written : Appends ends.written_before ends.written_after (prints replies ++ tail)
  pub ending : EndsBy Step (cause_of fault) (line (cause_of fault)) between ends.after hand tail
  pub tally_is : tally_in fault ≡ tally_of replies

-- the same ends with another content for the last
abbrev pub with_last : Ends → Content → Ends
with_last ends last = record ends { after = last }

-- a run that a fault ended, and of what the store has then nothing is said: some content would be what such a run leaves
abbrev pub StoppedSomehow : (Step : StepOf Content) (line : Cause → List ℕ) → Ends → RunFault → Type 0
StoppedSomehow Step line ends fault = (last : Content) × Stopped Step line (with_last ends last) fault

-- a run that a fault ended, and what a crash may leave then: what the items in `done` left, or that after the item in
-- progress. Nothing is said of what the store has then
pub record Crashed (Step : StepOf Content) (line : Cause → List ℕ) (ends : Ends) (fault : RunFault) (c : Content)
    : Type 0 where
  pub last : Content
  pub stopped : Stopped Step line (with_last ends last) fault
  pub leaves : (c ≡ stopped.between) ⊎ LeavesInProgress Step stopped.between stopped.hand c

-- one item was not acknowledged: lack of memory changes nothing; a store that fails may have made its change; a writer
-- that fails has accepted a front of the reply, and the change is made. Of `list` the first lines may be written
abbrev pub ItemBreaks : (Step : StepOf Content)
    → Cause → Content → Content → Option (List ℕ) → Option (List ℕ) → Item → Type 0
ItemBreaks Step Memory s t old new item =
    (t ≡ s) × ((front : List ℕ) × BeginsInProgress s (Some item) front × Appends old new front)
ItemBreaks Step (Device Store) s t old new item =
    ((t ≡ s) ⊎ LeavesInProgress Step s (Some item) t)
    × ((front : List ℕ) × BeginsInProgress s (Some item) front × Appends old new front)
ItemBreaks Step (Device Reader) s t old new item = ⊥
ItemBreaks Step (Device Writer) s t old new item =
    (tail : List ℕ) × (IsCutOff Step s (Some item) t tail ⊎ IsListCutOff s (Some item) t tail) × Appends old new tail
