-- Laws of the machine, as statements: the contracts of this crate's functions say that they hold.
use Rattle.std.specs.Prelude.{◌≡◌, ◌↔◌, ℕ, ◌+◌, List, length, Contains, Ok, Option, Result, Some, slice_get}
use Rattle.occurrences.specs.declared.place.Place.{Place}
use Rattle.occurrences.specs.declared.refusal.Refusal.{Refusal}
use Rattle.occurrences.specs.declared.reply.Reply.{Reply}
use Rattle.external_dependencies.specs.declared.rows.PlacedRow.{PlacedRow}
use Rattle.external_dependencies.specs.Loop.{OnRing}
use Rattle.external_dependencies.specs.declared.pairs.Pair.{Pair}
use Rattle.app_definitions.specs.declared.definitions.Definitions.{Definitions}
use Rattle.planner_machine.specs.declared.content.Bounds.{Bounds}
use Rattle.planner_machine.specs.declared.content.Draft.{Draft}
use Rattle.planner_machine.specs.declared.counts.Count.{Count}
use Rattle.planner_machine.specs.Content.{Content, Sets, IsOnlyAt}
use Rattle.planner_machine.specs.Decision.{Decides, DecidesOne, KeepsSound}
use Rattle.planner_machine.specs.DailyPlan.{daily}
use Rattle.planner_machine.specs.Fate.{DailyFate, Fate, IsGenerated}
use Rattle.planner_machine.specs.Pairs.{IsClosedAt, IsCompleteAt, pair_of}
use Rattle.planner_machine.specs.Moves.{numbered_row}
use Rattle.planner_machine.specs.NewEnd.{IsNewEnd}
use Rattle.planner_machine.specs.Sound.{IsSound}
use Rattle.planner_machine.specs.Statement.{Change, DailyExtend, DailyExtendBy, MakesDrafts, decision_of, fate_of}
use Rattle.planner_machine.specs.Statement.{meaning_of, place_of_made}

-- each serial that was in some place is where its fate puts it; and the new serials, from issued + 1 on, are those of
-- the drafts in their order, each with its row in the place where it is made
pub record Follows (place : Place) (fate : Fate) (drafts : List Draft) (s s' : Sets) : Type 0 where
  pub issues : s'.issued ≡ s.issued + length drafts
  pub old : (serial : ℕ) (p : PlacedRow) → IsOnlyAt s serial p → (q : PlacedRow) × fate p q × IsOnlyAt s' serial q
  pub new : (k : ℕ) (draft : Draft) → slice_get drafts k ≡ Some draft
      → IsOnlyAt s' (s.issued + 1 + k) (record { row = numbered_row (s.issued + 1 + k) draft; place = place })

-- an accepted statement makes what its definition says, and leaves each occurrence where its fate puts it
abbrev pub FollowsFate : Change → Type 0
FollowsFate change =
    (c : Content) (reply : Reply) (c' : Content) → IsSound c → Decides (decision_of change) c (Ok reply) c'
    → (drafts : List Draft) × MakesDrafts change c.definitions c.sets drafts
    × Follows (place_of_made change) (fate_of change c.definitions c.sets.bounds) drafts c.sets c'.sets

-- a statement has one reply, and leaves one content
abbrev pub AnswersOnce : Change → Type 0
AnswersOnce change = DecidesOne IsSound (decision_of change)

-- the values of a statement are such as a line and a block can give
abbrev pub IsWellFormed : Change → Type 0
IsWellFormed change = (meaning_of change).fits

-- sound content stays sound
abbrev pub StaysSound : Change → Type 0
StaysSound change = KeepsSound IsSound (decision_of change)

-- under every fate an occurrence keeps its key and its serial, and stays generated or added by hand
pub record IsItself (p q : PlacedRow) : Type 0 where
  pub key : q.row.key ≡ p.row.key
  pub serial : q.row.serial ≡ p.row.serial
  pub generated : IsGenerated q.row.origin ↔ IsGenerated p.row.origin

abbrev pub KeepsItself : Change → Type 0
KeepsItself change = (all : Definitions) (bounds : Option Bounds) (p q : PlacedRow) → fate_of change all bounds p q
    → IsItself p q

-- a daily plan on whole sets is the fates of all rows together: what is anywhere after it is what was under that
-- serial, by its fate
abbrev pub DailyIsFates : Type 0
DailyIsFates =
    (t : ℕ) (c : Content) → IsSound c → (serial : ℕ) (q : PlacedRow)
    → IsOnlyAt (daily t c.sets) serial q ↔ ((p : PlacedRow) × IsOnlyAt c.sets serial p × DailyFate t p q)

-- a daily plan by days is the daily plan to the new end that they give: it has that reply, and leaves that content
abbrev pub DailyByIsToEnd : Type 0
DailyByIsToEnd =
    (n : ℕ) (count : Count) (c : Content) (b : Bounds) (t : ℕ) → c.sets.bounds ≡ Some b
    → IsNewEnd c.definitions b.plan_end n count t → (a : Result Reply Refusal) (c' : Content)
    → Decides (decision_of (DailyExtendBy n count)) c a c' ↔ Decides (decision_of (DailyExtend t)) c a c'

-- an accepted statement leaves the pairs as they are
abbrev pub KeepsPairs : Change → Type 0
KeepsPairs change = (c : Content) (reply : Reply) (c' : Content) → IsSound c
    → Decides (decision_of change) c (Ok reply) c' → c'.pairs ≡ c.pairs

-- each occurrence that is started, in error, complete or in history has only predecessors that are complete
abbrev pub PredecessorsAreComplete : Type 0
PredecessorsAreComplete =
    (c : Content) → IsSound c → (pair : Pair) → Contains c.pairs pair → IsClosedAt c.sets pair.successor
    → IsCompleteAt c.sets pair.predecessor

-- the stored pairs have no loop
abbrev pub PairsHaveNoLoop : Type 0
PairsHaveNoLoop =
    (c : Content) → IsSound c → (serial : ℕ)
    → OnRing (λ successor predecessor. Contains c.pairs (pair_of successor predecessor)) serial → ⊥
