-- Each statement has exactly one answer.
use Rattle.std.specs.Prelude.{◌≡◌, List, All, None}
use Rattle.external_dependencies.specs.Link.{AreNamedOnce}
use Rattle.planner_machine.specs.Content.{Content}
use Rattle.planner_machine.specs.Decision.{Decides}
use Rattle.planner_machine.specs.Sound.{IsSound}
use Rattle.planner_machine.specs.Statement.{Answer, Change, ListLinks, Statement, Steps, decision_of}
use Rattle.planner_machine.specs.Stream.{IsStatement, Runs}

-- a content as a store keeps it: it is sound, and no list in force names a predecessor twice
pub record IsKept (c : Content) : Type 0 where
  pub sound : IsSound c
  pub once : AreNamedOnce c.in_force

-- there is an answer with what is left after it, and no other
pub record HasOne (Gives : Answer → Content → Type 0) : Type 0 where
  pub answer : Answer
  pub left : Content
  pub gives : Gives answer left
  pub only : (a : Answer) (c : Content) → Gives a c → (a ≡ answer) × (c ≡ left)

-- a statement that changes something has exactly one answer, and leaves exactly one content
abbrev pub HasOneAnswer : Change → Type 0
HasOneAnswer change = (c : Content) → IsKept c → HasOne (Decides (decision_of change) c)

-- so has each statement of a stream
abbrev pub HasOneStep : Statement → Type 0
HasOneStep s = (c : Content) → IsKept c → HasOne (Steps s c)

-- what a store keeps stays so, whatever the answer
abbrev pub StaysKept : Statement → Type 0
StaysKept s = (c : Content) (a : Answer) (c' : Content) → IsKept c → Steps s c a c' → IsKept c'

-- a stream is answered to its end in one way, and leaves one content, which a store may keep
pub record HasOneRun (stream : List Statement) (c : Content) : Type 0 where
  pub answers : List Answer
  pub left : Content
  pub runs : Runs stream c answers left
  pub kept : IsKept left
  pub only : (other : List Answer) (c' : Content) → Runs stream c other c' → (other ≡ answers) × (c' ≡ left)

-- so is each stream of statements whose values are such as a line and a block can give
abbrev pub StreamsHaveOneRun : Type 0
StreamsHaveOneRun =
    (stream : List Statement) (c : Content) → All IsStatement stream → IsKept c → HasOneRun stream c

-- some content is sound, and `list links` has no answer on it
abbrev pub LacksAnswer : Type 0
LacksAnswer = (c : Content) × IsSound c × ((a : Answer) (c' : Content) → Steps (ListLinks None) c a c' → ⊥)
