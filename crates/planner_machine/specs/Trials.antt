-- A trial compared with the statement that it tries.
use Rattle.std.specs.Prelude.{◌≡◌, ◌↔◌, ℕ, List, None}
use Rattle.planner_machine.specs.Content.{Content}
use Rattle.planner_machine.specs.Statement.{Answer, Change, Job, Steps, Trial}

-- a trial leaves the content as it was, refused or not
abbrev pub TrialLeaves : Type 0
TrialLeaves = (change : Change) (c c' : Content) (a : Answer) → Steps (Trial change) c a c' → c' ≡ c

-- the reply to a trial is the reply to its statement at that moment, under any job number that is not known
abbrev pub TrialAnswersAsStatement : Type 0
TrialAnswersAsStatement =
    (change : Change) (number : ℕ) (text : List ℕ) (c : Content) (a : Answer) → c.jobs number ≡ None
    → Steps (Trial change) c a c ↔ ((left : Content) × Steps (Job number text change) c a left)
