-- Streams of statements: their replies, what they leave, and where each occurrence goes.
use Rattle.std.specs.Prelude.{◌≡◌, ◌⊎◌, ℕ, ◌+◌, ◌≤◌, List, [], ◌∷◌, All, Option, Some, None, Ok, slice_get}
use Rattle.occurrences.specs.declared.place.Place.{Place}
use Rattle.occurrences.specs.declared.place.Place.TheVariants.{LongTerm}
use Rattle.external_dependencies.specs.declared.rows.PlacedRow.{PlacedRow}
use Rattle.planner_machine.specs.declared.content.Draft.{Draft}
use Rattle.planner_machine.specs.declared.job.Job.{Job as KeptJob}
use Rattle.planner_machine.specs.declared.limits.TheConstants.{GREATEST_JOB}
use Rattle.planner_machine.specs.Content.{Content, IsOnlyAt}
use Rattle.planner_machine.specs.Fate.{Fate, Stays}
use Rattle.planner_machine.specs.Laws.{IsWellFormed}
use Rattle.planner_machine.specs.Moves.{numbered_row}
use Rattle.planner_machine.specs.Sound.{IsShown, IsSound}
use Rattle.planner_machine.specs.Statement.{AreRead, Answer, Change, DefineJob, Job, MakesDrafts, Statement, Steps}
use Rattle.planner_machine.specs.Statement.{fate_of, place_of_made}
use Rattle.app_definitions.specs.Definitions.{names_given}
use Rattle.app_definitions.specs.declared.kinds.Block.{Block}

-- each statement in turn: its reply, and the content after the last
abbrev pub Runs : List Statement → Content → List Answer → Content → Type 0
Runs [] c [] c' = c' ≡ c
Runs [] c (a ∷ answers) c' = ⊥
Runs (s ∷ stream) c [] c' = ⊥
Runs (s ∷ stream) c (a ∷ answers) c' = (next : Content) × Steps s c a next × Runs stream next answers c'

-- the values of a statement are such as a line and a block can give
abbrev pub IsStatement : Statement → Type 0
IsStatement (DefineJob number text kind given) = (1 ≤ number) × (number ≤ GREATEST_JOB)
    × ((block : Block) → AreRead kind given block → IsShown (names_given block))
IsStatement (Job number text change) = (1 ≤ number) × (number ≤ GREATEST_JOB) × IsWellFormed change
IsStatement statement = Unit {0}

-- the change that a statement makes: none where it is refused, where a kept job gives its reply, and where it changes
-- no rows
abbrev pub change_made : Option KeptJob → Change → Option Change
change_made None change = Some change
change_made (Some job) change = None

abbrev pub acting : Statement → Content → Answer → Option Change
acting (Job number text change) c (Ok reply) = change_made (c.jobs number) change
acting statement c answer = None

-- the fate at a step, what it makes, and where
abbrev pub fate_at : Option Change → Content → Fate
fate_at None c = Stays
fate_at (Some change) c = fate_of change c.definitions c.sets.bounds

abbrev pub MakesAt : Option Change → Content → List Draft → Type 0
MakesAt None c drafts = drafts ≡ []
MakesAt (Some change) c drafts = MakesDrafts change c.definitions c.sets drafts

abbrev pub place_at : Option Change → Place
place_at None = LongTerm
place_at (Some change) = place_of_made change

-- an occurrence by itself goes on from fate to fate
abbrev pub Goes : (stream : List Statement) (answers : List Answer) (c c' : Content) → Runs stream c answers c' → Fate
Goes [] [] c c' run p q = q ≡ p
Goes [] (a ∷ answers) c c' run p q = ⊥
Goes (s ∷ stream) [] c c' run p q = ⊥
Goes (s ∷ stream) (a ∷ answers) c c' run p q = (o : PlacedRow) × fate_at (acting s c a) c p o
    × Goes stream answers run.0 c' run.2 o q

-- the serial is that of a draft which a step makes, and its row stands where the step makes it
pub record IsBorn (s : Statement) (a : Answer) (c : Content) (serial : ℕ) (o : PlacedRow) : Type 0 where
  pub drafts : List Draft
  pub makes : MakesAt (acting s c a) c drafts
  pub place_in_list : ℕ
  pub draft : Draft
  pub there : slice_get drafts place_in_list ≡ Some draft
  pub numbered : serial ≡ c.sets.issued + 1 + place_in_list
  pub is : o ≡ record { row = numbered_row serial draft; place = place_at (acting s c a) }

-- an occurrence that is made on the way: it is born at a step, and goes on from there
abbrev pub Lives : (stream : List Statement) (answers : List Answer) (c c' : Content) → Runs stream c answers c' → ℕ
    → PlacedRow → Type 0
Lives [] answers c c' run serial q = ⊥
Lives (s ∷ stream) [] c c' run serial q = ⊥
Lives (s ∷ stream) (a ∷ answers) c c' run serial q =
    ((o : PlacedRow) × IsBorn s a c serial o × Goes stream answers run.0 c' run.2 o q)
    ⊎ Lives stream answers run.0 c' run.2 serial q

-- a stream has one list of replies, and leaves one content
abbrev pub RunsOneWay : Type 0
RunsOneWay = (stream : List Statement) (answers answers' : List Answer) (c c' c'' : Content) → IsSound c
    → All IsStatement stream
    → Runs stream c answers c' → Runs stream c answers' c'' → (answers ≡ answers') × (c' ≡ c'')

-- what was sound is sound after it
abbrev pub RunsSound : Type 0
RunsSound = (stream : List Statement) (answers : List Answer) (c c' : Content) → IsSound c → All IsStatement stream
    → Runs stream c answers c' → IsSound c'

-- after it each serial issued is where its fates put it: from where it was before, or from where it was made on the
-- way
abbrev pub RunsByFate : Type 0
RunsByFate = (stream : List Statement) (answers : List Answer) (c c' : Content) → IsSound c → All IsStatement stream
    → (run : Runs stream c answers c')
    → (serial : ℕ) → 1 ≤ serial → serial ≤ c'.sets.issued
    → (q : PlacedRow) × IsOnlyAt c'.sets serial q
    × (((p : PlacedRow) × IsOnlyAt c.sets serial p × Goes stream answers c c' run p q)
    ⊎ Lives stream answers c c' run serial q)
