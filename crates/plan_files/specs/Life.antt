-- The life of a plan: what runs make of it, each on what the one before it left.
use Rattle.std.specs.Prelude.{◌≡◌, ℕ, ◌≤◌, List, [], ◌∷◌, All, flat_map}
use Rattle.external_dependencies.specs.declared.rows.PlacedRow.{PlacedRow}
use Rattle.planner_machine.specs.Content.{Content, IsOnlyAt, nothing_known}
use Rattle.planner_machine.specs.Sound.{IsSound}
use Rattle.planner_machine.specs.Statement.{Answer, Statement}
use Rattle.planner_machine.specs.Stream.{IsStatement, Lives, Runs}

-- the statements lead from one content to the other: those that one run acknowledged, or these and the one in progress
pub record Leads (stream : List Statement) (c c' : Content) : Type 0 where
  pub answers : List Answer
  pub well_formed : All IsStatement stream
  pub run : Runs stream c answers c'

-- so many runs, each of which led on by these statements, the first from c
abbrev pub AreRuns : List (List Statement) → Content → Content → Type 0
AreRuns [] c c' = c' ≡ c
AreRuns (stream ∷ streams) c c' = (between : Content) × Leads stream c between × AreRuns streams between c'

-- the statements of all runs, in order
abbrev pub all_of : List (List Statement) → List Statement
all_of streams = flat_map (λ stream. stream) streams

-- after the whole life of a plan: its content is sound, and each serial ever issued is in exactly one place, where its
-- fates put it since it was made
pub record IsLived (streams : List (List Statement)) (c : Content) : Type 0 where
  pub leads : Leads (all_of streams) nothing_known c
  pub sound : IsSound c
  pub placed : (serial : ℕ) → 1 ≤ serial → serial ≤ c.sets.issued
      → (q : PlacedRow) × IsOnlyAt c.sets serial q
      × Lives (all_of streams) leads.answers nothing_known c leads.run serial q

-- however many runs there were, and however each ended
abbrev pub LifeLeads : Type 0
LifeLeads = (streams : List (List Statement)) (c : Content) → AreRuns streams nothing_known c → IsLived streams c
