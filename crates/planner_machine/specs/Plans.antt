-- What the statements on the plans have in common.
use Rattle.std.specs.Prelude.{◌≡◌, ◌⊎◌, ℕ, ◌+◌, ◌<◌, List, Some}
use Rattle.app_definition_records.specs.declared.applications.Application.{Application}
use Rattle.app_definitions.specs.declared.definitions.Definitions.{Definitions}
use Rattle.occurrences.specs.declared.reply.Reply.{Reply}
use Rattle.occurrences.specs.declared.serial.TheConstants.{GREATEST_SERIAL}
use Rattle.external_dependencies.specs.Loop.{IsLeastOnLoop}
use Rattle.external_dependencies.specs.declared.links.Link.{Link}
use Rattle.planner_machine.specs.declared.limits.TheConstants.{MOST_PLANNED_ROWS}
use Rattle.planner_machine.specs.Content.{Content, Sets}
use Rattle.planner_machine.specs.InForce.{PutsLists}
use Rattle.planner_machine.specs.Moves.{size}
use Rattle.app_occurrences.specs.Active.{IsActive, IsLeastName}
use Rattle.planner_machine.specs.Pairs.{ArePairs}

-- a statement's reply, and what it makes of the rows, by the definitions
abbrev pub MakesOfRows : Type 1
MakesOfRows = Definitions → Sets → Reply → Sets → Type 0

-- a statement makes this of the rows and puts these lists into force; the pairs follow from both, and the definitions
-- and the kept jobs stay
pub record ChangesPlans (Makes : MakesOfRows) (Puts : PutsLists) (c : Content) (reply : Reply)
    (c' : Content) : Type 0 where
  pub rows : Makes c.definitions c.sets reply c'.sets
  pub lists : Puts c.definitions c.in_force c'.in_force
  pub pairs : ArePairs c.pairs c'.in_force c'.sets c'.pairs
  pub definitions : c'.definitions ≡ c.definitions
  pub jobs : c'.jobs ≡ c.jobs

-- of the applications that pass the test, the least in byte order
abbrev pub IsLeastApp : (List ℕ → Type 0) → List ℕ → Type 0
IsLeastApp Holds app = IsLeastName Holds (Some app)

-- the application is defined and active
abbrev pub IsPlannedApp : Definitions → List ℕ → Type 0
IsPlannedApp all app = (a : Application) × IsActive all app a

-- the lists that would be in force have a loop, on which this is the least application
abbrev pub WouldLoop : PutsLists → Content → List ℕ → Type 0
WouldLoop Puts c app = (lists : List Link) × Puts c.definitions c.in_force lists × IsLeastOnLoop lists (Some app)

-- how many rows the long-term plan and the current plan have together
abbrev pub planned : Sets → ℕ
planned s = size s.ltp s.issued + size s.cp s.issued

-- too many rows in both plans, or serials past the greatest
abbrev pub HoldTooMany : Sets → Type 0
HoldTooMany s = (MOST_PLANNED_ROWS < planned s) ⊎ (GREATEST_SERIAL < s.issued)

-- the sets would hold too many
abbrev pub WouldHoldTooMany : MakesOfRows → Content → Type 0
WouldHoldTooMany Makes c = (reply : Reply) × (s : Sets) × Makes c.definitions c.sets reply s × HoldTooMany s
