-- For private contracts only: what a change may reach, in order.
use Rattle.std.specs.Prelude.{◌≡◌, ◌↔◌, ℕ, List, Contains}
use Rattle.std.specs.Cmp.Lexicographic.{slice_cmp}
use Rattle.std.specs.Ordering.{nat_cmp}
use Rattle.occurrences.specs.declared.row.Row.{Row}
use Rattle.external_dependencies.specs.Nearest.{arrival_of}
use Rattle.external_dependencies.specs.declared.live.Arrival.{Arrival}
use Rattle.external_dependencies.specs.declared.reach.Reach.{Reach}
use Rattle.external_dependencies.specs.declared.touch.Touch.{Touch}
use Rattle.external_dependencies.specs.Rising.{IsRising}
use Rattle.external_dependencies.specs.Touch.{IsAnew, IsMoved}

-- an arrival of a row that came or went
abbrev pub HasMoved : Touch → Arrival → Type 0
HasMoved touch a = (row : Row) × IsMoved touch row × (arrival_of row ≡ a)

-- what the change touches, in order
pub record IsReachOf (touch : Touch) (reach : Reach) : Type 0 where
  pub serials_rise : IsRising nat_cmp reach.serials.items
  pub serials : (serial : ℕ) → Contains reach.serials.items serial ↔ IsAnew touch serial
  pub lists_rise : IsRising (slice_cmp nat_cmp) reach.lists.items
  pub lists : (app : List ℕ) → Contains reach.lists.items app ↔ Contains touch.lists.items app
  pub moved : (a : Arrival) → Contains reach.moved a ↔ HasMoved touch a
