-- What an action on an occurrence of the current plan changes.
use Rattle.std.specs.Prelude.{◌≡◌, ◌≢◌, ◌↔◌, ℕ, [], ◌∷◌, List, Contains, Option, Some, None}
use Rattle.occurrences.specs.Place.{IsLive}
use Rattle.occurrences.specs.Status.{changed_status}
use Rattle.occurrences.specs.declared.place.CurrentRow.{CurrentRow}
use Rattle.occurrences.specs.declared.row.Row.{Row}
use Rattle.occurrences.specs.declared.status.Action.{Action}
use Rattle.occurrences.specs.declared.status.Action.TheVariants.{Start}
use Rattle.occurrences.specs.declared.status.Status.{Status}
use Rattle.occurrences.specs.declared.status.Status.TheVariants.{D}
use Rattle.external_dependencies.specs.Change.{Leads}
use Rattle.external_dependencies.specs.declared.change.PairChange.{PairChange}
use Rattle.external_dependencies.specs.declared.pairs.Pair.{Pair}
use Rattle.external_dependencies.specs.declared.rows.PlacedRow.{PlacedRow}
use Rattle.planner_machine.specs.Act.{IsLeastUncompleted, IsUncompleted, action_move}
use Rattle.planner_machine.specs.Content.{Content, Sets, IsOnlyAt}
use Rattle.planner_machine.specs.Moves.{each}
use Rattle.planner_machine.specs.Pairs.{ArePairs}
use Rattle.plan_store.specs.Changes.{LeadsOn, MovesNothing, pairs_after}
use Rattle.plan_store_pairs.specs.RowPairs.{IsRowPair}
use Rattle.plan_store.specs.declared.changes.Change.{Change}
use Rattle.plan_store.specs.declared.changes.DefinitionChange.TheVariants.{AsBefore}

-- the occurrence of the serial is live
abbrev pub LivesAt : Sets → ℕ → Type 0
LivesAt s serial = (p : PlacedRow) × IsOnlyAt s serial p × IsLive p.place

-- the predecessor that forbids the action on the occurrence of the serial: the least that isn't complete, which only a
-- start reads; or that there is none
abbrev pub WaitsFor : Content → Action → ℕ → Option ℕ → Type 0
WaitsFor c action serial (Some n) = (action ≡ Start) × IsLeastUncompleted c serial n
WaitsFor c action serial None = action ≡ Start → (n : ℕ) → IsUncompleted c serial n → ⊥

-- the row is in the current plan, is live, and gets that status by the action
pub record IsActedOn (c : Content) (action : Action) (changed : CurrentRow) : Type 0 where
  pub was : Status
  pub stands : c.sets.cp changed.row.serial ≡ Some (record { row = changed.row; status = was })
  pub live : was ≢ D
  pub allowed : changed_status was action ≡ Some changed.status

-- the row is in the current plan, and is live
abbrev pub IsLiveCurrent : Sets → Row → Type 0
IsLiveCurrent s row =
    (status : Status) × (s.cp row.serial ≡ Some (record { row = row; status = status })) × (status ≢ D)

-- the pairs after the action
abbrev pub ArePairsActed : Content → Action → CurrentRow → List Pair → Type 0
ArePairsActed c action changed pairs =
    ArePairs c.pairs c.in_force (each (action_move changed.row.key action) c.sets) pairs

-- the change leads from the pairs that the row had to those that it has where it is open
pub record LeadsToRowPairs (c : Content) (row : Row) (change : PairChange) : Type 0 where
  pub had : List Pair
  pub had_are : (pair : Pair) → Contains had pair ↔ (Contains c.pairs pair × (pair.successor ≡ row.serial))
  pub now : List Pair
  pub now_are : (pair : Pair) → Contains now pair ↔ IsRowPair c.in_force c.sets row pair
  pub leads : Leads had now change

-- one row of the current plan changes, the pairs follow, and all else stays
pub record ChangesStatus (c : Content) (action : Action) (changed : CurrentRow) (change : Change) : Type 0 where
  pub definitions : change.definitions ≡ AsBefore
  pub bounds : change.bounds ≡ None
  pub issued : change.issued ≡ None
  pub in_force : change.in_force ≡ None
  pub ltp : MovesNothing change.ltp
  pub gone : change.cp.gone.items ≡ []
  pub one_changed : change.cp.changed.items ≡ changed ∷ []
  pub put : change.cp.put.items ≡ []
  pub history : MovesNothing change.history
  pub deletions : MovesNothing change.deletions
  pub job : change.job ≡ None
  pub pairs : ArePairsActed c action changed (pairs_after change.pairs c.pairs)
  pub leads : LeadsOn c.pairs change.pairs
