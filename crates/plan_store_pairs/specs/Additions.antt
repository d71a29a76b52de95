-- An occurrence that is added by hand, to the long-term plan or waiting to the current plan.
use Rattle.std.specs.Prelude.{◌≡◌, ◌≢◌, ◌⊎◌, ◌↔◌, ℕ, ◌+◌, ◌<◌, ◌≤◌, List, [], ◌∷◌, Contains, Option, Some, None, Result}
use Rattle.std.specs.Prelude.{Ok, Err}
use Rattle.occurrences.specs.declared.key.Key.{Key}
use Rattle.occurrences.specs.declared.place.CurrentRow.{CurrentRow}
use Rattle.occurrences.specs.declared.place.Place.{Place}
use Rattle.occurrences.specs.declared.place.Place.TheVariants.{LongTerm as InLongTerm, Current as InCurrent}
use Rattle.occurrences.specs.declared.refusal.Refusal.{Refusal}
use Rattle.occurrences.specs.declared.reply.Reply.TheVariants.{Numbered}
use Rattle.occurrences.specs.declared.row.Row.{Row}
use Rattle.occurrences.specs.declared.serial.TheConstants.{GREATEST_SERIAL}
use Rattle.occurrences.specs.declared.status.Status.TheVariants.{W}
use Rattle.external_dependencies.specs.declared.pairs.Pair.{Pair}
use Rattle.external_dependencies.specs.Nearest.{IsCandidate}
use Rattle.external_dependencies.specs.declared.change.PairChange.{PairChange}
use Rattle.external_dependencies.specs.declared.live.Arrival.{Arrival}
use Rattle.external_dependencies.specs.declared.rows.PlacedRow.{PlacedRow}
use Rattle.planner_machine.specs.Add.{AddRefused}
use Rattle.planner_machine.specs.Content.{Content, Sets, IsOnlyAt}
use Rattle.planner_machine.specs.DailyPlan.{waiting}
use Rattle.planner_machine.specs.Decision.{IsLeastRefusal}
use Rattle.planner_machine.specs.Drafts.{added}
use Rattle.planner_machine.specs.Moves.{numbered_row, with_made}
use Rattle.planner_machine.specs.Pairs.{ArePairs, LiveAt, pair_of}
use Rattle.planner_machine.specs.Plans.{planned}
use Rattle.planner_machine.specs.declared.limits.TheConstants.{MOST_PLANNED_ROWS}
use Rattle.plan_store.specs.Changes.{LeadsOn, MovesNothing, pairs_after}
use Rattle.plan_store.specs.declared.changes.Change.{Change}
use Rattle.plan_store.specs.declared.changes.DefinitionChange.TheVariants.{AsBefore}
use Rattle.plan_store.specs.declared.changes.Verdict.{Verdict}
use Rattle.plan_store.specs.declared.changes.Verdict.TheVariants.{Done, Refused}
use Rattle.plan_store.specs.Views.{IsOutsideDeletions}
use Rattle.plan_store_pairs.specs.Gathering.{IsReached}
use Rattle.plan_store_pairs.specs.RowPairs.{IsRowPair}
use Rattle.plan_store_pairs.specs.declared.additions.Plan.{Plan}
use Rattle.plan_store_pairs.specs.declared.gathering.Reached.{Reached}
use Rattle.plan_store_pairs.specs.declared.additions.Plan.TheVariants.{LongTerm, Current}

-- the place of an occurrence that is added to the plan
abbrev pub place_in : Plan → Place
place_in LongTerm = InLongTerm
place_in Current = InCurrent W

-- the plans have room for one more row, and a serial is left
pub record HasRoomForOne (s : Sets) : Type 0 where
  pub rows : planned s < MOST_PLANNED_ROWS
  pub issued : s.issued < GREATEST_SERIAL

-- the next serial, or that there is no room
abbrev pub IsNewSerial : Sets → Option ℕ → Type 0
IsNewSerial s (Some serial) = HasRoomForOne s × (serial ≡ s.issued + 1)
IsNewSerial s None = HasRoomForOne s → ⊥

-- nothing refuses the addition of the row's key, and it is the row that is made of it
pub record IsAddable (c : Content) (plan : Plan) (row : Row) : Type 0 where
  pub unrefused : (q : Refusal) → AddRefused (place_in plan) row.key c q → ⊥
  pub numbered : row ≡ numbered_row (c.sets.issued + 1) (added row.key)

-- the row that is added under the key, or the least refusal that holds
abbrev pub IsNewRow : Content → Plan → Key → Result Row Refusal → Type 0
IsNewRow c plan key (Ok row) = IsAddable c plan row × (row.key ≡ key)
IsNewRow c plan key (Err refusal) = IsLeastRefusal (AddRefused (place_in plan) key c) refusal

-- the row alone is put into the plan
abbrev pub IsPutIn : Plan → Row → List Row → List CurrentRow → Type 0
IsPutIn LongTerm row planned current = (planned ≡ row ∷ []) × (current ≡ [])
IsPutIn Current row planned current = (planned ≡ []) × (current ≡ waiting row ∷ [])

-- the row comes before the occurrence: nothing that may precede the occurrence in the row's application arrives later
pub record IsOvertaken (c : Content) (row : Row) (x : Reached) : Type 0 where
  pub reached : IsReached c row x
  pub latest : (other : Arrival) → LiveAt c.sets other
      → IsCandidate x.placed.row.key row.key.app x.within other → other.ia ≤ row.key.ia

-- a pair of the serial with a predecessor of the application
pub record IsPairIn (c : Content) (serial : ℕ) (app : List ℕ) (pair : Pair) : Type 0 where
  pub stood : Contains c.pairs pair
  pub successor : pair.successor ≡ serial
  pub placed : PlacedRow
  pub stands : IsOnlyAt c.sets pair.predecessor placed
  pub of_app : placed.row.key.app ≡ app

-- where the row comes before the occurrence, the pair that this had in the row's application
abbrev pub IsLeftPair : Content → Row → Reached → Pair → Type 0
IsLeftPair c row x pair = IsOvertaken c row x × IsPairIn c x.placed.row.serial row.key.app pair

-- and the one that it gets
abbrev pub IsTurnedPair : Content → Row → Reached → Pair → Type 0
IsTurnedPair c row x pair = IsOvertaken c row x × (pair ≡ pair_of x.placed.row.serial row.serial)

-- the predecessor of the application that one of the pairs of the serial has, or that none has one
abbrev pub IsPredecessorIn : List Pair → Sets → ℕ → List ℕ → Option PlacedRow → Type 0
IsPredecessorIn pairs s serial app (Some p) =
    Contains pairs (pair_of serial p.row.serial) × IsOnlyAt s p.row.serial p × (p.row.key.app ≡ app)
IsPredecessorIn pairs s serial app None = (pair : Pair) (p : PlacedRow) → Contains pairs pair
    → pair.successor ≡ serial → IsOnlyAt s pair.predecessor p → IsOutsideDeletions p.place → p.row.key.app ≢ app

-- the row is added: its own pairs are added, and those of what it comes before; and the pairs that these had go
pub record TurnsTo (c : Content) (row : Row) (change : PairChange) : Type 0 where
  pub removed : (pair : Pair) → Contains change.removed pair ↔ ((x : Reached) × IsLeftPair c row x pair)
  pub added : (pair : Pair) → Contains change.added pair
      ↔ (IsRowPair c.in_force c.sets row pair ⊎ ((x : Reached) × IsTurnedPair c row x pair))

-- the pairs where the row is added
abbrev pub ArePairsWith : Content → Plan → Row → List Pair → Type 0
ArePairsWith c plan row = ArePairs c.pairs c.in_force (with_made (place_in plan) (added row.key ∷ []) c.sets)

-- the row comes to the plan, its serial is issued, the pairs follow, and all else stays
pub record IsAdditionOf (c : Content) (plan : Plan) (row : Row) (change : Change) : Type 0 where
  pub definitions : change.definitions ≡ AsBefore
  pub bounds : change.bounds ≡ None
  pub issued : change.issued ≡ Some (c.sets.issued + 1)
  pub in_force : change.in_force ≡ None
  pub none_planned_gone : change.ltp.gone.items ≡ []
  pub none_planned_changed : change.ltp.changed.items ≡ []
  pub none_current_gone : change.cp.gone.items ≡ []
  pub none_current_changed : change.cp.changed.items ≡ []
  pub put : IsPutIn plan row change.ltp.put.items change.cp.put.items
  pub history : MovesNothing change.history
  pub deletions : MovesNothing change.deletions
  pub job : change.job ≡ None
  pub pairs : ArePairsWith c plan row (pairs_after change.pairs c.pairs)
  pub leads : LeadsOn c.pairs change.pairs

-- the statement is done so, and its reply has the serial
abbrev pub AddsRow : Content → Plan → Row → Verdict → Type 0
AddsRow c plan row (Done change reply) = IsAdditionOf c plan row change × (reply ≡ Numbered row.serial)
AddsRow c plan row (Refused refusal) = ⊥
