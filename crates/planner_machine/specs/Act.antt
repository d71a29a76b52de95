-- `cp-start`, `cp-complete`, `cp-fail`, `cp-reset`, `cp-delete`: the status of an occurrence of the current plan
-- changes.
use Rattle.std.specs.Prelude.{◌≡◌, ◌≢◌, ℕ, ◌≤◌, Contains, None, Some, option_map, if◌then◌else◌, unwrap_or}
use Rattle.app_definitions.specs.declared.definitions.Definitions.{Definitions}
use Rattle.occurrences.specs.Status.{changed_status}
use Rattle.occurrences.specs.declared.key.Key.{Key}
use Rattle.occurrences.specs.declared.refusal.Refusal.{Refusal}
use Rattle.occurrences.specs.declared.refusal.Refusal.TheVariants.{NoPlan, NoSuchOccurrence, PredecessorUncompleted}
use Rattle.occurrences.specs.declared.refusal.Refusal.TheVariants.{StatusForbids}
use Rattle.occurrences.specs.declared.reply.Reply.{Reply}
use Rattle.occurrences.specs.declared.reply.Reply.TheVariants.{Changed}
use Rattle.occurrences.specs.declared.row.Row.{Row}
use Rattle.occurrences.specs.declared.status.Action.{Action}
use Rattle.occurrences.specs.declared.status.Action.TheVariants.{Start}
use Rattle.occurrences.specs.declared.status.Status.{Status}
use Rattle.occurrences.specs.declared.status.Status.TheVariants.{D}
use Rattle.occurrences.specs.declared.place.CurrentRow.{CurrentRow}
use Rattle.planner_machine.specs.Content.{Content, Seat, Sets}
use Rattle.planner_machine.specs.Decision.{Decision}
use Rattle.planner_machine.specs.InForce.{PutsNone}
use Rattle.planner_machine.specs.Moves.{each, has_key}
use Rattle.planner_machine.specs.Pairs.{IsCompleteAt, pair_of}
use Rattle.planner_machine.specs.Plans.{ChangesPlans}
use Rattle.planner_machine.specs.Fate.{ActionFate}
use Rattle.planner_machine.specs.Meaning.{Meaning, means}

-- the live row of the current plan with that key, and its status
pub record IsCurrent (s : Sets) (key : Key) (serial : ℕ) (status : Status) : Type 0 where
  pub row : Row
  pub stands : s.cp serial ≡ Some (record { row = row; status = status })
  pub keyed : row.key ≡ key
  pub live : status ≢ D

-- the status after an action that it allows, else as it was
abbrev pub acted_status : Action → Status → Status
acted_status action status = unwrap_or (changed_status status action) status

-- the status of a row of the current plan after an action on a key
abbrev pub acted : Key → Action → Row → Status → Status
acted key action row status = if has_key key row then acted_status action status else status

abbrev pub action_move : Key → Action → Seat → Seat
action_move key action s =
    record s {
      cp = option_map
          (λ (current : CurrentRow). record current { status = acted key action current.row current.status }) s.cp;
    }

pub record Acts (key : Key) (action : Action) (all : Definitions) (s : Sets) (reply : Reply) (s' : Sets) : Type 0 where
  pub serial : ℕ
  pub status : Status
  pub new_status : Status
  pub there : IsCurrent s key serial status
  pub allowed : changed_status status action ≡ Some new_status
  pub replies : reply ≡ Changed serial new_status
  pub becomes : s' ≡ each (action_move key action) s

-- a predecessor in a pair of the successor that is not complete
abbrev pub IsUncompleted : Content → ℕ → ℕ → Type 0
IsUncompleted c successor n = Contains c.pairs (pair_of successor n) × (IsCompleteAt c.sets n → ⊥)

-- the least of them
abbrev pub IsLeastUncompleted : Content → ℕ → ℕ → Type 0
IsLeastUncompleted c successor n = IsUncompleted c successor n × ((m : ℕ) → IsUncompleted c successor m → n ≤ m)

-- only a start reads the predecessors
abbrev pub ActionRefused : Key → Action → Content → Refusal → Type 0
ActionRefused key action c NoPlan = c.sets.bounds ≡ None
ActionRefused key action c NoSuchOccurrence = (serial : ℕ) (status : Status) → IsCurrent c.sets key serial status → ⊥
ActionRefused key action c StatusForbids = (serial : ℕ) × (status : Status) × IsCurrent c.sets key serial status
    × (changed_status status action ≡ None)
ActionRefused key action c (PredecessorUncompleted n) =
    (action ≡ Start) × ((serial : ℕ) × (status : Status) × IsCurrent c.sets key serial status
    × IsLeastUncompleted c serial n)
ActionRefused key action c _ = ⊥

abbrev pub cp_action : Key → Action → Decision Content
cp_action key action = record { Refuses = ActionRefused key action; Does = ChangesPlans (Acts key action) PutsNone }

abbrev pub act_means : Key → Action → Meaning
act_means key action = record (means (cp_action key action)) { fate = λ all bounds. ActionFate key action }
