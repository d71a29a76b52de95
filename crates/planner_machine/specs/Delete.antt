-- `ltp-delete`: an operator deletes an occurrence from the long-term plan.
use Rattle.std.specs.Prelude.{◌≡◌, ℕ, not, None, Some, option_map}
use Rattle.app_definitions.specs.declared.definitions.Definitions.{Definitions}
use Rattle.occurrences.specs.declared.key.Key.{Key}
use Rattle.occurrences.specs.declared.place.Deletion.{Deletion}
use Rattle.occurrences.specs.declared.place.Reason.TheVariants.{Operator}
use Rattle.occurrences.specs.declared.refusal.Refusal.{Refusal}
use Rattle.occurrences.specs.declared.refusal.Refusal.TheVariants.{NoPlan, NoSuchOccurrence}
use Rattle.occurrences.specs.declared.reply.Reply.{Reply}
use Rattle.occurrences.specs.declared.reply.Reply.TheVariants.{Numbered}
use Rattle.occurrences.specs.declared.row.Row.{Row}
use Rattle.planner_machine.specs.Content.{Content, Seat, Sets}
use Rattle.planner_machine.specs.Decision.{Decision}
use Rattle.planner_machine.specs.InForce.{PutsNone}
use Rattle.planner_machine.specs.Moves.{each, has_key, keep, or_else}
use Rattle.planner_machine.specs.Plans.{ChangesPlans}
use Rattle.planner_machine.specs.Fate.{DeletionFate}
use Rattle.planner_machine.specs.Meaning.{Meaning, means}

abbrev pub deleted_by_hand : Row → Deletion
deleted_by_hand row = record { row = row; reason = Operator }

-- the row of the key leaves the long-term plan for the deletions
abbrev pub delete_move : Key → Seat → Seat
delete_move key s = record s {
  ltp = keep (λ row. not (has_key key row)) s.ltp;
  deletions = or_else (option_map deleted_by_hand (keep (has_key key) s.ltp)) s.deletions;
}

-- the row of the long-term plan with that key
pub record IsPlanned (s : Sets) (key : Key) (serial : ℕ) : Type 0 where
  pub row : Row
  pub stands : s.ltp serial ≡ Some row
  pub keyed : row.key ≡ key

pub record Deletes (key : Key) (all : Definitions) (s : Sets) (reply : Reply) (s' : Sets) : Type 0 where
  pub serial : ℕ
  pub planned : IsPlanned s key serial
  pub replies : reply ≡ Numbered serial
  pub becomes : s' ≡ each (delete_move key) s

abbrev pub DeleteRefused : Key → Content → Refusal → Type 0
DeleteRefused key c NoPlan = c.sets.bounds ≡ None
DeleteRefused key c NoSuchOccurrence = (serial : ℕ) → IsPlanned c.sets key serial → ⊥
DeleteRefused key c _ = ⊥

abbrev pub ltp_delete : Key → Decision Content
ltp_delete key = record { Refuses = DeleteRefused key; Does = ChangesPlans (Deletes key) PutsNone }

abbrev pub delete_means : Key → Meaning
delete_means key = record (means (ltp_delete key)) { fate = λ all bounds. DeletionFate key }
