-- A daily plan, on whole sets.
use Rattle.std.specs.Prelude.{◌≡◌, ℕ, Bool, true, false, not, Option, option_map, nat_lt}
use Rattle.occurrences.specs.declared.place.Deletion.{Deletion}
use Rattle.occurrences.specs.declared.place.Reason.TheVariants.{Plan}
use Rattle.occurrences.specs.declared.reply.Reply.{Reply}
use Rattle.occurrences.specs.declared.reply.Reply.TheVariants.{Moved}
use Rattle.occurrences.specs.declared.row.Row.{Row}
use Rattle.occurrences.specs.declared.status.Status.{Status}
use Rattle.occurrences.specs.declared.status.Status.TheVariants.{W, S, E, C, D}
use Rattle.planner_machine.specs.declared.content.Bounds.{Bounds}
use Rattle.occurrences.specs.declared.place.CurrentRow.{CurrentRow}
use Rattle.planner_machine.specs.Content.{Seat, Sets}
use Rattle.planner_machine.specs.Moves.{each, keep, or_else, size}

abbrev pub arrives_before : ℕ → Row → Bool
arrives_before t row = nat_lt row.key.ia t

abbrev pub arrives_later : ℕ → Row → Bool
arrives_later t row = not (arrives_before t row)

abbrev pub is_uncompleted : Status → Bool
is_uncompleted W = true
is_uncompleted S = true
is_uncompleted E = true
is_uncompleted C = false
is_uncompleted D = false

abbrev pub is_completed : Status → Bool
is_completed C = true
is_completed W = false
is_completed S = false
is_completed E = false
is_completed D = false

abbrev pub is_deleted : Status → Bool
is_deleted D = true
is_deleted W = false
is_deleted S = false
is_deleted E = false
is_deleted C = false

abbrev pub waiting : Row → CurrentRow
waiting row = record { row = row; status = W }

abbrev pub deleted_in_plan : CurrentRow → Deletion
deleted_in_plan current = record { row = current.row; reason = Plan }

-- the rows of the long-term plan that arrive before t; the uncompleted, the completed and the deleted rows of the
-- current plan
abbrev pub moved : ℕ → Option Row → Option Row
moved t = keep (arrives_before t)

abbrev pub carried : Option CurrentRow → Option CurrentRow
carried = keep (λ current. is_uncompleted current.status)

abbrev pub completed : Option CurrentRow → Option CurrentRow
completed = keep (λ current. is_completed current.status)

abbrev pub deleted : Option CurrentRow → Option CurrentRow
deleted = keep (λ current. is_deleted current.status)

-- the long-term plan keeps what arrives at t or later. The current plan keeps what is uncompleted, as it is, and
-- gains, waiting, what arrives before t. History gains what is completed, and the deletions gain what is deleted, for
-- the reason of the plan
abbrev pub daily_move : ℕ → Seat → Seat
daily_move t s = record {
  ltp = keep (arrives_later t) s.ltp;
  cp = or_else (carried s.cp) (option_map waiting (moved t s.ltp));
  history = or_else (option_map (λ current. current.row) (completed s.cp)) s.history;
  deletions = or_else (option_map deleted_in_plan (deleted s.cp)) s.deletions;
}

-- the plan end becomes t
abbrev pub with_plan_end : ℕ → Sets → Sets
with_plan_end t s = record s { bounds = option_map (λ (b : Bounds). record b { plan_end = t }) s.bounds }

abbrev pub daily : ℕ → Sets → Sets
daily t s = with_plan_end t (each (daily_move t) s)

-- how many rows move, are carried, go to history and go to the deletions
abbrev pub daily_reply : ℕ → Sets → Reply
daily_reply t s = Moved
    (size (λ serial. moved t (s.ltp serial)) s.issued)
    (size (λ serial. carried (s.cp serial)) s.issued)
    (size (λ serial. completed (s.cp serial)) s.issued)
    (size (λ serial. deleted (s.cp serial)) s.issued)

-- a daily plan to t
abbrev pub PlansDaily : ℕ → Sets → Reply → Sets → Type 0
PlansDaily t s reply s' = (reply ≡ daily_reply t s) × (s' ≡ daily t s)
