-- The rows of a trial, by what its statement would do of them.
use Rattle.std.specs.Prelude.{List, ◌++◌, Bool, filter, map}
use Rattle.occurrences.specs.declared.place.CurrentRow.{CurrentRow}
use Rattle.occurrences.specs.declared.row.Row.{Row}
use Rattle.occurrences.specs.declared.status.Status.TheVariants.{C, D, W}
use Rattle.planner_machine.specs.DailyPlan.{is_completed, is_deleted, is_uncompleted}
use Rattle.planner_machine.specs.Shown.{DailyChange, PlanChange, WouldBeCarried, WouldBeDeleted, WouldBeHistory}
use Rattle.planner_machine.specs.Shown.{WouldBeMade, WouldBeMoved, WouldBeWithdrawn}

abbrev pub would_be_made : Row → PlanChange
would_be_made row = record { row = row; mark = WouldBeMade }

abbrev pub would_be_withdrawn : Row → PlanChange
would_be_withdrawn row = record { row = row; mark = WouldBeWithdrawn }

-- the rows that come into the long-term plan, and those that go
abbrev pub plan_changes : List Row → List Row → List PlanChange
plan_changes made withdrawn = map would_be_made made ++ map would_be_withdrawn withdrawn

abbrev pub would_be_moved : Row → DailyChange
would_be_moved row = record { row = row; mark = WouldBeMoved; status = W }

abbrev pub would_be_carried : CurrentRow → DailyChange
would_be_carried current = record { row = current.row; mark = WouldBeCarried; status = current.status }

abbrev pub would_be_history : CurrentRow → DailyChange
would_be_history current = record { row = current.row; mark = WouldBeHistory; status = C }

abbrev pub would_be_deleted : CurrentRow → DailyChange
would_be_deleted current = record { row = current.row; mark = WouldBeDeleted; status = D }

abbrev pub uncompleted : CurrentRow → Bool
uncompleted current = is_uncompleted current.status

abbrev pub completed : CurrentRow → Bool
completed current = is_completed current.status

abbrev pub deleted : CurrentRow → Bool
deleted current = is_deleted current.status

-- of the rows of the current plan: those carried, those for history, those for the deletions
abbrev pub carried_part : List CurrentRow → List DailyChange
carried_part rows = map would_be_carried (filter uncompleted rows)

abbrev pub history_part : List CurrentRow → List DailyChange
history_part rows = map would_be_history (filter completed rows)

abbrev pub deleted_part : List CurrentRow → List DailyChange
deleted_part rows = map would_be_deleted (filter deleted rows)

-- and those that are moved before them
abbrev pub daily_changes : List Row → List CurrentRow → List DailyChange
daily_changes moved rows =
    map would_be_moved moved ++ (carried_part rows ++ (history_part rows ++ deleted_part rows))
