-- What the planner knows between two statements.
use Rattle.std.specs.Prelude.{◌≡◌, ℕ, ◌*◌, List, [], Option, Some, None}
use Rattle.work_calendars.specs.Minute.{minutes_per_day}
use Rattle.occurrences.specs.declared.place.Deletion.{Deletion}
use Rattle.occurrences.specs.declared.place.Place.{Place}
use Rattle.occurrences.specs.declared.place.Place.TheVariants.{LongTerm, Current, History, Deleted}
use Rattle.occurrences.specs.declared.row.Row.{Row}
use Rattle.external_dependencies.specs.declared.links.Link.{Link}
use Rattle.external_dependencies.specs.declared.pairs.Pair.{Pair}
use Rattle.external_dependencies.specs.declared.rows.PlacedRow.{PlacedRow}
use Rattle.app_definitions.specs.Definitions.{no_definitions}
use Rattle.app_definitions.specs.declared.definitions.Definitions.{Definitions}
use Rattle.planner_machine.specs.declared.content.Bounds.{Bounds}
use Rattle.occurrences.specs.declared.place.CurrentRow.{CurrentRow}
use Rattle.planner_machine.specs.declared.job.Job.{Job}

-- the rows: how far the plans reach, which is not known before the long-term plan is created; how many serials are
-- issued; and four sets, each a look-up by serial: the long-term plan, the current plan, history, and the deletions
pub record Sets : Type 0 where
  pub bounds : Option Bounds
  pub issued : ℕ
  pub ltp : ℕ → Option Row
  pub cp : ℕ → Option CurrentRow
  pub history : ℕ → Option Row
  pub deletions : ℕ → Option Deletion

-- all that the planner knows: the definitions, the rows, the predecessor lists in force, the pairs of a successor and a
-- predecessor, and the jobs that are kept, by number
pub record Content : Type 0 where
  pub definitions : Definitions
  pub sets : Sets
  pub in_force : List Link
  pub pairs : List Pair
  pub jobs : ℕ → Option Job

-- what the four sets have under one serial
pub record Seat : Type 0 where
  pub ltp : Option Row
  pub cp : Option CurrentRow
  pub history : Option Row
  pub deletions : Option Deletion

abbrev pub seat : Sets → ℕ → Seat
seat s serial = record {
  ltp = s.ltp serial;
  cp = s.cp serial;
  history = s.history serial;
  deletions = s.deletions serial;
}

-- the row in one set, and nothing in the three others
abbrev pub alone : Row → Place → Seat
alone row LongTerm = record { ltp = Some row; cp = None; history = None; deletions = None }
alone row (Current status) =
    record { ltp = None; cp = Some (record { row = row; status = status }); history = None; deletions = None }
alone row History = record { ltp = None; cp = None; history = Some row; deletions = None }
alone row (Deleted reason) =
    record { ltp = None; cp = None; history = None; deletions = Some (record { row = row; reason = reason }) }

abbrev pub empty_seat : Seat
empty_seat = record { ltp = None; cp = None; history = None; deletions = None }

-- the row is there under the serial, and nothing else is anywhere under it
abbrev pub IsOnlyAt : Sets → ℕ → PlacedRow → Type 0
IsOnlyAt s serial p = seat s serial ≡ alone p.row p.place

-- the moment at which a day begins
abbrev pub midnight : ℕ → ℕ
midnight day = day * minutes_per_day

-- nothing is known yet: no definitions, no plan, no jobs
abbrev pub nothing_known : Content
nothing_known = record {
  definitions = no_definitions;
  sets = record {
    bounds = None;
    issued = 0;
    ltp = λ serial. None;
    cp = λ serial. None;
    history = λ serial. None;
    deletions = λ serial. None;
  };
  in_force = [];
  pairs = [];
  jobs = λ number. None;
}
