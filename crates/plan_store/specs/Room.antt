-- Room for a change.
use Rattle.std.specs.Prelude.{◌≡◌, ℕ, ◌+◌, ◌≤◌, List, Option, None, Some, ⊤, vec_len, vec_capacity}
use Rattle.app_definitions.specs.declared.definitions.Definitions.{Definitions}
use Rattle.external_dependencies.specs.declared.links.Link.{Link}
use Rattle.external_dependencies.specs.declared.pairs.Pair.{Pair}
use Rattle.planner_machine.specs.Content.{Content}
use Rattle.planner_machine.specs.declared.content.Bounds.{Bounds}
use Rattle.planner_machine.specs.declared.job.Job.{Job}
use Rattle.plan_store_lists.specs.LinkBlocks.{HasListRoom, LinkList}
use Rattle.plan_store_lists.specs.PairBlocks.{HasPairRoom}
use Rattle.plan_store_lists.specs.RowLists.{HasRowRoom as HasRoomForRows}
use Rattle.plan_store_lists.specs.Rows.{of_current, of_deletion, of_row}
use Rattle.plan_store_lists.specs.Seats.{HasSeats}
use Rattle.plan_store_lists.specs.declared.blocks.Blocks.{Blocks}
use Rattle.plan_store.specs.declared.changes.Change.{Change}
use Rattle.plan_store.specs.declared.changes.NewLists.{NewLists}
use Rattle.plan_store.specs.declared.changes.NewLists.TheVariants.{All, One}
use Rattle.plan_store.specs.declared.contents.Content.{Content as Kept}

-- the content with these pairs
abbrev pub with_pairs_of : List Pair → Content → Content
with_pairs_of pairs c = record {
  definitions = c.definitions;
  sets = c.sets;
  in_force = c.in_force;
  pairs = pairs;
  jobs = c.jobs;
}

-- the content with these definitions
abbrev pub with_definitions : Definitions → Content → Content
with_definitions definitions c = record {
  definitions = definitions;
  sets = c.sets;
  in_force = c.in_force;
  pairs = c.pairs;
  jobs = c.jobs;
}

-- the content with these bounds
abbrev pub with_bounds_of : Option Bounds → Content → Content
with_bounds_of bounds c = record {
  definitions = c.definitions;
  sets = record {
    bounds = bounds;
    issued = c.sets.issued;
    ltp = c.sets.ltp;
    cp = c.sets.cp;
    history = c.sets.history;
    deletions = c.sets.deletions;
  };
  in_force = c.in_force;
  pairs = c.pairs;
  jobs = c.jobs;
}

-- the content with these lists in force
abbrev pub with_in_force : List Link → Content → Content
with_in_force links c = record {
  definitions = c.definitions;
  sets = c.sets;
  in_force = links;
  pairs = c.pairs;
  jobs = c.jobs;
}

-- the content with these jobs, by number
abbrev pub with_job_set : (ℕ → Option Job) → Content → Content
with_job_set jobs c = record {
  definitions = c.definitions;
  sets = c.sets;
  in_force = c.in_force;
  pairs = c.pairs;
  jobs = jobs;
}

-- no job is kept
abbrev pub no_jobs : ℕ → Option Job
no_jobs number = None

-- the two hold the same
pub record HasSame (old new : Kept) : Type 0 where
  pub definitions : new.definitions ≡ old.definitions
  pub bounds : new.bounds ≡ old.bounds
  pub issued : new.issued ≡ old.issued
  pub in_force : new.in_force.items ≡ old.in_force.items
  pub ltp : new.ltp.items ≡ old.ltp.items
  pub cp : new.cp.items ≡ old.cp.items
  pub history : new.history.items ≡ old.history.items
  pub deletions : new.deletions.items ≡ old.deletions.items
  pub pairs : new.pairs ≡ old.pairs
  pub jobs : new.jobs.items ≡ old.jobs.items

-- each serial that the change puts is found
pub record HasPutSeats (change : Change) (kept : Kept) : Type 0 where
  pub ltp_seats : HasSeats of_row change.ltp.put.items kept.seats
  pub cp_seats : HasSeats of_current change.cp.put.items kept.seats
  pub history_seats : HasSeats of_row change.history.put.items kept.seats
  pub deletion_seats : HasSeats of_deletion change.deletions.put.items kept.seats

-- if one list alone is put into force, there is room for it
abbrev pub HasNewRoom : Option NewLists → LinkList → Type 0
HasNewRoom None lists = ⊤
HasNewRoom (Some (All new)) lists = ⊤
HasNewRoom (Some (One list)) lists = HasListRoom list lists

-- there is room for what the change puts into each list of rows, for a list in force and for a job; and each serial that
-- it puts is found
pub record HasRowRoom (change : Change) (kept : Kept) : Type 0 where
  pub ltp : HasRoomForRows of_row change.ltp.put.items kept.ltp
  pub cp : HasRoomForRows of_current change.cp.put.items kept.cp
  pub history : HasRoomForRows of_row change.history.put.items kept.history
  pub deletions : HasRoomForRows of_deletion change.deletions.put.items kept.deletions
  pub lists : HasNewRoom change.in_force kept.in_force
  pub jobs : vec_len kept.jobs + 1 ≤ vec_capacity kept.jobs
  pub ltp_seats : HasSeats of_row change.ltp.put.items kept.seats
  pub cp_seats : HasSeats of_current change.cp.put.items kept.seats
  pub history_seats : HasSeats of_row change.history.put.items kept.seats
  pub deletion_seats : HasSeats of_deletion change.deletions.put.items kept.seats

-- there is room for all that the change puts, for its pairs among those that are taken out
pub record HasRoom (change : Change) (kept : Kept) (taken : Blocks ℕ Pair) : Type 0 where
  pub rows : HasRowRoom change kept
  pub pairs : HasPairRoom change.pairs.added taken
