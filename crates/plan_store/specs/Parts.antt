-- Lists that have a part of what a planner knows: all of both plans, of their pairs and of the definitions; of
-- history, of the deletions and of the kept jobs only what was loaded, because these are stored elsewhere.
use Rattle.std.specs.Prelude.{◌≡◌, ℕ, Bool, ◌||◌, ◌&&◌, List, Contains, Option, Some, None, is_some, nat_eq, true}
use Rattle.std.specs.Prelude.{if◌then◌else◌}
use Rattle.std.specs.List.{list_any}
use Rattle.occurrences.specs.declared.place.Deletion.{Deletion}
use Rattle.occurrences.specs.declared.row.Row.{Row}
use Rattle.external_dependencies.specs.declared.pairs.Pair.{Pair}
use Rattle.planner_machine.specs.Content.{Content, Sets}
use Rattle.planner_machine.specs.Moves.{keep, or_else}
use Rattle.planner_machine.specs.declared.content.Bounds.{Bounds}
use Rattle.planner_machine.specs.declared.job.Job.{Job}
use Rattle.plan_store_lists.specs.Rows.{look_up}
use Rattle.plan_store.specs.Views.{bars}

-- history, the deletions and the kept jobs, each as a look-up
pub record Rest : Type 0 where
  pub history : ℕ → Option Row
  pub deletions : ℕ → Option Deletion
  pub jobs : ℕ → Option Job

-- those of a content
abbrev pub rest_of : Content → Rest
rest_of c = record { history = c.sets.history; deletions = c.sets.deletions; jobs = c.jobs }

-- the content with these in place of its own
abbrev pub with_rest : Rest → Content → Content
with_rest rest c = record {
  definitions = c.definitions;
  sets = record {
    bounds = c.sets.bounds;
    issued = c.sets.issued;
    ltp = c.sets.ltp;
    cp = c.sets.cp;
    history = rest.history;
    deletions = rest.deletions;
  };
  in_force = c.in_force;
  pairs = c.pairs;
  jobs = rest.jobs;
}

-- the long-term plan or the current plan has an occurrence of the serial
abbrev pub is_planned : Sets → ℕ → Bool
is_planned s serial = is_some (s.ltp serial) || is_some (s.cp serial)

-- the lists have what history has under the serial
abbrev pub Knows : Rest → Content → ℕ → Type 0
Knows rest c serial = c.sets.history serial ≡ rest.history serial

-- and the same of the deletions
abbrev pub KnowsDeletion : Rest → Content → ℕ → Type 0
KnowsDeletion rest c serial = c.sets.deletions serial ≡ rest.deletions serial

-- they have each deletion that keeps a planning statement from making its key, where the plans reach so far
abbrev pub HasBars : Option Bounds → Rest → Content → Type 0
HasBars bounds rest c = (serial : ℕ) (deletion : Deletion) → rest.deletions serial ≡ Some deletion
    → bars bounds deletion ≡ true → c.sets.deletions serial ≡ Some deletion

-- what the lists have of history and of the deletions is there; of history they have all that is a predecessor of what
-- is planned, and of the deletions each that an operator made from the plan end on
pub record IsPartOf (rest : Rest) (c : Content) : Type 0 where
  pub history : (serial : ℕ) (row : Row) → c.sets.history serial ≡ Some row → rest.history serial ≡ Some row
  pub deletions : (serial : ℕ) (deletion : Deletion) → c.sets.deletions serial ≡ Some deletion
      → rest.deletions serial ≡ Some deletion
  pub named : (pair : Pair) → Contains c.pairs pair → is_planned c.sets pair.successor ≡ true
      → Knows rest c pair.predecessor
  pub bars : HasBars c.sets.bounds rest c

-- it is the predecessor of something that is planned
abbrev pub is_followed : Content → ℕ → Bool
is_followed c serial = list_any (λ pair. is_planned c.sets pair.successor && nat_eq pair.predecessor serial) c.pairs

-- the content with of history what is followed alone, and of the deletions those by an operator from the plan end on
abbrev pub followed_alone : Content → Content
followed_alone c = record {
  definitions = c.definitions;
  sets = record {
    bounds = c.sets.bounds;
    issued = c.sets.issued;
    ltp = c.sets.ltp;
    cp = c.sets.cp;
    history = λ serial. if is_followed c serial then c.sets.history serial else None;
    deletions = λ serial. keep (bars c.sets.bounds) (c.sets.deletions serial);
  };
  in_force = c.in_force;
  pairs = c.pairs;
  jobs = c.jobs;
}

-- what is under a serial, and if nothing is, this row if it has the serial
abbrev pub or_this : {X : Type 0} → (ℕ → Option X) → (number : ℕ) → X → ℕ → Option X
or_this set number x serial = or_else (set serial) (if nat_eq number serial then Some x else None)

-- the content with that row in history, unless one of its serial stands there
abbrev pub with_completed : Row → Content → Content
with_completed row c = record {
  definitions = c.definitions;
  sets = record {
    bounds = c.sets.bounds;
    issued = c.sets.issued;
    ltp = c.sets.ltp;
    cp = c.sets.cp;
    history = or_this c.sets.history row.serial row;
    deletions = c.sets.deletions;
  };
  in_force = c.in_force;
  pairs = c.pairs;
  jobs = c.jobs;
}

-- and the same of the deletions
abbrev pub with_deleted : Deletion → Content → Content
with_deleted deletion c = record {
  definitions = c.definitions;
  sets = record {
    bounds = c.sets.bounds;
    issued = c.sets.issued;
    ltp = c.sets.ltp;
    cp = c.sets.cp;
    history = c.sets.history;
    deletions = or_this c.sets.deletions deletion.row.serial deletion;
  };
  in_force = c.in_force;
  pairs = c.pairs;
  jobs = c.jobs;
}

-- these are the rows of the set, and no others
pub record ListsAll {X : Type 0} (row_of : X → Row) (rows : List X) (set : ℕ → Option X) : Type 0 where
  pub only : (x : X) → Contains rows x → set (row_of x).serial ≡ Some x
  pub found : (serial : ℕ) → look_up (λ x. (row_of x).serial) rows serial ≡ set serial
