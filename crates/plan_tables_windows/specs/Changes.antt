-- What lists that have a part of history need before a change, so that it makes of them what it makes of the whole.
use Rattle.std.specs.Prelude.{◌≡◌, ℕ, Contains, List}
use Rattle.occurrences.specs.declared.place.CurrentRow.{CurrentRow}
use Rattle.occurrences.specs.declared.place.Deletion.{Deletion}
use Rattle.occurrences.specs.declared.row.Row.{Row}
use Rattle.external_dependencies.specs.declared.pairs.Pair.{Pair}
use Rattle.planner_machine.specs.Content.{Content}
use Rattle.plan_store.specs.Parts.{HasBars, Knows, KnowsDeletion, Rest}
use Rattle.plan_store.specs.declared.changes.Change.{Change}

-- they know each row of history that is named
abbrev pub KnowsRows : Rest → Content → List Row → Type 0
KnowsRows rest c rows = (row : Row) → Contains rows row → Knows rest c row.serial

-- they know each deletion that is named
abbrev pub KnowsDeletions : Rest → Content → List Deletion → Type 0
KnowsDeletions rest c deletions = (deletion : Deletion) → Contains deletions deletion
    → KnowsDeletion rest c deletion.row.serial

-- they know the predecessors of the serial
abbrev pub KnowsPairsOf : Rest → Content → ℕ → Type 0
KnowsPairsOf rest c serial = (pair : Pair) → Contains c.pairs pair → pair.successor ≡ serial
    → Knows rest c pair.predecessor

-- they know what the change names of history and of the deletions: what goes or changes there, the predecessors of the
-- pairs that are added, and those of each row that is added to a plan; and if it sets a plan end, the deletions that
-- keep a planning statement from making a key from then on
pub record KnowsNamed (rest : Rest) (change : Change) (c : Content) : Type 0 where
  pub gone : KnowsRows rest c change.history.gone.items
  pub changed : KnowsRows rest c change.history.changed.items
  pub gone_deletions : KnowsDeletions rest c change.deletions.gone.items
  pub changed_deletions : KnowsDeletions rest c change.deletions.changed.items
  pub added : (pair : Pair) → Contains change.pairs.added pair → Knows rest c pair.predecessor
  pub ltp : (row : Row) → Contains change.ltp.put.items row → KnowsPairsOf rest c row.serial
  pub cp : (current : CurrentRow) → Contains change.cp.put.items current → KnowsPairsOf rest c current.row.serial
  pub bars : HasBars change.bounds rest c
