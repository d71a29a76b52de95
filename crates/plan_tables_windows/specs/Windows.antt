-- What lists that have a part of history need before a window of them is lent, so that it is one of the whole.
use Rattle.std.specs.Prelude.{◌≡◌, ℕ, List, Some}
use Rattle.occurrences.specs.declared.key.Key.{Key}
use Rattle.occurrences.specs.declared.row.Row.{Row}
use Rattle.planner_machine.specs.Content.{Content}
use Rattle.plan_store.specs.HistoryReads.{ReadsKey, ReadsPlan, HasLast}
use Rattle.plan_store.specs.Parts.{Rest}
use Rattle.plan_store.specs.declared.stores.Need.{Need}
use Rattle.plan_store.specs.declared.stores.Need.TheVariants as need
use Rattle.plan_tables_windows.specs.Changes.{KnowsPairsOf}

-- for each row of history of an application before a minute that is read, they have one that arrives no earlier
abbrev pub HasLastsOf : (List ℕ → ℕ → Type 0) → Rest → Content → Type 0
HasLastsOf Asked rest c = (app : List ℕ) (minute : ℕ) → Asked app minute
    → HasLast rest.history c.sets.history app minute

-- if the live row of the key is in history, they know its predecessors
abbrev pub KnowsLive : Rest → Key → Content → Type 0
KnowsLive rest key c = (serial : ℕ) (row : Row) → rest.history serial ≡ Some row → row.key ≡ key
    → KnowsPairsOf rest c serial

-- they have what a window for the need reads of history; they always have the deletions that it shows
abbrev pub IsReadyFor : Rest → Need → Content → Type 0
IsReadyFor rest need.Definitions c = Unit {0}
IsReadyFor rest (need.Key key) c = HasLastsOf (ReadsKey c key) rest c × KnowsLive rest key c
IsReadyFor rest (need.LongTerm only) c = HasLastsOf (ReadsPlan only c) rest c
IsReadyFor rest (need.Daily t) c = Unit {0}
