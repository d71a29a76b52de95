-- What a window shows, and what its calls return.
use Rattle.std.specs.Prelude.{◌≡◌, ◌≢◌, ◌↔◌, ℕ, ◌≤◌, ◌<◌, List, [], Contains, Option, Some, None, filter, Bool}
use Rattle.std.specs.Prelude.{◌&&◌, ◌||◌, is_some, length, nat_lt, not, true, false}
use Rattle.occurrences.specs.Place.{IsLive}
use Rattle.occurrences.specs.declared.key.Key.{Key}
use Rattle.occurrences.specs.declared.place.Deletion.{Deletion}
use Rattle.occurrences.specs.declared.place.Place.{Place}
use Rattle.occurrences.specs.declared.place.Place.TheVariants.{LongTerm, Current, History, Deleted}
use Rattle.occurrences.specs.declared.place.Reason.{Reason}
use Rattle.occurrences.specs.declared.place.Reason.TheVariants.{Operator, Plan, Withdrawn}
use Rattle.occurrences.specs.declared.row.Row.{Row}
use Rattle.occurrences.specs.declared.status.Status.{Status}
use Rattle.occurrences.specs.declared.status.Status.TheVariants.{C, D, E, S, W}
use Rattle.external_dependencies.specs.declared.live.Arrival.{Arrival}
use Rattle.external_dependencies.specs.declared.pairs.Pair.{Pair}
use Rattle.external_dependencies.specs.declared.rows.PlacedRow.{PlacedRow}
use Rattle.planner_machine.specs.Content.{Content, Sets, IsOnlyAt}
use Rattle.planner_machine.specs.Pairs.{LiveAt}
use Rattle.occurrences.specs.declared.place.CurrentRow.{CurrentRow}
use Rattle.planner_machine.specs.DailyPlan.{arrives_before, is_deleted, moved}
use Rattle.planner_machine.specs.Moves.{has_key, keep, size}
use Rattle.planner_machine.specs.Sound.{AreNumbered, HaveOwnKeys, IsSound}
use Rattle.planner_machine.specs.declared.content.Bounds.{Bounds}
use Rattle.planner_machine.specs.declared.job.Job.{Job}
use Rattle.plan_store_lists.specs.Rows.{AreRows, look_up, of_row}
use Rattle.plan_store.specs.HistoryReads.{ReadsKey, ReadsPlan, HasLast, HasLasts, IsLimit}
use Rattle.plan_store.specs.Contents.{content_of}
use Rattle.plan_store.specs.declared.contents.Content.{Content as Kept}
use Rattle.plan_store.specs.declared.stores.Need.{Need}
use Rattle.plan_store.specs.declared.stores.Need.TheVariants as need
use Rattle.plan_store.specs.declared.views.View.{View}

abbrev pub row_serial : Row → ℕ
row_serial row = row.serial

abbrev pub current_serial : CurrentRow → ℕ
current_serial current = current.row.serial

abbrev pub deletion_serial : Deletion → ℕ
deletion_serial deletion = deletion.row.serial

abbrev pub is_waiting : Status → Bool
is_waiting W = true
is_waiting S = false
is_waiting E = false
is_waiting C = false
is_waiting D = false

-- the row has the key, where there is one
abbrev pub is_of_key : Option Key → Row → Bool
is_of_key None row = false
is_of_key (Some key) row = has_key key row

-- the row waits, or is the live row of the key, where there is one
abbrev pub is_asked : Option Key → CurrentRow → Bool
is_asked key current = is_waiting current.status || (is_of_key key current.row && not (is_deleted current.status))

-- the window needs the pairs of the serial as of one in a plan: it is open, or the live row of the key is there
abbrev pub needs_planned : Option Key → (ltp : ℕ → Option Row) → (cp : ℕ → Option CurrentRow) → ℕ → Bool
needs_planned key ltp cp serial = is_some (ltp serial) || is_some (keep (is_asked key) (cp serial))

-- or as of one in history: the live row of the key is there
abbrev pub needs_completed : Option Key → (history : ℕ → Option Row) → ℕ → Bool
needs_completed key history serial = is_some (keep (is_of_key key) (history serial))

-- the window needs the pairs of the serial: it is open, or the live row of the key
abbrev pub needs_pairs : Option Key → (ltp : ℕ → Option Row) → (cp : ℕ → Option CurrentRow) → (history : ℕ → Option Row)
    → ℕ → Bool
needs_pairs key ltp cp history serial = needs_planned key ltp cp serial || needs_completed key history serial

-- those of the pairs that the window needs
abbrev pub needed_pairs : Option Key → (ltp : ℕ → Option Row) → (cp : ℕ → Option CurrentRow) → (history : ℕ → Option Row)
    → List Pair → List Pair
needed_pairs key ltp cp history pairs = filter (λ (pair : Pair). needs_pairs key ltp cp history pair.successor) pairs

abbrev pub is_by_operator : Reason → Bool
is_by_operator Operator = true
is_by_operator Withdrawn = false
is_by_operator Plan = false

-- an operator deleted it, and it arrives at the moment or after it
abbrev pub bars_from : ℕ → Deletion → Bool
bars_from moment deletion = not (arrives_before moment deletion.row) && is_by_operator deletion.reason

-- it keeps a planning statement from making its key: an operator deleted it, and it arrives from the plan end on
abbrev pub bars : Option Bounds → Deletion → Bool
bars None deletion = false
bars (Some b) deletion = bars_from b.plan_end deletion

-- there is a plan, and the key arrives at its end or after it
abbrev pub is_from_plan_end : Option Bounds → Key → Bool
is_from_plan_end None key = false
is_from_plan_end (Some b) key = not (nat_lt key.ia b.plan_end)

-- what the window shows, as a content; of the deletions those that keep a planning statement from making their keys; no
-- job
abbrev pub shown : View → Content
shown view = record {
  definitions = view.content.now.definitions;
  sets = record {
    bounds = view.content.now.bounds;
    issued = view.content.now.issued;
    ltp = look_up row_serial view.ltp.now.items;
    cp = look_up current_serial view.cp.now.items;
    history = look_up row_serial view.lasts.now;
    deletions = λ serial. keep (bars view.content.now.bounds) (look_up deletion_serial view.deletions.now.items serial);
  };
  in_force = view.content.now.in_force.items;
  pairs = needed_pairs view.key.now (look_up row_serial view.ltp.now.items) (look_up current_serial view.cp.now.items)
      (look_up row_serial view.history.now.items) view.pairs.now;
  jobs = λ _. None;
}

-- the content with these rows in the two plans, nothing in history or in the deletions, no pair and no job
abbrev pub with_plans_alone : (ℕ → Option Row) → (ℕ → Option CurrentRow) → Content → Content
with_plans_alone ltp cp c = record {
  definitions = c.definitions;
  sets = record {
    bounds = c.sets.bounds;
    issued = c.sets.issued;
    ltp = ltp;
    cp = cp;
    history = λ _. None;
    deletions = λ _. None;
  };
  in_force = c.in_force;
  pairs = [];
  jobs = λ _. None;
}

-- what a window hides that shows the plans: it shows of history, of the deletions and of the pairs a part, and no job
pub record Hidden : Type 0 where
  pub history : ℕ → Option Row
  pub deletions : ℕ → Option Deletion
  pub pairs : List Pair
  pub jobs : ℕ → Option Job

-- the content with these in place of its own
abbrev pub with_these : Hidden → Content → Content
with_these these c = record {
  definitions = c.definitions;
  sets = record {
    bounds = c.sets.bounds;
    issued = c.sets.issued;
    ltp = c.sets.ltp;
    cp = c.sets.cp;
    history = these.history;
    deletions = these.deletions;
  };
  in_force = c.in_force;
  pairs = these.pairs;
  jobs = these.jobs;
}

-- those of the content
abbrev pub hidden_of : Content → Hidden
hidden_of c =
    record { history = c.sets.history; deletions = c.sets.deletions; pairs = c.pairs; jobs = c.jobs }

-- the content with these rows in history, these deletions, of the pairs those that the window needs, and no job
abbrev pub with_part : Option Key → (ℕ → Option Row) → (ℕ → Option Deletion) → Content → Content
with_part key history deletions c = with_these (record {
  history = history;
  deletions = deletions;
  pairs = needed_pairs key c.sets.ltp c.sets.cp c.sets.history c.pairs;
  jobs = λ _. None;
}) c

-- what a need names of a content, where these rows of history are shown: of a daily plan the rows of the current plan,
-- and those of the long-term plan that arrive before its moment; of one key both plans, and the pairs of what is open
-- or is the live row of the key, in whatever set that is; of the long-term plan both plans, the pairs of what is open,
-- and such deletions as keep a key from being made
abbrev pub named : Need → (ℕ → Option Row) → Content → Content
named need.Definitions history c = with_plans_alone (λ _. None) (λ _. None) c
named (need.Key key) history c = with_part (Some key) history (λ _. None) c
named (need.LongTerm only) history c = with_part None history (λ serial. keep (bars c.sets.bounds) (c.sets.deletions serial)) c
named (need.Daily t) history c = with_plans_alone (λ serial. moved t (c.sets.ltp serial)) c.sets.cp c

-- what it reads of history
abbrev pub Asks : Need → Content → List ℕ → ℕ → Type 0
Asks need.Definitions c = λ app minute. ⊥
Asks (need.Key key) c = ReadsKey c key
Asks (need.LongTerm only) c = ReadsPlan only c
Asks (need.Daily t) c = λ app minute. ⊥

-- the key that a need is of
abbrev pub key_of : Need → Option Key
key_of need.Definitions = None
key_of (need.Key key) = Some key
key_of (need.LongTerm only) = None
key_of (need.Daily t) = None

-- a pair comes with both its rows: if its predecessor is in history, the window has it
abbrev pub HasPredecessors : (ℕ → Option Row) → View → Type 0
HasPredecessors history view = (pair : Pair) → Contains (shown view).pairs pair
    → look_up row_serial view.history.now.items pair.predecessor ≡ history pair.predecessor

-- if the live row of the key is in history, the window shows it
abbrev pub ShowsLive : Option Key → (ℕ → Option Row) → View → Type 0
ShowsLive key history view = (serial : ℕ) (row : Row) → history serial ≡ Some row → key ≡ Some row.key
    → (shown view).sets.history serial ≡ Some row

-- how many rows the window says that the plans have, whether it shows them or not
abbrev pub ltp_size : View → ℕ
ltp_size view = length view.content.now.ltp.items

abbrev pub cp_size : View → ℕ
cp_size view = length view.content.now.cp.items

-- so many they have
pub record TellsSizes (s : Sets) (view : View) : Type 0 where
  pub ltp : ltp_size view ≡ size s.ltp s.issued
  pub cp : cp_size view ≡ size s.cp s.issued

-- the window shows what the need names of the content, and no more
pub record Shows (need : Need) (view : View) (c : Content) : Type 0 where
  pub is : shown view ≡ named need (shown view).sets.history c
  pub lasts : HasLasts (Asks need c) c.sets.history (shown view).sets.history
  pub predecessors : HasPredecessors c.sets.history view
  pub live : ShowsLive (key_of need) c.sets.history view
  pub sizes : TellsSizes c.sets view

-- so does a window of lists, which may have a part of a content: the live row and the sizes are those of sound sets
pub record ShowsListed (need : Need) (view : View) (c : Content) : Type 0 where
  pub is : shown view ≡ named need (shown view).sets.history c
  pub lasts : HasLasts (Asks need c) c.sets.history (shown view).sets.history
  pub predecessors : HasPredecessors c.sets.history view
  pub live : AreNumbered c.sets → HaveOwnKeys c.sets → ShowsLive (key_of need) c.sets.history view
  pub sizes : AreNumbered c.sets → TellsSizes c.sets view

-- what the window shows, with what it hides
abbrev pub with_hidden : Hidden → View → Content
with_hidden hidden view = with_these hidden (shown view)

-- of what it hides the window shows the pairs that it needs, with their predecessors, and of history what it needs,
-- and no more
pub record Sees (key : Option Key) (Asked : List ℕ → ℕ → Type 0) (hidden : Hidden) (view : View) : Type 0 where
  pub pairs : (shown view).pairs
      ≡ needed_pairs key (shown view).sets.ltp (shown view).sets.cp hidden.history hidden.pairs
  pub lasts : HasLasts Asked hidden.history (shown view).sets.history
  pub predecessors : HasPredecessors hidden.history view

-- what the window shows of history is there
abbrev pub ShowsPart : Content → View → Type 0
ShowsPart c view = (serial : ℕ) (row : Row) → (shown view).sets.history serial ≡ Some row
    → c.sets.history serial ≡ Some row

-- and it shows the last of the application before the minute
abbrev pub ShowsLast : Content → View → List ℕ → ℕ → Type 0
ShowsLast c view app minute = HasLast c.sets.history (shown view).sets.history app minute

-- so where the minute is the one before which arrives what may precede the key
abbrev pub ShowsNearest : Content → View → Key → List ℕ → Type 0
ShowsNearest c view key app = (minute : ℕ) → IsLimit key app minute → ShowsLast c view app minute

-- it holds of each content that the window may be of, with whatever that hides
abbrev pub HoldsOfAny : View → (Content → Type 0) → Type 0
HoldsOfAny view Is = (h : Hidden) → Is (with_hidden h view)

-- it holds of each sound one of them of which the window shows what the need names
abbrev pub HoldsOfSound : Need → View → (Content → Type 0) → Type 0
HoldsOfSound need view Is = (h : Hidden) → IsSound (with_hidden h view)
    → Sees (key_of need) (Asks need (with_hidden h view)) h view → Is (with_hidden h view)

-- it holds of each of them whose serials are numbered and of whose history the window shows a part
abbrev pub HoldsOfPart : View → (Content → Type 0) → Type 0
HoldsOfPart view Is = (h : Hidden) → AreNumbered (with_hidden h view).sets → ShowsPart (with_hidden h view) view
    → Is (with_hidden h view)

-- it holds of each of them whose serials are numbered and that has the predecessors that the window has
abbrev pub HoldsOfPairs : View → (Content → Type 0) → Type 0
HoldsOfPairs view Is = (h : Hidden) → AreNumbered (with_hidden h view).sets → HasPredecessors h.history view
    → Is (with_hidden h view)

-- what a window for the need shows that is no part of a list was prepared, of history these rows
pub record IsPrepared (need : Need) (found : List Row) (kept : Kept) : Type 0 where
  pub key : kept.buffer.key ≡ key_of need
  pub rows : AreRows of_row found
  pub part : (row : Row) → Contains found row → Contains kept.history.items row
  pub lasts : HasLasts (Asks need (content_of kept)) (content_of kept).sets.history (look_up row_serial found)

abbrev pub IsFilled : Need → Kept → Type 0
IsFilled need.Definitions kept = Unit {0}
IsFilled (need.Key key) kept = IsPrepared (need.Key key) kept.buffer.lasts.items kept
IsFilled (need.LongTerm only) kept = IsPrepared (need.LongTerm only) kept.buffer.lasts.items kept
IsFilled (need.Daily t) kept = kept.buffer.early.items ≡ filter (arrives_before t) kept.ltp.items

-- the list has exactly the rows of the set that pass, by application, input arrival and serial
pub record ListsSet {X : Type 0} (row_of : X → Row) (set : ℕ → Option X) (Passes : X → Type 0) (xs : List X) : Type 0
  where
    pub rows : AreRows row_of xs
    pub exactly : (x : X) → Contains xs x ↔ ((set (row_of x).serial ≡ Some x) × Passes x)

-- any row
abbrev pub IsAny : {X : Type 0} → X → Type 0
IsAny x = Unit {0}

-- the row of the long-term plan that has the key, or that there is none
abbrev pub IsPlannedRow : Sets → Key → Option Row → Type 0
IsPlannedRow s key (Some row) = (s.ltp row.serial ≡ Some row) × (row.key ≡ key)
IsPlannedRow s key None = (serial : ℕ) (row : Row) → s.ltp serial ≡ Some row → row.key ≢ key

-- the row of the current plan that has the key and is not deleted, or that there is none
abbrev pub IsCurrentRow : Sets → Key → Option CurrentRow → Type 0
IsCurrentRow s key (Some current) = (s.cp current.row.serial ≡ Some current) × (current.row.key ≡ key)
    × (current.status ≢ D)
IsCurrentRow s key None = (serial : ℕ) (current : CurrentRow) → s.cp serial ≡ Some current → current.row.key ≡ key
    → current.status ≢ D → ⊥

-- the live occurrence that has the key, and its place, or that there is none
abbrev pub IsLiveRow : Sets → Key → Option PlacedRow → Type 0
IsLiveRow s key (Some p) = IsOnlyAt s p.row.serial p × IsLive p.place × (p.row.key ≡ key)
IsLiveRow s key None = (serial : ℕ) (p : PlacedRow) → IsOnlyAt s serial p → IsLive p.place → p.row.key ≢ key

-- the occurrence of the serial, and its place, or that there is none
abbrev pub IsPlacedAt : Sets → ℕ → Option PlacedRow → Type 0
IsPlacedAt s serial (Some p) = IsOnlyAt s serial p
IsPlacedAt s serial None = (p : PlacedRow) → IsOnlyAt s serial p → ⊥

-- in a plan or in history
abbrev pub IsOutsideDeletions : Place → Type 0
IsOutsideDeletions LongTerm = Unit {0}
IsOutsideDeletions (Current status) = Unit {0}
IsOutsideDeletions History = Unit {0}
IsOutsideDeletions (Deleted reason) = ⊥

-- no plan has the serial, and history doesn't either
pub record IsOutside (s : Sets) (serial : ℕ) : Type 0 where
  pub ltp : s.ltp serial ≡ None
  pub cp : s.cp serial ≡ None
  pub history : s.history serial ≡ None

-- the occurrence of the serial in a plan or in history, and its place, or that there is none
abbrev pub IsFoundAt : Sets → ℕ → Option PlacedRow → Type 0
IsFoundAt s serial (Some p) = IsOnlyAt s serial p × IsOutsideDeletions p.place
IsFoundAt s serial None = IsOutside s serial

-- an operator deleted an occurrence of the key
abbrev pub IsDeletedKey : Sets → Key → Type 0
IsDeletedKey s key = (serial : ℕ) × (deletion : Deletion) × (s.deletions serial ≡ Some deletion)
    × (deletion.reason ≡ Operator) × (deletion.row.key ≡ key)

-- the window shows whether an operator deleted an occurrence of the key
abbrev pub ShowsDeleted : Content → View → Key → Type 0
ShowsDeleted c view key = IsDeletedKey c.sets key ↔ IsDeletedKey (shown view).sets key

-- of the live occurrences of the application that arrive before the minute, the one that arrives last, and of several
-- that do the one of the greatest serial; or that there is none
pub record IsLast (s : Sets) (app : List ℕ) (minute : ℕ) (near : Arrival) : Type 0 where
  pub live : LiveAt s near
  pub of_app : near.app ≡ app
  pub in_time : near.ia < minute
  pub greatest : (other : Arrival) → LiveAt s other → other.app ≡ app → other.ia < minute → other.ia ≤ near.ia
  pub last : (other : Arrival) → LiveAt s other → other.app ≡ app → other.ia ≡ near.ia → other.serial ≤ near.serial

abbrev pub IsLastBefore : Sets → List ℕ → ℕ → Option Arrival → Type 0
IsLastBefore s app minute (Some near) = IsLast s app minute near
IsLastBefore s app minute None = (other : Arrival) → LiveAt s other → other.app ≡ app → minute ≤ other.ia
