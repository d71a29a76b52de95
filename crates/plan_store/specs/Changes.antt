-- What a change makes of a content, and when a content admits it.
use Rattle.std.specs.Prelude.{◌≡◌, ℕ, Bool, not, List, [], ◌∷◌, Contains, Option, Some, None, is_some, nat_eq}
use Rattle.std.specs.Prelude.{unwrap_or, filter, if◌then◌else◌}
use Rattle.std.specs.List.{list_any}
use Rattle.std.specs.Ordering.{is_eq}
use Rattle.std.specs.declared.cmp.Ordering.{Ordering}
use Rattle.std.specs.declared.cmp.Ordering.TheVariants.{Less, Equal, Greater}
use Rattle.app_definitions.specs.Definitions.{merged, without}
use Rattle.app_definitions.specs.declared.definitions.Definitions.{Definitions}
use Rattle.occurrences.specs.declared.row.Row.{Row}
use Rattle.external_dependencies.specs.Change.{Leads}
use Rattle.external_dependencies.specs.Nearest.{arrival_of}
use Rattle.external_dependencies.specs.Pair.{pair_cmp}
use Rattle.external_dependencies.specs.declared.links.Link.{Link}
use Rattle.external_dependencies.specs.declared.pairs.Pair.{Pair}
use Rattle.planner_machine.specs.Content.{Content, Sets}
use Rattle.planner_machine.specs.Moves.{or_else}
use Rattle.planner_machine.specs.declared.job.Job.{Job}
use Rattle.plan_store_lists.specs.LinkBlocks.{with_list}
use Rattle.plan_store_lists.specs.Rows.{HasEachOnce, look_up, of_current, of_deletion, of_row}
use Rattle.plan_store.specs.declared.changes.Change.{Change}
use Rattle.plan_store.specs.declared.changes.DefinitionChange.{DefinitionChange}
use Rattle.plan_store.specs.declared.changes.DefinitionChange.TheVariants.{AsBefore, Merged, Removed}
use Rattle.plan_store.specs.declared.changes.Moves.{Moves}
use Rattle.plan_store.specs.declared.changes.NewLists.{NewLists}
use Rattle.plan_store.specs.declared.changes.NewLists.TheVariants.{All, One}
use Rattle.external_dependencies.specs.declared.change.PairChange.{PairChange}

-- the definitions as they were, with a block's, or without one
abbrev pub redefined : DefinitionChange → Definitions → Definitions
redefined AsBefore all = all
redefined (Merged block) all = merged all block
redefined (Removed kind name) all = without all kind name

-- a set, serial by serial: what is put, else what is changed, else nothing if the row goes, else what was there
abbrev pub moved_set : {X : Type 0} → (X → Row) → Moves X → (ℕ → Option X) → ℕ → Option X
moved_set row_of moves old serial =
    or_else (look_up (λ x. (row_of x).serial) moves.put.items serial)
    (or_else (look_up (λ x. (row_of x).serial) moves.changed.items serial)
    (if is_some (look_up (λ x. (row_of x).serial) moves.gone.items serial) then None else old serial))

abbrev pub sets_after : Change → Sets → Sets
sets_after change s = record {
  bounds = or_else change.bounds s.bounds;
  issued = unwrap_or change.issued s.issued;
  ltp = moved_set of_row change.ltp s.ltp;
  cp = moved_set of_current change.cp s.cp;
  history = moved_set of_row change.history s.history;
  deletions = moved_set of_deletion change.deletions s.deletions;
}

-- the lists in force as they were, others in place of all, or one list in place of the one of its application
abbrev pub lists_after : Option NewLists → List Link → List Link
lists_after None links = links
lists_after (Some (All lists)) links = lists.items
lists_after (Some (One list)) links = with_list list.app list.links.items links

-- a pair in its place among pairs in rising order, once
abbrev pub placed_before : Ordering → Pair → Pair → List Pair → List Pair → List Pair
placed_before Less pair first rest later = pair ∷ first ∷ rest
placed_before Equal pair first rest later = first ∷ rest
placed_before Greater pair first rest later = first ∷ later

abbrev pub with_pair : Pair → List Pair → List Pair
with_pair pair [] = pair ∷ []
with_pair pair (first ∷ rest) = placed_before (pair_cmp pair first) pair first rest (with_pair pair rest)

abbrev pub with_pairs : List Pair → List Pair → List Pair
with_pairs [] pairs = pairs
with_pairs (pair ∷ more) pairs = with_pair pair (with_pairs more pairs)

abbrev pub is_among : List Pair → Pair → Bool
is_among pairs pair = list_any (λ p. is_eq (pair_cmp p pair)) pairs

-- without those that are removed, and with those that are added
abbrev pub pairs_after : PairChange → List Pair → List Pair
pairs_after change pairs = with_pairs change.added (filter (λ pair. not (is_among change.removed pair)) pairs)

-- the change is what leads from the pairs to those after it: it removes only pairs that were there and no longer are,
-- and adds only pairs that were not there and now are
abbrev pub LeadsOn : List Pair → PairChange → Type 0
LeadsOn pairs change = Leads pairs (pairs_after change pairs) change

-- the kept jobs, by number
abbrev pub jobs_after : Option Job → (ℕ → Option Job) → ℕ → Option Job
jobs_after None jobs number = jobs number
jobs_after (Some job) jobs number = if nat_eq job.number number then Some job else jobs number

-- what the change makes of a content
abbrev pub after : Change → Content → Content
after change c = record {
  definitions = redefined change.definitions c.definitions;
  sets = sets_after change c.sets;
  in_force = lists_after change.in_force c.in_force;
  pairs = pairs_after change.pairs c.pairs;
  jobs = jobs_after change.job c.jobs;
}

-- the moves fit the set: no serial is named twice; the set has what goes, and has what changes under the same key;
-- what is put has serials that the set doesn't have
pub record FitsSet {X : Type 0} (row_of : X → Row) (moves : Moves X) (set : ℕ → Option X) : Type 0 where
  pub gone_once : HasEachOnce row_of moves.gone.items
  pub changed_once : HasEachOnce row_of moves.changed.items
  pub put_once : HasEachOnce row_of moves.put.items
  pub goes : (x : X) → Contains moves.gone.items x → set (row_of x).serial ≡ Some x
  pub changes : (x : X) → Contains moves.changed.items x → (was : X) × (set (row_of x).serial ≡ Some was)
      × (arrival_of (row_of was) ≡ arrival_of (row_of x))
  pub stays : (x : X) → Contains moves.changed.items x → look_up (λ y. (row_of y).serial) moves.gone.items
      (row_of x).serial ≡ None
  pub new : (x : X) → Contains moves.put.items x → set (row_of x).serial ≡ None

-- a change that the content admits
pub record Fits (change : Change) (c : Content) : Type 0 where
  pub ltp : FitsSet of_row change.ltp c.sets.ltp
  pub cp : FitsSet of_current change.cp c.sets.cp
  pub history : FitsSet of_row change.history c.sets.history
  pub deletions : FitsSet of_deletion change.deletions c.sets.deletions
  pub job : (job : Job) → change.job ≡ Some job → c.jobs job.number ≡ None

-- nothing moves in the set
pub record MovesNothing {X : Type 0} (moves : Moves X) : Type 0 where
  pub gone : moves.gone.items ≡ []
  pub changed : moves.changed.items ≡ []
  pub put : moves.put.items ≡ []

-- nothing changes
pub record ChangesNothing (change : Change) : Type 0 where
  pub definitions : change.definitions ≡ AsBefore
  pub bounds : change.bounds ≡ None
  pub issued : change.issued ≡ None
  pub in_force : change.in_force ≡ None
  pub ltp : MovesNothing change.ltp
  pub cp : MovesNothing change.cp
  pub history : MovesNothing change.history
  pub deletions : MovesNothing change.deletions
  pub removed : change.pairs.removed ≡ []
  pub added : change.pairs.added ≡ []
  pub job : change.job ≡ None
