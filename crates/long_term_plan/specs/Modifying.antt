-- What `ltp-modify-all` and `ltp-modify-one` make of the rows of the long-term plan.
use Rattle.std.specs.Prelude.{◌≡◌, ◌≢◌, ◌⊎◌, ◌↔◌, ℕ, ◌+◌, ◌<◌, Bool, true, false, List, Contains, Option, None, Some}
use Rattle.std.specs.Prelude.{filter, is_none, length, option_map, slice_index_or, if◌then◌else◌}
use Rattle.std.specs.List.{AllPairs, filter_map}
use Rattle.app_occurrences.specs.Active.{IsActive}
use Rattle.app_definition_records.specs.declared.applications.Application.{Application}
use Rattle.app_definitions.specs.declared.definitions.Definitions.{Definitions}
use Rattle.occurrences.specs.declared.key.Key.{Key}
use Rattle.occurrences.specs.declared.place.CurrentRow.{CurrentRow}
use Rattle.occurrences.specs.declared.place.Place.TheVariants.{LongTerm}
use Rattle.occurrences.specs.declared.refusal.Refusal.TheVariants.{TooManyRows}
use Rattle.occurrences.specs.declared.reply.Reply.{Reply}
use Rattle.occurrences.specs.declared.reply.Reply.TheVariants.{Made}
use Rattle.occurrences.specs.declared.row.Row.{Row}
use Rattle.occurrences.specs.declared.serial.TheConstants.{GREATEST_SERIAL}
use Rattle.external_dependencies.specs.declared.links.Link.{Link}
use Rattle.planner_machine.specs.declared.content.Draft.{Draft}
use Rattle.planner_machine.specs.declared.limits.TheConstants.{MOST_PLANNED_ROWS}
use Rattle.planner_machine.specs.Content.{Content, Sets}
use Rattle.planner_machine.specs.Drafts.{AreDrafts, IsMade}
use Rattle.planner_machine.specs.Modify.{NamesAhead, looks_at, modified, modify_move, stamped, taken}
use Rattle.planner_machine.specs.ModifyAll.{IsAnyApp, is_any_app}
use Rattle.planner_machine.specs.ModifyOne.{IsThatApp, is_that_app}
use Rattle.planner_machine.specs.Moves.{each, size, with_made}
use Rattle.planner_machine.specs.Plans.{HoldTooMany}
use Rattle.plan_store_lists.specs.Rows.{HasEachOnce, of_current, of_row}
use Rattle.plan_store_pairs.specs.LiveRows.{AreCompleted, HasLists}
use Rattle.plan_store.specs.Views.{IsAny, ListsSet}
use Rattle.plan_store.specs.declared.changes.Verdict.{Verdict}
use Rattle.plan_store.specs.declared.changes.Verdict.TheVariants.{Done, Refused}
use Rattle.long_term_plan.specs.Making.{MakesSets, numbered}

-- the applications that a statement looks at: all, or one
abbrev pub looks : Option (List ℕ) → List ℕ → Bool
looks None = is_any_app
looks (Some app) = is_that_app app

abbrev pub Looks : Option (List ℕ) → List ℕ → Type 0
Looks None = IsAnyApp
Looks (Some app) = IsThatApp app

-- names without duplicates, among them each active one of these applications
pub record AreAsked (all : Definitions) (only : Option (List ℕ)) (apps : List (List ℕ)) : Type 0 where
  pub apart : AllPairs (λ a b. (a ≡ b) → ⊥) apps
  pub looked : (app : List ℕ) → Contains apps app → Looks only app
  pub active : (app : List ℕ) (a : Application) → IsActive all app a → Looks only app → Contains apps app

-- what happens to a row that the statement looks at, by the drafts that are named
abbrev pub outcome : Option (List ℕ) → List Draft → Row → Option Row
outcome only named = modified (looks_at (looks only)) named

-- the same, if that draft is named under its key, or none
abbrev pub outcome_with : Option (List ℕ) → Option Draft → Row → Option Row
outcome_with only draft row = if looks_at (looks only) row then option_map (λ d. stamped d row) draft else Some row

-- the draft at that place has the key, or no draft has it
abbrev pub IsDraftAt : Key → List Draft → Option ℕ → Type 0
IsDraftAt key named (Some i) = i < length named × ((d : Draft) → (slice_index_or named i d).key ≡ key)
IsDraftAt key named None = (draft : Draft) → Contains named draft → draft.key ≢ key

-- one of the rows has the key
abbrev pub HasKey : List Row → Key → Type 0
HasKey rows key = (row : Row) × Contains rows row × (row.key ≡ key)

-- for each draft, whether one of the rows has its key
pub record AreMet (rows : List Row) (named : List Draft) (met : List Bool) : Type 0 where
  pub count : length met ≡ length named
  pub says : (i : ℕ) (draft : Draft) → i < length named → slice_index_or named i draft ≡ draft
      → (slice_index_or met i false ≡ true) ↔ HasKey rows draft.key

-- of the rows that stay those that change, and no others
pub record AreChanged (becomes : Row → Option Row) (rows changed : List Row) : Type 0 where
  pub from : (x : Row) → Contains changed x → (row : Row) × Contains rows row × (becomes row ≡ Some x) × (x ≢ row)
  pub all : (row x : Row) → Contains rows row → becomes row ≡ Some x → Contains changed x ⊎ (x ≡ row)
  pub once : HasEachOnce of_row rows → ((row x : Row) → becomes row ≡ Some x → x.serial ≡ row.serial)
      → HasEachOnce of_row changed

-- the rows as they stay, those that are withdrawn, and of those that stay those that change
pub record AreParted (becomes : Row → Option Row) (rows planned gone changed : List Row) : Type 0 where
  pub stay : planned ≡ filter_map becomes rows
  pub go : gone ≡ filter (λ row. is_none (becomes row)) rows
  pub change : AreChanged becomes rows changed

-- the lists split the rows of the long-term plan
pub record PartsPlan (s : Sets) (only : Option (List ℕ)) (named : List Draft) (planned gone changed : List Row) : Type
    0 where
  pub rows : List Row
  pub lists : ListsSet of_row s.ltp IsAny rows
  pub parts : AreParted (outcome only named) rows planned gone changed

-- the sets have these rows in the long-term plan, and in the current plan and history what the sets before have
abbrev pub HavePlanned : Sets → List Row → Sets → Type 0
HavePlanned before planned s = (cp : List CurrentRow) → ListsSet of_current before.cp IsAny cp → (history : List Row)
    → AreCompleted before history → HasLists s planned cp history

-- the plans would hold more rows than they may, or the serials would pass the greatest
abbrev pub AreTooMany : Sets → ℕ → ℕ → Type 0
AreTooMany s kept new = (MOST_PLANNED_ROWS < kept + size s.cp s.issued + new) ⊎ (GREATEST_SERIAL < s.issued + new)

-- the sets where the rows are modified by the drafts that are named, and the new ones are made
abbrev pub modified_sets : Option (List ℕ) → List Draft → List Draft → Sets → Sets
modified_sets only named new s = with_made LongTerm new (each (modify_move (looks_at (looks only)) named) s)

-- the parts of a modification: rows that go and rows that change of the long-term plan, and the new drafts as the rows
-- that come
pub record AreModifying (s : Sets) (only : Option (List ℕ)) (named new : List Draft) (gone changed put : List Row) : Type
    0 where
  pub planned : List Row
  pub parts : PartsPlan s only named planned gone changed
  pub come : put ≡ numbered s.issued new

-- the list has those of these rows that are of these applications
abbrev pub AreOf : List (List ℕ) → List Row → List Row → Type 0
AreOf apps rows own = (row : Row) → Contains own row ↔ (Contains rows row × Contains apps row.key.app)

-- the reply counts those that are made, and those that are withdrawn
abbrev pub modified_reply : Option (List ℕ) → List Draft → List Draft → Sets → Reply
modified_reply only named new s =
    Made (length new) (size (λ serial. taken (looks_at (looks only)) named (s.ltp serial)) s.issued)

-- the rows are modified, and counted in the reply
abbrev pub ModifiesRows : Content → List Link → Option (List ℕ) → List Draft → List Draft → Verdict → Type 0
ModifiesRows c links only named new (Done change reply) =
    MakesSets c (modified_sets only named new c.sets) links change × (reply ≡ modified_reply only named new c.sets)
ModifiesRows c links only named new (Refused refusal) = ⊥

-- they are modified and the sets don't hold too many, or they would hold too many
abbrev pub IsModifiedOrTooMany : Content → List Link → Option (List ℕ) → List Draft → List Draft → Verdict → Type 0
IsModifiedOrTooMany c links only named new (Done change reply) =
    (HoldTooMany (modified_sets only named new c.sets) → ⊥) × ModifiesRows c links only named new (Done change reply)
IsModifiedOrTooMany c links only named new (Refused refusal) =
    HoldTooMany (modified_sets only named new c.sets) × (refusal ≡ TooManyRows)

-- what is named from the plan end on for the applications that the statement looks at
abbrev pub NamesThen : Content → Option (List ℕ) → Draft → Type 0
NamesThen c only = NamesAhead (Looks only) c.definitions c.sets.bounds

-- the plan is modified by what is named, or would hold too many rows
pub record ModifiesPlan (c : Content) (only : Option (List ℕ)) (links : List Link) (verdict : Verdict) : Type 0 where
  pub named : List Draft
  pub are_named : AreDrafts (NamesThen c only) named
  pub new : List Draft
  pub are_new : AreDrafts (IsMade (NamesThen c only) c.sets) new
  pub outcome : IsModifiedOrTooMany c links only named new verdict
