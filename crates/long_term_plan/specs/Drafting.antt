-- Lists of drafts: those that the calendars name from a moment on, and those of them that are new.
use Rattle.std.specs.Prelude.{◌≡◌, ◌≢◌, ◌↔◌, ℕ, ◌<◌, ◌≤◌, ◌++◌, Bool, true, false, List, Contains, Some, filter, map}
use Rattle.std.specs.Prelude.{length, nat_le, slice_index_or}
use Rattle.std.specs.List.{AllPairs}
use Rattle.work_calendars.specs.Moment.{day_of_moment}
use Rattle.run_cycles.specs.declared.named.Named.{Named}
use Rattle.app_definitions.specs.declared.definitions.Definitions.{Definitions}
use Rattle.occurrences.specs.Key.{KeyBefore}
use Rattle.occurrences.specs.declared.key.Key.{Key}
use Rattle.occurrences.specs.declared.place.Deletion.{Deletion}
use Rattle.occurrences.specs.declared.place.Reason.TheVariants.{Operator}
use Rattle.occurrences.specs.declared.row.Row.{Row}
use Rattle.planner_machine.specs.declared.content.Draft.{Draft}
use Rattle.planner_machine.specs.Content.{Sets}
use Rattle.planner_machine.specs.Drafts.{IsNamed, NamesWithin, draft_of}
use Rattle.planner_machine.specs.Sound.{AreDefinitions}

-- the draft arrives at or after the moment
abbrev pub is_from : ℕ → Draft → Bool
is_from first draft = nat_le first draft.key.ia

-- the drafts of an application's named occurrences that arrive at or after the moment
abbrev pub drafts_from : List ℕ → ℕ → List Named → List Draft
drafts_from app first named = filter (is_from first) (map (draft_of app) named)

-- no two drafts have one key
abbrev pub HaveOwnKeys : List Draft → Type 0
HaveOwnKeys drafts = AllPairs (λ a b. a.key ≢ b.key) drafts

-- each draft comes before the next by its key
abbrev pub DraftsRise : List Draft → Type 0
DraftsRise drafts = AllPairs (λ a b. KeyBefore a.key b.key) drafts

-- the calendars name the draft for the application, on a day from the moment's to the last, at or after the moment
pub record IsNamedFrom (all : Definitions) (app : List ℕ) (first last : ℕ) (draft : Draft) : Type 0 where
  pub occurrence : Named
  pub named : IsNamed all app occurrence
  pub begun : day_of_moment first ≤ occurrence.day
  pub ended : occurrence.day ≤ last
  pub is : draft ≡ draft_of app occurrence
  pub from : first ≤ draft.key.ia

-- the list has exactly those drafts of the application, and where the definitions are sound no key twice
pub record AreDraftsOf (all : Definitions) (app : List ℕ) (first last : ℕ) (drafts : List Draft) : Type 0 where
  pub exactly : (draft : Draft) → Contains drafts draft
      ↔ ((draft.key.app ≡ app) × IsNamedFrom all app first last draft)
  pub apart : AreDefinitions all → HaveOwnKeys drafts

-- the drafts of the application are added
pub record AddsDrafts (all : Definitions) (app : List ℕ) (first last : ℕ) (old new : List Draft) : Type 0 where
  pub more : List Draft
  pub are : AreDraftsOf all app first last more
  pub added : new ≡ old ++ more

-- the list has exactly the drafts of these applications, and where the definitions are sound no key twice
pub record AreCollected (all : Definitions) (apps : List (List ℕ)) (first last : ℕ) (drafts : List Draft) : Type
    0 where
  pub exactly : (draft : Draft) → Contains drafts draft
      ↔ (Contains apps draft.key.app × IsNamedFrom all draft.key.app first last draft)
  pub apart : AreDefinitions all → HaveOwnKeys drafts

-- the calendars name the draft for one of the applications, at or after the one moment and before the other
abbrev pub NamesFor : Definitions → List (List ℕ) → ℕ → ℕ → Draft → Type 0
NamesFor all apps first end draft = NamesWithin all first end draft × Contains apps draft.key.app

-- no row of the long-term plan has the key, and no operator deleted an occurrence of it
pub record IsNewKey (s : Sets) (key : Key) : Type 0 where
  pub not_planned : (serial : ℕ) (row : Row) → s.ltp serial ≡ Some row → row.key ≢ key
  pub not_deleted : (serial : ℕ) (deletion : Deletion) → s.deletions serial ≡ Some deletion
      → deletion.reason ≡ Operator → deletion.row.key ≢ key

-- a row of the long-term plan has the key
abbrev pub IsPlannedKey : Sets → Key → Type 0
IsPlannedKey s key = (serial : ℕ) × (row : Row) × (s.ltp serial ≡ Some row) × (row.key ≡ key)

-- for each draft, whether a row of the long-term plan has its key
abbrev pub ArePlannedKeys : Sets → List Draft → List Bool → Type 0
ArePlannedKeys s named met = (i : ℕ) (draft : Draft) → i < length named → slice_index_or named i draft ≡ draft
    → (slice_index_or met i false ≡ true) ↔ IsPlannedKey s draft.key

-- of the named drafts those of new keys, in their order
pub record AreNew (s : Sets) (named new : List Draft) : Type 0 where
  pub in_order : DraftsRise named → DraftsRise new
  pub exactly : (draft : Draft) → Contains new draft ↔ (Contains named draft × IsNewKey s draft.key)
