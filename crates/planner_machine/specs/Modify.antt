-- What `ltp-modify-all` and `ltp-modify-one` make of the rows: what is named no more is withdrawn, what is still
-- named takes what is named now, and what is newly named is made.
use Rattle.std.specs.Prelude.{◌≡◌, ℕ, ◌+◌, Bool, false, true, ◌&&◌, List, length, Option, Some, None, option_map}
use Rattle.std.specs.Prelude.{is_none, find, if◌then◌else◌}
use Rattle.std.specs.Option.{option_and_then}
use Rattle.app_definitions.specs.declared.definitions.Definitions.{Definitions}
use Rattle.occurrences.specs.Key.{key_eq}
use Rattle.occurrences.specs.declared.key.Key.{Key}
use Rattle.occurrences.specs.declared.place.Deletion.{Deletion}
use Rattle.occurrences.specs.declared.place.Reason.TheVariants.{Withdrawn}
use Rattle.occurrences.specs.declared.place.Place.TheVariants.{LongTerm}
use Rattle.occurrences.specs.declared.reply.Reply.{Reply}
use Rattle.occurrences.specs.declared.reply.Reply.TheVariants.{Made}
use Rattle.occurrences.specs.declared.row.Origin.{Origin}
use Rattle.occurrences.specs.declared.row.Origin.TheVariants.{Added, Generated}
use Rattle.occurrences.specs.declared.row.Row.{Row}
use Rattle.planner_machine.specs.declared.content.Bounds.{Bounds}
use Rattle.planner_machine.specs.declared.content.Draft.{Draft}
use Rattle.planner_machine.specs.Content.{Seat, Sets, midnight}
use Rattle.planner_machine.specs.Drafts.{AreDrafts, IsMade, NamesWithin}
use Rattle.planner_machine.specs.Moves.{each, keep, or_else, size, with_made}

abbrev pub is_generated : Origin → Bool
is_generated (Generated run_cycle) = true
is_generated Added = false

-- the statement looks at the generated rows of the applications that pass the test
abbrev pub looks_at : (List ℕ → Bool) → Row → Bool
looks_at looks row = is_generated row.origin && looks row.key.app

-- the keys of the long-term plan's part of the days that are named for these applications; none before creation
abbrev pub NamesAhead : (List ℕ → Type 0) → Definitions → Option Bounds → Draft → Type 0
NamesAhead Looks all None draft = ⊥
NamesAhead Looks all (Some b) draft = NamesWithin all b.plan_end (midnight (b.last_day + 1)) draft × Looks draft.key.app

-- the draft of that key among these, if there is one
abbrev pub draft_with : Key → List Draft → Option Draft
draft_with key named = find (λ draft. key_eq draft.key key) named

-- the row takes the run cycle and the deadline of the draft
abbrev pub stamped : Draft → Row → Row
stamped draft row = record row { deadline = draft.deadline; origin = draft.origin }

-- what a row of the long-term plan becomes there, or none where it is withdrawn
abbrev pub modified : (Row → Bool) → List Draft → Row → Option Row
modified looked_at named row =
    if looked_at row then option_map (λ draft. stamped draft row) (draft_with row.key named) else Some row

abbrev pub withdrawn : Row → Deletion
withdrawn row = record { row = row; reason = Withdrawn }

-- a row of the long-term plan that is withdrawn
abbrev pub taken : (Row → Bool) → List Draft → Option Row → Option Row
taken looked_at named = keep (λ row. is_none (modified looked_at named row))

abbrev pub modify_move : (Row → Bool) → List Draft → Seat → Seat
modify_move looked_at named s = record s {
  ltp = option_and_then (modified looked_at named) s.ltp;
  deletions = or_else (option_map withdrawn (taken looked_at named s.ltp)) s.deletions;
}

-- `looks` tests the applications that the statement looks at, and `Looks` says the same
pub record Modifies (looks : List ℕ → Bool) (Looks : List ℕ
    → Type 0) (all : Definitions) (s : Sets) (reply : Reply) (s' : Sets) : Type 0 where
  pub named : List Draft
  pub are_named : AreDrafts (NamesAhead Looks all s.bounds) named
  pub new : List Draft
  pub are_new : AreDrafts (IsMade (NamesAhead Looks all s.bounds) s) new
  pub replies : reply ≡ Made (length new) (size (λ serial. taken (looks_at looks) named (s.ltp serial)) s.issued)
  pub becomes : s' ≡ with_made LongTerm new (each (modify_move (looks_at looks) named) s)
