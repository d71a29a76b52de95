-- What statements make of the rows: each seat is changed by itself, and rows are put under new serials.
use Rattle.std.specs.Prelude.{ℕ, zero, suc, ◌+◌, ◌-◌, Bool, List, length, slice_get, Option, Some, None, option_map}
use Rattle.std.specs.Prelude.{nat_lt, if◌then◌else◌}
use Rattle.occurrences.specs.Key.{key_eq}
use Rattle.occurrences.specs.declared.key.Key.{Key}
use Rattle.occurrences.specs.declared.place.Place.{Place}
use Rattle.occurrences.specs.declared.row.Row.{Row}
use Rattle.planner_machine.specs.declared.content.Bounds.{Bounds}
use Rattle.planner_machine.specs.declared.content.Draft.{Draft}
use Rattle.planner_machine.specs.Content.{Seat, Sets, alone, seat}

-- the first, or the second if the first has nothing
abbrev pub or_else : {X : Type 0} → Option X → Option X → Option X
or_else None y = y
or_else (Some x) y = Some x

-- what passes the test
abbrev pub keep : {X : Type 0} → (X → Bool) → Option X → Option X
keep passes None = None
keep passes (Some x) = if passes x then Some x else None

-- the row has the key
abbrev pub has_key : Key → Row → Bool
has_key key row = key_eq row.key key

-- the four sets, changed serial by serial
abbrev pub each : (Seat → Seat) → Sets → Sets
each move s = record s {
  ltp = λ serial. (move (seat s serial)).ltp;
  cp = λ serial. (move (seat s serial)).cp;
  history = λ serial. (move (seat s serial)).history;
  deletions = λ serial. (move (seat s serial)).deletions;
}

abbrev pub with_bounds : Bounds → Sets → Sets
with_bounds b s = record s { bounds = Some b }

-- how many of the serials from 1 to n a set has
abbrev pub bit : {X : Type 0} → Option X → ℕ
bit None = 0
bit (Some _) = 1

abbrev pub size : {X : Type 0} → (ℕ → Option X) → ℕ → ℕ
size set zero = 0
size set (suc n) = size set n + bit (set (suc n))

-- the row of a draft under its serial
abbrev pub numbered_row : ℕ → Draft → Row
numbered_row serial draft =
    record { key = draft.key; serial = serial; deadline = draft.deadline; origin = draft.origin }

-- the drafts as rows, numbered from n + 1 on in their order
abbrev pub made : ℕ → List Draft → ℕ → Option Row
made n drafts serial = if nat_lt n serial then option_map (numbered_row serial)
    (slice_get drafts (serial - suc n)) else None

-- the seat, or where a row is made, that row alone in its place
abbrev pub seat_made : Place → Option Row → Seat → Seat
seat_made place None s = s
seat_made place (Some row) s = alone row place

-- the rows of the drafts stand in the place, under the serials after those issued
abbrev pub with_made : Place → List Draft → Sets → Sets
with_made place drafts s = record s {
  issued = s.issued + length drafts;
  ltp = λ serial. (seat_made place (made s.issued drafts serial) (seat s serial)).ltp;
  cp = λ serial. (seat_made place (made s.issued drafts serial) (seat s serial)).cp;
  history = λ serial. (seat_made place (made s.issued drafts serial) (seat s serial)).history;
  deletions = λ serial. (seat_made place (made s.issued drafts serial) (seat s serial)).deletions;
}
