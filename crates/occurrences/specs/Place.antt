-- Places of occurrences.
use Rattle.std.specs.Prelude.{◌≡◌, ◌≢◌, ℕ}
use Rattle.std.specs.Str.{byte}
use Rattle.occurrences.specs.declared.place.Place.{Place}
use Rattle.occurrences.specs.declared.place.Place.TheVariants.{LongTerm, Current, History, Deleted}
use Rattle.occurrences.specs.declared.place.Reason.{Reason}
use Rattle.occurrences.specs.declared.place.Reason.TheVariants.{Operator, Withdrawn, Plan}
use Rattle.occurrences.specs.declared.status.Status.TheVariants.{W, C, D}

-- the live occurrences: those of the long-term plan, of the current plan with another status than D, and of history
abbrev pub IsLive : Place → Type 0
IsLive LongTerm = Unit {0}
IsLive (Current status) = status ≢ D
IsLive History = Unit {0}
IsLive (Deleted _) = ⊥

-- the open occurrences, whose predecessors are looked up anew: those of the long-term plan, and the waiting ones
-- of the current plan
abbrev pub IsOpen : Place → Type 0
IsOpen LongTerm = Unit {0}
IsOpen (Current status) = status ≡ W
IsOpen History = ⊥
IsOpen (Deleted _) = ⊥

-- the complete occurrences: the completed ones of the current plan, and those of history
abbrev pub IsComplete : Place → Type 0
IsComplete LongTerm = ⊥
IsComplete (Current status) = status ≡ C
IsComplete History = Unit {0}
IsComplete (Deleted _) = ⊥

-- the letter that lists and tables show for a reason
abbrev pub reason_letter : Reason → ℕ
reason_letter Operator = byte "O"
reason_letter Withdrawn = byte "W"
reason_letter Plan = byte "P"
