-- What contracts see of an index that counts its questions: the index, and how many were asked.
use Rattle.std.specs.Prelude.{ℕ, ◌+◌, ◌-◌, ◌^◌, Bool, List, min}

-- the statuses of the index's days, and the count, which stays at the greatest number of 64 bits
pub record CountedStatuses : Type 0 where
  pub statuses : List Bool
  pub asked : ℕ

-- nothing was asked yet
abbrev pub nothing_asked : List Bool → CountedStatuses
nothing_asked statuses = record { statuses = statuses; asked = 0 }

-- one question more
abbrev pub one_asked : CountedStatuses → CountedStatuses
one_asked c = record c { asked = min (c.asked + 1) (2 ^ 64 - 1) }
