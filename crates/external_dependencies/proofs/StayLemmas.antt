-- What a change doesn't reach stays.
use Rattle.std.proofs.Common.{◌⊎◌, ℕ, List, Option, inl, inr}
use Rattle.occurrences.specs.declared.key.Key.{Key}
use Rattle.external_dependencies.specs.declared.live.Arrival.{Arrival}
use Rattle.external_dependencies.specs.declared.rows.PlacedRow.{PlacedRow}
use Rattle.external_dependencies.specs.Nearest.{IsCandidate, IsLiveIn, IsNearest}

-- where nothing that came or went is a candidate, the nearest stays the nearest
module _ (Moved : Arrival → Type 0) (was now : List PlacedRow) (key : Key) (app : List ℕ) (within : Option ℕ)
    (clear : (a : Arrival) → Moved a → IsCandidate key app within a → ⊥) where
  stays : (rows : List PlacedRow) (a : Arrival) → IsCandidate key app within a → IsLiveIn rows a ⊎ Moved a
      → IsLiveIn rows a
  stays rows a may (inl here) = here
  stays rows a may (inr moved) = absurd (clear a moved may)

  pub nearest_stays : ((a : Arrival) → IsLiveIn was a → IsLiveIn now a ⊎ Moved a)
      → ((a : Arrival) → IsLiveIn now a → IsLiveIn was a ⊎ Moved a)
      → (near : Arrival) → IsNearest (IsLiveIn was) key app within near → IsNearest (IsLiveIn now) key app within near
  nearest_stays went came near is = record {
    live = stays now near is.candidate (went near is.live);
    candidate = is.candidate;
    greatest = λ other here may. is.greatest other (stays was other may (came other here)) may;
    last = λ other here may together. is.last other (stays was other may (came other here)) may together;
  }
