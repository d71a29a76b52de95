-- Pairs after a change, from those before it.
use Rattle.std.specs.Prelude.{◌≡◌, ◌⊎◌, ◌↔◌, List, Contains}
use Rattle.occurrences.specs.Place.{IsLive, IsOpen}
use Rattle.external_dependencies.specs.declared.links.Link.{Link}
use Rattle.external_dependencies.specs.declared.pairs.Pair.{Pair}
use Rattle.external_dependencies.specs.declared.rows.PlacedRow.{PlacedRow}
use Rattle.external_dependencies.specs.Pair.{IsPairOf}

-- no serial appears twice
abbrev pub IsOnce : List PlacedRow → Type 0
IsOnce rows = (p q : PlacedRow) → Contains rows p → Contains rows q → p.row.serial ≡ q.row.serial → p ≡ q

-- the successor is live and no longer open, and had the pair
pub record IsKeptIn (old : List Pair) (rows : List PlacedRow) (pair : Pair) : Type 0 where
  pub placed : PlacedRow
  pub stands : Contains rows placed
  pub successor : placed.row.serial ≡ pair.successor
  pub live : IsLive placed.place
  pub closed : IsOpen placed.place → ⊥
  pub had : Contains old pair

-- a pair of these rows and lists, where the pairs before are such: of an open occurrence those with its nearest
-- predecessors, of one that is live and no longer open those that it had
abbrev pub IsSettledPair : List Pair → List PlacedRow → List Link → Pair → Type 0
IsSettledPair old rows links pair = IsPairOf rows links pair ⊎ IsKeptIn old rows pair

-- the pairs are those of the rows and lists
abbrev pub AreSettled : List PlacedRow → List Link → List Pair → Type 0
AreSettled rows links pairs = (pair : Pair) → Contains pairs pair ↔ IsSettledPair pairs rows links pair
