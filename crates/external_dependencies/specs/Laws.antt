-- What the definitions of predecessors and pairs imply.
use Rattle.std.specs.Prelude.{◌≡◌, ◌<◌, ◌⊎◌, ◌↔◌, ℕ, List, Contains, Option}
use Rattle.std.specs.Cmp.{IsTotalOrder}
use Rattle.std.specs.declared.cmp.Ordering.{Ordering}
use Rattle.std.specs.Ordering.{MatchOrdering}
use Rattle.occurrences.specs.declared.key.Key.{Key}
use Rattle.occurrences.specs.Order.{IsStrictOrder, Ranks}
use Rattle.occurrences.specs.Place.{IsLive}
use Rattle.external_dependencies.specs.declared.links.Link.{Link}
use Rattle.external_dependencies.specs.declared.live.Arrival.{Arrival}
use Rattle.external_dependencies.specs.declared.rows.PlacedRow.{PlacedRow}
use Rattle.external_dependencies.specs.declared.pairs.Pair.{Pair}
use Rattle.external_dependencies.specs.Link.{HaveSameNames, LinkBefore, link_cmp}
use Rattle.external_dependencies.specs.Loop.{OnRing, OnLoop}
use Rattle.external_dependencies.specs.Nearest.{IsLiveIn, IsCandidate, IsNearest}
use Rattle.external_dependencies.specs.Pair.{IsPairOf}
use Rattle.external_dependencies.specs.Rising.{HaveSame}

-- no two live rows have one key
abbrev pub LiveKeysDiffer : List PlacedRow → Type 0
LiveKeysDiffer rows =
    (p q : PlacedRow) → Contains rows p → Contains rows q → IsLive p.place → IsLive q.place
    → p.row.key ≡ q.row.key → p.row ≡ q.row

-- rows of one serial have one key
abbrev pub SerialsDiffer : List PlacedRow → Type 0
SerialsDiffer rows =
    (p q : PlacedRow) → Contains rows p → Contains rows q → p.row.serial ≡ q.row.serial → p.row.key ≡ q.row.key

-- a pair from scratch, as an edge from a successor to its predecessor
abbrev pub PairEdge : List PlacedRow → List Link → ℕ → ℕ → Type 0
PairEdge rows links successor predecessor =
    IsPairOf rows links (record { successor = successor; predecessor = predecessor })

abbrev pub NearestIsUnique : Type 0
NearestIsUnique =
    (rows : List PlacedRow) (key : Key) (app : List ℕ) (within : Option ℕ) (x y : Arrival)
    → IsNearest (IsLiveIn rows) key app within x → IsNearest (IsLiveIn rows) key app within y → x ≡ y

abbrev pub NearestArrivesLast : Type 0
NearestArrivesLast =
    (rows : List PlacedRow) → LiveKeysDiffer rows → (key : Key) (app : List ℕ) (within : Option ℕ)
    (near other : Arrival) → IsNearest (IsLiveIn rows) key app within near → IsLiveIn rows other
    → IsCandidate key app within other
    → (other ≡ near) ⊎ (other.ia < near.ia)

abbrev pub PairsDependOnSet : Type 0
PairsDependOnSet =
    (rows rows' : List PlacedRow) (links links' : List Link) → HaveSame rows rows' → HaveSame links links'
    → (pair : Pair) → IsPairOf rows links pair ↔ IsPairOf rows' links' pair

abbrev pub PairsHaveNoLoop : Type 0
PairsHaveNoLoop =
    (rows : List PlacedRow) (links : List Link) → SerialsDiffer rows → ((app : List ℕ) → OnLoop links app → ⊥)
    → (serial : ℕ) → OnRing (PairEdge rows links) serial → ⊥

abbrev pub NoRowPrecedesItself : Type 0
NoRowPrecedesItself =
    (rows : List PlacedRow) (links : List Link) → SerialsDiffer rows → (serial : ℕ)
    → PairEdge rows links serial serial → ⊥

-- a comparison is the order of a relation, in which only equal values tie, and tests agree with it
pub record IsOrderBy {X : Type 0} (cmp : X → X → Ordering) (Before : X → X → Type 0) : Type 0 where
  pub strict : IsStrictOrder Before
  pub total : IsTotalOrder cmp
  pub ranks : Ranks cmp Before

-- links compare by their names: the order of a relation, in which links of the same names tie, and no others
pub record IsOrderOfNames : Type 0 where
  pub strict : IsStrictOrder LinkBefore
  pub total : IsTotalOrder link_cmp
  pub ranks : (a b : Link) → MatchOrdering (link_cmp a b) (LinkBefore a b) (HaveSameNames a b) (LinkBefore b a)
