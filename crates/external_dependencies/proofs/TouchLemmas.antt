-- What came or went is named, by rows; and the changes of one row, which comes, or goes, or changes its place and lives
-- on.
use Rattle.std.proofs.Common.{◌≡◌, ◌≢◌, ◌↔◌, ◌⊎◌, List, subst, inl, inr}
use Rattle.std.specs.List.{Contains}
use Rattle.occurrences.specs.declared.row.Row.{Row}
use Rattle.external_dependencies.specs.declared.links.Link.{Link}
use Rattle.external_dependencies.specs.declared.live.Arrival.{Arrival}
use Rattle.external_dependencies.specs.declared.rows.PlacedRow.{PlacedRow}
use Rattle.external_dependencies.specs.declared.touch.Touch.{Touch}
use Rattle.external_dependencies.specs.Nearest.{IsLiveIn, arrival_of}
use Rattle.external_dependencies.specs.Reach.{HasMoved}
use Rattle.external_dependencies.specs.Settled.{IsOnce}
use Rattle.external_dependencies.specs.Touch.{LivesIn, Touches}

-- a row that lives under the serial and key of another arrives as that one
lives_so : (rows : List PlacedRow) (row : Row) → LivesIn rows row → IsLiveIn rows (arrival_of row)
lives_so rows row (p, there, live, serial, key) = (
  p,
  there,
  live,
  λ i. record { app = (key i).app; ia = (key i).ia; serial = serial i },
)

-- an arrival that went is of a row that was withdrawn, one that came of a row that was made
module _ (touch : Touch) (was now : List PlacedRow) (was_links links : List Link)
    (turn : Touches touch was now was_links links) where
  pub went : (a : Arrival) → IsLiveIn was a → IsLiveIn now a ⊎ HasMoved touch a
  went a (p, there, live, arrives) = elim (turn.lives_on p there live) [
    | inl on ↦ inl (subst (IsLiveIn now) arrives (lives_so now p.row on))
    | inr gone ↦ inr (p.row, inr gone, arrives)
  ]

  pub came : (a : Arrival) → IsLiveIn now a → IsLiveIn was a ⊎ HasMoved touch a
  came a (q, there, live, arrives) = elim (turn.lived q there live) [
    | inl on ↦ inl (subst (IsLiveIn was) arrives (lives_so was q.row on))
    | inr new ↦ inr (q.row, inl new, arrives)
  ]

-- the second list is the first with one row more, of a new serial
pub record IsWith (rows : List PlacedRow) (placed : PlacedRow) (more : List PlacedRow) : Type 0 where
  pub exactly : (q : PlacedRow) → Contains more q ↔ (Contains rows q ⊎ (placed ≡ q))
  pub once : IsOnce rows
  pub new : (p : PlacedRow) → Contains rows p → p.row.serial ≢ placed.row.serial
