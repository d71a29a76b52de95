-- What making a table of all rows tells.
use Rattle.std.proofs.Common.{◌≡◌, List, subst, sym, Option, None, Some, Vec, Global}
use Rattle.std.specs.Prelude.{MatchOption}
use Rattle.external_dependencies.specs.declared.rows.PlacedRow.{PlacedRow}
use Rattle.planner_machine.specs.Sound.{AreNumbered}
use Rattle.plan_store.specs.Contents.{content_of}
use Rattle.plan_store.specs.declared.contents.Content.{Content as Kept}
use Rattle.plan_store_soundness.specs.Listing.{placed_list}
use Rattle.plan_store_soundness.specs.Seats.{AreSeated, IsTable}
use Rattle.plan_store_soundness.proofs.DistinctLemmas.{Differ}
use Rattle.plan_store_soundness.proofs.NumberedLemmas.{has_rows, numbered_from_seated, rows_differ, seated_from_numbered}
use Rattle.plan_store_soundness.proofs.SeatLemmas.{seated_from_table}

-- the answer of the call that makes a table of the rows of the list
abbrev pub IsMade : Kept → List PlacedRow → Option (Vec (Option PlacedRow) Global) → Type 0
IsMade kept list made =
    MatchOption made (AreSeated kept.issued list → ⊥) (λ table. IsTable kept.issued list table.items)

module _ (kept : Kept) (list : List PlacedRow) (all : list ≡ placed_list kept) where
  pub list_differs : Differ list
  list_differs = subst Differ (sym all) (rows_differ kept (has_rows kept))

  pub made_some : (made : Option (Vec (Option PlacedRow) Global)) (table : Vec (Option PlacedRow) Global)
      → made ≡ Some table → IsMade kept list made → IsTable kept.issued (placed_list kept) table.items
  made_some made table is told =
      subst (λ (l : List PlacedRow). IsTable kept.issued l table.items) all (subst (IsMade kept list) is told)

  pub numbered_some : (made : Option (Vec (Option PlacedRow) Global)) (table : Vec (Option PlacedRow) Global)
      → made ≡ Some table → IsMade kept list made → AreNumbered (content_of kept).sets
  numbered_some made table is told =
      numbered_from_seated kept (has_rows kept)
      (seated_from_table kept.issued (placed_list kept) table.items (made_some made table is told))

  pub numbered_none : (made : Option (Vec (Option PlacedRow) Global)) → made ≡ None → IsMade kept list made
      → AreNumbered (content_of kept).sets → ⊥
  numbered_none made is told numbered =
      let none : AreSeated kept.issued list → ⊥ = subst (IsMade kept list) is told in
      none (subst (AreSeated kept.issued) (sym all) (seated_from_numbered kept (has_rows kept) numbered))
