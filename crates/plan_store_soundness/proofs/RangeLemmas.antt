-- Ranges of the rows of a content.
use Rattle.std.proofs.Common.{List}
use Rattle.std.specs.List.{All, Contains}
use Rattle.std.proofs.lemmas.List.Elements.{All-contains, All-contains_itself, All-weaker}
use Rattle.external_dependencies.specs.declared.links.Link.{Link}
use Rattle.external_dependencies.specs.declared.rows.PlacedRow.{PlacedRow}
use Rattle.planner_machine.specs.Sound.{AreNumbered, IsLink, IsRow}
use Rattle.plan_store.specs.Contents.{content_of}
use Rattle.plan_store.specs.declared.contents.Content.{Content as Kept}
use Rattle.plan_store_soundness.specs.Listing.{placed_list}
use Rattle.plan_store_soundness.specs.Ranges.{HaveRanges}
use Rattle.plan_store_soundness.proofs.NumberedLemmas.{HasRows, listed_stands, stands_listed}

module _ (kept : Kept) (rows : HasRows kept) where
  abbrev AreAll : Type 0
  AreAll = All (λ (p : PlacedRow). IsRow p.row) (placed_list kept)

  pub ranges_from : AreAll → HaveRanges (content_of kept).sets
  ranges_from are serial p stands =
      All-contains (λ (x : PlacedRow). IsRow x.row) (placed_list kept) p are (stands_listed kept rows serial p stands).0

  pub ranges_to : AreNumbered (content_of kept).sets → HaveRanges (content_of kept).sets → AreAll
  ranges_to numbered have =
      All-weaker (Contains (placed_list kept)) (λ (x : PlacedRow). IsRow x.row)
      (λ p there. have p.row.serial p (listed_stands kept rows numbered p there)) (placed_list kept)
      (All-contains_itself (placed_list kept))

module _ (links : List Link) where
  pub links_from : All IsLink links → (link : Link) → Contains links link → IsLink link
  links_from are link there = All-contains IsLink links link are there

  pub links_to : ((link : Link) → Contains links link → IsLink link) → All IsLink links
  links_to are = All-weaker (Contains links) IsLink are links (All-contains_itself links)
