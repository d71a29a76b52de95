-- Lists that are the same where rows need them.
use Rattle.std.proofs.Common.{◌≡◌, List, refl, inl, inr}
use Rattle.std.specs.List.{Contains}
use Rattle.external_dependencies.specs.declared.links.Link.{Link}
use Rattle.external_dependencies.specs.declared.pairs.Pair.{Pair}
use Rattle.external_dependencies.specs.declared.rows.PlacedRow.{PlacedRow}
use Rattle.external_dependencies.specs.declared.touch.Touch.{Touch}
use Rattle.external_dependencies.specs.Pair.{IsPairAmong}
use Rattle.external_dependencies.specs.Reached.{AreAsked, HaveSameLists}
use Rattle.external_dependencies.specs.Touch.{MayReach}
use Rattle.external_dependencies.proofs.ExactLemmas.{AreFound}

module _ (links links' : List Link) (q : PlacedRow)
    (have : (link : Link) → link.app ≡ q.row.key.app → Contains links link → Contains links' link) where
  reach_on : (touch : Touch) → MayReach touch links q.row → MayReach touch links' q.row
  reach_on touch (inl anew) = inl anew
  reach_on touch (inr (inl changed)) = inr (inl changed)
  reach_on touch (inr (inr (link, there, (of_app, moved)))) = inr (inr (link, have link of_app there, (of_app, moved)))

module _ (rows : List PlacedRow) (some links : List Link) (same : HaveSameLists rows some links) where
  -- what is asked by them is asked by all
  pub asked_of_all : (touch : Touch) (asked : List PlacedRow) → AreAsked touch some rows asked
      → AreAsked touch links rows asked
  asked_of_all touch asked are q = (
    (λ there.
        let is = (are q).0 there in
        (is.0, (is.1.0, reach_on some links q (λ link of_app. (same q is.0 link of_app).0) touch is.1.1))),
    λ is. (are q).1
        (is.0, (is.1.0, reach_on links some q (λ link of_app. (same q is.0 link of_app).1) touch is.1.1)),
  )

  -- and what is found by them
  pub found_of_all : (asked : List PlacedRow) → ((q : PlacedRow) → Contains asked q → Contains rows q)
      → (found : List Pair) → AreFound rows asked some found → AreFound rows asked links found
  found_of_all asked among found are pair = (
    (λ there.
        let is = (are pair).0 there in
        pair_on some links is ((same is.placed (among is.placed is.stands)
        (record { app = is.placed.row.key.app; predecessor = is.app; within = is.within }) refl).0 is.listed)),
    λ is. (are pair).1 (pair_on links some is ((same is.placed (among is.placed is.stands)
        (record { app = is.placed.row.key.app; predecessor = is.app; within = is.within }) refl).1 is.listed)),
  )
    where
      pair_on : (links links' : List Link) → (is : IsPairAmong rows asked links pair)
          → Contains links' (record { app = is.placed.row.key.app; predecessor = is.app; within = is.within })
          → IsPairAmong rows asked links' pair
      pair_on links links' is listed = record {
        placed = is.placed;
        stands = is.stands;
        waits = is.waits;
        successor = is.successor;
        app = is.app;
        within = is.within;
        listed = listed;
        near = is.near;
        nearest = is.nearest;
        predecessor = is.predecessor;
      }
