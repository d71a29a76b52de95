-- The pairs of one row, link by link.
use Rattle.std.proofs.Common.{◌≡◌, ◌↔◌, ◌⊎◌, ℕ, List, [], ◌∷◌, ◌++◌, refl, sym, ap, subst, ◌∙◌, inl, inr, arith}
use Rattle.std.proofs.Common.{Option, Some, None}
use Rattle.std.specs.List.{Contains}
use Rattle.std.proofs.lemmas.List.Elements.{Contains-append_left, Contains-push, Contains-push_cases}
use Rattle.occurrences.specs.declared.key.Key.{Key}
use Rattle.occurrences.specs.declared.row.Row.{Row}
use Rattle.external_dependencies.specs.Nearest.{IsNearest, IsNearestAnswer}
use Rattle.external_dependencies.specs.declared.links.Link.{Link}
use Rattle.external_dependencies.specs.declared.live.Arrival.{Arrival}
use Rattle.external_dependencies.specs.declared.pairs.Pair.{Pair}
use Rattle.planner_machine.specs.Content.{Sets}
use Rattle.planner_machine.specs.Pairs.{LiveAt}
use Rattle.plan_store_pairs.specs.RowPairs.{IsRowPair}
use Rattle.plan_store_pairs.proofs.ListLemmas.{none}

-- there is one nearest
pub nearest_once : (Live : Arrival → Type 0) (key : Key) (app : List ℕ) (within : Option ℕ) (a b : Arrival)
    → IsNearest Live key app within a → IsNearest Live key app within b → a.serial ≡ b.serial
nearest_once Live key app within a b near near' =
    let below = near'.greatest a near.live near.candidate in
    let above = near.greatest b near'.live near'.candidate in
    let same : a.ia ≡ b.ia = omega (arith, below, above) in
    let first = near'.last a near.live near.candidate same in
    let second = near.last b near'.live near'.candidate (sym same) in
    omega (arith, first, second)

-- a pair of the row by some links
pub record IsPairBy (s : Sets) (row : Row) (list : List Link) (pair : Pair) : Type 0 where
  pub successor : row.serial ≡ pair.successor
  pub link : Link
  pub listed : Contains list link
  pub near : Arrival
  pub nearest : IsNearest (LiveAt s) row.key link.predecessor link.within near
  pub predecessor : near.serial ≡ pair.predecessor

abbrev pub ArePairsBy : Sets → Row → List Link → List Pair → Type 0
ArePairsBy s row list pairs = (pair : Pair) → Contains pairs pair ↔ IsPairBy s row list pair

module _ (s : Sets) (row : Row) where
  pub by_none : ArePairsBy s row [] []
  by_none pair = ((λ there. absurd (none pair there)), λ is. absurd (none is.link is.listed))

  module _ (list : List Link) (now : List Pair) (so_far : ArePairsBy s row list now) (link : Link) where
    wider : (pair : Pair) → IsPairBy s row list pair → IsPairBy s row (list ++ link ∷ []) pair
    wider pair is = record {
      successor = is.successor;
      link = is.link;
      listed = Contains-append_left list (link ∷ []) is.link is.listed;
      near = is.near;
      nearest = is.nearest;
      predecessor = is.predecessor;
    }

    narrower : (pair : Pair) (is : IsPairBy s row (list ++ link ∷ []) pair)
        → IsPairBy s row list pair ⊎ IsNearest (LiveAt s) row.key link.predecessor link.within is.near
    narrower pair is = elim (Contains-push_cases list link is.link is.listed) [
      | inl before ↦ inl (record {
        successor = is.successor;
        link = is.link;
        listed = before;
        near = is.near;
        nearest = is.nearest;
        predecessor = is.predecessor;
      })
      | inr same ↦ inr (subst (λ (l : Link). IsNearest (LiveAt s) row.key l.predecessor l.within is.near) (sym same) is.nearest)
    ]

    pub by_more : (serial : ℕ) → IsNearestAnswer (LiveAt s) row.key link.predecessor link.within (Some serial)
        → ArePairsBy s row (list ++ link ∷ []) (now ++ (record { successor = row.serial; predecessor = serial }) ∷ [])
    by_more serial (near, nearest, same) pair = (forward, backward)
      where
        forward : Contains (now ++ (record { successor = row.serial; predecessor = serial }) ∷ []) pair
            → IsPairBy s row (list ++ link ∷ []) pair
        forward there =
            elim (Contains-push_cases now (record { successor = row.serial; predecessor = serial }) pair there) [
              | inl old ↦ wider pair ((so_far pair).0 old)
              | inr is ↦ record {
                successor = ap (λ (p : Pair). p.successor) is;
                link = link;
                listed = Contains-push list link;
                near = near;
                nearest = nearest;
                predecessor = same ∙ ap (λ (p : Pair). p.predecessor) is;
              }
            ]

        backward : IsPairBy s row (list ++ link ∷ []) pair
            → Contains (now ++ (record { successor = row.serial; predecessor = serial }) ∷ []) pair
        backward is = elim (narrower pair is) [
          | inl old ↦ Contains-append_left now _ pair ((so_far pair).1 old)
          | inr at ↦
              let one = nearest_once (LiveAt s) row.key link.predecessor link.within near is.near nearest at in
              let serials : serial ≡ pair.predecessor = sym same ∙ one ∙ is.predecessor in
              let successors : row.serial ≡ pair.successor = is.successor in
              let whole : record { successor = row.serial; predecessor = serial } ≡ pair =
              λ i. record { successor = successors i; predecessor = serials i } in
              subst (Contains (now ++ (record { successor = row.serial; predecessor = serial }) ∷ [])) whole
              (Contains-push now (record { successor = row.serial; predecessor = serial }))
        ]

    pub by_skip : IsNearestAnswer (LiveAt s) row.key link.predecessor link.within None → ArePairsBy s row (list ++ link ∷ []) now
    by_skip nothing pair = (
      (λ there. wider pair ((so_far pair).0 there)),
      λ is. elim (narrower pair is) [
        | inl old ↦ (so_far pair).1 old
        | inr at ↦ absurd (nothing is.near at.live at.candidate)
      ],
    )

  -- all links of the row's list
  pub by_all : (links list : List Link)
      → ((link : Link) → Contains list link ↔ (Contains links link × (link.app ≡ row.key.app)))
      → (pair : Pair) → IsPairBy s row list pair ↔ IsRowPair links s row pair
  by_all links list list_is pair = (forward, backward)
    where
      forward : IsPairBy s row list pair → IsRowPair links s row pair
      forward is =
          let both = (list_is is.link).0 is.listed in
          let own : is.link
          ≡ record { app = row.key.app; predecessor = is.link.predecessor; within = is.link.within } =
          λ i. record { app = both.1 i; predecessor = is.link.predecessor; within = is.link.within } in
          record {
            successor = is.successor;
            app = is.link.predecessor;
            within = is.link.within;
            listed = subst (Contains links) own both.0;
            near = is.near;
            nearest = is.nearest;
            predecessor = is.predecessor;
          }

      backward : IsRowPair links s row pair → IsPairBy s row list pair
      backward is = record {
        successor = is.successor;
        link = record { app = row.key.app; predecessor = is.app; within = is.within };
        listed = (list_is (record { app = row.key.app; predecessor = is.app; within = is.within })).1 (is.listed, refl);
        near = is.near;
        nearest = is.nearest;
        predecessor = is.predecessor;
      }
