-- The graph of predecessor lists, one application after another.
use Rattle.std.proofs.Common.{◌≡◌, ◌↔◌, ℕ, ◌+◌, ◌<◌, List, [], ◌∷◌, ◌++◌, length, get_or, refl, sym, subst, ◌∙◌, inl}
use Rattle.std.proofs.Common.{inr, arith, length-append}
use Rattle.std.specs.List.{Contains}
use Rattle.std.proofs.lemmas.List.{get_or_default, get_or_append_left, get_or_at}
use Rattle.std.proofs.lemmas.List.Elements.{Contains-get_or}
use Rattle.std.proofs.lemmas.Bool.{cases_lt}
use Rattle.external_dependencies.specs.declared.links.Link.{Link}
use Rattle.external_dependencies.specs.Link.{Lists}
use Rattle.external_dependencies.specs.Places.{ArePlaces, IsGraphOf}
use Rattle.external_dependencies.specs.Walk.{Edge, IsGraph}

-- a link is its parts
pub link_is : (link : Link) (app predecessor : List ℕ) → link.app ≡ app → link.predecessor ≡ predecessor
    → link ≡ record { app = app; predecessor = predecessor; within = link.within }
link_is link app predecessor same_app same_predecessor =
    λ i. record { app = same_app i; predecessor = same_predecessor i; within = link.within }

-- one more application, with the places of its list
pub graph_more : (links : List Link) (names : List (List ℕ)) (done : ℕ) (graph : List (List ℕ))
    → IsGraphOf links names done graph → (name : List ℕ) → name ≡ get_or names done [] → (list : List Link)
    → ((link : Link) → Contains list link ↔ (Contains links link × (link.app ≡ name))) → (found : List ℕ)
    → ArePlaces names list found → IsGraphOf links names (done + 1) (graph ++ found ∷ [])
graph_more links names done graph so_far name named list is_list found places = record {
  same_length = length-append graph (found ∷ []) ∙ omega (arith, so_far.same_length);
  edges = edges;
}
  where
    forward : (to : ℕ) → Contains found to → (to < length names)
        × Lists links (get_or names done []) (get_or names to [])
    forward to here =
        let facts = (places to).0 here in
        let link = facts.1.0 in
        let listed = (is_list link).0 facts.1.1 in (
          facts.0,
          (
            link.within,
            subst (Contains links) (link_is link (get_or names done []) (get_or names to [])
                (listed.1 ∙ named) facts.1.2) listed.0,
          ),
        )

    backward : (to : ℕ) → (to < length names) × Lists links (get_or names done []) (get_or names to [])
        → Contains found to
    backward to (lt, (within, here)) =
        let link : Link = record { app = get_or names done []; predecessor = get_or names to []; within = within } in
        (places to).1 (lt, (link, (is_list link).1 (here, sym named), refl))

    edges : (from to : ℕ) → from < done + 1 → Edge (graph ++ found ∷ []) from to
        ↔ ((to < length names) × Lists links (get_or names from []) (get_or names to []))
    edges from to lt = elim (cases_lt from done) [
      | inl old ↦
          let same : get_or (graph ++ found ∷ []) from [] ≡ get_or graph from [] =
          get_or_append_left graph (found ∷ []) [] from (omega (arith, so_far.same_length)) in
          subst (λ (targets : List ℕ). Contains targets to
          ↔ ((to < length names) × Lists links (get_or names from []) (get_or names to []))) (sym same)
          (so_far.edges from to old)
      | inr new ↦
          let here : done ≡ from = omega arith in
          let at : get_or (graph ++ found ∷ []) done [] ≡ found = get_or_at graph found [] [] done so_far.same_length in
          let now : Contains (get_or (graph ++ found ∷ []) done []) to
          ↔ ((to < length names) × Lists links (get_or names done []) (get_or names to [])) =
          subst (λ (targets : List ℕ). Contains targets to
          ↔ ((to < length names) × Lists links (get_or names done []) (get_or names to []))) (sym at)
          (forward to, backward to) in
          subst (λ f. Contains (get_or (graph ++ found ∷ []) f []) to
          ↔ ((to < length names) × Lists links (get_or names f []) (get_or names to []))) here now
    ]

-- its edges lead to its nodes
pub graph_in_range : (links : List Link) (names : List (List ℕ)) (graph : List (List ℕ))
    → IsGraphOf links names (length names) graph → IsGraph graph
graph_in_range links names graph is k d lt k' d' lt' =
    let from : k < length names = omega (arith, is.same_length) in
    let edge : Edge graph k (get_or (get_or graph k d) k' d') =
    subst (λ (targets : List ℕ). Contains targets (get_or (get_or graph k d) k' d'))
    (get_or_default graph k d [] lt) (Contains-get_or (get_or graph k d) k' d' lt') in
    let there = (is.edges k (get_or (get_or graph k d) k' d') from).0 edge in
    omega (arith, there.0, is.same_length)
