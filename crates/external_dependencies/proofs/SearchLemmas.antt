-- The steps of a search from a node along the edges of a graph.
use Rattle.std.proofs.Common.{◌≡◌, ◌≢◌, ℕ, ◌+◌, ◌<◌, ◌≤◌, ◌⊎◌, Bool, List, [], ◌∷◌, length, get_or}
use Rattle.std.proofs.Common.{map, refl, sym, ap, subst, ◌∙◌, inl, inr, arith}
use Rattle.std.specs.List.{All, Contains}
use Rattle.std.proofs.lemmas.List.{get_or_default, get_or-map}
use Rattle.std.proofs.lemmas.List.Elements.{Contains-get_or}
use Rattle.std.proofs.lemmas.Bool.{cases_order}
use Rattle.std.specs.Prelude.{Vec}
use Rattle.std.specs.declared.alloc.Global.{Global}
use Rattle.external_dependencies.specs.Walk.{items_of, IsGraph, Edge, WalkStep, IsWalk, Reaches, ReturnsTo}
use Rattle.external_dependencies.specs.Search.{IsReached, Visits}
use Rattle.external_dependencies.proofs.WalkLemmas.{reaches-trans}

-- a search that has visited the first `done` nodes of its order
pub record IsSearch (g : List (List ℕ)) (start : ℕ) (reached : List Bool) (order : List ℕ) (done : ℕ) : Type 0 where
  pub same_length : length reached ≡ length g
  pub begun : 0 < length order
  pub at_start : get_or order 0 0 ≡ start
  pub within : done ≤ length order
  pub in_range : (w : ℕ) → Contains order w → w < length g
  pub known : (w : ℕ) → Contains order w → (w ≡ start) ⊎ IsReached reached w
  pub walked : (w : ℕ) → IsReached reached w → Reaches (Edge g) start w × (w ≢ start)
  pub listed : (w : ℕ) → IsReached reached w → Contains order w
  pub closed : (j : ℕ) → j < done → (w : ℕ) → Edge g (get_or order j 0) w → get_or order j 0 ≢ w
      → IsReached reached w

module _ (g : List (List ℕ)) (start : ℕ) (reached : List Bool) (order : List ℕ) (done : ℕ)
    (search : IsSearch g start reached order done) where
  -- a step from a visited node leads to what the start reaches
  from_start : (node w : ℕ) → Contains order node → WalkStep (Edge g) node w → Reaches (Edge g) start w
  from_start node w here step = elim (search.known node here) [
    | inl same ↦ ([], subst (λ u. WalkStep (Edge g) u w) same step)
    | inr marked ↦ reaches-trans (Edge g) start node w (search.walked node marked).0 ([], step)
  ]

  module _ (more : done < length order) where
    at_node : Contains order (get_or order done 0)
    at_node = Contains-get_or order done 0 more

    -- an edge from the node that is visited to the start closes a walk
    pub search_found : Contains (get_or g (get_or order done 0) []) start → start ≢ get_or order done 0
        → ReturnsTo g start
    search_found edge differ = from_start (get_or order done 0) start at_node (edge, λ same. differ (sym same))

    -- a visit that does not find the start
    pub search_more : (reached' : List Bool) (order' : List ℕ)
        → Visits (get_or g (get_or order done 0) []) (get_or order done 0) start reached order reached' order'
        → IsSearch g start reached' order' (done + 1)
    search_more reached' order' visits = record {
      same_length = visits.same_length ∙ search.same_length;
      begun = omega (arith, visits.longer);
      at_start = visits.same_front 0 search.begun ∙ search.at_start;
      within = omega (arith, visits.longer);
      in_range = λ w here. elim (visits.are_reached w here) [
        | inl old ↦ search.in_range w old
        | inr new ↦ omega (arith, new.1, search.same_length)
      ];
      known = λ w here. elim (visits.are_reached w here) [
        | inl old ↦ elim (search.known w old) [ inl same ↦ inl same | inr marked ↦ inr (visits.grows w marked) ]
        | inr new ↦ inr new.0
      ];
      walked = λ w marked. elim (visits.are_targets w marked) [
        | inl old ↦ search.walked w old
        | inr new ↦ (from_start (get_or order done 0) w at_node (new.0, λ same. new.1 (sym same)), new.2)
      ];
      listed = λ w marked. elim (visits.are_listed w marked) [
        | inl old ↦ visits.listed_grows w (search.listed w old)
        | inr new ↦ new
      ];
      closed = λ j lt w edge differ. closed j lt w edge differ;
    }
      where
        closed : (j : ℕ) → j < done + 1 → (w : ℕ) → Edge g (get_or order' j 0) w → get_or order' j 0 ≢ w
            → IsReached reached' w
        closed j lt w =
            let same : get_or order' j 0 ≡ get_or order j 0 = visits.same_front j (omega arith) in
            let old : Edge g (get_or order j 0) w → get_or order j 0 ≢ w → IsReached reached' w =
            λ edge differ. elim (cases_order j done) [
              | inl here ↦ visits.all_reached w (subst (λ k. Edge g (get_or order k 0) w) here edge)
                  (λ is. differ (subst (λ k. get_or order k 0 ≡ w) (sym here) (sym is)))
              | inr (inl below) ↦ visits.grows w (search.closed j below w edge differ)
              | inr (inr above) ↦ absurd (omega arith)
            ] in
            subst (λ u. Edge g u w → u ≢ w → IsReached reached' w) (sym same) old

    -- a node that is visited lies in the graph
    pub node_in_range : (node : ℕ) → node ≡ get_or order done 0 → node < length g
    node_in_range node is_node = search.in_range node (subst (Contains order) (sym is_node) at_node)

    module _ (node : ℕ) (targets : List ℕ) (is_node : node ≡ get_or order done 0)
        (are_targets : targets ≡ get_or g node []) where
      -- the same, with names for the node and its targets
      pub search_found_at : Contains targets start → start ≢ node → ReturnsTo g start
      search_found_at =
          let here : Contains (get_or g node []) start → start ≢ node → ReturnsTo g start =
          subst (λ n. Contains (get_or g n []) start → start ≢ n → ReturnsTo g start) (sym is_node) search_found in
          subst (λ ts. Contains ts start → start ≢ node → ReturnsTo g start) (sym are_targets) here

      pub search_more_at : (reached' : List Bool) (order' : List ℕ)
          → Visits targets node start reached order reached' order' → IsSearch g start reached' order' (done + 1)
      search_more_at reached' order' visits =
          let here : Visits (get_or g node []) node start reached order reached' order' =
          subst (λ ts. Visits ts node start reached order reached' order') are_targets visits in
          search_more reached' order' (subst (λ n. Visits
          (get_or g n []) n start reached order reached' order') is_node here)

  -- with every node of the order visited, no walk comes back
  pub search_ended : length order ≤ done → ReturnsTo g start → ⊥
  search_ended all (between, walk) =
      let keeps : (u v : ℕ) → Contains order u → WalkStep (Edge g) u v → Contains order v × IsReached reached v =
      λ u v here step.
      let at : get_or order here.0 0 ≡ u = get_or_default order here.0 0 u here.1 ∙ here.2 in
      let marked : IsReached reached v = search.closed here.0 (omega (arith, here.1)) v
      (subst (λ n. Edge g n v) (sym at) step.0) (λ is. step.1 (sym at ∙ is)) in
      (search.listed v marked, marked) in
      let first : Contains order start = subst (Contains order) search.at_start
      (Contains-get_or order 0 0 search.begun) in
      ended start between keeps first walk
    where
      ended : (u : ℕ) (xs : List ℕ) → ((u v : ℕ) → Contains order u → WalkStep (Edge g) u v → Contains order v
          × IsReached reached v) → Contains order u → IsWalk (Edge g) u xs start → ⊥
      ended u [] keeps here walk = (search.walked start (keeps u start here walk).1).1 refl
      ended u (x ∷ xs) keeps here walk = ended x xs keeps (keeps u x here walk.0).0 walk.1

-- the targets that are read from the vector of a graph
pub targets_read : (vs : List (Vec ℕ Global)) (g : List (List ℕ)) (i : ℕ) (v : Vec ℕ Global) → map items_of vs ≡ g
    → i < length vs → v ≡ get_or vs i v → v.items ≡ get_or g i []
targets_read vs g i v view lt read = ap items_of read ∙ sym (get_or-map items_of vs i v [] lt)
    ∙ ap (λ h. get_or h i []) view

-- the targets of a node are nodes
pub targets_in_range : (g : List (List ℕ)) (node size : ℕ) (targets : List ℕ) → IsGraph g → node < length g
    → size ≡ length g → targets ≡ get_or g node [] → All (λ w. w < size) targets
targets_in_range g node size targets graph lt same is =
    let here : All (λ w. w < length g) (get_or g node []) = graph node [] lt in
    subst (λ ts. All (λ w. w < size) ts) (sym is) (subst (λ n. All (λ w. w < n) (get_or g node [])) (sym same) here)
