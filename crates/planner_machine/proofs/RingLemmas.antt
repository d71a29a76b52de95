-- The pairs of a sound content have no loop: among open occurrences they lead to what arrives no later, so on a ring
-- all arrive together, and their applications would stand on a loop of the lists in force.
use Rattle.std.proofs.Common.{◌≡◌, ◌≢◌, ℕ, zero, suc, ◌+◌, ◌-◌, ◌<◌, ◌≤◌, ◌⊎◌, List, [], length, get_or, sym, ap}
use Rattle.std.proofs.Common.{subst, ◌∙◌, inl, inr, arith, Option}
use Rattle.std.specs.Prelude.{Contains, map}
use Rattle.std.specs.Option.{option_map_or}
use Rattle.std.proofs.lemmas.Bool.{cases_lt}
use Rattle.std.proofs.lemmas.List.{get_or-map, get_or_default, length-map}
use Rattle.std.proofs.lemmas.List.Elements.{Contains-get_or}
use Rattle.occurrences.specs.Place.{IsLive, IsOpen}
use Rattle.occurrences.specs.declared.key.Key.{Key}
use Rattle.occurrences.specs.declared.place.Place.{Place}
use Rattle.occurrences.specs.declared.place.Place.TheVariants.{Current, Deleted, History, LongTerm}
use Rattle.occurrences.specs.declared.status.Status.TheVariants.{D, W}
use Rattle.external_dependencies.specs.Link.{Lists}
use Rattle.external_dependencies.specs.Loop.{IsRing}
use Rattle.external_dependencies.specs.Nearest.{arrival_of}
use Rattle.external_dependencies.specs.declared.live.Arrival.{Arrival}
use Rattle.external_dependencies.specs.declared.rows.PlacedRow.{PlacedRow}
use Rattle.planner_machine.specs.Content.{Content, Sets, IsOnlyAt, seat}
use Rattle.planner_machine.specs.Laws.{PairsHaveNoLoop}
use Rattle.planner_machine.specs.Pairs.{IsClosedAt, IsClosedPair, pair_of}
use Rattle.planner_machine.specs.Sound.{IsSound}
use Rattle.planner_machine.proofs.ClosedLemmas.{complete_at, other_ring}
use Rattle.planner_machine.proofs.SeatLemmas.{found, found_alone}

-- the application and the arrival of what stands under a serial
key_at : Sets → ℕ → Key
key_at s serial = option_map_or (λ (p : PlacedRow). p.row.key) (found (seat s serial)) (record { ia = 0; app = [] })

key_is : (s : Sets) (serial : ℕ) (p : PlacedRow) → IsOnlyAt s serial p → key_at s serial ≡ p.row.key
unfolding key_at
key_is s serial p there =
    ap (λ (o : Option PlacedRow). option_map_or (λ (x : PlacedRow). x.row.key) o (record {
      ia = 0;
      app = [];
    })) (ap found there ∙ found_alone p.row p.place)

abbrev StoredPair : Content → ℕ → ℕ → Type 0
StoredPair c successor predecessor = Contains c.pairs (pair_of successor predecessor)

module _ (c : Content) (sound : IsSound c) where
  -- what an edge is: both ends are closed, or it is that of an open occurrence to what is listed for it
  record IsOpenEdge (u v : ℕ) : Type 0 where
    live : (p : PlacedRow) × IsOnlyAt c.sets u p × IsLive p.place
    live' : (p : PlacedRow) × IsOnlyAt c.sets v p × IsLive p.place
    listed : Lists c.in_force (key_at c.sets u).app (key_at c.sets v).app
    in_time : (key_at c.sets v).ia ≤ (key_at c.sets u).ia
    before_own : (key_at c.sets v).app ≡ (key_at c.sets u).app → (key_at c.sets v).ia < (key_at c.sets u).ia

  open_live : (place : Place) → IsOpen place → IsLive place
  open_live LongTerm is = tt
  open_live (Current status) is = λ d. let wrong : W ≡ D = sym is ∙ d in cc
  open_live History is = absurd is
  open_live (Deleted reason) is = absurd is

  edge_kind : (u v : ℕ) → StoredPair c u v → IsClosedPair c.sets c.pairs u v ⊎ IsOpenEdge u v
  edge_kind u v there = elim ((sound.pairs.settled.exactly (pair_of u v)).0 there) [
    | inr kept ↦
        let closed : IsClosedAt c.sets u = (kept.placed, kept.stands, kept.live, kept.waits_no_more) in
        inl (there, closed, complete_at c.sets v (sound.pairs.complete (pair_of u v) there closed))
    | inl o ↦
        let (m, p, stands, live, is) = o.nearest.live in
        let number : p.row.serial ≡ v = ap (λ (x : Arrival). x.serial) is ∙ o.predecessor in
        let own = sound.serials.numbered m p stands in
        let same : m ≡ v = sym own ∙ number in
        let stands' : IsOnlyAt c.sets v p = subst (λ n. IsOnlyAt c.sets n p) same stands in
        let near : arrival_of p.row ≡ o.near = is in
        let app : p.row.key.app ≡ o.app = ap (λ (x : Arrival). x.app) near ∙ o.nearest.candidate.of_app in
        let ia : p.row.key.ia ≡ o.near.ia = ap (λ (x : Arrival). x.ia) near in
        let at_u = key_is c.sets u o.placed o.stands in let at_v = key_is c.sets v p stands' in
        let app_u : o.placed.row.key.app ≡ (key_at c.sets u).app = ap (λ (k : Key). k.app) (sym at_u) in
        let app_v : o.app ≡ (key_at c.sets v).app = sym app ∙ ap (λ (k : Key). k.app) (sym at_v) in
        let ia_u : o.placed.row.key.ia ≡ (key_at c.sets u).ia = ap (λ (k : Key). k.ia) (sym at_u) in
        let ia_v : p.row.key.ia ≡ (key_at c.sets v).ia = ap (λ (k : Key). k.ia) (sym at_v) in
        let early = o.nearest.candidate.in_time in
        inr (record {
          live = (o.placed, o.stands, open_live o.placed.place o.waits);
          live' = (p, stands', live);
          listed = subst (λ a. Lists c.in_force a (key_at c.sets v).app) app_u
              (subst (λ a. Lists c.in_force o.placed.row.key.app a) app_v (o.within, o.listed));
          in_time = omega arith;
          before_own = λ one. let less = o.nearest.candidate.before_own (app_v ∙ one ∙ sym app_u) in omega arith;
        })
  ]

  module _ (ring : List ℕ) (is : IsRing (StoredPair c) ring) where
    -- a closed node makes the next one closed
    next_closed : (u v : ℕ) → StoredPair c u v → IsClosedAt c.sets u → IsClosedAt c.sets v
    next_closed u v there closed = complete_at c.sets v (sound.pairs.complete (pair_of u v) there closed)

    closed_from : (n k : ℕ) → k + n < length ring → IsClosedAt c.sets (get_or ring k 0)
        → IsClosedAt c.sets (get_or ring (k + n) 0)
    closed_from zero k lt closed =
        subst (λ i. IsClosedAt c.sets (get_or ring i 0)) (let same : k ≡ k + 0 = omega arith in same) closed
    closed_from (suc n) k lt closed =
        let before = closed_from n k (omega arith) closed in
        let step = is.next (k + n) 0 (omega arith) in
        subst (λ i. IsClosedAt c.sets (get_or ring i 0)) (let same : k + n + 1 ≡ k + suc n = omega arith in
        same) (next_closed (get_or ring (k + n) 0) (get_or ring (k + n + 1) 0) step before)

    -- one closed node makes all closed
    all_closed : (k : ℕ) → k < length ring → IsClosedAt c.sets (get_or ring k 0) → (j : ℕ) → j < length ring
        → IsClosedAt c.sets (get_or ring j 0)
    all_closed k lt closed j lt' =
        let last : IsClosedAt c.sets (get_or ring (length ring - 1) 0) =
        subst (λ i. IsClosedAt c.sets (get_or ring i 0))
        (let same : k + (length ring - 1 - k) ≡ length ring - 1 = omega arith in
        same) (closed_from (length ring - 1 - k) k (omega arith) closed) in
        let first = next_closed (get_or ring (length ring - 1) 0) (get_or ring 0 0) (is.closes 0) last in
        subst (λ i. IsClosedAt c.sets (get_or ring i 0)) (let same : 0 + j ≡ j = omega arith in
        same) (closed_from j 0 (omega arith) first)

    -- where some node is closed, there is a ring of closed pairs
    none_closed : (k : ℕ) → k < length ring → IsClosedAt c.sets (get_or ring k 0) → ⊥
    none_closed k lt closed =
        sound.pairs.no_loop (get_or ring k 0) (
          ring,
          other_ring (StoredPair c) ring is (IsClosedPair c.sets c.pairs) (λ u v at_u at_v edge. (
            edge,
            at_node u at_u,
            at_node v at_v,
          )),
          Contains-get_or ring k 0 lt,
        )
      where
        at_node : (u : ℕ) → Contains ring u → IsClosedAt c.sets u
        at_node u (j, lt', at) =
            subst (IsClosedAt c.sets) (get_or_default ring j 0 u lt' ∙ at) (all_closed k lt closed j lt')

    -- else all edges are those of open occurrences
    open_edge : (k j : ℕ) → k < length ring → StoredPair c (get_or ring k 0) (get_or ring j 0)
        → IsOpenEdge (get_or ring k 0) (get_or ring j 0)
    open_edge k j lt edge = elim (edge_kind (get_or ring k 0) (get_or ring j 0) edge) [
      | inl closed ↦ absurd (none_closed k lt closed.1)
      | inr open' ↦ open'
    ]

    ia_at : ℕ → ℕ
    ia_at k = (key_at c.sets (get_or ring k 0)).ia

    -- arrivals fall along the ring, and its first arrives no later than its last: so all arrive together
    falls : (n k : ℕ) → k + n < length ring → ia_at (k + n) ≤ ia_at k
    unfolding ia_at
    falls zero k lt = let same : get_or ring (k + 0) 0 ≡ get_or ring k 0 =
        ap (λ i. get_or ring i 0) (let zero_more : k + 0 ≡ k = omega arith in zero_more) in let ia =
        ap (λ n. (key_at c.sets n).ia) same in omega arith
    falls (suc n) k lt =
        let before = falls n k (omega arith) in
        let edge = (open_edge (k + n) (k + n + 1) (omega arith) (is.next (k + n) 0 (omega arith))).in_time in
        let same : get_or ring (k + suc n) 0 ≡ get_or ring (k + n + 1) 0 =
        ap (λ i. get_or ring i 0) (let one_more : k + suc n ≡ k + n + 1 = omega arith in one_more) in
        let ia = ap (λ n. (key_at c.sets n).ia) same in
        omega arith

    together : (i j : ℕ) → i < length ring → j < length ring → ia_at i ≤ ia_at j
    unfolding ia_at
    together i j lt lt' =
        let several = is.several in
        let up = falls i 0 (omega arith) in
        let first : get_or ring (0 + i) 0 ≡ get_or ring i 0 =
        ap (λ n. get_or ring n 0) (let none_more : 0 + i ≡ i = omega arith in none_more) in
        let ia_first = ap (λ n. (key_at c.sets n).ia) first in
        let down = falls (length ring - 1 - j) j (omega arith) in
        let last : get_or ring (j + (length ring - 1 - j)) 0 ≡ get_or ring (length ring - 1) 0 =
        ap (λ n. get_or ring n 0) (let to_end : j + (length ring - 1 - j) ≡ length ring - 1 = omega arith in
        to_end) in
        let ia_last = ap (λ n. (key_at c.sets n).ia) last in
        let back = (open_edge (length ring - 1) 0 (omega arith) (is.closes 0)).in_time in
        omega arith

    -- each node is live
    live_node : (k : ℕ) → k < length ring → (p : PlacedRow) × IsOnlyAt c.sets (get_or ring k 0) p × IsLive p.place
    live_node k lt = elim (cases_lt (k + 1) (length ring)) [
      | inl inside ↦ (open_edge k (k + 1) lt (is.next k 0 inside)).live
      | inr last ↦
          let same : length ring - 1 ≡ k = omega arith in
          let edge : StoredPair c (get_or ring k 0) (get_or ring 0 0) =
          subst (λ i. StoredPair c (get_or ring i 0) (get_or ring 0 0)) same (is.closes 0) in
          (open_edge k 0 lt edge).live
    ]

    apps : List (List ℕ)
    apps = map (λ serial. (key_at c.sets serial).app) ring

    app_at : (k : ℕ) (d : List ℕ) → k < length ring → get_or apps k d ≡ (key_at c.sets (get_or ring k 0)).app
    unfolding apps
    app_at k d lt = get_or-map (λ serial. (key_at c.sets serial).app) ring k 0 d lt

    same_length : length apps ≡ length ring
    unfolding apps
    same_length = length-map ring (λ serial. (key_at c.sets serial).app)

    -- two nodes of one application would have one key
    different_apps : (i j : ℕ) → i < j → j < length ring
        → (key_at c.sets (get_or ring i 0)).app ≢ (key_at c.sets (get_or ring j 0)).app
    unfolding ia_at
    different_apps i j lt within same =
        let (p, there, live) = live_node i (omega arith) in
        let (q, there', live') = live_node j within in
        let up = together i j (omega arith) within in let down = together j i within (omega arith) in
        let ia : (key_at c.sets (get_or ring i 0)).ia ≡ (key_at c.sets (get_or ring j 0)).ia = omega arith in
        let keys : key_at c.sets (get_or ring i 0) ≡ key_at c.sets (get_or ring j 0) =
        λ x. record { ia = ia x; app = same x } in
        let one = sound.keys (get_or ring i 0) (get_or ring j 0) p q there there' live live'
        (sym (key_is c.sets (get_or ring i 0) p there) ∙ keys ∙ key_is c.sets (get_or ring j 0) q there') in
        is.different i j 0 lt within one

    app_ring : IsRing (Lists c.in_force) apps
    app_ring = let count = same_length in let several = is.several in record {
      several = omega arith;
      different = λ i j d lt within same. different_apps i j lt (omega arith) (sym (app_at i d (omega arith)) ∙ same
          ∙ app_at j d (omega arith));
      next = λ k d lt.
          let listed = (open_edge k (k + 1) (omega arith) (is.next k 0 (omega arith))).listed in
          subst (λ a. Lists c.in_force a (get_or apps (k + 1) d)) (sym (app_at k d (omega arith)))
          (subst (λ a. Lists c.in_force (key_at c.sets (get_or ring k 0)).app a)
          (sym (app_at (k + 1) d (omega arith))) listed);
      closes = λ d.
          let listed = (open_edge (length ring - 1) 0 (omega arith) (is.closes 0)).listed in
          let last : length apps - 1 ≡ length ring - 1 = omega arith in
          subst (λ n. Lists c.in_force (get_or apps n d) (get_or apps 0 d)) (sym last)
          (subst (λ a. Lists c.in_force a (get_or apps 0 d)) (sym (app_at (length ring - 1) d (omega arith)))
          (subst (λ a. Lists c.in_force (key_at c.sets (get_or ring (length ring - 1) 0)).app a)
          (sym (app_at 0 d (omega arith))) listed));
    }

    pub no_ring : ⊥
    no_ring = let count = same_length in let several = is.several in
        sound.lists (get_or apps 0 []) (apps, app_ring, Contains-get_or apps 0 [] (omega arith))

pub pairs_have_no_loop : PairsHaveNoLoop
pairs_have_no_loop c sound serial (ring, is, at) = no_ring c sound ring is
