-- Rings of pairs, and loops of links between the names of their serials.
use Rattle.std.proofs.Common.{◌≡◌, ◌≢◌, ◌↔◌, ◌⊎◌, ℕ, List, [], ◌∷◌, refl, sym, ap, subst, ◌∙◌, inl, inr, ◌<◌, get_or}
use Rattle.std.proofs.Common.{arith, None}
use Rattle.std.specs.Prelude.{map}
use Rattle.std.specs.List.{All, Contains}
use Rattle.std.proofs.lemmas.List.Elements.{All-contains}
use Rattle.std.specs.Prelude.{nat_eq, true, false}
use Rattle.std.specs.Cmp.Lexicographic.{bytes_decides, pointwise}
use Rattle.std.proofs.lemmas.Bool.{cases_eq, false≢true}
use Rattle.external_dependencies.specs.Link.{KeepsNames, Lists}
use Rattle.external_dependencies.specs.Loop.{OnLoop, OnRing}
use Rattle.external_dependencies.specs.Walk.{IsWalk, Reaches, WalkStep}
use Rattle.external_dependencies.specs.declared.links.Link.{Link}
use Rattle.external_dependencies.specs.declared.pairs.Pair.{Pair}
use Rattle.external_dependencies.proofs.OrderLemmas.{keeps_all, unlimited_once}
use Rattle.external_dependencies.proofs.RingLemmas.{on_ring, returns_on_ring}
use Rattle.planner_machine.specs.Pairs.{pair_of}
use Rattle.plan_store_soundness.specs.Closed.{FallsBy, IsWithoutRing, link_of, node_name}
use Rattle.plan_store_soundness.proofs.DistinctLemmas.{contains_map, map_contains}
use Rattle.plan_store_soundness.proofs.NodeLemmas.{own_name}

decide_names : (x y : List ℕ) → (x ≡ y) ⊎ (x ≢ y)
decide_names x y = elim (pointwise nat_eq x y) as (λ b. pointwise nat_eq x y ≡ b → (x ≡ y) ⊎ (x ≢ y)) [
  | true ↦ λ is. inl ((bytes_decides x y).0 is)
  | false ↦ λ is. inr (λ same. false≢true (sym is ∙ (bytes_decides x y).1 same))
] refl

-- the links are those of the pairs
abbrev pub HaveLinks : List Pair → List Link → Type 0
HaveLinks pairs links = (link : Link) → Contains links link ↔ Contains (map link_of pairs) link

-- they have no limits, so that none is lost where they are put in order
pub links_kept : (pairs : List Pair) (links kept : List Link) → links ≡ map link_of pairs → KeepsNames links kept
    → HaveLinks pairs kept
links_kept pairs links kept is keeps link = subst (λ (l : List Link). Contains kept link ↔ Contains l link) is
    (keeps_all links kept (unlimited_once links no_limit) keeps link)
  where
    no_limit : (l : Link) → Contains links l → l.within ≡ None
    no_limit l there =
        let (pair, in_pairs, same) = contains_map link_of pairs l (subst (λ ls. Contains ls l) is there) in
        ap (λ (x : Link). x.within) (sym same)

module _ (pairs : List Pair) (links : List Link) (are : HaveLinks pairs links) where
  abbrev Edge : ℕ → ℕ → Type 0
  Edge m n = Contains pairs (pair_of m n)

  -- an edge is a link between the names of its ends
  named : (m n : ℕ) → Edge m n → Lists links (node_name m) (node_name n)
  named m n edge = (None, (are _).1 (map_contains link_of pairs (pair_of m n) edge))

  -- and a link is one between the names of the ends of an edge
  record IsNamed (app predecessor : List ℕ) : Type 0 where
    from : ℕ
    to : ℕ
    edge : Edge from to
    app_is : node_name from ≡ app
    predecessor_is : node_name to ≡ predecessor

  has_edge : (app predecessor : List ℕ) → Lists links app predecessor → IsNamed app predecessor
  has_edge app predecessor (within, listed) =
      let (pair, there, same) = contains_map link_of pairs _ ((are _).0 listed) in
      record {
        from = pair.successor;
        to = pair.predecessor;
        edge = there;
        app_is = ap (λ (l : Link). l.app) same;
        predecessor_is = ap (λ (l : Link). l.predecessor) same;
      }

  walk_named : (m n : ℕ) (between : List ℕ) → IsWalk Edge m between n
      → Reaches (Lists links) (node_name m) (node_name n)
  walk_named m n [] walk = ([], (named m n walk.0, λ same. walk.1 (own_name m n same)))
  walk_named m n (x ∷ between) walk =
      let (names, rest) = walk_named x n between walk.1 in
      (node_name x ∷ names, ((named m x walk.0.0, λ same. walk.0.1 (own_name m x same)), rest))

  -- a step from the name of a node leads to the name of a node
  step_back : (m : ℕ) (name : List ℕ) → WalkStep (Lists links) (node_name m) name → (n : ℕ) × WalkStep Edge m n
      × (node_name n ≡ name)
  step_back m name step =
      let is = has_edge (node_name m) name step.0 in
      let from : is.from ≡ m = own_name is.from m is.app_is in (
        is.to,
        (
          subst (λ k. Edge k is.to) from is.edge,
          λ same. step.1 (ap node_name same ∙ is.predecessor_is),
        ),
        is.predecessor_is,
      )

  walk_back : (m n : ℕ) (between : List (List ℕ)) → IsWalk (Lists links) (node_name m) between (node_name n)
      → Reaches Edge m n
  walk_back m n [] walk =
      let (k, step, same) = step_back m (node_name n) walk in
      ([], subst (WalkStep Edge m) (own_name k n same) step)
  walk_back m n (x ∷ between) walk =
      let (k, step, same) = step_back m x walk.0 in
      let (rest, on) = walk_back k n between
      (subst (λ y. IsWalk (Lists links) y between (node_name n)) (sym same) walk.1) in
      (k ∷ rest, (step, on))

  -- so a ring of pairs makes a loop of links
  pub ring_to_loop : (m : ℕ) → OnRing Edge m → (app : List ℕ) × OnLoop links app
  ring_to_loop m ring =
      let (between, walk) = returns_on_ring Edge cases_eq m ring in
      (node_name m, on_ring (Lists links) decide_names (node_name m) (walk_named m m between walk))

  -- the first node of a walk has a name
  first_named : (app to : List ℕ) (between : List (List ℕ)) → IsWalk (Lists links) app between to
      → (m : ℕ) × (node_name m ≡ app)
  first_named app to [] walk = let is = has_edge app to walk.0 in (is.from, is.app_is)
  first_named app to (x ∷ between) walk = let is = has_edge app x walk.0.0 in (is.from, is.app_is)

  -- and a loop of links is made of one
  pub loop_to_ring : (app : List ℕ) → OnLoop links app → (m : ℕ) × OnRing Edge m
  loop_to_ring app loop =
      let (between, walk) = returns_on_ring (Lists links) decide_names app loop in
      let (m, same) = first_named app app between walk in (
        m,
        on_ring Edge cases_eq m (walk_back m m between
            (subst (λ y. IsWalk (Lists links) y between y) (sym same) walk)),
      )

-- where numbers fall along the pairs, no ring goes over them
module _ (pairs : List Pair) (numbers : List ℕ) (fall : All (FallsBy numbers) pairs) where
  walk_falls : (m n : ℕ) (between : List ℕ) → IsWalk (λ u v. Contains pairs (pair_of u v)) m between n
      → get_or numbers n 0 < get_or numbers m 0
  walk_falls m n [] walk = All-contains (FallsBy numbers) pairs (pair_of m n) fall walk.0
  walk_falls m n (x ∷ between) walk =
      let here = All-contains (FallsBy numbers) pairs (pair_of m x) fall walk.0.0 in
      let rest = walk_falls x n between walk.1 in omega (arith, here, rest)

  pub falling_ring : IsWithoutRing pairs
  falling_ring serial ring =
      let (between, walk) = returns_on_ring (λ u v. Contains pairs (pair_of u v)) cases_eq serial ring in
      let below = walk_falls serial serial between walk in omega (arith, below)
