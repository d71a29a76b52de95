-- Pairs, one link and one occurrence after another.
use Rattle.std.proofs.Common.{zero, suc, ◌≡◌, ◌↔◌, ◌⊎◌, ℕ, ◌<◌, Bool, true, false, cond, List, [], ◌∷◌, ◌++◌, length}
use Rattle.std.proofs.Common.{map, filter, refl, sym, ap, subst, ◌∙◌, inl, inr, arith, Some, None}
use Rattle.std.proofs.lemmas.Bool.{false≢true}
use Rattle.std.proofs.lemmas.List.{get_or-map, length-map}
use Rattle.std.specs.List.{Contains}
use Rattle.std.specs.Ordering.{nat_cmp}
use Rattle.std.specs.FinMap.{IsAntisymmetric, nat_cmp-IsAntisymmetric}
use Rattle.std.proofs.lemmas.List.Elements.{All-filter, Contains-get_or, Contains-push, Contains-push_cases}
use Rattle.std.proofs.lemmas.List.Elements.{Contains-append_left, filter_passes}
use Rattle.occurrences.specs.declared.row.Row.{Row}
use Rattle.occurrences.specs.Place.{IsLive, IsOpen}
use Rattle.external_dependencies.specs.declared.links.Link.{Link}
use Rattle.external_dependencies.specs.declared.live.Arrival.{Arrival}
use Rattle.external_dependencies.specs.declared.rows.PlacedRow.{PlacedRow}
use Rattle.external_dependencies.specs.declared.pairs.Pair.{Pair}
use Rattle.external_dependencies.specs.Link.{ListsWithin}
use Rattle.external_dependencies.specs.Nearest.{arrival_of, IsLiveIn, IsNearest, IsNearestAnswer}
use Rattle.external_dependencies.specs.Pair.{pair_cmp, follower_of, pair_of, IsPairAmong, IsPairFrom}
use Rattle.external_dependencies.specs.declared.followers.Follower.{Follower}
use Rattle.external_dependencies.proofs.VisitLemmas.{contains_nil}
use Rattle.external_dependencies.proofs.OrderLemmas.{then_equal}
use Rattle.external_dependencies.proofs.NearestLemmas.{nearest_once, nearest_same}
use Rattle.external_dependencies.proofs.GraphLemmas.{link_is}

-- only equal pairs tie
pub pair_ties : IsAntisymmetric pair_cmp
pair_ties x y is =
    let both = then_equal (nat_cmp x.successor y.successor) (nat_cmp x.predecessor y.predecessor) is in
    let successors : x.successor ≡ y.successor = nat_cmp-IsAntisymmetric x.successor y.successor both.0 in
    let predecessors : x.predecessor ≡ y.predecessor = nat_cmp-IsAntisymmetric x.predecessor y.predecessor both.1 in
    λ i. record { successor = successors i; predecessor = predecessors i }

pub pair_is : (pair : Pair) (successor predecessor : ℕ) → successor ≡ pair.successor → predecessor ≡ pair.predecessor
    → record { successor = successor; predecessor = predecessor } ≡ pair
pair_is pair successor predecessor same_successor same_predecessor =
    λ i. record { successor = same_successor i; predecessor = same_predecessor i }

module _ (rows : List PlacedRow) (arrivals : List Arrival)
    (so_far : (arrival : Arrival) → Contains arrivals arrival ↔ IsLiveIn rows arrival) (placed : PlacedRow) where
  pub live_more : IsLive placed.place → (arrival : Arrival)
      → Contains (arrivals ++ arrival_of placed.row ∷ []) arrival ↔ IsLiveIn (rows ++ placed ∷ []) arrival
  live_more is_live arrival = (forward, backward)
    where
      forward : Contains (arrivals ++ arrival_of placed.row ∷ []) arrival → IsLiveIn (rows ++ placed ∷ []) arrival
      forward here = elim (Contains-push_cases arrivals (arrival_of placed.row) arrival here) [
        | inl old ↦ let is = (so_far arrival).0 old in
            (is.0, Contains-append_left rows (placed ∷ []) is.0 is.1, is.2, is.3)
        | inr same ↦ (placed, Contains-push rows placed, is_live, same)
      ]

      backward : IsLiveIn (rows ++ placed ∷ []) arrival → Contains (arrivals ++ arrival_of placed.row ∷ []) arrival
      backward is = elim (Contains-push_cases rows placed is.0 is.1) [
        | inl old ↦ Contains-append_left arrivals (arrival_of placed.row ∷ []) arrival
            ((so_far arrival).1 (is.0, old, is.2, is.3))
        | inr same ↦ subst (Contains (arrivals ++ arrival_of placed.row ∷ []))
            (ap (λ (p : PlacedRow). arrival_of p.row) same ∙ is.3) (Contains-push arrivals (arrival_of placed.row))
      ]

  pub live_skip : (IsLive placed.place → ⊥) → (arrival : Arrival) → Contains arrivals arrival
      ↔ IsLiveIn (rows ++ placed ∷ []) arrival
  live_skip not_live arrival = (forward, backward)
    where
      forward : Contains arrivals arrival → IsLiveIn (rows ++ placed ∷ []) arrival
      forward here = let is = (so_far arrival).0 here in
          (is.0, Contains-append_left rows (placed ∷ []) is.0 is.1, is.2, is.3)

      backward : IsLiveIn (rows ++ placed ∷ []) arrival → Contains arrivals arrival
      backward is = elim (Contains-push_cases rows placed is.0 is.1) [
        | inl old ↦ (so_far arrival).1 (is.0, old, is.2, is.3)
        | inr same ↦ absurd (not_live (subst (λ (p : PlacedRow). IsLive p.place) (sym same) is.2))
      ]

-- the pairs that were there, and those of one occurrence by the links so far
abbrev pub ArePairs : List Arrival → Row → List Link → List Pair → List Pair → Type 0
ArePairs live row list old now = (pair : Pair) → Contains now pair ↔ (Contains old pair ⊎ IsPairFrom live row list pair)

module _ (live : List Arrival) (row : Row) (list : List Link) (old now : List Pair)
    (so_far : ArePairs live row list old now) (link : Link) where
  -- a pair by the links so far is one by more links
  pub pair_kept : (pair : Pair) → IsPairFrom live row list pair → IsPairFrom live row (list ++ link ∷ []) pair
  pair_kept pair is = record {
    successor = is.successor;
    link = is.link;
    listed = Contains-append_left list (link ∷ []) is.link is.listed;
    near = is.near;
    nearest =
        is.nearest;
    predecessor = is.predecessor;
  }

  pub pairs_more : (serial : ℕ) → IsNearestAnswer (Contains live) row.key link.predecessor link.within (Some serial)
      → ArePairs live row (list ++ link ∷ []) old (now ++ record { successor = row.serial; predecessor = serial } ∷ [])
  pairs_more serial found pair = (forward, backward)
    where
      forward : Contains (now ++ record { successor = row.serial; predecessor = serial } ∷ []) pair
          → Contains old pair ⊎ IsPairFrom live row (list ++ link ∷ []) pair
      forward here = elim (Contains-push_cases now
          (record { successor = row.serial; predecessor = serial }) pair here) [
            | inl before ↦ elim ((so_far pair).0 before) [
              | inl there ↦ inl there
              | inr from ↦ inr
                  (pair_kept pair from)
            ]
            | inr same ↦ inr (record {
              successor = ap (λ (p : Pair). p.successor) same;
              link = link;
              listed = Contains-push list link;
              near = found.0;
              nearest = found.1;
              predecessor =
                  found.2 ∙ ap (λ (p : Pair). p.predecessor) same;
            })
          ]

      backward : Contains old pair ⊎ IsPairFrom live row (list ++ link ∷ []) pair
          → Contains (now ++ record { successor = row.serial; predecessor = serial } ∷ []) pair
      backward is = elim is [
        | inl there ↦ Contains-append_left now (record { successor = row.serial; predecessor = serial } ∷ []) pair
            ((so_far pair).1 (inl there))
        | inr from ↦ elim (Contains-push_cases list link from.link from.listed) [
          | inl before ↦ Contains-append_left now (record { successor = row.serial; predecessor = serial } ∷ []) pair
              ((so_far pair).1 (inr (record {
                successor = from.successor;
                link = from.link;
                listed = before;
                near = from.near;
                nearest = from.nearest;
                predecessor = from.predecessor;
              })))
          | inr same ↦
              let here : IsNearest (Contains live) row.key link.predecessor link.within from.near =
              subst (λ (l : Link). IsNearest (Contains live) row.key l.predecessor l.within from.near)
              (sym same) from.nearest in
              let near_same = nearest_once (Contains live) row.key link.predecessor link.within found.0 from.near
              found.1 here in
              let serials : serial ≡ pair.predecessor =
              sym found.2 ∙ ap (λ (a : Arrival). a.serial) near_same ∙ from.predecessor in
              subst (Contains (now ++ record { successor = row.serial; predecessor = serial } ∷ []))
              (pair_is pair row.serial serial from.successor serials)
              (Contains-push now (record { successor = row.serial; predecessor = serial }))
        ]
      ]

  pub pairs_skip : IsNearestAnswer (Contains live) row.key link.predecessor link.within None
      → ArePairs live row (list ++ link ∷ []) old now
  pairs_skip none pair = (forward, backward)
    where
      forward : Contains now pair → Contains old pair ⊎ IsPairFrom live row (list ++ link ∷ []) pair
      forward here = elim ((so_far pair).0 here) [ inl there ↦ inl there | inr from ↦ inr (pair_kept pair from) ]

      backward : Contains old pair ⊎ IsPairFrom live row (list ++ link ∷ []) pair → Contains now pair
      backward is = elim is [
        | inl there ↦ (so_far pair).1 (inl there)
        | inr from ↦ elim (Contains-push_cases list link from.link from.listed) [
          | inl before ↦ (so_far pair).1 (inr (record {
            successor = from.successor;
            link = from.link;
            listed = before;
            near = from.near;
            nearest = from.nearest;
            predecessor = from.predecessor;
          }))
          | inr same ↦
              let here : IsNearest (Contains live) row.key link.predecessor link.within from.near =
              subst (λ (l : Link). IsNearest (Contains live) row.key l.predecessor l.within from.near)
              (sym same) from.nearest in
              absurd (none from.near here.live here.candidate)
        ]
      ]

-- the pairs from scratch of the rows so far, with the live ones of all rows
abbrev pub AreAllPairs : List PlacedRow → List PlacedRow → List Link → List Pair → Type 0
AreAllPairs all rows links pairs = (pair : Pair) → Contains pairs pair ↔ IsPairAmong all rows links pair

module _ (all rows : List PlacedRow) (links : List Link) (pairs : List Pair)
    (so_far : AreAllPairs all rows links pairs) (placed : PlacedRow) where
  so_far_kept : (pair : Pair) → IsPairAmong all rows links pair → IsPairAmong all (rows ++ placed ∷ []) links pair
  so_far_kept pair is = record {
    placed = is.placed;
    stands = Contains-append_left rows (placed ∷ []) is.placed is.stands;
    waits = is.waits;
    successor =
        is.successor;
    app = is.app;
    within = is.within;
    listed = is.listed;
    near = is.near;
    nearest = is.nearest;
    predecessor =
        is.predecessor;
  }

  pub all_skip : (IsOpen placed.place → ⊥) → AreAllPairs all (rows ++ placed ∷ []) links pairs
  all_skip not_open pair = ((λ here. so_far_kept pair ((so_far pair).0 here)), backward)
    where
      backward : IsPairAmong all (rows ++ placed ∷ []) links pair → Contains pairs pair
      backward is = elim (Contains-push_cases rows placed is.placed is.stands) [
        | inl before ↦ (so_far pair).1 (record {
          placed = is.placed;
          stands = before;
          waits = is.waits;
          successor = is.successor;
          app = is.app;
          within = is.within;
          listed = is.listed;
          near = is.near;
          nearest =
              is.nearest;
          predecessor = is.predecessor;
        })
        | inr same ↦ absurd (not_open (subst (λ (p : PlacedRow). IsOpen p.place) (sym same) is.waits))
      ]

  module _ (live : List Arrival) (is_live : (arrival : Arrival) → Contains live arrival ↔ IsLiveIn all arrival)
      (list : List Link) (is_list : (link : Link) → Contains list link
      ↔ (Contains links link × (link.app ≡ placed.row.key.app))) where
    pub all_more : IsOpen placed.place → (now : List Pair) → ArePairs live placed.row list pairs now
        → AreAllPairs all (rows ++ placed ∷ []) links now
    all_more is_open now are pair = (forward, backward)
      where
        forward : Contains now pair → IsPairAmong all (rows ++ placed ∷ []) links pair
        forward here = elim ((are pair).0 here) [
          | inl before ↦ so_far_kept pair ((so_far pair).0 before)
          | inr from ↦
              let listed = (is_list from.link).0 from.listed in
              record {
                placed = placed;
                stands = Contains-push rows placed;
                waits = is_open;
                successor = from.successor;
                app = from.link.predecessor;
                within = from.link.within;
                listed = subst (Contains links)
                    (link_is from.link placed.row.key.app from.link.predecessor listed.1 refl) listed.0;
                near = from.near;
                nearest = nearest_same (Contains live) (IsLiveIn all) is_live placed.row.key from.link.predecessor
                    from.link.within from.near from.nearest;
                predecessor = from.predecessor;
              }
        ]

        backward : IsPairAmong all (rows ++ placed ∷ []) links pair → Contains now pair
        backward is = elim (Contains-push_cases rows placed is.placed is.stands) [
          | inl before ↦ (are pair).1 (inl ((so_far pair).1
              (record {
                placed = is.placed;
                stands = before;
                waits = is.waits;
                successor = is.successor;
                app = is.app;
                within = is.within;
                listed = is.listed;
                near = is.near;
                nearest = is.nearest;
                predecessor = is.predecessor;
              })))
          | inr same ↦
              let link : Link = record { app = placed.row.key.app; predecessor = is.app; within = is.within } in
              let listed : Contains links link =
              subst (λ (p : PlacedRow). ListsWithin links p.row.key.app is.app is.within) (sym same) is.listed in
              let nearest : IsNearest (IsLiveIn all) placed.row.key is.app is.within is.near =
              subst (λ (p : PlacedRow). IsNearest (IsLiveIn all) p.row.key is.app is.within is.near)
              (sym same) is.nearest in
              let successor : placed.row.serial ≡ pair.successor =
              subst (λ (p : PlacedRow). p.row.serial ≡ pair.successor) (sym same) is.successor in
              (are pair).1 (inr (record {
                successor = successor;
                link = link;
                listed = (is_list link).1 (listed, refl);
                near = is.near;
                nearest = nearest_same (IsLiveIn all) (Contains live)
                    (λ a. ((is_live a).1, (is_live a).0)) placed.row.key is.app is.within is.near nearest;
                predecessor = is.predecessor;
              }))
        ]

-- what a filter keeps
filter_head : {X : Type 0} (p : X → Bool) (y : X) (ys : List X) (x : X) → p x ≡ true
    → (Contains ys x → Contains (filter p ys) x)
    → Contains (y ∷ ys) x → (b : Bool) → p y ≡ b → Contains (cond b (y ∷ filter p ys) (filter p ys)) x
filter_head p y ys x is rest (zero, lt, at) true same = (zero, omega arith, at)
filter_head p y ys x is rest (zero, lt, at) false same = absurd (false≢true (sym same ∙ ap p at ∙ is))
filter_head p y ys x is rest (suc k, lt, at) true same = let here = rest (k, omega arith, at) in
    (suc here.0, omega (arith, here.1), here.2)
filter_head p y ys x is rest (suc k, lt, at) false same = rest (k, omega arith, at)

filter_has : {X : Type 0} (p : X → Bool) (xs : List X) (x : X) → p x ≡ true → Contains xs x → Contains (filter p xs) x
filter_has p [] x is here = absurd (contains_nil x here)
filter_has p (y ∷ ys) x is here = filter_head p y ys x is (filter_has p ys x is) here (p y) refl

pub Contains-filter : {X : Type 0} (p : X → Bool) (xs : List X) (x : X) → Contains (filter p xs) x
    ↔ (Contains xs x × (p x ≡ true))
Contains-filter {X} p xs x = (forward, λ facts. filter_has p xs x facts.1 facts.0)
  where
    forward : Contains (filter p xs) x → Contains xs x × (p x ≡ true)
    forward (k, lt, at) = (
      subst (Contains xs) at (All-filter p (Contains xs) xs (λ i d in_range. Contains-get_or xs i d in_range) k x lt),
      subst (λ y. p y ≡ true) at (filter_passes p xs k x lt),
    )

-- a pair, its predecessor first
pub turned_has : (pairs : List Pair) (follower : Follower) → Contains (map follower_of pairs) follower
    ↔ Contains pairs (pair_of follower)
turned_has pairs follower = (forward, backward)
  where
    forward : Contains (map follower_of pairs) follower → Contains pairs (pair_of follower)
    forward (k, lt, at) =
        let in_range : k < length pairs = omega (arith, length-map pairs follower_of) in
        (k, in_range, ap pair_of (sym (get_or-map follower_of pairs k (pair_of follower) follower in_range) ∙ at))

    backward : Contains pairs (pair_of follower) → Contains (map follower_of pairs) follower
    backward (k, lt, at) = (
      k,
      omega (arith, length-map pairs follower_of),
      get_or-map follower_of pairs k (pair_of follower) follower lt ∙ ap follower_of at,
    )

-- the ones of some pairs that the others lack
abbrev pub AreLeft : List Pair → List Pair → List Pair → Type 0
AreLeft pairs others left = (pair : Pair) → Contains left pair ↔ (Contains pairs pair × (Contains others pair → ⊥))

module _ (pairs others left : List Pair) (so_far : AreLeft pairs others left) (next : Pair) where
  pub left_more : (Contains others next → ⊥) → AreLeft (pairs ++ next ∷ []) others (left ++ next ∷ [])
  left_more absent pair = (forward, backward)
    where
      forward : Contains (left ++ next ∷ []) pair → Contains (pairs ++ next ∷ []) pair × (Contains others pair → ⊥)
      forward here = elim (Contains-push_cases left next pair here) [
        | inl old ↦ let facts = (so_far pair).0 old in (Contains-append_left pairs (next ∷ []) pair facts.0, facts.1)
        | inr same ↦ (
          subst (Contains (pairs ++ next ∷ [])) same (Contains-push pairs next),
          subst (λ x. Contains others x → ⊥) same absent,
        )
      ]

      backward : Contains (pairs ++ next ∷ []) pair × (Contains others pair → ⊥) → Contains (left ++ next ∷ []) pair
      backward (here, lacks) = elim (Contains-push_cases pairs next pair here) [
        | inl old ↦ Contains-append_left left (next ∷ []) pair ((so_far pair).1 (old, lacks))
        | inr same ↦ subst (Contains (left ++ next ∷ [])) same (Contains-push left next)
      ]

  pub left_skip : Contains others next → AreLeft (pairs ++ next ∷ []) others left
  left_skip present pair = (forward, backward)
    where
      forward : Contains left pair → Contains (pairs ++ next ∷ []) pair × (Contains others pair → ⊥)
      forward here = let facts = (so_far pair).0 here in (Contains-append_left pairs (next ∷ []) pair facts.0, facts.1)

      backward : Contains (pairs ++ next ∷ []) pair × (Contains others pair → ⊥) → Contains left pair
      backward (here, lacks) = elim (Contains-push_cases pairs next pair here) [
        | inl old ↦ (so_far pair).1 (old, lacks)
        | inr same ↦ absurd (lacks (subst (Contains others) same present))
      ]
