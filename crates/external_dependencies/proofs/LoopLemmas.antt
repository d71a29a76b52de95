-- Loops of lists and walks through the graph of the lists.
use Rattle.std.proofs.Common.{◌≡◌, ◌≢◌, ◌↔◌, ℕ, zero, suc, ◌+◌, ◌-◌, ◌<◌, ◌⊎◌, List, [], ◌∷◌, length, get_or, map}
use Rattle.std.proofs.Common.{refl, sym, ap, subst, ◌∙◌, inl, inr, arith, Option, Some, None, Ok, Err, Result}
use Rattle.std.specs.declared.cmp.Ordering.TheVariants.{Less, Equal, Greater}
use Rattle.std.specs.List.{All, Contains}
use Rattle.std.specs.Result.{IfOk}
use Rattle.std.specs.Cmp.Lexicographic.{slice_cmp}
use Rattle.std.specs.Ordering.{nat_cmp}
use Rattle.std.proofs.lemmas.Bool.{cases_lt}
use Rattle.std.proofs.lemmas.Cmp.{nat_list_cmp_total, tied_itself}
use Rattle.std.proofs.lemmas.List.{get_or_default, get_or-map, length-map}
use Rattle.std.proofs.lemmas.List.Elements.{Contains-get_or}
use Rattle.external_dependencies.specs.declared.links.Link.{Link}
use Rattle.external_dependencies.specs.Link.{Lists}
use Rattle.external_dependencies.specs.Loop.{OnLoop, OnRing, IsRing, IsLeastOnLoop, AreApplications, LeadsWithin, LoopsPass}
use Rattle.external_dependencies.specs.Places.{IsGraphOf, IsLeastAmong, ListsAmong}
use Rattle.external_dependencies.specs.Walk.{Edge, IsWalk, Reaches, ReturnsTo}
use Rattle.external_dependencies.specs.Rising.{IsRising}
use Rattle.external_dependencies.proofs.GraphLemmas.{link_is}
use Rattle.external_dependencies.proofs.OrderLemmas.{name_ties, rising_once, rising_at_most}
use Rattle.external_dependencies.proofs.RingLemmas.{returns_on_ring, on_ring}

pub if_ok : {T E : Type 0} (r : Result T E) (P Q : T → Type 0) → ((x : T) → P x → Q x) → IfOk r P → IfOk r Q
if_ok (Ok x) P Q f h = f x h
if_ok (Err e) P Q f h = tt

-- two names are the same or differ
pub decide_names : (x y : List ℕ) → (x ≡ y) ⊎ (x ≢ y)
decide_names x y = elim (slice_cmp nat_cmp x y) as (λ r. slice_cmp nat_cmp x y ≡ r → (x ≡ y) ⊎ (x ≢ y)) [
  | Less ↦ λ is. inr (λ same. apart_less (sym is
      ∙ subst (λ z. slice_cmp nat_cmp x z ≡ Equal) same (tied_itself nat_list_cmp_total x)))
  | Equal ↦ λ is. inl (name_ties x y is)
  | Greater ↦ λ is. inr (λ same. apart_greater
      (sym is ∙ subst (λ z. slice_cmp nat_cmp x z ≡ Equal) same (tied_itself nat_list_cmp_total x)))
] refl
  where
    apart_less : Less ≡ Equal → ⊥
    apart_less e = cc

    apart_greater : Greater ≡ Equal → ⊥
    apart_greater e = cc

module _ (links : List Link) (names : List (List ℕ)) (rising : IsRising (slice_cmp nat_cmp) names)
    (graph : List (List ℕ)) (is : IsGraphOf links names (length names) graph) where
  -- its edges are the lists of the names
  edges : (from to : ℕ) → from < length names → Edge graph from to
      ↔ ((to < length names) × ListsAmong links names (get_or names from []) (get_or names to []))
  edges from to lt = (
    (λ edge. let there = (is.edges from to lt).0 edge in (there.0, (Contains-get_or names from [] lt, there.1))),
    λ there. (is.edges from to lt).1 (there.0, there.1.1),
  )

  -- a walk through the graph is a walk through the lists
  names_walk : (from to : ℕ) (between : List ℕ) → from < length names → IsWalk (Edge graph) from between to
      → Reaches (ListsAmong links names) (get_or names from []) (get_or names to [])
  names_walk from to [] lt walk =
      let there = (edges from to lt).0 walk.0 in
      ([], (there.1, λ same. walk.1 (rising_once nat_list_cmp_total names rising from to [] lt there.0 same)))
  names_walk from to (x ∷ between) lt walk =
      let there = (edges from x lt).0 walk.0.0 in
      let rest = names_walk x to between there.0 walk.1 in (
        get_or names x [] ∷ rest.0,
        (
          (
            there.1,
            λ same. walk.0.1
                (rising_once nat_list_cmp_total names rising from x [] lt there.0 same),
          ),
          rest.1,
        ),
      )

  -- the place of an application with a list
  place_of : (app predecessor : List ℕ) → ListsAmong links names app predecessor → (k : ℕ) × (k < length names)
      × (get_or names k [] ≡ app)
  place_of app predecessor listed =
      let here = listed.0 in
      (here.0, here.1, get_or_default names here.0 [] app here.1 ∙ here.2)

  -- and the other way round, where the walk ends at an application with a list
  places_walk : (from to : ℕ) (u v : List ℕ) (between : List (List ℕ)) → from < length names → to < length names
      → get_or names from [] ≡ u → get_or names to [] ≡ v → IsWalk (ListsAmong links names) u between v
      → Reaches (Edge graph) from to
  places_walk from to u v [] lt lt' at at' walk =
      let listed : ListsAmong links names (get_or names from []) (get_or names to []) =
      subst (λ a. ListsAmong links names a (get_or names to [])) (sym at) (subst (λ b. ListsAmong links names u b) (sym at') walk.0) in
      ([], ((edges from to lt).1 (lt', listed), λ same. walk.1 (sym at ∙ ap (λ k. get_or names k []) same ∙ at')))
  places_walk from to u v (x ∷ between) lt lt' at at' walk =
      let next = listed_by x between walk.1 in
      let place = place_of x next.0 next.1 in
      let listed : ListsAmong links names (get_or names from []) (get_or names place.0 []) =
      subst (λ a. ListsAmong links names a (get_or names place.0 [])) (sym at)
      (subst (λ b. ListsAmong links names u b) (sym place.2) walk.0.0) in
      let rest = places_walk place.0 to x v between place.1 lt' place.2 at' walk.1 in (
        place.0 ∷ rest.0,
        (
          (
            (edges from place.0 lt).1 (place.1, listed),
            λ same. walk.0.1 (sym at ∙ ap (λ k. get_or names k []) same ∙ place.2),
          ),
          rest.1,
        ),
      )
    where
      listed_by : (y : List ℕ) (ys : List (List ℕ)) → IsWalk (ListsAmong links names) y ys v → (predecessor : List ℕ)
          × ListsAmong links names y predecessor
      listed_by y [] walk = (v, walk.0)
      listed_by y (z ∷ zs) walk = (z, walk.0.0)

  -- a node of the graph that returns to itself is an application on a loop
  pub loop_found : (k : ℕ) → k < length names → ReturnsTo graph k → OnRing (ListsAmong links names) (get_or names k [])
  loop_found k lt (between, walk) = on_ring (ListsAmong links names) decide_names (get_or names k [])
      (names_walk k k between lt walk)

  -- an application on a loop is a node that returns to itself
  pub loop_place : (app : List ℕ) → OnRing (ListsAmong links names) app → (k : ℕ) × (k < length names) × (get_or names k [] ≡ app)
      × ReturnsTo graph k
  loop_place app on =
      let back = returns_on_ring (ListsAmong links names) decide_names app on in
      let place = first_place back.0 back.1 in
      (place.0, place.1, place.2, places_walk place.0 place.0 app app back.0 place.1 place.1 place.2 place.2 back.1)
    where
      first_place : (between : List (List ℕ)) → IsWalk (ListsAmong links names) app between app → (k : ℕ) × (k < length names)
          × (get_or names k [] ≡ app)
      first_place [] walk = place_of app app walk.0
      first_place (x ∷ between) walk = place_of app x walk.0.0

  -- the first node that returns to itself is the least application on a loop
  pub least_found : (k : ℕ) → k < length names → ((j : ℕ) → j < k → ReturnsTo graph j → ⊥) → ReturnsTo graph k
      → (name : List ℕ) → name ≡ get_or names k [] → IsLeastAmong links names (Some name)
  least_found k lt none_before returns name at = (
    subst (OnRing (ListsAmong links names)) (sym at) (loop_found k lt returns),
    λ app on greater.
        let place = loop_place app on in
        elim (cases_lt place.0 k) [
          | inl before ↦ none_before place.0 before place.3
          | inr after ↦
              let at_most = rising_at_most nat_list_cmp_total names rising k place.0 [] after place.1 in
              let is_greater : slice_cmp nat_cmp (get_or names k []) (get_or names place.0 []) ≡ Greater =
              subst (λ x. slice_cmp nat_cmp x (get_or names place.0 []) ≡ Greater) at
              (subst (λ x. slice_cmp nat_cmp name x ≡ Greater) (sym place.2) greater) in
              elim at_most [
                | inl less ↦ less_not_greater (sym less ∙ is_greater)
                | inr same ↦ equal_not_greater (sym same ∙ is_greater)
              ]
        ],
  )
    where
      less_not_greater : Less ≡ Greater → ⊥
      less_not_greater e = cc

      equal_not_greater : Equal ≡ Greater → ⊥
      equal_not_greater e = cc

  -- where no node returns to itself, no application stands on a loop
  pub none_found : ((j : ℕ) → j < length names → ReturnsTo graph j → ⊥) → (app : List ℕ) → OnRing (ListsAmong links names) app → ⊥
  none_found none app on = let place = loop_place app on in none place.0 place.1 place.3

module _ (links : List Link) (names : List (List ℕ)) where
  among : ((ring : List (List ℕ)) → IsRing (Lists links) ring → All (Contains names) ring) → (app : List ℕ)
      → OnLoop links app → OnRing (ListsAmong links names) app
  among within app (ring, is, here) = (
    ring,
    record {
      several = is.several;
      different = is.different;
      next = λ k d lt. (within ring is k d (omega arith), is.next k d lt);
      closes = λ d. (within ring is (length ring - 1) d (omega (arith, is.several)), is.closes d);
    },
    here,
  )

  of_all : (app : List ℕ) → OnRing (ListsAmong links names) app → OnLoop links app
  of_all app (ring, is, here) = (
    ring,
    record {
      several = is.several;
      different = is.different;
      next = λ k d lt. (is.next k d lt).1;
      closes = λ d. (is.closes d).1;
    },
    here,
  )

  -- where all loops stay among the names, the least on a loop among them is the least on any
  pub least_of_all : ((ring : List (List ℕ)) → IsRing (Lists links) ring → All (Contains names) ring)
      → (found : Option (List ℕ)) → IsLeastAmong links names found → IsLeastOnLoop links found
  least_of_all within None none = λ app on. none app (among within app on)
  least_of_all within (Some least) (on, first) = (of_all least on, λ app on. first app (among within app on))

  -- an application on a loop has a list
  pub have_lists : AreApplications links names → (ring : List (List ℕ)) → IsRing (Lists links) ring
      → All (Contains names) ring
  have_lists are ring is k d lt = elim (cases_lt (k + 1) (length ring)) [
    | inl inside ↦ are.all (get_or ring k d) (get_or ring (k + 1) d) (is.next k d inside)
    | inr last ↦
        let same : length ring - 1 ≡ k = omega arith in
        are.all (get_or ring k d) (get_or ring 0 d)
        (subst (λ n. Lists links (get_or ring n d) (get_or ring 0 d)) same (is.closes d))
  ]

module _ {V : Type 0} (E : V → V → Type 0) (P : V → Type 0) (on : (x y : V) → P x → E x y → P y) (node : V)
    (begins : P node) (ring : List V) (is : IsRing E ring) (here : Contains ring node) where
  -- what holds of a node and passes along the edges holds of each node of its ring
  all_round : All P ring
  all_round k d lt =
      let same : 0 + k ≡ k = omega arith in
      subst (λ j. P (get_or ring j d)) same (forth k 0 first (omega arith))
    where
      forth : (n i : ℕ) → P (get_or ring i d) → i + n < length ring → P (get_or ring (i + n) d)
      forth zero i holds inside =
          let same : i ≡ i + zero = omega arith in
          subst (λ j. P (get_or ring j d)) same holds
      forth (suc n) i holds inside =
          let before = forth n i holds (omega arith) in
          let same : i + n + 1 ≡ i + suc n = omega arith in
          subst (λ j. P (get_or ring j d)) same
          (on (get_or ring (i + n) d) (get_or ring (i + n + 1) d) before (is.next (i + n) d (omega arith)))

      first : P (get_or ring 0 d)
      first =
          let (i, inside, at) = here in
          let holds : P (get_or ring i d) = subst P (sym at ∙ get_or_default ring i node d inside) begins in
          let same : i + (length ring - 1 - i) ≡ length ring - 1 = omega (arith, inside) in
          let last : P (get_or ring (length ring - 1) d) =
          subst (λ j. P (get_or ring j d)) same (forth (length ring - 1 - i) i holds (omega (arith, inside))) in
          on (get_or ring (length ring - 1) d) (get_or ring 0 d) last (is.closes d)

module _ (some links : List Link) (app : List ℕ) (ahead : LeadsWithin some links app) (pass : LoopsPass links app) where
  -- the whole list of the application is among those links
  HasList : List ℕ → Type 0
  HasList name = (link : Link) → Contains links link → link.app ≡ name → Contains some link

  within : (name predecessor : List ℕ) → HasList name → Lists links name predecessor → Lists some name predecessor
  unfolding HasList
  within name predecessor has (limit, there) =
      (limit, has (record { app = name; predecessor = predecessor; within = limit }) there refl)

  on : (name predecessor : List ℕ) → HasList name → Lists links name predecessor → HasList predecessor
  unfolding HasList
  on name predecessor has listed link there same =
      let first : Link = record { app = name; predecessor = predecessor; within = listed.0 } in
      ahead.on first link (has first listed.1 refl) there same

  begins : HasList app
  unfolding HasList
  begins link there same = ahead.own link there same

  -- a ring of all lists is one of those
  ring_within : (ring : List (List ℕ)) → IsRing (Lists links) ring → IsRing (Lists some) ring
  ring_within ring is =
      let have : All HasList ring = all_round (Lists links) HasList on app begins ring is (pass ring is) in
      record {
        several = is.several;
        different = is.different;
        next = λ k d lt. within (get_or ring k d) (get_or ring (k + 1) d) (have k d (omega arith)) (is.next k d lt);
        closes = λ d. within (get_or ring (length ring - 1) d) (get_or ring 0 d)
            (have (length ring - 1) d (omega (arith, is.several))) (is.closes d);
      }

  loop_within : (name : List ℕ) → OnLoop links name → OnLoop some name
  loop_within name (ring, is, here) = (ring, ring_within ring is, here)

  loop_of_all : (name : List ℕ) → OnLoop some name → OnLoop links name
  loop_of_all name (ring, is, here) = (
    ring,
    record {
      several = is.several;
      different = is.different;
      next = λ k d lt. let listed = is.next k d lt in (listed.0, ahead.only _ listed.1);
      closes = λ d. let listed = is.closes d in (listed.0, ahead.only _ listed.1);
    },
    here,
  )

  -- the least on a loop of those is the least on a loop of all
  pub least_within : (found : Option (List ℕ)) → IsLeastOnLoop some found → IsLeastOnLoop links found
  least_within None none = λ name on. none name (loop_within name on)
  least_within (Some least) (on, first) = (loop_of_all least on, λ name on. first name (loop_within name on))

-- the applications of the links, as they are found
pub applications_are : (links : List Link) (apps names : List (List ℕ)) → apps ≡ map (λ (link : Link). link.app) links
    → IsRising (slice_cmp nat_cmp) names → ((app : List ℕ) → Contains names app ↔ Contains apps app)
    → AreApplications links names
applications_are links apps names mapped rising same = record {
  rising = rising;
  all = λ app predecessor here. (same app).1
      (subst (λ xs. Contains xs app) (sym mapped)
      (mapped_here links (record { app = app; predecessor = predecessor; within = here.0 }) here.1));
  only = λ app here. let link = mapped_from links app (subst (λ xs. Contains xs app) mapped ((same app).0 here)) in (
    link.0.predecessor,
    (link.0.within, subst (Contains links) (link_is link.0 app link.0.predecessor link.2 refl) link.1),
  );
}
  where
    mapped_here : (links : List Link) (link : Link) → Contains links link
        → Contains (map (λ (l : Link). l.app) links) link.app
    mapped_here links link (k, lt, at) = (
      k,
      omega (arith, length-map links (λ (l : Link). l.app)),
      get_or-map (λ (l : Link). l.app) links k link link.app lt ∙ ap (λ (l : Link). l.app) at,
    )

    mapped_from : (links : List Link) (app : List ℕ) → Contains (map (λ (l : Link). l.app) links) app → (link : Link)
        × Contains links link × (link.app ≡ app)
    mapped_from links app (k, lt, at) =
        let in_range : k < length links = omega (arith, length-map links (λ (l : Link). l.app)) in
        let none : Link = record { app = []; predecessor = []; within = None } in (
          get_or links k none,
          Contains-get_or links k none in_range,
          sym (get_or-map (λ (l : Link). l.app) links k none app in_range) ∙ at,
        )
