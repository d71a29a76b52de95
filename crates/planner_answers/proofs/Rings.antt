-- Lists of different elements of a finite set, and the rings among them.
use Rattle.std.proofs.Common.{◌≡◌, ◌≢◌, ◌⊎◌, ℕ, zero, suc, ◌+◌, ◌-◌, ◌<◌, ◌≤◌, List, [], ◌∷◌, length, get_or}
use Rattle.std.proofs.Common.{refl, sym, subst, ◌∙◌, inl, inr, arith}
use Rattle.std.specs.List.{AllPairs, Contains}
use Rattle.external_dependencies.specs.Loop.{IsRing, OnRing}
use Rattle.planner_answers.proofs.Finite.{Decided, Finite, Has, contained, had, decided_both}
use Rattle.planner_answers.proofs.Finite.{decided_le, decided_not}
use Rattle.planner_answers.proofs.Finite.{finite_either, finite_if, finite_made, finite_one, finite_over}
use Rattle.planner_answers.proofs.Finite.{finite_so}

-- each element of the list has P
abbrev pub Each : {X : Type 0} → (X → Type 0) → List X → Type 0
Each P [] = Unit {0}
Each P (x ∷ xs) = P x × Each P xs

-- no element comes again
abbrev pub Differ : {X : Type 0} → List X → Type 0
Differ [] = Unit {0}
Differ (x ∷ xs) = (Has xs x → ⊥) × Differ xs

each_has : {X : Type 0} (P : X → Type 0) (xs : List X) (x : X) → Each P xs → Has xs x → P x
each_has P [] x each h = absurd h
each_has P (y ∷ ys) x each (inl same) = subst P same each.0
each_has P (y ∷ ys) x each (inr h) = each_has P ys x each.1 h

each_of : {X : Type 0} (P : X → Type 0) (xs : List X) → ((x : X) → Has xs x → P x) → Each P xs
each_of P [] f = tt
each_of P (x ∷ xs) f = (f x (inl refl), each_of P xs (λ y h. f y (inr h)))

-- all but one
module _ {X : Type 0} (x : X) where
  taken : (ys : List X) → Has ys x → List X
  taken [] h = []
  taken (y ∷ ys) (inl same) = ys
  taken (y ∷ ys) (inr h) = y ∷ taken ys h

  shorter : (ys : List X) (h : Has ys x) → length ys ≡ suc (length (taken ys h))
  unfolding taken
  shorter [] h = absurd h
  shorter (y ∷ ys) (inl same) = omega arith
  shorter (y ∷ ys) (inr h) = let e = shorter ys h in omega arith

  still : (ys : List X) (h : Has ys x) (z : X) → (x ≡ z → ⊥) → Has ys z → Has (taken ys h) z
  unfolding taken
  still [] h z differ k = absurd k
  still (y ∷ ys) (inl same) z differ (inl is) = absurd (differ (sym same ∙ is))
  still (y ∷ ys) (inl same) z differ (inr k) = k
  still (y ∷ ys) (inr h) z differ (inl is) = inl is
  still (y ∷ ys) (inr h) z differ (inr k) = inr (still ys h z differ k)

-- different elements of a list are no more than it has
few : {X : Type 0} (xs ys : List X) → Differ xs → Each (Has ys) xs → length xs ≤ length ys
few [] ys differ each = omega arith
few {X} (x ∷ xs) ys differ each =
    let rest = few xs (taken x ys each.0) differ.1
    (each_of (Has (taken x ys each.0)) xs (λ z h. still x ys each.0 z
    (λ same. differ.0 (subst (Has xs) (sym same) h)) (each_has (Has ys) xs z each.1 h))) in
    let e = shorter x ys each.0 in
    omega arith

-- the lists of at most so many elements that have P
abbrev IsShort : {X : Type 0} → (X → Type 0) → ℕ → List X → Type 0
IsShort P n xs = (length xs ≤ n) × Each P xs

short_lists : {X : Type 0} {P : X → Type 0} (n : ℕ) → Finite P → Finite (IsShort P n)
short_lists {X} {P} zero f = finite_so to back (finite_one [])
  where
    to : (xs : List X) → [] ≡ xs → IsShort P zero xs
    to xs same = subst (IsShort P zero) same (omega arith, tt)

    back : (xs : List X) → IsShort P zero xs → [] ≡ xs
    back [] short = refl
    back (x ∷ xs) short = absurd (omega (arith, short.0))
short_lists {X} {P} (suc n) f =
    finite_so to back (finite_either (finite_one [])
    (finite_over (λ x ys. (xs : List X) × IsShort P n xs × (x ∷ xs ≡ ys)) f
    (λ x p. finite_made (λ xs. x ∷ xs) (short_lists n f))))
  where
    to : (ys : List X) → ([] ≡ ys) ⊎ ((x : X) × P x × ((xs : List X) × IsShort P n xs × (x ∷ xs ≡ ys)))
        → IsShort P (suc n) ys
    to ys (inl same) = subst (IsShort P (suc n)) same (omega arith, tt)
    to ys (inr (x, p, (xs, short, same))) =
        subst (IsShort P (suc n)) same (omega (arith, short.0), (p, short.1))

    back : (ys : List X) → IsShort P (suc n) ys
        → ([] ≡ ys) ⊎ ((x : X) × P x × ((xs : List X) × IsShort P n xs × (x ∷ xs ≡ ys)))
    back [] short = inl refl
    back (y ∷ ys) short = inr (y, short.1.0, (ys, (omega (arith, short.0), short.1.1), refl))

-- a ring, by recursion

has_place : {X : Type 0} (xs : List X) (k : ℕ) (d : X) → k < length xs → Has xs (get_or xs k d)
has_place [] k d lt = absurd (omega (arith, lt))
has_place (x ∷ xs) zero d lt = inl refl
has_place (x ∷ xs) (suc k) d lt = inr (has_place xs k d (omega (arith, lt)))

differ_pairs : {X : Type 0} (xs : List X) → Differ xs → AllPairs (λ x y. x ≢ y) xs
differ_pairs [] differ i j d lt in_range = absurd (omega (arith, in_range))
differ_pairs (x ∷ xs) differ i zero d lt in_range = absurd (omega (arith, lt))
differ_pairs (x ∷ xs) differ zero (suc j) d lt in_range = λ same. differ.0
    (subst (Has xs) (sym same) (has_place xs j d (omega (arith, in_range))))
differ_pairs (x ∷ xs) differ (suc i) (suc j) d lt in_range =
    differ_pairs xs differ.1 i j d (omega (arith, lt)) (omega (arith, in_range))

pairs_differ : {X : Type 0} (xs : List X) → AllPairs (λ x y. x ≢ y) xs → Differ xs
pairs_differ [] pairs = tt
pairs_differ {X} (x ∷ xs) pairs = (
  first,
  pairs_differ xs (λ i j d lt in_range. pairs (suc i) (suc j) d (omega (
    arith,
    lt,
  )) (omega (arith, in_range))),
)
  where
    first : Has xs x → ⊥
    first h =
        let (k, lt, is) = contained xs x h in
        pairs zero (suc k) x (omega arith) (omega (arith, lt)) (sym is)

-- each node is next to the one after it, and the last to the first
abbrev Chain : {V : Type 0} → (V → V → Type 0) → V → V → List V → Type 0
Chain Edge first last [] = Edge last first
Chain Edge first last (x ∷ xs) = Edge last x × Chain Edge first x xs

chain_next : {V : Type 0} (Edge : V → V → Type 0) (first last : V) (xs : List V) → Chain Edge first last xs
    → (k : ℕ) (d : V) → k + 1 < length (last ∷ xs) → Edge (get_or (last ∷ xs) k d) (get_or (last ∷ xs) (k + 1) d)
chain_next Edge first last [] chain k d lt = absurd (omega (arith, lt))
chain_next {V} Edge first last (x ∷ xs) chain zero d lt = chain.0
chain_next {V} Edge first last (x ∷ xs) chain (suc k) d lt =
    subst (λ n. Edge (get_or (x ∷ xs) k d) (get_or (last ∷ x ∷ xs) n d)) same
    (chain_next Edge first x xs chain.1 k d (omega (arith, lt)))
  where
    same : suc (k + 1) ≡ suc k + 1
    same = omega arith

chain_closes : {V : Type 0} (Edge : V → V → Type 0) (first last : V) (xs : List V) → Chain Edge first last xs
    → (d : V) → Edge (get_or (last ∷ xs) (length xs) d) first
chain_closes Edge first last [] chain d = chain
chain_closes Edge first last (x ∷ xs) chain d = chain_closes Edge first x xs chain.1 d

chain_of : {V : Type 0} (Edge : V → V → Type 0) (first last : V) (xs : List V)
    → ((k : ℕ) (d : V) → k + 1 < length (last ∷ xs) → Edge (get_or (last ∷ xs) k d) (get_or (last ∷ xs) (k + 1) d))
    → ((d : V) → Edge (get_or (last ∷ xs) (length xs) d) first) → Chain Edge first last xs
chain_of Edge first last [] next closes = closes last
chain_of {V} Edge first last (x ∷ xs) next closes = (
  next zero x (omega arith),
  chain_of Edge first x xs (λ k d lt. subst
      (λ n. Edge (get_or (x ∷ xs) k d) (get_or (last ∷ x ∷ xs) n d)) (same k) (next (suc k) d (omega (arith, lt))))
      (λ d. closes d),
)
  where
    same : (k : ℕ) → suc k + 1 ≡ suc (k + 1)
    same k = omega arith

abbrev Ring : {V : Type 0} → (V → V → Type 0) → List V → Type 0
Ring Edge [] = ⊥
Ring Edge (x ∷ xs) = (1 ≤ length xs) × (Differ (x ∷ xs) × Chain Edge x x xs)

last_place : {V : Type 0} (x : V) (xs : List V) → length (x ∷ xs) - 1 ≡ length xs
last_place x xs = omega arith

ring_is : {V : Type 0} (Edge : V → V → Type 0) (ring : List V) → Ring Edge ring → IsRing Edge ring
ring_is Edge [] ring = absurd ring
ring_is {V} Edge (x ∷ xs) (several, both) = record {
  several = omega (arith, several);
  different = differ_pairs (x ∷ xs) both.0;
  next = chain_next Edge x x xs both.1;
  closes = λ d. subst (λ n. Edge (get_or (x ∷ xs) n d) x) (sym (last_place x xs)) (chain_closes Edge x x xs both.1 d);
}

is_ring : {V : Type 0} (Edge : V → V → Type 0) (ring : List V) → IsRing Edge ring → Ring Edge ring
is_ring Edge [] ring = let several = ring.several in absurd (omega (arith, several))
is_ring {V} Edge (x ∷ xs) ring = (
  (let several = ring.several in omega (arith, several)),
  (
    pairs_differ (x ∷ xs) ring.different,
    chain_of Edge x x xs ring.next (λ d. subst (λ n. Edge (get_or (x ∷ xs) n d) x) (last_place x xs) (ring.closes d)),
  ),
)

module _ {V : Type 0} (Edge : V → V → Type 0) (same : (x y : V) → Decided (x ≡ y))
    (test : (x y : V) → Decided (Edge x y)) where
  has_decided : (xs : List V) (x : V) → Decided (Has xs x)
  has_decided [] x = inr (λ h. h)
  has_decided (y ∷ ys) x = elim (same y x) [
    | inl is ↦ inl (inl is)
    | inr differs ↦ elim (has_decided ys x) [
      | inl h ↦ inl (inr h)
      | inr never ↦ inr (neither differs never)
    ]
  ]
    where
      neither : (y ≡ x → ⊥) → (Has ys x → ⊥) → (y ≡ x) ⊎ Has ys x → ⊥
      neither differs never (inl is) = differs is
      neither differs never (inr h) = never h

  differ_decided : (xs : List V) → Decided (Differ xs)
  differ_decided [] = inl tt
  differ_decided (x ∷ xs) = decided_both (decided_not (has_decided xs x)) (differ_decided xs)

  chain_decided : (first last : V) (xs : List V) → Decided (Chain Edge first last xs)
  chain_decided first last [] = test last first
  chain_decided first last (x ∷ xs) = decided_both (test last x) (chain_decided first x xs)

  ring_decided : (xs : List V) → Decided (Ring Edge xs)
  ring_decided [] = inr (λ h. h)
  ring_decided (x ∷ xs) =
      decided_both (decided_le 1 (length xs)) (decided_both (differ_decided (x ∷ xs)) (chain_decided x x xs))

  -- a node with an edge from it
  abbrev Leads : V → Type 0
  Leads x = (y : V) × Edge x y

  chain_leads : (first last : V) (xs : List V) → Chain Edge first last xs → Each Leads (last ∷ xs)
  chain_leads first last [] chain = ((first, chain), tt)
  chain_leads first last (x ∷ xs) chain = ((x, chain.0), chain_leads first x xs chain.1)

  ring_differs : (xs : List V) → Ring Edge xs → Differ xs
  ring_differs [] ring = absurd ring
  ring_differs (x ∷ xs) ring = ring.1.0

  ring_leads : (xs : List V) → Ring Edge xs → Each Leads xs
  ring_leads [] ring = absurd ring
  ring_leads (x ∷ xs) ring = chain_leads x x xs ring.1.1

  -- the rings of a graph of finitely many nodes
  pub finite_rings : Finite (λ (x : V). (y : V) × Edge x y) → Finite (IsRing Edge)
  finite_rings nodes = finite_so to back (finite_if (short_lists (length nodes.items) nodes) (λ xs short. ring_decided xs))
    where
      to : (xs : List V) → IsShort Leads (length nodes.items) xs × Ring Edge xs → IsRing Edge xs
      to xs both = ring_is Edge xs both.1

      back : (xs : List V) → IsRing Edge xs → IsShort Leads (length nodes.items) xs × Ring Edge xs
      back xs is =
          let ring = is_ring Edge xs is in
          let leads = ring_leads xs ring in (
            (
              few xs nodes.items (ring_differs xs ring)
                  (each_of (Has nodes.items) xs (λ x h. nodes.all x (each_has Leads xs x leads h))),
              leads,
            ),
            ring,
          )

  -- the nodes on rings
  pub finite_on_ring : Finite (λ (x : V). (y : V) × Edge x y) → Finite (OnRing Edge)
  finite_on_ring nodes =
      finite_over (λ ring node. Contains ring node) (finite_rings nodes)
      (λ ring is. record { items = ring; only = contained ring; all = had ring })
