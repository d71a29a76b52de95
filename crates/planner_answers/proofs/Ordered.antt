-- Lists in order of what is finite, and the best of it.
use Rattle.std.proofs.Common.{◌≡◌, ◌↔◌, ◌⊎◌, ℕ, zero, suc, ◌<◌, List, [], ◌∷◌, length, get_or, refl, sym}
use Rattle.std.proofs.Common.{subst, ◌∙◌, inl, inr, arith}
use Rattle.std.specs.List.{AllPairs, Contains}
use Rattle.planner_answers.proofs.Finite.{Finite, Has, contained, had}

-- one comes first, or they are one, or the other comes first
abbrev pub Ranked : {X : Type 0} → (X → X → Type 0) → X → X → Type 0
Ranked Before x y = Before x y ⊎ ((x ≡ y) ⊎ Before y x)

-- each before all after it, by recursion
abbrev pub Rises : {X : Type 0} → (X → X → Type 0) → List X → Type 0
Rises {X} Before [] = Unit {0}
Rises {X} Before (x ∷ xs) = ((y : X) → Has xs y → Before x y) × Rises Before xs

has_at : {X : Type 0} (xs : List X) (k : ℕ) (d : X) → k < length xs → Has xs (get_or xs k d)
has_at [] k d lt = absurd (omega (arith, lt))
has_at (x ∷ xs) zero d lt = inl refl
has_at (x ∷ xs) (suc k) d lt = inr (has_at xs k d (omega (arith, lt)))

pub rises_pairs : {X : Type 0} (Before : X → X → Type 0) (xs : List X) → Rises Before xs → AllPairs Before xs
rises_pairs Before [] rises i j d lt in_range = absurd (omega (arith, in_range))
rises_pairs Before (x ∷ xs) rises i zero d lt in_range = absurd (omega (arith, lt))
rises_pairs Before (x ∷ xs) rises zero (suc j) d lt in_range =
    rises.0 (get_or xs j d) (has_at xs j d (omega (arith, in_range)))
rises_pairs Before (x ∷ xs) rises (suc i) (suc j) d lt in_range =
    rises_pairs Before xs rises.1 i j d (omega (arith, lt)) (omega (arith, in_range))

-- a list in order that has what the other has
pub record InOrder {X : Type 0} (Before : X → X → Type 0) (xs : List X) : Type 0 where
  pub list : List X
  pub rises : Rises Before list
  pub only : (x : X) → Has list x → Has xs x
  pub all : (x : X) → Has xs x → Has list x

module _ {X : Type 0} (Before : X → X → Type 0) (trans : (x y z : X) → Before x y → Before y z → Before x z) where
  put : (x : X) (xs : List X) → Rises Before xs → ((y : X) → Has xs y → Ranked Before x y) → InOrder Before (x ∷ xs)
  put x [] rises ranked = record {
    list = x ∷ [];
    rises = ((λ y h. absurd h), tt);
    only = λ y h. h;
    all = λ y h. h;
  }
  put x (y ∷ ys) rises ranked = elim (ranked y (inl refl)) [
    | inl first ↦ record {
      list = x ∷ y ∷ ys;
      rises = (before_all first, rises);
      only = λ z h. h;
      all = λ z h. h;
    }
    | inr (inl same) ↦ record { list = y ∷ ys; rises = rises; only = λ z h. inr h; all = dropped same }
    | inr (inr later) ↦ further later (put x ys rises.1 (λ z h. ranked z (inr h)))
  ]
    where
      before_all : Before x y → (z : X) → Has (y ∷ ys) z → Before x z
      before_all first z (inl same) = subst (Before x) same first
      before_all first z (inr h) = trans x y z first (rises.0 z h)

      dropped : x ≡ y → (z : X) → Has (x ∷ y ∷ ys) z → Has (y ∷ ys) z
      dropped same z (inl is) = inl (sym same ∙ is)
      dropped same z (inr h) = h

      further : Before y x → InOrder Before (x ∷ ys) → InOrder Before (x ∷ y ∷ ys)
      further later rest = record { list = y ∷ rest.list; rises = (above, rest.rises); only = only; all = all }
        where
          above' : (z : X) → Has (x ∷ ys) z → Before y z
          above' z (inl same) = subst (Before y) same later
          above' z (inr h) = rises.0 z h

          above : (z : X) → Has rest.list z → Before y z
          above z h = above' z (rest.only z h)

          only' : (z : X) → Has (x ∷ ys) z → Has (x ∷ y ∷ ys) z
          only' z (inl same) = inl same
          only' z (inr h) = inr (inr h)

          only : (z : X) → Has (y ∷ rest.list) z → Has (x ∷ y ∷ ys) z
          only z (inl same) = inr (inl same)
          only z (inr h) = only' z (rest.only z h)

          all : (z : X) → Has (x ∷ y ∷ ys) z → Has (y ∷ rest.list) z
          all z (inl same) = inr (rest.all z (inl same))
          all z (inr (inl same)) = inl same
          all z (inr (inr h)) = inr (rest.all z (inr h))

  pub ordered : (xs : List X) → ((x y : X) → Has xs x → Has xs y → Ranked Before x y) → InOrder Before xs
  ordered [] ranked = record { list = []; rises = tt; only = λ x h. h; all = λ x h. h }
  ordered (x ∷ xs) ranked = first (ordered xs (λ y z h k. ranked y z (inr h) (inr k)))
    where
      first : InOrder Before xs → InOrder Before (x ∷ xs)
      first rest = record {
        list = whole.list;
        rises = whole.rises;
        only = λ z h. only z (whole.only z h);
        all = λ z h. whole.all z (all z h);
      }
        where
          whole : InOrder Before (x ∷ rest.list)
          whole = put x rest.list rest.rises (λ y h. ranked x y (inl refl) (inr (rest.only y h)))

          only : (z : X) → Has (x ∷ rest.list) z → Has (x ∷ xs) z
          only z (inl same) = inl same
          only z (inr h) = inr (rest.only z h)

          all : (z : X) → Has (x ∷ xs) z → Has (x ∷ rest.list) z
          all z (inl same) = inl same
          all z (inr h) = inr (rest.all z h)

-- exactly what P holds of, in order
pub record Listing {X : Type 0} (Before : X → X → Type 0) (P : X → Type 0) : Type 0 where
  pub list : List X
  pub rising : AllPairs Before list
  pub exactly : (x : X) → Contains list x ↔ P x

pub listing : {X : Type 0} {P : X → Type 0} (Before : X → X → Type 0)
    → ((x y z : X) → Before x y → Before y z → Before x z)
    → Finite P → ((x y : X) → P x → P y → Ranked Before x y) → Listing Before P
listing {X} {P} Before trans f ranked = record {
  list = whole.list;
  rising = rises_pairs Before whole.list whole.rises;
  exactly = λ x. (
    (λ h. f.only x (whole.only x (had whole.list x h))),
    λ p. contained whole.list x (whole.all x (f.all x p)),
  );
}
  where
    whole : InOrder Before f.items
    whole = ordered Before trans f.items (λ x y h k. ranked x y (f.only x h) (f.only y k))

-- the best of some: no other is better
module _ {X : Type 0} (AtMost : X → X → Type 0) (trans : (x y z : X) → AtMost x y → AtMost y z → AtMost x z) where
  least_of : (x : X) (xs : List X) → ((y z : X) → Has (x ∷ xs) y → Has (x ∷ xs) z → AtMost y z ⊎ AtMost z y)
      → (y : X) × Has (x ∷ xs) y × ((z : X) → Has (x ∷ xs) z → AtMost y z)
  least_of x [] total = (x, inl refl, itself)
    where
      own : AtMost x x
      own = elim (total x x (inl refl) (inl refl)) [
        | inl a ↦ a
        | inr a ↦ a
      ]

      itself : (z : X) → Has (x ∷ []) z → AtMost x z
      itself z (inl same) = subst (AtMost x) same own
      itself z (inr h) = absurd h
  least_of x (y ∷ ys) total = by (least_of y ys (λ u v h k. total u v (inr h) (inr k)))
    where
      by : (u : X) × Has (y ∷ ys) u × ((z : X) → Has (y ∷ ys) z → AtMost u z)
          → (w : X) × Has (x ∷ y ∷ ys) w × ((z : X) → Has (x ∷ y ∷ ys) z → AtMost w z)
      by (u, there, least) = elim (total x u (inl refl) (inr there)) [
        | inl below ↦ (x, inl refl, lower below)
        | inr above ↦ (u, inr there, same_least above)
      ]
        where
          own : AtMost x x
          own = elim (total x x (inl refl) (inl refl)) [
            | inl a ↦ a
            | inr a ↦ a
          ]

          lower : AtMost x u → (z : X) → Has (x ∷ y ∷ ys) z → AtMost x z
          lower below z (inl same) = subst (AtMost x) same own
          lower below z (inr h) = trans x u z below (least z h)

          same_least : AtMost u x → (z : X) → Has (x ∷ y ∷ ys) z → AtMost u z
          same_least above z (inl same) = subst (AtMost u) same above
          same_least above z (inr h) = least z h

  pub least : {P : X → Type 0} → Finite P → ((y z : X) → P y → P z → AtMost y z ⊎ AtMost z y)
      → ((x : X) → P x → ⊥) ⊎ ((y : X) × P y × ((z : X) → P z → AtMost y z))
  least {P} f total = by_items f.items refl
    where
      by_items : (xs : List X) → f.items ≡ xs
          → ((x : X) → P x → ⊥) ⊎ ((y : X) × P y × ((z : X) → P z → AtMost y z))
      by_items [] is = inl (λ x p. subst (λ ys. Has ys x) is (f.all x p))
      by_items (x ∷ xs) is =
          let from = λ (z : X) (h : Has (x ∷ xs) z). f.only z (subst (λ ys. Has ys z) (sym is) h) in
          let (y, there, best) = least_of x xs (λ u v h k. total u v (from u h) (from v k)) in
          inr (y, from y there, λ z p. best z (subst (λ ys. Has ys z) is (f.all z p)))
