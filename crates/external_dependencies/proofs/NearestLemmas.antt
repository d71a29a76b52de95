-- The nearest predecessor among arrivals in rising order.
use Rattle.std.proofs.Common.{◌≡◌, ◌↔◌, ◌⊎◌, ℕ, ◌+◌, ◌-◌, ◌<◌, ◌≤◌, Bool, true, false, List, length, get_or, refl, sym, ap}
use Rattle.std.proofs.Common.{subst, ◌∙◌, inl, inr, arith, Ordering, Option, Some, None}
use Rattle.std.specs.declared.cmp.Ordering.TheVariants.{Less, Equal, Greater}
use Rattle.std.specs.Prelude.{nat_eq}
use Rattle.std.specs.List.{Contains}
use Rattle.std.specs.List.Sorted.{IsPartitionedBy, IsPartitionPoint}
use Rattle.std.specs.Cmp.{IsTotalOrder}
use Rattle.std.specs.Cmp.Lexicographic.{slice_cmp, pointwise, texts_ties, nat_list_eq_equiv}
use Rattle.std.specs.Ordering.{nat_cmp, ordering_then, is_lt, is_eq}
use Rattle.std.specs.FinMap.{IsAntisymmetric, nat_cmp-IsAntisymmetric}
use Rattle.std.proofs.lemmas.Cmp.{nat_list_cmp_total, nat_cmp_total, on_total, then_total, tied_itself, ranked}
use Rattle.std.proofs.lemmas.List.{get_or_default}
use Rattle.std.proofs.lemmas.Bool.{cases_lt, false≢true}
use Rattle.occurrences.specs.declared.key.Key.{Key}
use Rattle.external_dependencies.specs.declared.live.Arrival.{Arrival}
use Rattle.external_dependencies.specs.Arrival.{arrival_cmp}
use Rattle.external_dependencies.specs.Rising.{IsRising}
use Rattle.external_dependencies.specs.Nearest.{ArrivesWithin, IsCandidate, IsNearest, IsNearestAnswer, IsNearestArrival}
use Rattle.external_dependencies.proofs.OrderLemmas.{AtMost, less_after, rising_at_most, name_ties, then_less}
use Rattle.external_dependencies.proofs.OrderLemmas.{then_equal, less_not_equal}

-- arrivals compare by a total order, and tie only with themselves
pub arrival_total : IsTotalOrder arrival_cmp
arrival_total = then_total (on_total (λ (a : Arrival). a.app) nat_list_cmp_total)
    (then_total (on_total (λ (a : Arrival). a.ia) nat_cmp_total) (on_total (λ (a : Arrival). a.serial) nat_cmp_total))

pub arrival_ties : IsAntisymmetric arrival_cmp
arrival_ties x y is =
    let both = then_equal (slice_cmp nat_cmp x.app y.app)
    (ordering_then (nat_cmp x.ia y.ia) (nat_cmp x.serial y.serial)) is in
    let rest = then_equal (nat_cmp x.ia y.ia) (nat_cmp x.serial y.serial) both.1 in
    let apps : x.app ≡ y.app = name_ties x.app y.app both.0 in
    let moments : x.ia ≡ y.ia = nat_cmp-IsAntisymmetric x.ia y.ia rest.0 in
    let serials : x.serial ≡ y.serial = nat_cmp-IsAntisymmetric x.serial y.serial rest.1 in
    λ i. record { app = apps i; ia = moments i; serial = serials i }

-- numbers by their comparison
lt_from_less : (x y : ℕ) → nat_cmp x y ≡ Less → x < y
lt_from_less x y is = ranked x y Less (sym is)

less_from_lt : (x y : ℕ) → x < y → nat_cmp x y ≡ Less
less_from_lt x y lt = elim (nat_cmp x y) as (λ r. nat_cmp x y ≡ r → nat_cmp x y ≡ Less) [
  | Less ↦ λ is. is
  | Equal ↦ λ is. let same : x ≡ y = ranked x y Equal (sym is) in absurd (omega arith)
  | Greater ↦ λ is. let above : y < x = ranked x y Greater (sym is) in absurd (omega arith)
] refl

-- by application and moment alone
abbrev place_cmp : List ℕ × ℕ → List ℕ × ℕ → Ordering
place_cmp a b = ordering_then (slice_cmp nat_cmp a.0 b.0) (nat_cmp a.1 b.1)

place_total : IsTotalOrder place_cmp
place_total = then_total (on_total (λ (a : List ℕ × ℕ). a.0) nat_list_cmp_total)
    (on_total (λ (a : List ℕ × ℕ). a.1) nat_cmp_total)

abbrev place_at : Arrival → List ℕ × ℕ
place_at a = (a.app, a.ia)

-- the parts of an order at most
record Ordered (x y : Arrival) : Type 0 where
  app : AtMost nat_list_cmp_total x.app y.app
  place : AtMost place_total (x.app, x.ia) (y.app, y.ia)
  moment : x.app ≡ y.app → x.ia ≤ y.ia
  serial : x.app ≡ y.app → x.ia ≡ y.ia → x.serial ≤ y.serial

ordered : (x y : Arrival) → AtMost arrival_total x y → Ordered x y
ordered x y (inl less) = elim (then_less (slice_cmp nat_cmp x.app y.app)
    (ordering_then (nat_cmp x.ia y.ia) (nat_cmp x.serial y.serial)) less) [
      | inl app ↦ record {
        app = inl app;
        place = inl (ap (λ r. ordering_then r (nat_cmp x.ia y.ia)) app);
        moment = λ same. absurd (apart x y app same);
        serial = λ same _. absurd (apart x y app same);
      }
      | inr rest ↦ elim (then_less (nat_cmp x.ia y.ia) (nat_cmp x.serial y.serial) rest.1) [
        | inl moment ↦
            let lt = lt_from_less x.ia y.ia moment in
            record {
              app = inr rest.0;
              place = inl (ap (λ r. ordering_then r (nat_cmp x.ia y.ia)) rest.0 ∙ moment);
              moment = λ _. omega arith;
              serial = λ _ same. absurd (omega arith);
            }
        | inr tied ↦
            let same_moment : x.ia ≡ y.ia = nat_cmp-IsAntisymmetric x.ia y.ia tied.0 in
            let lt = lt_from_less x.serial y.serial tied.1 in
            record {
              app = inr rest.0;
              place = inr (ap (λ r. ordering_then r (nat_cmp x.ia y.ia)) rest.0 ∙ tied.0);
              moment = λ _. omega arith;
              serial = λ _ _. omega arith;
            }
      ]
    ]
  where
    apart : (x y : Arrival) → slice_cmp nat_cmp x.app y.app ≡ Less → x.app ≡ y.app → ⊥
    apart x y less same = less_not_equal (sym less
        ∙ subst (λ z. slice_cmp nat_cmp x.app z ≡ Equal) same (tied_itself nat_list_cmp_total x.app))
ordered x y (inr tied) =
    let same : x ≡ y = arrival_ties x y tied in
    subst (Ordered x) same (record {
      app = inr (tied_itself nat_list_cmp_total x.app);
      place = inr (tied_itself place_total (x.app, x.ia));
      moment = λ _. omega arith;
      serial = λ _ _. omega arith;
    })

module _ (live : List Arrival) (rising : IsRising arrival_cmp live) (app : List ℕ) (limit : ℕ) where
  -- the arrival is of an application below, or of this one and before the limit
  abbrev pub is_before : Arrival → Bool
  is_before a = is_lt (ordering_then (slice_cmp nat_cmp a.app app) (nat_cmp a.ia limit))

  less_from : (r : Ordering) → is_lt r ≡ true → r ≡ Less
  less_from Less is = refl
  less_from Equal is = absurd (false≢true is)
  less_from Greater is = absurd (false≢true is)

  pub parted : IsPartitionedBy is_before live
  parted i j d le lt is =
      let below = (ordered (get_or live i d) (get_or live j d)
      (rising_at_most arrival_total live rising i j d le lt)).place in
      ap is_lt (less_after place_total (place_at (get_or live i d)) (place_at (get_or live j d)) (app, limit) below
      (less_from (place_cmp (place_at (get_or live j d)) (app, limit)) is))

  -- of this application the test means what it says
  before_then : (a : Arrival) → a.app ≡ app → is_before a ≡ true → a.ia < limit
  before_then a same is = elim (then_less (slice_cmp nat_cmp a.app app) (nat_cmp a.ia limit)
      (less_from (place_cmp (place_at a) (app, limit)) is)) [
        | inl less ↦ absurd (less_not_equal (sym less
            ∙ subst (λ z. slice_cmp nat_cmp a.app z ≡ Equal) same (tied_itself nat_list_cmp_total a.app)))
        | inr tied ↦ lt_from_less a.ia limit tied.1
      ]

  then_before : (a : Arrival) → a.app ≡ app → a.ia < limit → is_before a ≡ true
  then_before a same lt =
      let tied : slice_cmp nat_cmp a.app app ≡ Equal =
      subst (λ z. slice_cmp nat_cmp a.app z ≡ Equal) same (tied_itself nat_list_cmp_total a.app) in
      ap is_lt (ap (λ r. ordering_then r (nat_cmp a.ia limit)) tied ∙ less_from_lt a.ia limit lt)

  -- an arrival that passes the test is of this application or one below
  before_app : (a : Arrival) → is_before a ≡ true → AtMost nat_list_cmp_total a.app app
  before_app a is = elim (then_less (slice_cmp nat_cmp a.app app) (nat_cmp a.ia limit)
      (less_from (place_cmp (place_at a) (app, limit)) is)) [
        | inl less ↦ inl less
        | inr tied ↦ inr tied.0
      ]

  module _ (key : Key) (exact : (a : Arrival) → a.app ≡ app → (a.ia < limit)
      ↔ ((a.ia ≤ key.ia) × (app ≡ key.app → a.ia < key.ia))) (count : ℕ)
      (point : IsPartitionPoint (λ a. is_before a ≡ true) (λ a. is_before a ≡ false) live count) where
    -- a candidate comes before the point
    candidate_before : (other : Arrival) → (here : Contains live other) → IsCandidate key app None other → here.0 < count
    candidate_before other here may = elim (cases_lt here.0 count) [
      | inl before ↦ before
      | inr after ↦
          let passes : is_before other ≡ true = then_before other may.of_app
          ((exact other may.of_app).1 (may.in_time, may.before_own)) in
          let fails : is_before other ≡ false = subst (λ a. is_before a ≡ false) here.2
          (point.1 here.0 other after here.1) in
          absurd (false≢true (sym fails ∙ passes))
    ]

    -- with nothing before the point there is none
    pub none_before : count ≡ 0 → IsNearestArrival (Contains live) key app None None
    none_before none other here may = let before = candidate_before other here may in omega arith

    module _ (some : 0 < count) (within : count ≤ length live) (near : Arrival)
        (at : near ≡ get_or live (count - 1) near) where
      here_near : Contains live near
      here_near = (count - 1, omega arith, sym at)

      passes_near : is_before near ≡ true
      passes_near = subst (λ a. is_before a ≡ true) (sym at) (point.0 (count - 1) near (omega arith) (omega arith))

      -- a candidate is in order with the last before the point
      before_near : (other : Arrival) → Contains live other → IsCandidate key app None other → Ordered other near
      before_near other here may =
          let before = candidate_before other here may in
          let in_order : AtMost arrival_total (get_or live here.0 other) (get_or live (count - 1) other) =
          rising_at_most arrival_total live rising here.0 (count - 1) other (omega arith) (omega arith) in
          let last_is : get_or live (count - 1) other ≡ near =
          get_or_default live (count - 1) other near (omega arith) ∙ sym at in
          ordered other near (subst (λ a. AtMost arrival_total a near) here.2
          (subst (λ a. AtMost arrival_total (get_or live here.0 other) a) last_is in_order))

      -- the last before the point, where it is of the application
      pub nearest_is : near.app ≡ app → IsNearestArrival (Contains live) key app None (Some near)
      nearest_is same =
          let in_limit = (exact near same).0 (before_then near same passes_near) in
          record {
            live = here_near;
            candidate = record { of_app = same; in_time = in_limit.0; before_own = in_limit.1; close = tt };
            greatest = λ other here may. (before_near other here may).moment (may.of_app ∙ sym same);
            last = λ other here may together. (before_near other here may).serial (may.of_app ∙ sym same) together;
          }

      -- where it is not, there is none
      pub none_of_app : (near.app ≡ app → ⊥) → IsNearestArrival (Contains live) key app None None
      none_of_app differ other here may =
          let below = subst (λ x. AtMost nat_list_cmp_total x near.app) may.of_app (before_near other here may).app in
          let above = before_app near passes_near in
          differ (sym (both below above))
        where
          both : AtMost nat_list_cmp_total app near.app → AtMost nat_list_cmp_total near.app app → app ≡ near.app
          both (inr tied) above = name_ties app near.app tied
          both (inl less) (inr tied) = sym (name_ties near.app app tied)
          both (inl less) (inl back) = absurd (less_not_equal
              (sym (less_after nat_list_cmp_total app near.app app (inl less) back)
              ∙ tied_itself nat_list_cmp_total app))

-- what a limit is to say of the arrivals of an application
abbrev pub IsLimit : Key → List ℕ → ℕ → Type 0
IsLimit key app limit = (a : Arrival) → a.app ≡ app → (a.ia < limit)
    ↔ ((a.ia ≤ key.ia) × (app ≡ key.app → a.ia < key.ia))

-- in its own application, the moment of the key
pub own_limit : (key : Key) (app : List ℕ) (limit : ℕ) → app ≡ key.app → limit ≡ key.ia → IsLimit key app limit
own_limit key app limit same is a of_app =
    ((λ lt. (omega arith, λ _. omega arith)), λ both. let before = both.1 same in omega arith)

-- in another one, the moment after it
pub other_limit : (key : Key) (app : List ℕ) (limit : ℕ) → (app ≡ key.app → ⊥) → limit ≡ key.ia + 1
    → IsLimit key app limit
other_limit key app limit differ is a of_app =
    ((λ lt. (omega arith, λ same. absurd (differ same))), λ both. let upto = both.0 in omega arith)

-- a test of two names for equality
pub names_equal : (x y : List ℕ) → pointwise nat_eq x y ≡ true → x ≡ y
names_equal x y is = name_ties x y (tied (slice_cmp nat_cmp x y) (sym (texts_ties x y) ∙ is))
  where
    tied : (o : Ordering) → is_eq o ≡ true → o ≡ Equal
    tied Less is = absurd (false≢true is)
    tied Equal is = refl
    tied Greater is = absurd (false≢true is)

pub names_differ : (x y : List ℕ) → pointwise nat_eq x y ≡ false → x ≡ y → ⊥
names_differ x y is same = false≢true (sym is
    ∙ subst (λ z. pointwise nat_eq x z ≡ true) same (nat_list_eq_equiv.refl x))

-- a nearest predecessor is one only
pub nearest_once : (IsLive : Arrival → Type 0) (key : Key) (app : List ℕ) (within : Option ℕ) (x y : Arrival)
    → IsNearest IsLive key app within x → IsNearest IsLive key app within y → x ≡ y
nearest_once IsLive key app within x y is_x is_y =
    let x_le : x.ia ≤ y.ia = is_y.greatest x is_x.live is_x.candidate in
    let y_le : y.ia ≤ x.ia = is_x.greatest y is_y.live is_y.candidate in
    let moments : x.ia ≡ y.ia = omega arith in
    let serial_le : x.serial ≤ y.serial = is_y.last x is_x.live is_x.candidate moments in
    let serial_ge : y.serial ≤ x.serial = is_x.last y is_y.live is_y.candidate (sym moments) in
    let serials : x.serial ≡ y.serial = omega arith in
    let apps : x.app ≡ y.app = is_x.candidate.of_app ∙ sym is_y.candidate.of_app in
    λ i. record { app = apps i; ia = moments i; serial = serials i }

-- the nearest depends on the set of live arrivals alone
pub nearest_same : (P Q : Arrival → Type 0) → ((a : Arrival) → P a ↔ Q a)
    → (key : Key) (app : List ℕ) (within : Option ℕ) (near : Arrival)
    → IsNearest P key app within near → IsNearest Q key app within near
nearest_same P Q same key app within near is = record {
  live = (same near).0 is.live;
  candidate = is.candidate;
  greatest = λ other here. is.greatest other ((same other).1 here);
  last = λ other here. is.last other ((same other).1 here);
}

-- what arrives later is no farther
pub closer : (within : Option ℕ) (ia first later : ℕ) → first ≤ later → ArrivesWithin within ia first
    → ArrivesWithin within ia later
closer None ia first later le close = tt
closer (Some hours) ia first later le close = omega arith

-- a candidate without the limit
pub unlimited : (key : Key) (app : List ℕ) (within : Option ℕ) (a : Arrival) → IsCandidate key app within a
    → IsCandidate key app None a
unlimited key app within a may =
    record { of_app = may.of_app; in_time = may.in_time; before_own = may.before_own; close = tt }

pub limited : (key : Key) (app : List ℕ) (within : Option ℕ) (a : Arrival) → IsCandidate key app None a
    → ArrivesWithin within key.ia a.ia → IsCandidate key app within a
limited key app within a may close =
    record { of_app = may.of_app; in_time = may.in_time; before_own = may.before_own; close = close }

module _ (IsLive : Arrival → Type 0) (key : Key) (app : List ℕ) (within : Option ℕ) (near : Arrival) where
  -- the nearest without a limit is the nearest, where it is close enough
  pub nearest_close : IsNearest IsLive key app None near → ArrivesWithin within key.ia near.ia
      → IsNearest IsLive key app within near
  nearest_close is close = record {
    live = is.live;
    candidate = limited key app within near is.candidate close;
    greatest = λ other here may. is.greatest other here (unlimited key app within other may);
    last = λ other here may. is.last other here (unlimited key app within other may);
  }

  -- and no other is
  pub nearest_far : IsNearest IsLive key app None near → (ArrivesWithin within key.ia near.ia → ⊥)
      → (other : Arrival) → IsLive other → IsCandidate key app within other → ⊥
  nearest_far is far other here may =
      far (closer within key.ia other.ia near.ia (is.greatest other here (unlimited key app within other may)) may.close)

  pub nearest_unlimited : IsNearest IsLive key app within near → IsNearest IsLive key app None near
  nearest_unlimited is = record {
    live = is.live;
    candidate = unlimited key app within near is.candidate;
    greatest = λ other here may. upto other here may (cases_lt near.ia other.ia);
    last = λ other here may together. is.last other here (limited key app within other may
        (subst (ArrivesWithin within key.ia) (sym together) is.candidate.close)) together;
  }
    where
      upto : (other : Arrival) → IsLive other → IsCandidate key app None other
          → (near.ia < other.ia) ⊎ (other.ia ≤ near.ia) → other.ia ≤ near.ia
      upto other here may (inr le) = le
      upto other here may (inl later) = is.greatest other here (limited key app within other may
          (closer within key.ia near.ia other.ia (omega arith) is.candidate.close))

-- the nearest with a limit is that without one, where it is close enough
pub nearest_limited : (IsLive : Arrival → Type 0) (key : Key) (app : List ℕ) (within : Option ℕ) (near : Arrival)
    → IsNearest IsLive key app within near
    ↔ (IsNearest IsLive key app None near × ArrivesWithin within key.ia near.ia)
nearest_limited IsLive key app within near = (
  (λ is. (nearest_unlimited IsLive key app within near is, is.candidate.close)),
  λ both. nearest_close IsLive key app within near both.0 both.1,
)

-- what is nearest without a limit among two sets alike is so with one
pub limited_alike : (P Q : Arrival → Type 0) (key : Key) (app : List ℕ) (within : Option ℕ) (near : Arrival)
    → (IsNearest P key app None near ↔ IsNearest Q key app None near)
    → IsNearest P key app within near ↔ IsNearest Q key app within near
limited_alike P Q key app within near same = (
  (λ is. nearest_close Q key app within near (same.0 (nearest_unlimited P key app within near is)) is.candidate.close),
  λ is. nearest_close P key app within near (same.1 (nearest_unlimited Q key app within near is)) is.candidate.close,
)

-- the answer by the nearest without a limit
pub answer_close : (IsLive : Arrival → Type 0) (key : Key) (app : List ℕ) (within : Option ℕ) (near : Arrival)
    → IsNearest IsLive key app None near → ArrivesWithin within key.ia near.ia
    → IsNearestAnswer IsLive key app within (Some near.serial)
answer_close IsLive key app within near is close = (near, nearest_close IsLive key app within near is close, refl)

pub answer_far : (IsLive : Arrival → Type 0) (key : Key) (app : List ℕ) (within : Option ℕ) (near : Arrival)
    → IsNearest IsLive key app None near → (ArrivesWithin within key.ia near.ia → ⊥)
    → IsNearestAnswer IsLive key app within None
answer_far IsLive key app within near is far = nearest_far IsLive key app within near is far

pub answer_none : (IsLive : Arrival → Type 0) (key : Key) (app : List ℕ) (within : Option ℕ)
    → ((other : Arrival) → IsLive other → IsCandidate key app None other → ⊥)
    → IsNearestAnswer IsLive key app within None
answer_none IsLive key app within none other here may = none other here (unlimited key app within other may)
