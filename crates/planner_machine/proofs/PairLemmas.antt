-- Pairs.
use Rattle.std.proofs.Common.{◌≡◌, ◌≢◌, ◌↔◌, ℕ, List, true, false, refl, sym, ap, subst, ◌∙◌, inl, inr, Option}
use Rattle.std.specs.declared.cmp.Ordering.TheVariants.{Less, Equal}
use Rattle.std.specs.Cmp.{IsTotalOrder, nat_cmp_total, on_total, then_total, tied_itself}
use Rattle.std.specs.Prelude.{Bool, nat_lt, if◌then◌else◌}
use Rattle.occurrences.specs.Order.{IsStrictOrder}
use Rattle.occurrences.specs.declared.key.Key.{Key}
use Rattle.occurrences.specs.Place.{IsLive, IsOpen}
use Rattle.occurrences.specs.declared.place.Place.{Place}
use Rattle.occurrences.specs.declared.place.Place.TheVariants.{LongTerm, Current, History, Deleted}
use Rattle.occurrences.specs.declared.row.Row.{Row}
use Rattle.occurrences.specs.declared.status.Status.TheVariants.{W, S, E, C, D}
use Rattle.external_dependencies.specs.Link.{ListsWithin}
use Rattle.external_dependencies.specs.Nearest.{IsNearest, arrival_of}
use Rattle.external_dependencies.specs.Pair.{pair_cmp}
use Rattle.external_dependencies.specs.declared.links.Link.{Link}
use Rattle.external_dependencies.specs.declared.live.Arrival.{Arrival}
use Rattle.external_dependencies.specs.declared.pairs.Pair.{Pair}
use Rattle.external_dependencies.specs.declared.rows.PlacedRow.{PlacedRow}
use Rattle.planner_machine.specs.declared.content.Bounds.{Bounds}
use Rattle.planner_machine.specs.Content.{Seat, Sets}
use Rattle.planner_machine.specs.DailyPlan.{daily, daily_move}
use Rattle.planner_machine.specs.Fate.{place_after_daily_plan}
use Rattle.planner_machine.specs.Pairs.{ArePairs, IsKeptPair, IsOpenPair, LiveAt}
use Rattle.planner_machine.proofs.DailyLemmas.{daily_is_move}
use Rattle.planner_machine.proofs.RisingLemmas.{one_list}
use Rattle.planner_machine.specs.RowsSound.{RowsSound}
use Rattle.planner_machine.proofs.SeatLemmas.{IsMove, after, going, stands_after, stood_before}

pair_total : IsTotalOrder pair_cmp
pair_total = then_total (on_total (λ (p : Pair). p.successor) nat_cmp_total)
    (on_total (λ (p : Pair). p.predecessor) nat_cmp_total)

pair_strict : IsStrictOrder (λ x y. pair_cmp x y ≡ Less)
pair_strict = record {
  irreflexive = λ a less. let tied = tied_itself pair_total a in
      let apart : Less ≡ Equal = sym less ∙ tied in cc;
  transitive = λ a b c. pair_total.trans a b c;
}

pub pairs_are_one : (before : List Pair) (links : List Link) (c : Sets) (pairs pairs' : List Pair)
    → ArePairs before links c pairs → ArePairs before links c pairs' → pairs ≡ pairs'
pairs_are_one before links c pairs pairs' a b =
    one_list (λ x y. pair_cmp x y ≡ Less) pair_strict pairs pairs' a.rising b.rising
    (λ z h. (b.exactly z).1 ((a.exactly z).0 h)) (λ z h. (a.exactly z).1 ((b.exactly z).0 h))

-- pairs after a statement are settled
pub pairs_settle : (before : List Pair) (links : List Link) (c : Sets) (pairs : List Pair)
    → ArePairs before links c pairs → ArePairs pairs links c pairs
pairs_settle before links c pairs a = record {
  rising = a.rising;
  exactly = λ pair. (
    (λ there. elim ((a.exactly pair).0 there) [
      | inl open' ↦ inl open'
      | inr kept ↦ inr (record {
        placed = kept.placed;
        stands = kept.stands;
        live = kept.live;
        waits_no_more = kept.waits_no_more;
        had = there;
      })
    ]),
    λ is. elim is [
      | inl open' ↦ (a.exactly pair).1 (inl open')
      | inr kept ↦ kept.had
    ],
  );
}

-- what a place is to pairs
data Kind : Type 0 where
  awaiting : Kind
  fixed : Kind
  gone : Kind

abbrev kind : Place → Kind
kind LongTerm = awaiting
kind (Current W) = awaiting
kind (Current S) = fixed
kind (Current E) = fixed
kind (Current C) = fixed
kind (Current D) = gone
kind History = fixed
kind (Deleted reason) = gone

open_kind : (place : Place) → IsOpen place ↔ (kind place ≡ awaiting)
open_kind LongTerm = ((λ _. refl), λ _. tt)
open_kind (Current W) = ((λ _. refl), λ _. refl)
open_kind (Current S) = ((λ is. cc), λ is. cc)
open_kind (Current E) = ((λ is. cc), λ is. cc)
open_kind (Current C) = ((λ is. cc), λ is. cc)
open_kind (Current D) = ((λ is. cc), λ is. cc)
open_kind History = ((λ is. absurd is), λ is. cc)
open_kind (Deleted reason) = ((λ is. absurd is), λ is. cc)

live_kind : (place : Place) → IsLive place ↔ (kind place ≢ gone)
live_kind LongTerm = ((λ _ is. cc), λ _. tt)
live_kind (Current W) = ((λ _ is. cc), λ _ is. cc)
live_kind (Current S) = ((λ _ is. cc), λ _ is. cc)
live_kind (Current E) = ((λ _ is. cc), λ _ is. cc)
live_kind (Current C) = ((λ _ is. cc), λ _ is. cc)
live_kind (Current D) = ((λ live. absurd (live refl)), λ live. absurd (live refl))
live_kind History = ((λ _ is. cc), λ _. tt)
live_kind (Deleted reason) = ((λ live. absurd live), λ live. live refl)

same_open : (a b : Place) → kind a ≡ kind b → IsOpen a → IsOpen b
same_open a b same is = (open_kind b).1 (sym same ∙ (open_kind a).0 is)

same_live : (a b : Place) → kind a ≡ kind b → IsLive a → IsLive b
same_live a b same is = (live_kind b).1 (λ now. (live_kind a).0 is (same ∙ now))

-- the nearest among arrivals is that among the same arrivals
same_nearest : (P Q : Arrival → Type 0) → ((x : Arrival) → P x → Q x) → ((x : Arrival) → Q x → P x)
    → (key : Key) (app : List ℕ) (within : Option ℕ) (near : Arrival)
    → IsNearest P key app within near → IsNearest Q key app within near
same_nearest P Q to from key app within near is =
    record {
      live = to near is.live;
      candidate = is.candidate;
      greatest = λ other live. is.greatest other (from other live);
      last =
          λ other live. is.last other (from other live);
    }

-- a move that keeps rows and kinds of places changes no pair
module _ (move : Seat → Seat) (go : PlacedRow → PlacedRow) (is : IsMove move go) (rows : (p : PlacedRow)
    → (go p).row ≡ p.row) (kinds : (p : PlacedRow)
    → kind (go p).place ≡ kind p.place) (c : Sets) (sound : RowsSound c) (bounds : Option Bounds) where
  abbrev c' : Sets
  c' = after move go is c sound bounds

  live_on : (x : Arrival) → LiveAt c x → LiveAt c' x
  live_on x (serial, p, there, live, arrives) = (
    serial,
    go p,
    stands_after move go is c sound bounds serial p there,
    same_live p.place (go p).place (sym (kinds p)) live,
    ap (λ r. arrival_of r) (rows p) ∙ arrives,
  )

  live_back : (x : Arrival) → LiveAt c' x → LiveAt c x
  live_back x (serial, q, there, live, arrives) =
      let (p, was, same) = stood_before move go is c sound bounds serial q there in (
        serial,
        p,
        was,
        same_live (go p).place p.place (kinds p) (subst (λ (y : PlacedRow). IsLive y.place) (sym same) live),
        ap (λ r. arrival_of r) (sym (rows p) ∙ ap (λ (y : PlacedRow). y.row) same) ∙ arrives,
      )

  module _ (links : List Link) (pair : Pair) where
    open_on : IsOpenPair links c pair → IsOpenPair links c' pair
    open_on a = let p = a.placed in record {
      placed = go p;
      stands = stands_after move go is c sound bounds pair.successor p a.stands;
      waits = same_open p.place (go p).place (sym (kinds p)) a.waits;
      app = a.app;
      within = a.within;
      listed = let P : Row → Type 0 = λ r. ListsWithin links r.key.app a.app a.within in
          subst P (sym (rows p)) a.listed;
      near = a.near;
      nearest = let P : Row → Type 0 = λ r. IsNearest (LiveAt c') r.key a.app a.within a.near in
          subst P (sym (rows p)) (same_nearest (LiveAt c)
          (LiveAt c') live_on live_back p.row.key a.app a.within a.near a.nearest);
      predecessor = a.predecessor;
    }

    open_back : IsOpenPair links c' pair → IsOpenPair links c pair
    open_back a =
        let (p, was, same) = stood_before move go is c sound bounds pair.successor a.placed a.stands in
        let row : a.placed.row ≡ p.row = ap (λ (y : PlacedRow). y.row) (sym same) ∙ rows p in
        record {
          placed = p;
          stands = was;
          waits = same_open (go p).place p.place (kinds p)
              (subst (λ (y : PlacedRow). IsOpen y.place) (sym same) a.waits);
          app = a.app;
          within = a.within;
          listed = let P : Row → Type 0 = λ r. ListsWithin links r.key.app a.app a.within in subst P row a.listed;
          near = a.near;
          nearest = let P : Row → Type 0 = λ r. IsNearest (LiveAt c) r.key a.app a.within a.near in
              subst P row (same_nearest (LiveAt c')
              (LiveAt c) live_back live_on a.placed.row.key a.app a.within a.near a.nearest);
          predecessor = a.predecessor;
        }

    kept_on : (before : List Pair) → IsKeptPair before c pair → IsKeptPair before c' pair
    kept_on before a = let p = a.placed in record {
      placed = go p;
      stands = stands_after move go is c sound bounds pair.successor p a.stands;
      live = same_live p.place (go p).place (sym (kinds p)) a.live;
      waits_no_more = λ waits. a.waits_no_more (same_open (go p).place p.place (kinds p) waits);
      had = a.had;
    }

  no_pair_changes : (links : List Link) (pairs : List Pair) → ArePairs pairs links c pairs
      → ArePairs pairs links c' pairs
  no_pair_changes links pairs a = record {
    rising = a.rising;
    exactly = λ pair. (
      (λ there. elim ((a.exactly pair).0 there) [
        | inl open' ↦ inl (open_on links pair open')
        | inr kept ↦ inr (kept_on links pair pairs kept)
      ]),
      λ now. elim now [
        | inl open' ↦ (a.exactly pair).1 (inl (open_back links pair open'))
        | inr kept ↦ kept.had
      ],
    );
  }

daily_kind : (t : ℕ) (row : Row) (was : Place) → kind (place_after_daily_plan t row was) ≡ kind was
daily_kind t row LongTerm = by_test (nat_lt row.key.ia t)
  where
    by_test : (b : Bool) → kind (if b then Current W else LongTerm) ≡ awaiting
    by_test true = refl
    by_test false = refl
daily_kind t row (Current W) = refl
daily_kind t row (Current S) = refl
daily_kind t row (Current E) = refl
daily_kind t row (Current C) = refl
daily_kind t row (Current D) = refl
daily_kind t row History = refl
daily_kind t row (Deleted reason) = refl

pub daily_keeps_pairs : (t : ℕ) (links : List Link) (c : Sets) (pairs pairs' : List Pair) → RowsSound c
    → ArePairs pairs links c pairs → ArePairs pairs links (daily t c) pairs' → pairs' ≡ pairs
daily_keeps_pairs t links c pairs pairs' sound a b =
    pairs_are_one pairs links _ pairs' pairs b
    (no_pair_changes (daily_move t) (going (place_after_daily_plan t)) (daily_is_move t) (λ p. refl)
    (λ p. daily_kind t p.row p.place) c sound _ links pairs a)
