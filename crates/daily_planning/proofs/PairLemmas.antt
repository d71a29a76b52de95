-- Statements that change no pair.
use Rattle.std.proofs.Common.{◌≡◌, ℕ, ◌⊎◌, List, refl, sym, ap, subst, ◌∙◌, inl, inr, Option}
use Rattle.std.specs.Prelude.{Bool, true, false, nat_lt, if◌then◌else◌}
use Rattle.occurrences.specs.Place.{IsLive, IsOpen}
use Rattle.occurrences.specs.declared.place.Place.{Place}
use Rattle.occurrences.specs.declared.place.Place.TheVariants.{LongTerm, Current, History, Deleted}
use Rattle.occurrences.specs.declared.row.Row.{Row}
use Rattle.occurrences.specs.declared.status.Status.TheVariants.{W, S, E, C, D}
use Rattle.external_dependencies.specs.Link.{ListsWithin}
use Rattle.external_dependencies.specs.Nearest.{IsNearest, arrival_of}
use Rattle.external_dependencies.specs.declared.links.Link.{Link}
use Rattle.external_dependencies.specs.declared.live.Arrival.{Arrival}
use Rattle.external_dependencies.specs.declared.pairs.Pair.{Pair}
use Rattle.external_dependencies.specs.declared.rows.PlacedRow.{PlacedRow}
use Rattle.planner_machine.specs.declared.content.Bounds.{Bounds}
use Rattle.planner_machine.specs.Content.{Seat, Sets}
use Rattle.planner_machine.specs.DailyPlan.{daily, daily_move}
use Rattle.planner_machine.specs.Fate.{place_after_daily_plan}
use Rattle.planner_machine.specs.Pairs.{ArePairs, IsKeptPair, IsOpenPair, LiveAt}
use Rattle.planner_machine.proofs.DailyLemmas.{daily_is_move, daily_live}
use Rattle.planner_machine.specs.RowsSound.{RowsSound}
use Rattle.planner_machine.proofs.SeatLemmas.{IsMove, after, going, stands_after, stood_before}

-- the nearest among arrivals is that among the same arrivals
same_nearest : (P Q : Arrival → Type 0) → ((x : Arrival) → P x → Q x) → ((x : Arrival) → Q x → P x)
    → (row : Row) (app : List ℕ) (within : Option ℕ) (near : Arrival)
    → IsNearest P row.key app within near → IsNearest Q row.key app within near
same_nearest P Q to from row app within near is = record {
  live = to near is.live;
  candidate = is.candidate;
  greatest = λ other live. is.greatest other (from other live);
  last = λ other live. is.last other (from other live);
}

open_or_not : (place : Place) → IsOpen place ⊎ (IsOpen place → ⊥)
open_or_not LongTerm = inl tt
open_or_not (Current W) = inl refl
open_or_not (Current S) = inr (λ e. cc)
open_or_not (Current E) = inr (λ e. cc)
open_or_not (Current C) = inr (λ e. cc)
open_or_not (Current D) = inr (λ e. cc)
open_or_not History = inr (λ e. e)
open_or_not (Deleted reason) = inr (λ e. e)

-- where rows move to other places, stay live or not, and none that waits no more waits again, no pair changes
module _ (move : Seat → Seat) (place : Row → Place → Place) (is : IsMove move (going place))
    (stays : (row : Row) (was : Place) → IsLive (place row was) → IsLive was)
    (stays' : (row : Row) (was : Place) → IsLive was → IsLive (place row was))
    (waited : (row : Row) (was : Place) → IsOpen (place row was) → IsOpen was) (c : Sets) (sound : RowsSound c)
    (bounds : Option Bounds) where
  abbrev go : PlacedRow → PlacedRow
  go = going place

  abbrev c' : Sets
  c' = after move go is c sound bounds

  live_on : (x : Arrival) → LiveAt c x → LiveAt c' x
  live_on x (serial, p, there, live, arrives) =
      (serial, go p, stands_after move go is c sound bounds serial p there, stays' p.row p.place live, arrives)

  live_back : (x : Arrival) → LiveAt c' x → LiveAt c x
  live_back x (serial, q, there, live, arrives) =
      let (p, was, same) = stood_before move go is c sound bounds serial q there in (
        serial,
        p,
        was,
        stays p.row p.place (subst (λ (y : PlacedRow). IsLive y.place) (sym same) live),
        ap
            (λ (y : PlacedRow). arrival_of y.row) same ∙ arrives,
      )

  module _ (links : List Link) (pairs : List Pair) (a : ArePairs pairs links c pairs) (pair : Pair) where
    on : Rattle.std.specs.Prelude.Contains pairs pair → IsOpenPair links c' pair ⊎ IsKeptPair pairs c' pair
    on there = elim ((a.exactly pair).0 there) [
      | inl o ↦ elim (open_or_not (place o.placed.row o.placed.place)) [
        | inl waits ↦ inl (record {
          placed = go o.placed;
          stands = stands_after move go is c sound bounds pair.successor o.placed o.stands;
          waits = waits;
          app = o.app;
          within = o.within;
          listed = o.listed;
          near = o.near;
          nearest = same_nearest (LiveAt c) (LiveAt c') live_on live_back o.placed.row o.app o.within o.near
              o.nearest;
          predecessor = o.predecessor;
        })
        | inr closed ↦ inr (record {
          placed = go o.placed;
          stands = stands_after move go is c sound bounds pair.successor o.placed o.stands;
          live = stays' o.placed.row o.placed.place (open_live o.placed.place o.waits);
          waits_no_more = closed;
          had = there;
        })
      ]
      | inr k ↦ inr (record {
        placed = go k.placed;
        stands = stands_after move go is c sound bounds pair.successor k.placed k.stands;
        live = stays' k.placed.row k.placed.place k.live;
        waits_no_more = λ waits. k.waits_no_more (waited k.placed.row k.placed.place waits);
        had = there;
      })
    ]
      where
        open_live : (was : Place) → IsOpen was → IsLive was
        open_live LongTerm o = tt
        open_live (Current W) o = λ e. cc
        open_live (Current S) o = λ e. cc
        open_live (Current E) o = λ e. cc
        open_live (Current C) o = λ e. cc
        open_live (Current D) o = cc
        open_live History o = tt
        open_live (Deleted reason) o = o

    back : IsOpenPair links c' pair → IsOpenPair links c pair
    back o =
        let (p, was, same) = stood_before move go is c sound bounds pair.successor o.placed o.stands in
        let row : o.placed.row ≡ p.row = ap (λ (y : PlacedRow). y.row) (sym same) in
        record {
          placed = p;
          stands = was;
          waits = waited p.row p.place (subst (λ (y : PlacedRow). IsOpen y.place) (sym same) o.waits);
          app = o.app;
          within = o.within;
          listed = subst (λ (r : Row). ListsWithin links r.key.app o.app o.within) row o.listed;
          near = o.near;
          nearest = subst (λ (r : Row). IsNearest (LiveAt c) r.key o.app o.within o.near) row
              (same_nearest (LiveAt c') (LiveAt c) live_back live_on o.placed.row o.app o.within o.near o.nearest);
          predecessor = o.predecessor;
        }

  pub pairs_stay : (links : List Link) (pairs : List Pair) → ArePairs pairs links c pairs
      → ArePairs pairs links c' pairs
  pairs_stay links pairs a = record {
    rising = a.rising;
    exactly = λ pair. (
      on links pairs a pair,
      λ now. elim now [
        | inl o ↦ (a.exactly pair).1
            (inl (back links pairs a pair o))
        | inr k ↦ k.had
      ],
    );
  }

daily_stays : (t : ℕ) (row : Row) (was : Place) → IsLive was → IsLive (place_after_daily_plan t row was)
daily_stays t row LongTerm live = by_test (nat_lt row.key.ia t)
  where
    by_test : (b : Bool) → IsLive (if b then Current W else LongTerm)
    by_test true = λ e. cc
    by_test false = tt
daily_stays t row (Current W) live = live
daily_stays t row (Current S) live = live
daily_stays t row (Current E) live = live
daily_stays t row (Current C) live = tt
daily_stays t row (Current D) live = absurd (live refl)
daily_stays t row History live = tt
daily_stays t row (Deleted reason) live = live

daily_waited : (t : ℕ) (row : Row) (was : Place) → IsOpen (place_after_daily_plan t row was) → IsOpen was
daily_waited t row LongTerm o = tt
daily_waited t row (Current W) o = o
daily_waited t row (Current S) o = o
daily_waited t row (Current E) o = o
daily_waited t row (Current C) o = absurd o
daily_waited t row (Current D) o = absurd o
daily_waited t row History o = o
daily_waited t row (Deleted reason) o = o

-- a daily plan changes no pair
pub daily_pairs : (t : ℕ) (c : Sets) → RowsSound c → (links : List Link) (pairs : List Pair)
    → ArePairs pairs links c pairs → ArePairs pairs links (daily t c) pairs
daily_pairs t c sound = pairs_stay (daily_move t) (place_after_daily_plan t) (daily_is_move t) (daily_live t)
    (daily_stays t) (daily_waited t) c sound (daily t c).bounds
