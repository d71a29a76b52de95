-- A pair's rows and its link are found again where they are only known to be: the sets tell the rows, and the link is
-- searched for in the lists.
use Rattle.std.proofs.Common.{◌≡◌, ◌⊎◌, ◌∙◌, ℕ, ◌+◌, ◌*◌, ◌<◌, ◌≤◌, true, false, List, [], Option, None, Some, ap, arith}
use Rattle.std.proofs.Common.{get_or, inl, inr, length, refl, subst, sym}
use mathlib.Core.HLevel.{Σ_prop_path}
use base.Stored.{Coded-set}
use Rattle.std.proofs.Math.Logic.{∥∥₁_elim, ∥∥₁_map}
use Rattle.std.proofs.Props.{props}
use Rattle.std.specs.Cmp.Lexicographic.{other_text, pointwise, same_text}
use Rattle.std.specs.List.{Contains}
use Rattle.std.specs.Prelude.{nat_eq}
use Rattle.std.proofs.lemmas.Bool.{cases_eq, cases_lt}
use Rattle.std.proofs.lemmas.List.{get_or_default}
use Rattle.occurrences.specs.Place.{IsLive, IsOpen}
use Rattle.occurrences.specs.declared.key.Key.{Key}
use Rattle.occurrences.specs.declared.place.CurrentRow.{CurrentRow}
use Rattle.occurrences.specs.contracts.place.CurrentRow as current
use Rattle.occurrences.specs.declared.place.Deletion.{Deletion}
use Rattle.occurrences.specs.contracts.place.Deletion as deletion
use Rattle.occurrences.specs.declared.row.Row.{Row}
use Rattle.occurrences.specs.contracts.row.Row as row
use Rattle.occurrences.specs.declared.place.Place.{Place}
use Rattle.occurrences.specs.declared.place.Place.TheVariants.{LongTerm, Current, History, Deleted}
use Rattle.occurrences.specs.declared.status.Status.{Status}
use Rattle.occurrences.specs.declared.status.Status.TheVariants.{W, S, E, C, D}
use Rattle.external_dependencies.specs.Link.{ListsWithin}
use Rattle.external_dependencies.specs.Nearest.{ArrivesWithin, IsCandidate, IsNearest, arrival_of}
use Rattle.external_dependencies.specs.declared.links.Link.{Link}
use Rattle.external_dependencies.specs.declared.live.Arrival.{Arrival}
use Rattle.external_dependencies.specs.declared.pairs.Pair.{Pair}
use Rattle.external_dependencies.specs.declared.rows.PlacedRow.{PlacedRow}
use Rattle.planner_machine.specs.Content.{Seat, Sets, IsOnlyAt}
use Rattle.planner_machine.specs.Pairs.{IsKeptPair, IsOpenPair, LiveAt}
use Rattle.planner_machine.specs.Sound.{AreNumbered}
use Rattle.planner_machine.proofs.SeatLemmas.{one_place}
use Rattle.app_definition_soundness.proofs.Searches.{decided, search_below}

-- tests

both : {A B : Type 0} → A ⊎ (A → ⊥) → B ⊎ (B → ⊥) → (A × B) ⊎ (A × B → ⊥)
both (inl a) (inl b) = inl (a, b)
both (inl a) (inr none) = inr (λ x. none x.1)
both (inr none) b = inr (λ x. none x.0)

same_names : (xs ys : List ℕ) → (xs ≡ ys) ⊎ (xs ≡ ys → ⊥)
same_names xs ys = elim (pointwise nat_eq xs ys) as (λ b. b ≡ pointwise nat_eq xs ys → (xs ≡ ys) ⊎ (xs ≡ ys → ⊥)) [
  | true ↦ λ is. inl (same_text xs ys is)
  | false ↦ λ is. inr (other_text xs ys is)
] refl

within_test : (o : Option ℕ) (ia first : ℕ) → ArrivesWithin o ia first ⊎ (ArrivesWithin o ia first → ⊥)
within_test None ia first = inl tt
within_test (Some hours) ia first = elim (cases_lt (first + hours * 60) ia) [
  | inl late ↦ inr (λ in_time. omega (arith, late, in_time))
  | inr in_time ↦ inl in_time
]

status_waits : (status : Status) → (status ≡ W) ⊎ (status ≡ W → ⊥)
status_waits W = inl refl
status_waits S = inr (λ same. cc)
status_waits E = inr (λ same. cc)
status_waits C = inr (λ same. cc)
status_waits D = inr (λ same. cc)

is_open : (place : Place) → IsOpen place ⊎ (IsOpen place → ⊥)
is_open LongTerm = inl tt
is_open (Current status) = status_waits status
is_open History = inr (λ no. no)
is_open (Deleted reason) = inr (λ no. no)

pub live_prop : (place : Place) → IsProp (IsLive place)
live_prop LongTerm = hlevel props
live_prop (Current status) = hlevel props
live_prop History = hlevel props
live_prop (Deleted reason) = hlevel props

pub candidate_prop : (key : Key) (app : List ℕ) (within : Option ℕ) (arrival : Arrival)
    → IsProp (IsCandidate key app within arrival)
candidate_prop key app None arrival = hlevel props
candidate_prop key app (Some hours) arrival = hlevel props

-- a pair in a list
pair_at : (pairs : List Pair) (pair : Pair) (k : ℕ) → (get_or pairs k pair ≡ pair) ⊎ (get_or pairs k pair ≡ pair → ⊥)
pair_at pairs pair k =
    let at = get_or pairs k pair in
    elim (both (cases_eq at.successor pair.successor) (cases_eq at.predecessor pair.predecessor)) [
      | inl (successor, predecessor) ↦ inl (λ i. record { successor = successor i; predecessor = predecessor i })
      | inr other ↦ inr (λ same. other (ap (λ (p : Pair). p.successor) same, ap (λ (p : Pair). p.predecessor) same))
    ]

pub contains_again : (pairs : List Pair) (pair : Pair) → ∥ Contains pairs pair ∥₁ → Contains pairs pair
contains_again pairs pair some =
    decided (search_below (λ k. get_or pairs k pair ≡ pair) (pair_at pairs pair) (length pairs)) some

-- the sets tell the row

current_set : IsSet CurrentRow
current_set = Coded-set current.the_row.coded

deletion_set : IsSet Deletion
deletion_set = Coded-set deletion.the_row.coded

row_set : IsSet Row
row_set = Coded-set row.the_row.coded

pub seat_set : IsSet Seat
seat_set = hlevel (props, current_set, deletion_set, row_set)

module _ (s : Sets) (Such : PlacedRow → Type 0) (prop : (p : PlacedRow) → IsProp (Such p)) (serial : ℕ) where
  abbrev pub Stands : PlacedRow → Type 0
  Stands p = IsOnlyAt s serial p × Such p

  stands_prop : (p : PlacedRow) → IsProp (Stands p)
  stands_prop p = hlevel (props, seat_set, prop)

  pub row_prop : IsProp ((p : PlacedRow) × Stands p)
  row_prop x y = Σ_prop_path stands_prop (one_place s serial x.0 y.0 x.1.0 y.1.0)

-- open pairs

wider : (within : Option ℕ) (ia first later : ℕ) → first ≤ later → ArrivesWithin within ia first
    → ArrivesWithin within ia later
wider None ia first later up close = tt
wider (Some hours) ia first later up close = omega (arith, up, close)

anywhere : (key : Key) (app : List ℕ) (within : Option ℕ) (other : Arrival) → IsCandidate key app within other
    → IsCandidate key app None other
anywhere key app within other may = record {
  of_app = may.of_app;
  in_time = may.in_time;
  before_own = may.before_own;
  close = tt;
}

le_prop : (m n : ℕ) → IsProp (m ≤ n)
le_prop m n = hlevel props

no_link : Link
no_link = record { app = []; predecessor = []; within = None }

module _ (links : List Link) (s : Sets) (p q : PlacedRow) where
  -- the link has these two as its names, and a limit that lets the one precede the other
  abbrev Leads : Link → Type 0
  Leads link = (link.app ≡ p.row.key.app)
      × ((link.predecessor ≡ q.row.key.app) × ArrivesWithin link.within p.row.key.ia q.row.key.ia)

  leads : (k : ℕ) → Leads (get_or links k no_link) ⊎ (Leads (get_or links k no_link) → ⊥)
  leads k =
      let link = get_or links k no_link in
      both (same_names link.app p.row.key.app) (both (same_names link.predecessor q.row.key.app)
      (within_test link.within p.row.key.ia q.row.key.ia))

  -- what an open pair says of its two rows
  record Precedes : Type 0 where
    candidate : IsCandidate p.row.key q.row.key.app None (arrival_of q.row)
    greatest : (other : Arrival) → LiveAt s other → IsCandidate p.row.key q.row.key.app None other
        → other.ia ≤ q.row.key.ia
    last : (other : Arrival) → LiveAt s other → IsCandidate p.row.key q.row.key.app None other
        → other.ia ≡ q.row.key.ia → other.serial ≤ q.row.serial
    linked : (k : ℕ) × (k < length links) × Leads (get_or links k no_link)

  -- the nearest within a limit is the nearest without one
  precedes : (within : Option ℕ) → ListsWithin links p.row.key.app q.row.key.app within
      → IsNearest (LiveAt s) p.row.key q.row.key.app within (arrival_of q.row) → Precedes
  precedes within (k, lt, at) nearest =
      let link : Link = record { app = p.row.key.app; predecessor = q.row.key.app; within = within } in
      let candidate = nearest.candidate in
      let far : (other : Arrival) → IsCandidate p.row.key q.row.key.app None other → q.row.key.ia ≤ other.ia
      → IsCandidate p.row.key q.row.key.app within other = λ other may later. record {
        of_app = may.of_app;
        in_time = may.in_time;
        before_own = may.before_own;
        close = wider within p.row.key.ia q.row.key.ia other.ia later candidate.close;
      } in
      record {
        candidate = anywhere p.row.key q.row.key.app within (arrival_of q.row) candidate;
        greatest = λ other live may. elim (cases_lt q.row.key.ia other.ia) [
          | inl later ↦ nearest.greatest other live (far other may (omega (arith, later)))
          | inr within ↦ within
        ];
        last = λ other live may same. nearest.last other live (far other may (omega (arith, same))) same;
        linked = (k, lt, subst Leads (sym (get_or_default links k no_link link lt ∙ at)) (refl, (refl, candidate.close)));
      }

module _ (links : List Link) (s : Sets) (numbered : AreNumbered s) (pair : Pair) where
  -- the rows of an open pair, of which the successor's is known
  record HasRows (p : PlacedRow) : Type 0 where
    row : PlacedRow
    stands : IsOnlyAt s pair.predecessor row
    live : IsLive row.place
    precedes : Precedes links s p row

  rows_of : (is : IsOpenPair links s pair) → HasRows is.placed
  rows_of is =
      let (serial, q, at, live, arrives) = is.nearest.live in
      let key = is.placed.row.key in
      let of_app : q.row.key.app ≡ is.app = ap (λ (a : Arrival). a.app) arrives ∙ is.nearest.candidate.of_app in
      let of_serial : serial ≡ pair.predecessor =
      sym (numbered.numbered serial q at) ∙ ap (λ (a : Arrival). a.serial) arrives ∙ is.predecessor in
      record {
        row = q;
        stands = subst (λ n. IsOnlyAt s n q) of_serial at;
        live = live;
        precedes = precedes links s is.placed q is.within
            (subst (λ app. ListsWithin links key.app app is.within) (sym of_app) is.listed)
            (subst (λ app. IsNearest (LiveAt s) key app is.within (arrival_of q.row)) (sym of_app)
            (subst (λ near. IsNearest (LiveAt s) key is.app is.within near) (sym arrives) is.nearest));
      }

  module _ (p : PlacedRow) (at : IsOnlyAt s pair.successor p) where
    rows_at : IsOpenPair links s pair → HasRows p
    rows_at is = subst HasRows (one_place s pair.successor is.placed p is.stands at) (rows_of is)

    open_again : IsOpen p.place → ∥ IsOpenPair links s pair ∥₁ → IsOpenPair links s pair
    open_again waits some =
        let (q, there) = ∥∥₁_elim some (row_prop s (λ q. IsLive q.place) (λ q. live_prop q.place) pair.predecessor)
        (λ is. let rows = rows_at is in (rows.row, (rows.stands, rows.live))) in
        let before : ∥ Precedes links s p q ∥₁ = ∥∥₁_map some (λ is.
        let rows = rows_at is in
        subst (Precedes links s p) (one_place s pair.predecessor rows.row q rows.stands there.0) rows.precedes) in
        let own_serial = numbered.numbered pair.predecessor q there.0 in
        let live : LiveAt s (arrival_of q.row) = (pair.predecessor, q, there.0, there.1, refl) in
        let candidate = ∥∥₁_elim before (candidate_prop p.row.key q.row.key.app None (arrival_of q.row))
        (λ (h : Precedes links s p q). h.candidate) in
        let (k, lt, is) = decided (search_below (λ k. Leads links s p q (get_or links k no_link))
        (leads links s p q) (length links)) (∥∥₁_map before (λ (h : Precedes links s p q). h.linked)) in
        let link = get_or links k no_link in
        let named : Link = record { app = p.row.key.app; predecessor = q.row.key.app; within = link.within } in
        let same : link ≡ named = λ i. record { app = is.0 i; predecessor = is.1.0 i; within = link.within } in
        record {
          placed = p;
          stands = at;
          waits = waits;
          app = q.row.key.app;
          within = link.within;
          listed = (k, lt, get_or_default links k named no_link lt ∙ same);
          near = arrival_of q.row;
          nearest = record {
            live = live;
            candidate = record {
              of_app = candidate.of_app;
              in_time = candidate.in_time;
              before_own = candidate.before_own;
              close = is.1.1;
            };
            greatest = λ other lives may. ∥∥₁_elim before (le_prop other.ia q.row.key.ia)
                (λ (h : Precedes links s p q). h.greatest other lives (anywhere p.row.key q.row.key.app link.within other may));
            last = λ other lives may same. ∥∥₁_elim before (le_prop other.serial q.row.serial)
                (λ (h : Precedes links s p q). h.last other lives (anywhere p.row.key q.row.key.app link.within other may) same);
          };
          predecessor = own_serial;
        }

    kept_again : (before : List Pair) → Contains before pair → (IsOpen p.place → ⊥) → ∥ IsKeptPair before s pair ∥₁
        → IsKeptPair before s pair
    kept_again before had closed some = record {
      placed = p;
      stands = at;
      live = ∥∥₁_elim some (live_prop p.place) (λ (is : IsKeptPair before s pair).
          subst (λ (x : PlacedRow). IsLive x.place) (one_place s pair.successor is.placed p is.stands at) is.live);
      waits_no_more = closed;
      had = had;
    }

    -- a pair in the list is of an open successor or was kept
    pub settled_again : (before : List Pair) → Contains before pair
        → ∥ IsOpenPair links s pair ⊎ IsKeptPair before s pair ∥₁ → IsOpenPair links s pair ⊎ IsKeptPair before s pair
    settled_again before had some = elim (is_open p.place) [
      | inl waits ↦ inl (open_again waits (∥∥₁_map some (elim [
        | inl is ↦ is
        | inr kept ↦ absurd (kept.waits_no_more
            (subst (λ (x : PlacedRow). IsOpen x.place) (one_place s pair.successor p kept.placed at kept.stands) waits))
      ])))
      | inr closed ↦ inr (kept_again before had closed (∥∥₁_map some (elim [
        | inl is ↦ absurd (closed
            (subst (λ (x : PlacedRow). IsOpen x.place) (one_place s pair.successor is.placed p is.stands at) is.waits))
        | inr kept ↦ kept
      ])))
    ]
