-- The pairs where one open occurrence comes: its own come, and of what it comes before the pair with its application
-- turns to it.
use Rattle.std.proofs.Common.{◌≡◌, ◌≢◌, ◌⊎◌, ℕ, ◌↔◌, ◌<◌, ◌≤◌, List, [], refl, sym, ap, subst, ◌∙◌, inl, inr, arith}
use Rattle.std.specs.List.{Contains}
use Rattle.std.proofs.lemmas.Bool.{cases_eq, cases_lt}
use Rattle.occurrences.specs.Place.{IsOpen}
use Rattle.occurrences.specs.declared.place.Place.{Place}
use Rattle.occurrences.specs.declared.row.Row.{Row}
use Rattle.external_dependencies.specs.Link.{AreNamedOnce, ListsWithin}
use Rattle.external_dependencies.specs.Nearest.{IsCandidate, IsNearest, arrival_of}
use Rattle.external_dependencies.specs.declared.change.PairChange.{PairChange}
use Rattle.external_dependencies.specs.declared.live.Arrival.{Arrival}
use Rattle.external_dependencies.specs.declared.pairs.Pair.{Pair}
use Rattle.external_dependencies.specs.declared.rows.PlacedRow.{PlacedRow}
use Rattle.planner_machine.specs.Content.{Content, Sets, IsOnlyAt}
use Rattle.planner_machine.specs.Pairs.{ArePairs, IsKeptPair, IsOpenPair, LiveAt, pair_of}
use Rattle.planner_machine.specs.Sound.{IsSound}
use Rattle.planner_machine.proofs.SeatLemmas.{one_place}
use Rattle.plan_store.specs.Changes.{LeadsOn, pairs_after}
use Rattle.plan_store_pairs.specs.Additions.{IsLeftPair, IsOvertaken, IsPairIn, IsTurnedPair, TurnsTo}
use Rattle.plan_store_pairs.specs.Gathering.{AddsEach, AreReached}
use Rattle.plan_store_pairs.specs.RowPairs.{IsRowPair}
use Rattle.plan_store_pairs.specs.declared.gathering.Reached.{Reached}
use Rattle.plan_store_pairs.proofs.ListLemmas.{none}
use Rattle.plan_store_pairs.proofs.NearLemmas.{cases_candidate, up_to_next}
use Rattle.plan_store_pairs.proofs.OneMoreLemmas.{HasOneMore, exactly_leads, live_down, live_row, live_stands, live_up}
use Rattle.plan_store_pairs.proofs.OneMoreLemmas.{nearest_down, nearest_row, nearest_up, not_itself, not_row, one_arrival}
use Rattle.plan_store_pairs.proofs.OneMoreLemmas.{other_moment, other_serial, pairs_exact}
use Rattle.plan_store_pairs.proofs.PairInLemmas.{one_limit, open_pair, pair_near}
use Rattle.plan_store_pairs.proofs.ScratchLemmas.{open_is_live}
use Rattle.plan_store_pairs.proofs.TouchedLemmas.{same_or_not}

module _ (c : Content) (sound : IsSound c) (once : AreNamedOnce c.in_force) (s' : Sets) (row : Row) (place : Place)
    (more : HasOneMore c.sets s' row place) (waits : IsOpen place) where
  abbrev IsNew : Pair → Type 0
  IsNew pair = IsOpenPair c.in_force s' pair ⊎ IsKeptPair c.pairs s' pair

  abbrev itself : PlacedRow
  itself = record { row = row; place = place }

  -- what stands live has another serial
  open_apart : (n : ℕ) (p : PlacedRow) → IsOnlyAt c.sets n p → IsOpen p.place → n ≢ row.serial
  open_apart n p stands opened = not_row c.sets s' row place more n p stands (open_is_live p.place opened)

  old_apart : (pair : Pair) → Contains c.pairs pair → pair.successor ≢ row.serial
  old_apart pair there = elim ((sound.pairs.settled.exactly pair).0 there) [
    | inl is ↦ open_apart pair.successor is.placed is.stands is.waits
    | inr kept ↦ not_row c.sets s' row place more pair.successor kept.placed kept.stands kept.live
  ]

  kept_up : (pair : Pair) → IsKeptPair c.pairs c.sets pair → IsKeptPair c.pairs s' pair
  kept_up pair kept =
      let apart = not_row c.sets s' row place more pair.successor kept.placed kept.stands kept.live in
      record {
        placed = kept.placed;
        stands = (more.others pair.successor apart kept.placed).0 kept.stands;
        live = kept.live;
        waits_no_more = kept.waits_no_more;
        had = kept.had;
      }

  -- a pair whose nearest stays
  open_up : (pair : Pair) (is : IsOpenPair c.in_force c.sets pair)
      → (IsCandidate is.placed.row.key is.app is.within (arrival_of row) → row.key.ia < is.near.ia)
      → IsOpenPair c.in_force s' pair
  open_up pair is later = record {
    placed = is.placed;
    stands = (more.others pair.successor (open_apart pair.successor is.placed is.stands is.waits) is.placed).0 is.stands;
    waits = is.waits;
    app = is.app;
    within = is.within;
    listed = is.listed;
    near = is.near;
    nearest = nearest_up c.sets s' row place more is.placed.row.key is.app is.within is.near is.nearest later;
    predecessor = is.predecessor;
  }

  -- the occurrence of a pair, under the limit by which it has it
  abbrev of_open : (pair : Pair) → IsOpenPair c.in_force c.sets pair → Reached
  of_open pair is = record { placed = is.placed; within = is.within }

  module _ (change : PairChange) (turns : TurnsTo c row change) where
    module _ (x : Reached) (over : IsOvertaken c row x) where
      x_apart : x.placed.row.serial ≢ row.serial
      x_apart = open_apart x.placed.row.serial x.placed over.reached.stands over.reached.waits

      x_stands : IsOnlyAt s' x.placed.row.serial x.placed
      x_stands = (more.others x.placed.row.serial x_apart x.placed).0 over.reached.stands

      -- what it had there is its pair no more
      left_not_new : (pair : Pair) → IsPairIn c x.placed.row.serial row.key.app pair → IsNew pair → ⊥
      left_not_new pair at (inr kept) =
          let one : kept.placed ≡ x.placed = one_place s' x.placed.row.serial kept.placed x.placed
          (subst (λ n. IsOnlyAt s' n kept.placed) at.successor kept.stands) x_stands in
          kept.waits_no_more (subst (λ (p : PlacedRow). IsOpen p.place) (sym one) over.reached.waits)
      left_not_new pair at (inl is) =
          let (near, nearest, serial) = pair_near c sound once row x over.reached pair at in
          let upto = over.latest near nearest.live nearest.candidate in
          let apart = other_moment c.sets s' row place more near nearest.live nearest.candidate.of_app in
          let one : is.placed ≡ x.placed = one_place s' x.placed.row.serial is.placed x.placed
          (subst (λ n. IsOnlyAt s' n is.placed) at.successor is.stands) x_stands in
          let same : is.near ≡ near = one_arrival s' more.numbered is.near near is.nearest.live
          (live_up c.sets s' row place more near nearest.live) (is.predecessor ∙ sym serial) in
          let app : is.app ≡ row.key.app = sym is.nearest.candidate.of_app ∙ ap (λ (a : Arrival). a.app) same
          ∙ nearest.candidate.of_app in
          let listed : ListsWithin c.in_force x.placed.row.key.app row.key.app is.within =
          subst (λ (q : PlacedRow). ListsWithin c.in_force q.row.key.app row.key.app is.within) one
          (subst (λ a. ListsWithin c.in_force is.placed.row.key.app a is.within) app is.listed) in
          let within = one_limit c sound once row x over.reached is.within listed in
          let may : IsCandidate is.placed.row.key is.app is.within (arrival_of row) =
          subst (λ w. IsCandidate is.placed.row.key is.app w (arrival_of row)) (sym within)
          (subst (λ a. IsCandidate is.placed.row.key a x.within (arrival_of row)) (sym app)
          (subst (λ (q : PlacedRow). IsCandidate q.row.key row.key.app x.within (arrival_of row)) (sym one)
          over.reached.may)) in
          let below = is.nearest.greatest (arrival_of row) (live_row c.sets s' row place more) may in
          let moments : is.near.ia ≡ near.ia = ap (λ (a : Arrival). a.ia) same in
          apart (omega (arith, upto, below, moments))

      -- and the row is
      turned_new : IsOpenPair c.in_force s' (pair_of x.placed.row.serial row.serial)
      turned_new = record {
        placed = x.placed;
        stands = x_stands;
        waits = over.reached.waits;
        app = row.key.app;
        within = x.within;
        listed = over.reached.listed;
        near = arrival_of row;
        nearest = nearest_row c.sets s' row place more x.placed.row.key row.key.app x.within over.reached.may over.latest;
        predecessor = refl;
      }

      turned_not_old : Contains c.pairs (pair_of x.placed.row.serial row.serial) → ⊥
      turned_not_old there =
          let is = open_pair c sound x.placed over.reached.stands over.reached.waits
          (pair_of x.placed.row.serial row.serial) there refl in
          other_serial c.sets s' row place more is.near is.nearest.live is.predecessor

    own_new : (pair : Pair) → IsRowPair c.in_force c.sets row pair → IsOpenPair c.in_force s' pair
    own_new pair own = record {
      placed = itself;
      stands = subst (λ n. IsOnlyAt s' n itself) own.successor more.stands;
      waits = waits;
      app = own.app;
      within = own.within;
      listed = own.listed;
      near = own.near;
      nearest = nearest_up c.sets s' row place more row.key own.app own.within own.near own.nearest
          (λ may. absurd (not_itself row own.app own.within may));
      predecessor = own.predecessor;
    }

    goes : (pair : Pair) → Contains change.removed pair → Contains c.pairs pair × (IsNew pair → ⊥)
    goes pair gone =
        let (x, (over, at)) = (turns.removed pair).0 gone in
        (at.stood, left_not_new x over pair at)

    news : (pair : Pair) → Contains change.added pair → IsNew pair × (Contains c.pairs pair → ⊥)
    news pair there = elim ((turns.added pair).0 there) [
      | inl own ↦ (inl (own_new pair own), λ old. old_apart pair old (sym own.successor))
      | inr (x, (over, same)) ↦ (
        inl (subst (IsOpenPair c.in_force s') (sym same) (turned_new x over)),
        λ old. turned_not_old x over (subst (Contains c.pairs) same old),
      )
    ]

    -- where the row may precede what has a pair in its application, and arrives no earlier than the predecessor
    module _ (pair : Pair) (is : IsOpenPair c.in_force c.sets pair) (of_app : is.app ≡ row.key.app)
        (may : IsCandidate is.placed.row.key is.app is.within (arrival_of row)) (upto : is.near.ia ≤ row.key.ia)
        (there : Contains c.pairs pair) where
      number : is.placed.row.serial ≡ pair.successor
      number = sound.serials.numbered pair.successor is.placed is.stands

      overtaken : IsOvertaken c row (of_open pair is)
      overtaken = record {
        reached = record {
          stands = subst (λ n. IsOnlyAt c.sets n is.placed) (sym number) is.stands;
          waits = is.waits;
          listed = subst (λ a. ListsWithin c.in_force is.placed.row.key.app a is.within) of_app is.listed;
          may = subst (λ a. IsCandidate is.placed.row.key a is.within (arrival_of row)) of_app may;
        };
        latest = λ other live m.
            let le = is.nearest.greatest other live
            (subst (λ a. IsCandidate is.placed.row.key a is.within other) (sym of_app) m) in
            omega (arith, le, upto);
      }

      left : IsLeftPair c row (of_open pair is) pair
      left =
          let (p, stands, live, arrives) = live_stands c.sets sound.serials.numbered is.near is.nearest.live in (
            overtaken,
            record {
              stood = there;
              successor = sym number;
              placed = p;
              stands = subst (λ n. IsOnlyAt c.sets n p) is.predecessor stands;
              of_app = ap (λ (a : Arrival). a.app) arrives ∙ is.nearest.candidate.of_app ∙ of_app;
            },
          )

    stays : (pair : Pair) → Contains c.pairs pair → Contains change.removed pair ⊎ IsNew pair
    stays pair there = elim ((sound.pairs.settled.exactly pair).0 there) [
      | inr kept ↦ inr (inr (kept_up pair kept))
      | inl is ↦ elim (same_or_not is.app row.key.app) [
        | inr differ ↦ inr (inl (open_up pair is (λ may. absurd (differ (sym may.of_app)))))
        | inl of_app ↦ elim (cases_candidate is.placed.row.key is.app is.within (arrival_of row)) [
          | inr not ↦ inr (inl (open_up pair is (λ may. absurd (not may))))
          | inl may ↦ elim (cases_lt row.key.ia is.near.ia) [
            | inl later ↦ inr (inl (open_up pair is (λ _. later)))
            | inr upto ↦ inl ((turns.removed pair).1 (of_open pair is, left pair is of_app may upto there))
          ]
        ]
      ]
    ]

    -- a pair of the row itself
    module _ (pair : Pair) (is : IsOpenPair c.in_force s' pair) where
      row_pair : pair.successor ≡ row.serial → IsRowPair c.in_force c.sets row pair
      row_pair same =
          let one : is.placed ≡ itself = one_place s' row.serial is.placed itself
          (subst (λ n. IsOnlyAt s' n is.placed) same is.stands) more.stands in
          let nearest : IsNearest (LiveAt s') row.key is.app is.within is.near =
          subst (λ (q : PlacedRow). IsNearest (LiveAt s') q.row.key is.app is.within is.near) one is.nearest in
          record {
            successor = sym same;
            app = is.app;
            within = is.within;
            listed = subst (λ (q : PlacedRow). ListsWithin c.in_force q.row.key.app is.app is.within) one is.listed;
            near = is.near;
            nearest = nearest_down c.sets s' row place more row.key is.app is.within is.near nearest
                (λ number. elim (live_down c.sets s' row place more is.near nearest.live) [
                  | inl below ↦ other_serial c.sets s' row place more is.near below number
                  | inr itself' ↦ not_itself row is.app is.within
                      (subst (IsCandidate row.key is.app is.within) itself' nearest.candidate)
                ]);
            predecessor = is.predecessor;
          }

      module _ (apart : pair.successor ≢ row.serial) where
        stood : IsOnlyAt c.sets pair.successor is.placed
        stood = (more.others pair.successor apart is.placed).1 is.stands

        same_pair : LiveAt c.sets is.near → IsOpenPair c.in_force c.sets pair
        same_pair below = record {
          placed = is.placed;
          stands = stood;
          waits = is.waits;
          app = is.app;
          within = is.within;
          listed = is.listed;
          near = is.near;
          nearest = nearest_down c.sets s' row place more is.placed.row.key is.app is.within is.near is.nearest
              (other_serial c.sets s' row place more is.near below);
          predecessor = is.predecessor;
        }

        turned : is.near ≡ arrival_of row
            → IsTurnedPair c row (record { placed = is.placed; within = is.within }) pair
        turned itself' =
            let number : is.placed.row.serial ≡ pair.successor =
            sound.serials.numbered pair.successor is.placed stood in
            let of_app : is.app ≡ row.key.app =
            sym is.nearest.candidate.of_app ∙ ap (λ (a : Arrival). a.app) itself' in
            let at : is.near.ia ≡ row.key.ia = ap (λ (a : Arrival). a.ia) itself' in
            let last : pair.predecessor ≡ row.serial =
            sym is.predecessor ∙ ap (λ (a : Arrival). a.serial) itself' in (
              record {
                reached = record {
                  stands = subst (λ n. IsOnlyAt c.sets n is.placed) (sym number) stood;
                  waits = is.waits;
                  listed = subst (λ a. ListsWithin c.in_force is.placed.row.key.app a is.within) of_app is.listed;
                  may = subst (λ a. IsCandidate is.placed.row.key a is.within (arrival_of row)) of_app
                      (subst (IsCandidate is.placed.row.key is.app is.within) itself' is.nearest.candidate);
                };
                latest = λ other live m.
                    let le = is.nearest.greatest other (live_up c.sets s' row place more other live)
                    (subst (λ a. IsCandidate is.placed.row.key a is.within other) (sym of_app) m) in
                    omega (arith, le, at);
              },
              λ i. record { successor = sym number i; predecessor = last i },
            )

    comes : (pair : Pair) → IsNew pair → Contains c.pairs pair ⊎ Contains change.added pair
    comes pair (inr kept) = inl kept.had
    comes pair (inl is) = elim (cases_eq pair.successor row.serial) [
      | inl same ↦ inr ((turns.added pair).1 (inl (row_pair pair is same)))
      | inr apart ↦ elim (live_down c.sets s' row place more is.near is.nearest.live) [
        | inl below ↦ inl ((sound.pairs.settled.exactly pair).1 (inl (same_pair pair is apart below)))
        | inr itself' ↦ inr ((turns.added pair).1
            (inr (record { placed = is.placed; within = is.within }, turned pair is apart itself')))
      ]
    ]

    -- the pairs where the row comes
    pub pairs_come : ArePairs c.pairs c.in_force s' (pairs_after change c.pairs) × LeadsOn c.pairs change
    pairs_come = pairs_exact c.pairs c.in_force s' change sound.pairs.settled.rising
        (exactly_leads c.pairs (λ pair. IsOpenPair c.in_force s' pair ⊎ IsKeptPair c.pairs s' pair) change
        goes news stays comes)

-- what an addition does with all that is found makes these turns
module _ (c : Content) (row : Row) (found : List Reached) (are : AreReached c row found)
    (own removed added : List Pair) (own_is : (pair : Pair) → Contains own pair ↔ IsRowPair c.in_force c.sets row pair)
    (left : AddsEach (IsLeftPair c row) found [] removed) (turned : AddsEach (IsTurnedPair c row) found own added)
    (change : PairChange) (has_removed : (pair : Pair) → Contains change.removed pair ↔ Contains removed pair)
    (has_added : (pair : Pair) → Contains change.added pair ↔ Contains added pair) where
  -- what the row comes before is found
  is_found : (x : Reached) → IsOvertaken c row x → Contains found x
  is_found x over = are.all x over.reached (up_to_next c.sets row x over.reached.may over.latest)

  pub turns_to : TurnsTo c row change
  turns_to = record {
    removed = λ pair. (
      (λ gone. elim ((left pair).0 ((has_removed pair).0 gone)) [
        | inl before ↦ absurd (none pair before)
        | inr (x, there, is) ↦ (x, is)
      ]),
      λ (x, is). (has_removed pair).1 ((left pair).1 (inr (x, is_found x is.0, is))),
    );
    added = λ pair. (
      (λ new. elim ((turned pair).0 ((has_added pair).0 new)) [
        | inl mine ↦ inl ((own_is pair).0 mine)
        | inr (x, there, is) ↦ inr (x, is)
      ]),
      λ either. (has_added pair).1 ((turned pair).1 (elim either [
        | inl mine ↦ inl ((own_is pair).1 mine)
        | inr (x, is) ↦ inr (x, is_found x is.0, is)
      ])),
    );
  }
