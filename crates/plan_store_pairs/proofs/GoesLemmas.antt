-- The pairs where one live occurrence goes: its own go, and each pair with it of what is open turns to what stands
-- before it in its application.
use Rattle.std.proofs.Common.{◌≡◌, ◌≢◌, ◌⊎◌, ◌↔◌, ℕ, ◌<◌, ◌≤◌, true, List, [], Option, Some, None, refl, sym, ap, subst, ◌∙◌}
use Rattle.std.proofs.Common.{inl, inr, arith}
use Rattle.std.specs.List.{Contains}
use Rattle.std.proofs.lemmas.Bool.{cases_eq, cases_lt}
use Rattle.occurrences.specs.Place.{IsOpen}
use Rattle.occurrences.specs.declared.place.Place.{Place}
use Rattle.occurrences.specs.declared.row.Row.{Row}
use Rattle.external_dependencies.specs.Link.{AreNamedOnce, ListsWithin}
use Rattle.external_dependencies.specs.Nearest.{ArrivesWithin, IsCandidate, IsNearest, arrival_of}
use Rattle.external_dependencies.specs.declared.change.PairChange.{PairChange}
use Rattle.external_dependencies.specs.declared.live.Arrival.{Arrival}
use Rattle.external_dependencies.specs.declared.pairs.Pair.{Pair}
use Rattle.external_dependencies.specs.declared.rows.PlacedRow.{PlacedRow}
use Rattle.planner_machine.specs.Content.{Content, Sets, IsOnlyAt}
use Rattle.planner_machine.specs.Pairs.{ArePairs, IsKeptPair, IsOpenPair, LiveAt, pair_of}
use Rattle.planner_machine.specs.Sound.{IsSound}
use Rattle.planner_machine.proofs.SeatLemmas.{one_place}
use Rattle.plan_store.specs.Changes.{LeadsOn, pairs_after}
use Rattle.plan_store.specs.Views.{IsLast, IsLastBefore, needed_pairs, needs_pairs}
use Rattle.plan_store_pairs.specs.Additions.{IsPairIn}
use Rattle.plan_store_pairs.specs.Gathering.{AddsEach, AreReached, IsReached}
use Rattle.plan_store_pairs.specs.Withdrawals.{IsBackPair, IsBehind, IsLostPair, LosesRow, TurnsFrom}
use Rattle.plan_store_pairs.specs.declared.gathering.Reached.{Reached}
use Rattle.plan_store_pairs.proofs.EachLemmas.{adds_all}
use Rattle.plan_store_pairs.proofs.NearLemmas.{cases_candidate, closer, up_to_next}
use Rattle.plan_store_pairs.proofs.OneMoreLemmas.{HasOneMore, exactly_leads, live_down, live_row, live_stands, live_up}
use Rattle.plan_store_pairs.proofs.OneMoreLemmas.{nearest_down, nearest_row, nearest_up, not_itself, not_row, one_arrival}
use Rattle.plan_store_pairs.proofs.OneMoreLemmas.{other_moment, other_serial, pairs_exact}
use Rattle.plan_store_pairs.proofs.PairInLemmas.{near_pair, pair_near}
use Rattle.plan_store_pairs.proofs.PartLemmas.{asked_live, asked_shown, open_shown, shown_stood}
use Rattle.plan_store_pairs.proofs.RowPairLemmas.{nearest_once}
use Rattle.plan_store_pairs.proofs.ScratchLemmas.{open_is_live}
use Rattle.plan_store_pairs.proofs.TouchedLemmas.{same_or_not}

-- what stands behind is the last
behind_last : (s : Sets) (app : List ℕ) (ia : ℕ) (before : Option Arrival) → IsLastBefore s app ia before
    → (x : Reached) (serial : ℕ) → IsBehind before x serial
    → (near : Arrival) × IsLast s app ia near × ArrivesWithin x.within x.placed.row.key.ia near.ia
    × (near.serial ≡ serial)
behind_last s app ia (Some near) last x serial (close, same) = (near, last, close, same)
behind_last s app ia None last x serial behind = absurd behind

-- what arrives last before is behind
last_behind : (s : Sets) (app : List ℕ) (ia : ℕ) (before : Option Arrival) → IsLastBefore s app ia before
    → (x : Reached) (other : Arrival) → LiveAt s other → other.app ≡ app → other.ia < ia
    → ArrivesWithin x.within x.placed.row.key.ia other.ia
    → ((near : Arrival) → IsLast s app ia near → ArrivesWithin x.within x.placed.row.key.ia near.ia
    → near.serial ≡ other.serial) → IsBehind before x other.serial
last_behind s app ia None last x other live of_app lt close one =
    let le = last other live of_app in absurd (omega (arith, lt, le))
last_behind s app ia (Some near) last x other live of_app lt close one =
    let near_close = closer x.within x.placed.row.key.ia other.ia near.ia close (last.greatest other live of_app lt) in
    (near_close, one near last near_close)

module _ (c : Content) (sound : IsSound c) (once : AreNamedOnce c.in_force) (s' : Sets) (row : Row) (place : Place)
    (more : HasOneMore s' c.sets row place) where
  abbrev IsNew : Pair → Type 0
  IsNew pair = IsOpenPair c.in_force s' pair ⊎ IsKeptPair c.pairs s' pair

  abbrev itself : PlacedRow
  itself = record { row = row; place = place }

  -- the row has no pair any more
  own_not_new : (pair : Pair) → pair.successor ≡ row.serial → IsNew pair → ⊥
  own_not_new pair same (inl is) = not_row s' c.sets row place more pair.successor is.placed is.stands
      (open_is_live is.placed.place is.waits) same
  own_not_new pair same (inr kept) =
      not_row s' c.sets row place more pair.successor kept.placed kept.stands kept.live same

  kept_down : (pair : Pair) → pair.successor ≢ row.serial → IsKeptPair c.pairs c.sets pair → IsKeptPair c.pairs s' pair
  kept_down pair apart kept = record {
    placed = kept.placed;
    stands = (more.others pair.successor apart kept.placed).1 kept.stands;
    live = kept.live;
    waits_no_more = kept.waits_no_more;
    had = kept.had;
  }

  -- a pair that is not with the row stays
  open_down : (pair : Pair) → pair.successor ≢ row.serial → pair.predecessor ≢ row.serial
      → IsOpenPair c.in_force c.sets pair → IsOpenPair c.in_force s' pair
  open_down pair apart other is = record {
    placed = is.placed;
    stands = (more.others pair.successor apart is.placed).1 is.stands;
    waits = is.waits;
    app = is.app;
    within = is.within;
    listed = is.listed;
    near = is.near;
    nearest = nearest_down s' c.sets row place more is.placed.row.key is.app is.within is.near is.nearest
        (λ same. other (sym is.predecessor ∙ same));
    predecessor = is.predecessor;
  }

  -- what has a pair with the row follows it
  module _ (x : Reached) (reached : IsReached c row x)
      (had : Contains c.pairs (pair_of x.placed.row.serial row.serial)) where
    x_apart : x.placed.row.serial ≢ row.serial
    x_apart same =
        let one : x.placed ≡ itself = one_place c.sets row.serial x.placed itself
        (subst (λ n. IsOnlyAt c.sets n x.placed) same reached.stands) more.stands in
        not_itself row row.key.app x.within
        (subst (λ (q : PlacedRow). IsCandidate q.row.key row.key.app x.within (arrival_of row)) one reached.may)

    x_stands : IsOnlyAt s' x.placed.row.serial x.placed
    x_stands = (more.others x.placed.row.serial x_apart x.placed).1 reached.stands

    -- so the row is its nearest
    row_nearest : IsNearest (LiveAt c.sets) x.placed.row.key row.key.app x.within (arrival_of row)
    row_nearest =
        let at : IsPairIn c x.placed.row.serial row.key.app (pair_of x.placed.row.serial row.serial) =
        record { stood = had; successor = refl; placed = itself; stands = more.stands; of_app = refl } in
        let (near, nearest, serial) = pair_near c sound once row x reached (pair_of x.placed.row.serial row.serial) at in
        let same : near ≡ arrival_of row = one_arrival c.sets more.numbered near (arrival_of row) nearest.live
        (live_row s' c.sets row place more) serial in
        subst (IsNearest (LiveAt c.sets) x.placed.row.key row.key.app x.within) same nearest

    lost_not_new : IsNew (pair_of x.placed.row.serial row.serial) → ⊥
    lost_not_new (inl is) = other_serial s' c.sets row place more is.near is.nearest.live is.predecessor
    lost_not_new (inr kept) =
        let one : kept.placed ≡ x.placed = one_place s' x.placed.row.serial kept.placed x.placed kept.stands x_stands in
        kept.waits_no_more (subst (λ (p : PlacedRow). IsOpen p.place) (sym one) reached.waits)

    -- and what arrives last before the row is its nearest without it
    module _ (near : Arrival) (last : IsLast c.sets row.key.app row.key.ia near)
        (close : ArrivesWithin x.within x.placed.row.key.ia near.ia) where
      near_below : LiveAt s' near
      near_below = elim (live_down s' c.sets row place more near last.live) [
        | inl below ↦ below
        | inr same ↦
            let at : near.ia ≡ row.key.ia = ap (λ (a : Arrival). a.ia) same in
            let lt = last.in_time in
            absurd (omega (arith, at, lt))
      ]

      before_row : (other : Arrival) → LiveAt s' other → IsCandidate x.placed.row.key row.key.app x.within other
          → other.ia < row.key.ia
      before_row other live may =
          let le = row_nearest.greatest other (live_up s' c.sets row place more other live) may in
          let apart = other_moment s' c.sets row place more other live may.of_app in
          elim (cases_lt other.ia row.key.ia) [ inl lt ↦ lt | inr ge ↦ absurd (apart (omega (arith, le, ge))) ]

      near_nearest : IsNearest (LiveAt s') x.placed.row.key row.key.app x.within near
      near_nearest = record {
        live = near_below;
        candidate =
            let lt = last.in_time in
            let le = reached.may.in_time in
            record {
              of_app = last.of_app;
              in_time = omega (arith, lt, le);
              before_own = λ own. let own_lt = reached.may.before_own own in omega (arith, lt, own_lt);
              close = close;
            };
        greatest = λ other live may. last.greatest other (live_up s' c.sets row place more other live) may.of_app
            (before_row other live may);
        last = λ other live may at_once. last.last other (live_up s' c.sets row place more other live) may.of_app
            at_once;
      }

      back_new : (pair : Pair) → pair.successor ≡ x.placed.row.serial → near.serial ≡ pair.predecessor
          → IsOpenPair c.in_force s' pair
      back_new pair successor predecessor = record {
        placed = x.placed;
        stands = subst (λ n. IsOnlyAt s' n x.placed) (sym successor) x_stands;
        waits = reached.waits;
        app = row.key.app;
        within = x.within;
        listed = reached.listed;
        near = near;
        nearest = near_nearest;
        predecessor = predecessor;
      }

      back_not_old : (pair : Pair) → pair.successor ≡ x.placed.row.serial → near.serial ≡ pair.predecessor
          → Contains c.pairs pair → ⊥
      back_not_old pair successor predecessor there =
          let (p, stands, live, arrives) = live_stands c.sets sound.serials.numbered near last.live in
          let at : IsPairIn c x.placed.row.serial row.key.app pair = record {
            stood = there;
            successor = successor;
            placed = p;
            stands = subst (λ n. IsOnlyAt c.sets n p) predecessor stands;
            of_app = ap (λ (a : Arrival). a.app) arrives ∙ last.of_app;
          } in
          let (other, nearest, serial) = pair_near c sound once row x reached pair at in
          let one = nearest_once (LiveAt c.sets) x.placed.row.key row.key.app x.within other (arrival_of row) nearest
          row_nearest in
          other_serial s' c.sets row place more near near_below (predecessor ∙ sym serial ∙ one)

  module _ (before : Option Arrival) (change : PairChange) (turns : TurnsFrom c row before change) where
    goes : (pair : Pair) → Contains change.removed pair → Contains c.pairs pair × (IsNew pair → ⊥)
    goes pair gone = elim ((turns.removed pair).0 gone) [
      | inl (there, same) ↦ (there, own_not_new pair same)
      | inr (x, reached, (there, same)) ↦ (
        there,
        λ new. lost_not_new x reached (subst (Contains c.pairs) same there) (subst IsNew same new),
      )
    ]

    news : (pair : Pair) → Contains change.added pair → IsNew pair × (Contains c.pairs pair → ⊥)
    news pair there =
        let (x, reached, back) = (turns.added pair).0 there in
        let (near, last, close, serial) = behind_last c.sets row.key.app row.key.ia before turns.last x
        pair.predecessor back.behind in (
          inl (back_new x reached back.had near last close pair back.successor serial),
          back_not_old x reached back.had near last close pair back.successor serial,
        )

    -- a pair with the row is of what follows it
    follows_row : (pair : Pair) (is : IsOpenPair c.in_force c.sets pair) → pair.predecessor ≡ row.serial
        → IsReached c row (record { placed = is.placed; within = is.within })
    follows_row pair is same =
        let near : is.near ≡ arrival_of row = one_arrival c.sets more.numbered is.near (arrival_of row) is.nearest.live
        (live_row s' c.sets row place more) (is.predecessor ∙ same) in
        let of_app : is.app ≡ row.key.app = sym is.nearest.candidate.of_app ∙ ap (λ (a : Arrival). a.app) near in
        let number = sound.serials.numbered pair.successor is.placed is.stands in
        record {
          stands = subst (λ n. IsOnlyAt c.sets n is.placed) (sym number) is.stands;
          waits = is.waits;
          listed = subst (λ a. ListsWithin c.in_force is.placed.row.key.app a is.within) of_app is.listed;
          may = subst (λ a. IsCandidate is.placed.row.key a is.within (arrival_of row)) of_app
              (subst (IsCandidate is.placed.row.key is.app is.within) near is.nearest.candidate);
        }

    stays : (pair : Pair) → Contains c.pairs pair → Contains change.removed pair ⊎ IsNew pair
    stays pair there = elim (cases_eq pair.successor row.serial) [
      | inl own ↦ inl ((turns.removed pair).1 (inl (there, own)))
      | inr apart ↦ elim ((sound.pairs.settled.exactly pair).0 there) [
        | inr kept ↦ inr (inr (kept_down pair apart kept))
        | inl is ↦ elim (cases_eq pair.predecessor row.serial) [
          | inl same ↦
              let number = sound.serials.numbered pair.successor is.placed is.stands in
              inl ((turns.removed pair).1 (inr (
                record { placed = is.placed; within = is.within },
                follows_row pair is same,
                (there, λ i. record { successor = sym number i; predecessor = same i }),
              )))
          | inr other ↦ inr (inl (open_down pair apart other is))
        ]
      ]
    ]

    module _ (pair : Pair) (is : IsOpenPair c.in_force s' pair) where
      new_apart : pair.successor ≢ row.serial
      new_apart same = own_not_new pair same (inl is)

      new_stood : IsOnlyAt c.sets pair.successor is.placed
      new_stood = (more.others pair.successor new_apart is.placed).0 is.stands

      -- a pair whose nearest was so before
      stood : (IsCandidate is.placed.row.key is.app is.within (arrival_of row) → row.key.ia < is.near.ia)
          → Contains c.pairs pair
      stood later = (sound.pairs.settled.exactly pair).1 (inl (record {
        placed = is.placed;
        stands = new_stood;
        waits = is.waits;
        app = is.app;
        within = is.within;
        listed = is.listed;
        near = is.near;
        nearest = nearest_up s' c.sets row place more is.placed.row.key is.app is.within is.near is.nearest later;
        predecessor = is.predecessor;
      }))

      -- a pair that was with the row
      module _ (of_app : is.app ≡ row.key.app)
          (may : IsCandidate is.placed.row.key is.app is.within (arrival_of row)) (upto : is.near.ia ≤ row.key.ia) where
        abbrev x : Reached
        x = record { placed = is.placed; within = is.within }

        number : is.placed.row.serial ≡ pair.successor
        number = sound.serials.numbered pair.successor is.placed new_stood

        back_reached : IsReached c row x
        back_reached = record {
          stands = subst (λ n. IsOnlyAt c.sets n is.placed) (sym number) new_stood;
          waits = is.waits;
          listed = subst (λ a. ListsWithin c.in_force is.placed.row.key.app a is.within) of_app is.listed;
          may = subst (λ a. IsCandidate is.placed.row.key a is.within (arrival_of row)) of_app may;
        }

        near_of_app : is.near.app ≡ row.key.app
        near_of_app = is.nearest.candidate.of_app ∙ of_app

        near_before : is.near.ia < row.key.ia
        near_before =
            let apart = other_moment s' c.sets row place more is.near is.nearest.live near_of_app in
            elim (cases_lt is.near.ia row.key.ia) [ inl lt ↦ lt | inr ge ↦ absurd (apart (omega (arith, upto, ge))) ]

        back_had : Contains c.pairs (pair_of is.placed.row.serial row.serial)
        back_had = near_pair c sound once row x back_reached (arrival_of row)
            (nearest_row s' c.sets row place more is.placed.row.key row.key.app is.within back_reached.may
            (λ other live m.
            let le = is.nearest.greatest other live
            (subst (λ a. IsCandidate is.placed.row.key a is.within other) (sym of_app) m) in
            omega (arith, le, upto)))

        -- what arrives last before the row is the nearest now
        one_last : (near : Arrival) → IsLast c.sets row.key.app row.key.ia near
            → ArrivesWithin is.within is.placed.row.key.ia near.ia → near.serial ≡ is.near.serial
        one_last near last close = nearest_once (LiveAt s') is.placed.row.key row.key.app is.within near is.near
            (near_nearest x back_reached back_had near last close)
            (subst (λ a. IsNearest (LiveAt s') is.placed.row.key a is.within is.near) of_app is.nearest)

        back : IsBackPair c.pairs row before x pair
        back = record {
          had = back_had;
          successor = sym number;
          behind = subst (IsBehind before x) is.predecessor
              (last_behind c.sets row.key.app row.key.ia before turns.last x is.near
              (live_up s' c.sets row place more is.near is.nearest.live) near_of_app near_before
              is.nearest.candidate.close one_last);
        }

    comes : (pair : Pair) → IsNew pair → Contains c.pairs pair ⊎ Contains change.added pair
    comes pair (inr kept) = inl kept.had
    comes pair (inl is) = elim (same_or_not is.app row.key.app) [
      | inr differ ↦ inl (stood pair is (λ may. absurd (differ (sym may.of_app))))
      | inl of_app ↦ elim (cases_candidate is.placed.row.key is.app is.within (arrival_of row)) [
        | inr not ↦ inl (stood pair is (λ may. absurd (not may)))
        | inl may ↦ elim (cases_lt row.key.ia is.near.ia) [
          | inl later ↦ inl (stood pair is (λ _. later))
          | inr upto ↦ inr ((turns.added pair).1 (
            record { placed = is.placed; within = is.within },
            back_reached pair is of_app may upto,
            back pair is of_app may upto,
          ))
        ]
      ]
    ]

    -- the pairs where the row goes
    pub pairs_go : ArePairs c.pairs c.in_force s' (pairs_after change c.pairs) × LeadsOn c.pairs change
    pairs_go = pairs_exact c.pairs c.in_force s' change sound.pairs.settled.rising
        (exactly_leads c.pairs (λ pair. IsOpenPair c.in_force s' pair ⊎ IsKeptPair c.pairs s' pair) change
        goes news stays comes)

-- what a withdrawal does with all that is found makes these turns
module _ (c : Content) (sound : IsSound c) (row : Row) (place : Place) (s' : Sets)
    (more : HasOneMore s' c.sets row place) (before : Option Arrival) (shown : List Pair)
    (is : shown ≡ needed_pairs (Some row.key) c.sets.ltp c.sets.cp c.sets.history c.pairs)
    (found : List Reached) (are : AreReached c row found) where
  was_shown : (pair : Pair) → Contains shown pair → Contains c.pairs pair
  was_shown = shown_stood (Some row.key) c.sets shown c.pairs is

  of_reached : (x : Reached) → IsReached c row x → (pair : Pair) → Contains c.pairs pair
      → pair.successor ≡ x.placed.row.serial → Contains shown pair
  of_reached x reached =
      open_shown (Some row.key) c.sets shown c.pairs is x.placed reached.stands reached.waits

  of_row : (pair : Pair) → Contains c.pairs pair → pair.successor ≡ row.serial → Contains shown pair
  of_row pair there same = asked_shown (Some row.key) c.sets shown c.pairs is pair there
      (subst (λ n. needs_pairs (Some row.key) c.sets.ltp c.sets.cp c.sets.history n ≡ true) (sym same)
      (asked_live c.sets row place more.stands more.lives))

  -- what has a pair with the row is found
  is_found : (x : Reached) → IsReached c row x → Contains c.pairs (pair_of x.placed.row.serial row.serial)
      → Contains found x
  is_found x reached had = are.all x reached (up_to_next c.sets row x reached.may (λ other live may.
      (row_nearest c sound are.once s' row place more x reached had).greatest other live may))

  module _ (own removed added : List Pair)
      (own_is : (pair : Pair) → Contains own pair ↔ (Contains shown pair × (pair.successor ≡ row.serial)))
      (lost : AddsEach (IsLostPair shown row) found own removed)
      (back : AddsEach (IsBackPair shown row before) found [] added) (change : PairChange)
      (has_removed : (pair : Pair) → Contains change.removed pair ↔ Contains removed pair)
      (has_added : (pair : Pair) → Contains change.added pair ↔ Contains added pair) where
    to_removed : (pair : Pair) → Contains change.removed pair → (Contains c.pairs pair × (pair.successor ≡ row.serial))
        ⊎ ((x : Reached) × IsReached c row x × IsLostPair c.pairs row x pair)
    to_removed pair gone = elim ((lost pair).0 ((has_removed pair).0 gone)) [
      | inl mine ↦ let both = (own_is pair).0 mine in inl (was_shown pair both.0, both.1)
      | inr (x, there, (had, same)) ↦ inr (x, are.only x there, (was_shown pair had, same))
    ]

    from_removed : (pair : Pair) → (Contains c.pairs pair × (pair.successor ≡ row.serial))
        ⊎ ((x : Reached) × IsReached c row x × IsLostPair c.pairs row x pair) → Contains change.removed pair
    from_removed pair (inl (there, same)) =
        (has_removed pair).1 ((lost pair).1 (inl ((own_is pair).1 (of_row pair there same, same))))
    from_removed pair (inr (x, reached, (there, same))) = (has_removed pair).1 ((lost pair).1 (inr (
      x,
      is_found x reached (subst (Contains c.pairs) same there),
      (of_reached x reached pair there (ap (λ (p : Pair). p.successor) same), same),
    )))

    to_added : (pair : Pair) → Contains change.added pair
        → (x : Reached) × IsReached c row x × IsBackPair c.pairs row before x pair
    to_added pair new =
        let (x, there, is_back) = (adds_all (λ y. (x : Reached) × Contains found x × IsBackPair shown row before x y)
        added back pair).0 ((has_added pair).0 new) in (
          x,
          are.only x there,
          record {
            had = was_shown (pair_of x.placed.row.serial row.serial) is_back.had;
            successor = is_back.successor;
            behind = is_back.behind;
          },
        )

    from_added : (pair : Pair) → (x : Reached) × IsReached c row x × IsBackPair c.pairs row before x pair
        → Contains change.added pair
    from_added pair (x, reached, is_back) = (has_added pair).1 ((back pair).1 (inr (
      x,
      is_found x reached is_back.had,
      record {
        had = of_reached x reached (pair_of x.placed.row.serial row.serial) is_back.had refl;
        successor = is_back.successor;
        behind = is_back.behind;
      },
    )))

    pub turns_from : IsLastBefore c.sets row.key.app row.key.ia before → TurnsFrom c row before change
    turns_from last = record {
      last = last;
      removed = λ pair. (to_removed pair, from_removed pair);
      added = λ pair. (to_added pair, from_added pair);
    }

-- a row that lives no more lived before besides the others
module _ (c : Content) (sound : IsSound c) (s' : Sets) (row : Row) (loses : LosesRow c.sets s' row) where
  pub lost_stands : IsOnlyAt c.sets row.serial (record { row = row; place = loses.placed.place })
  lost_stands = subst (λ (r : Row). IsOnlyAt c.sets row.serial (record { row = r; place = loses.placed.place }))
      loses.of_row loses.stood

  pub lost_more : HasOneMore s' c.sets row loses.placed.place
  lost_more = record {
    stands = lost_stands;
    lives = loses.lived;
    absent = loses.gone;
    others = λ serial other p. ((loses.others serial other p).1, (loses.others serial other p).0);
    numbered = sound.serials.numbered;
    own_key = λ serial p stands live same.
        sound.keys serial row.serial p (record { row = row; place = loses.placed.place }) stands lost_stands live
        loses.lived same;
  }
