-- The pair that an open occurrence has in an application that its list names: the one with its nearest predecessor.
use Rattle.std.proofs.Common.{◌≡◌, ℕ, ◌<◌, ◌≤◌, List, Option, Some, None, refl, sym, ap, subst, ◌∙◌, inl, inr, arith}
use Rattle.std.specs.List.{Contains}
use Rattle.occurrences.specs.Place.{IsLive, IsOpen}
use Rattle.occurrences.specs.declared.place.Place.{Place}
use Rattle.occurrences.specs.declared.place.Place.TheVariants.{LongTerm, Current, History, Deleted}
use Rattle.occurrences.specs.declared.row.Row.{Row}
use Rattle.external_dependencies.specs.Link.{AreNamedOnce, ListsWithin}
use Rattle.external_dependencies.specs.Nearest.{IsNearest, arrival_of}
use Rattle.external_dependencies.specs.declared.links.Link.{Link}
use Rattle.external_dependencies.specs.declared.live.Arrival.{Arrival}
use Rattle.external_dependencies.specs.declared.pairs.Pair.{Pair}
use Rattle.external_dependencies.specs.declared.rows.PlacedRow.{PlacedRow}
use Rattle.planner_machine.specs.Content.{Content, Seat, Sets, IsOnlyAt, alone, seat}
use Rattle.planner_machine.specs.Pairs.{IsOpenPair, LiveAt, pair_of}
use Rattle.planner_machine.specs.Sound.{IsSound}
use Rattle.planner_machine.proofs.SeatLemmas.{one_place}
use Rattle.plan_store.specs.Views.{IsOutside, IsOutsideDeletions}
use Rattle.plan_store_pairs.specs.Additions.{IsOvertaken, IsPairIn, IsPredecessorIn}
use Rattle.plan_store_pairs.specs.Gathering.{IsReached}
use Rattle.plan_store_pairs.specs.declared.gathering.Reached.{Reached}
use Rattle.plan_store_pairs.proofs.NearLemmas.{near_exists}
use Rattle.plan_store_pairs.proofs.OneMoreLemmas.{live_stands}
use Rattle.plan_store_pairs.proofs.RowPairLemmas.{nearest_once}

live_outside : (place : Place) → IsLive place → IsOutsideDeletions place
live_outside LongTerm live = tt
live_outside (Current status) live = tt
live_outside History live = tt
live_outside (Deleted reason) live = absurd live

-- what stands outside the deletions is found
pub outside_none : (s : Sets) (serial : ℕ) → IsOutside s serial → (p : PlacedRow) → IsOnlyAt s serial p
    → IsOutsideDeletions p.place → ⊥
outside_none s serial none p stands outside = by_place p.place p.row stands outside
  where
    by_place : (place : Place) (row : Row) → seat s serial ≡ alone row place → IsOutsideDeletions place → ⊥
    by_place LongTerm row at outside =
        let one = ap (λ (x : Seat). x.ltp) at in let two = none.ltp in cc
    by_place (Current status) row at outside =
        let one = ap (λ (x : Seat). x.cp) at in let two = none.cp in cc
    by_place History row at outside =
        let one = ap (λ (x : Seat). x.history) at in let two = none.history in cc
    by_place (Deleted reason) row at outside = outside

module _ (c : Content) (sound : IsSound c) where
  -- a pair of what is open is one with its nearest predecessor
  pub open_pair : (p : PlacedRow) → IsOnlyAt c.sets p.row.serial p → IsOpen p.place → (pair : Pair)
      → Contains c.pairs pair → pair.successor ≡ p.row.serial → IsOpenPair c.in_force c.sets pair
  open_pair p stands waits pair there same = elim ((sound.pairs.settled.exactly pair).0 there) [
    | inl is ↦ is
    | inr kept ↦
        let one : kept.placed ≡ p = one_place c.sets p.row.serial kept.placed p
        (subst (λ n. IsOnlyAt c.sets n kept.placed) same kept.stands) stands in
        absurd (kept.waits_no_more (subst (λ (x : PlacedRow). IsOpen x.place) (sym one) waits))
  ]

  module _ (once : AreNamedOnce c.in_force) (row : Row) (x : Reached) (is : IsReached c row x) where
    -- the list of the occurrence names the application once
    pub one_limit : (within : Option ℕ) → ListsWithin c.in_force x.placed.row.key.app row.key.app within
        → within ≡ x.within
    one_limit within listed = ap (λ (l : Link). l.within)
        (once (record { app = x.placed.row.key.app; predecessor = row.key.app; within = within })
        (record { app = x.placed.row.key.app; predecessor = row.key.app; within = x.within }) listed is.listed
        (refl, refl))

    -- the predecessor of a pair in the application is the nearest
    pub pair_near : (pair : Pair) → IsPairIn c x.placed.row.serial row.key.app pair
        → (near : Arrival) × IsNearest (LiveAt c.sets) x.placed.row.key row.key.app x.within near
        × (near.serial ≡ pair.predecessor)
    pair_near pair at =
        let opened = open_pair x.placed is.stands is.waits pair at.stood at.successor in
        let one : opened.placed ≡ x.placed = one_place c.sets x.placed.row.serial opened.placed x.placed
        (subst (λ n. IsOnlyAt c.sets n opened.placed) at.successor opened.stands) is.stands in
        let (p, stands, live, arrives) = live_stands c.sets sound.serials.numbered opened.near opened.nearest.live in
        let same : p ≡ at.placed = one_place c.sets pair.predecessor p at.placed
        (subst (λ n. IsOnlyAt c.sets n p) opened.predecessor stands) at.stands in
        let app : opened.app ≡ row.key.app = sym opened.nearest.candidate.of_app
        ∙ sym (ap (λ (a : Arrival). a.app) arrives) ∙ ap (λ (q : PlacedRow). q.row.key.app) same ∙ at.of_app in
        let listed : ListsWithin c.in_force x.placed.row.key.app row.key.app opened.within =
        subst (λ (q : PlacedRow). ListsWithin c.in_force q.row.key.app row.key.app opened.within) one
        (subst (λ a. ListsWithin c.in_force opened.placed.row.key.app a opened.within) app opened.listed) in
        let nearest = subst (λ w. IsNearest (LiveAt c.sets) x.placed.row.key row.key.app w opened.near)
        (one_limit opened.within listed)
        (subst (λ (q : PlacedRow). IsNearest (LiveAt c.sets) q.row.key row.key.app opened.within opened.near) one
        (subst (λ a. IsNearest (LiveAt c.sets) opened.placed.row.key a opened.within opened.near) app opened.nearest)) in
        (opened.near, nearest, opened.predecessor)

    -- and with the nearest there is a pair
    pub near_pair : (near : Arrival) → IsNearest (LiveAt c.sets) x.placed.row.key row.key.app x.within near
        → Contains c.pairs (pair_of x.placed.row.serial near.serial)
    near_pair near nearest = (sound.pairs.settled.exactly (pair_of x.placed.row.serial near.serial)).1 (inl (record {
      placed = x.placed;
      stands = is.stands;
      waits = is.waits;
      app = row.key.app;
      within = x.within;
      listed = is.listed;
      near = near;
      nearest = nearest;
      predecessor = refl;
    }))

    -- a nearest one makes a pair in the application
    pub near_in : (near : Arrival) → IsNearest (LiveAt c.sets) x.placed.row.key row.key.app x.within near
        → IsPairIn c x.placed.row.serial row.key.app (pair_of x.placed.row.serial near.serial)
    near_in near nearest =
        let (p, stands, live, arrives) = live_stands c.sets sound.serials.numbered near nearest.live in
        record {
          stood = near_pair near nearest;
          successor = refl;
          placed = p;
          stands = stands;
          of_app = ap (λ (a : Arrival). a.app) arrives ∙ nearest.candidate.of_app;
        }

    -- so its arrival is the nearest
    pub pair_nearest : (pair : Pair) (at : IsPairIn c x.placed.row.serial row.key.app pair)
        → IsNearest (LiveAt c.sets) x.placed.row.key row.key.app x.within (arrival_of at.placed.row)
    pair_nearest pair at =
        let (near, nearest, serial) = pair_near pair at in
        let (p, stands, live, arrives) = live_stands c.sets sound.serials.numbered near nearest.live in
        let same : p ≡ at.placed = one_place c.sets pair.predecessor p at.placed
        (subst (λ n. IsOnlyAt c.sets n p) serial stands) at.stands in
        subst (IsNearest (LiveAt c.sets) x.placed.row.key row.key.app x.within)
        (sym arrives ∙ ap (λ (q : PlacedRow). arrival_of q.row) same) nearest

    pub pair_live : (pair : Pair) (at : IsPairIn c x.placed.row.serial row.key.app pair) → IsLive at.placed.place
    pair_live pair at =
        let (near, nearest, serial) = pair_near pair at in
        let (p, stands, live, arrives) = live_stands c.sets sound.serials.numbered near nearest.live in
        let same : p ≡ at.placed = one_place c.sets pair.predecessor p at.placed
        (subst (λ n. IsOnlyAt c.sets n p) serial stands) at.stands in
        subst (λ (q : PlacedRow). IsLive q.place) same live

    -- there is one such pair
    pub one_pair : (a b : Pair) → IsPairIn c x.placed.row.serial row.key.app a
        → IsPairIn c x.placed.row.serial row.key.app b → a ≡ b
    one_pair a b at_a at_b =
        let (near_a, nearest_a, serial_a) = pair_near a at_a in
        let (near_b, nearest_b, serial_b) = pair_near b at_b in
        let same = nearest_once (LiveAt c.sets) x.placed.row.key row.key.app x.within near_a near_b nearest_a nearest_b in
        let successor : a.successor ≡ b.successor = at_a.successor ∙ sym at_b.successor in
        let predecessor : a.predecessor ≡ b.predecessor = sym serial_a ∙ same ∙ serial_b in
        λ i. record { successor = successor i; predecessor = predecessor i }

    -- where it has no pair there the row comes before it
    pub none_overtaken : ((pair : Pair) → IsPairIn c x.placed.row.serial row.key.app pair → ⊥) → IsOvertaken c row x
    none_overtaken never = record {
      reached = is;
      latest = λ other live may.
          let (near, nearest) = near_exists x.placed.row.key row.key.app x.within c.sets sound.serials other live may in
          absurd (never (pair_of x.placed.row.serial near.serial) (near_in near nearest));
    }

    -- and where the predecessor of its pair arrives no later than the row, and not otherwise
    pub some_overtaken : (pair : Pair) (at : IsPairIn c x.placed.row.serial row.key.app pair)
        → at.placed.row.key.ia ≤ row.key.ia → IsOvertaken c row x
    some_overtaken pair at upto = record {
      reached = is;
      latest = λ other live may. let le = (pair_nearest pair at).greatest other live may in omega (arith, le, upto);
    }

    pub not_overtaken : (pair : Pair) (at : IsPairIn c x.placed.row.serial row.key.app pair)
        → row.key.ia < at.placed.row.key.ia → IsOvertaken c row x → ⊥
    not_overtaken pair at later over =
        let nearest = pair_nearest pair at in
        let le = over.latest (arrival_of at.placed.row) nearest.live nearest.candidate in
        omega (arith, le, later)

    -- what a window finds, where it shows the pairs of the occurrence
    module _ (shown : List Pair) (stood : (pair : Pair) → Contains shown pair → Contains c.pairs pair)
        (has : (pair : Pair) → Contains c.pairs pair → pair.successor ≡ x.placed.row.serial → Contains shown pair) where
      abbrev pub found_pair : (was : PlacedRow)
          → IsPredecessorIn shown c.sets x.placed.row.serial row.key.app (Some was)
          → IsPairIn c x.placed.row.serial row.key.app (pair_of x.placed.row.serial was.row.serial)
      found_pair was (there, stands, of_app) = record {
        stood = stood (pair_of x.placed.row.serial was.row.serial) there;
        successor = refl;
        placed = was;
        stands = stands;
        of_app = of_app;
      }

      pub found_none : IsPredecessorIn shown c.sets x.placed.row.serial row.key.app None → (pair : Pair)
          → IsPairIn c x.placed.row.serial row.key.app pair → ⊥
      found_none none pair at = none pair at.placed (has pair at.stood at.successor) at.successor at.stands
          (live_outside at.placed.place (pair_live pair at)) at.of_app
