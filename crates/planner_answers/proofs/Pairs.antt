-- The pairs after a statement.
use Rattle.std.proofs.Common.{◌≡◌, ℕ, ◌+◌, ◌*◌, List, refl, subst}
use Rattle.std.proofs.Common.{inl, Option, None, Some, Less}
use Rattle.std.specs.List.{Contains}
use Rattle.occurrences.specs.Place.{IsComplete, IsLive, IsOpen}
use Rattle.occurrences.specs.declared.key.Key.{Key}
use Rattle.external_dependencies.specs.Link.{ListsWithin}
use Rattle.external_dependencies.specs.Nearest.{ArrivesWithin, IsCandidate, IsNearest, arrival_of}
use Rattle.external_dependencies.specs.Pair.{pair_cmp}
use Rattle.external_dependencies.specs.declared.links.Link.{Link}
use Rattle.external_dependencies.specs.declared.live.Arrival.{Arrival}
use Rattle.external_dependencies.specs.declared.pairs.Pair.{Pair}
use Rattle.external_dependencies.specs.declared.rows.PlacedRow.{PlacedRow}
use Rattle.planner_machine.specs.Content.{IsOnlyAt, Sets}
use Rattle.planner_machine.specs.Pairs.{ArePairs, IsCompleteAt, IsKeptPair, IsOpenPair, LiveAt, pair_of}
use Rattle.planner_answers.proofs.Finite.{Decided, Finite, decided_all, decided_both, decided_if, decided_le, decided_lt}
use Rattle.planner_answers.proofs.Finite.{decided_not, decided_number, decided_so, decided_three, finite_either, finite_if}
use Rattle.planner_answers.proofs.Finite.{finite_list, finite_made, finite_over, finite_so}
use Rattle.planner_answers.proofs.Ordered.{listing}
use Rattle.planner_answers.proofs.Orders.{pair_ranked, pair_total}
use Rattle.planner_answers.proofs.Equal.{decided_name}
use Rattle.planner_answers.proofs.Rows.{IsEnded, IsRowOf, decided_complete, decided_live, decided_open, decided_row}
use Rattle.planner_answers.proofs.Rows.{finite_rows}

decided_within : (within : Option ℕ) (ia first : ℕ) → Decided (ArrivesWithin within ia first)
decided_within None ia first = inl tt
decided_within (Some hours) ia first = decided_le ia (first + hours * 60)

decided_candidate : (key : Key) (app : List ℕ) (within : Option ℕ) (a : Arrival) → Decided (IsCandidate key app within a)
decided_candidate key app within a =
    decided_so
    (λ (all, close). record { of_app = all.0; in_time = all.1; before_own = all.2; close = close })
    (λ h. ((h.of_app, h.in_time, h.before_own), h.close))
    (decided_both
    (decided_three (decided_name a.app app) (decided_le a.ia key.ia)
    (decided_if (decided_name app key.app) (decided_lt a.ia key.ia)))
    (decided_within within key.ia a.ia))

module _ (s : Sets) (last : ℕ) (ended : IsEnded s last) where
  finite_live : Finite (LiveAt s)
  finite_live =
      finite_so
      (λ a (e, both, same). (e.0, e.1, both.0, both.1, same))
      (λ a (serial, p, stands, live, same). ((serial, p), (stands, live), same))
      (finite_made (λ (e : ℕ × PlacedRow). arrival_of e.1.row)
      (finite_if (finite_rows s last ended) (λ e stands. decided_live e.1.place)))

  finite_nearest : (key : Key) (app : List ℕ) (within : Option ℕ) → Finite (IsNearest (LiveAt s) key app within)
  finite_nearest key app within =
      finite_so
      (λ near (both, more). record {
        live = both.0;
        candidate = both.1;
        greatest = λ other live is. more.0 other (live, is);
        last = λ other live is same. more.1 other (live, is) same;
      })
      (λ near h. (
        (h.live, h.candidate),
        ((λ other is. h.greatest other is.0 is.1), λ other is same. h.last other is.0 is.1 same),
      ))
      (finite_if candidates (λ near is. decided_both
      (decided_all candidates (λ other there. decided_le other.ia near.ia))
      (decided_all candidates (λ other there. decided_if (decided_number other.ia near.ia)
      (decided_le other.serial near.serial)))))
    where
      candidates : Finite (λ a. LiveAt s a × IsCandidate key app within a)
      candidates = finite_if finite_live (λ a live. decided_candidate key app within a)

  module _ (before : List Pair) (links : List Link) where
    -- a row, a link of its application, and what is nearest by it
    abbrev WaitsFor : ℕ × PlacedRow → Link → Pair → Type 0
    WaitsFor e link pair =
        (near : Arrival) × IsNearest (LiveAt s) e.1.row.key link.predecessor link.within near
        × (pair_of e.0 near.serial ≡ pair)

    abbrev ByLink : ℕ × PlacedRow → Pair → Type 0
    ByLink e pair = (link : Link) × (Contains links link × (link.app ≡ e.1.row.key.app)) × WaitsFor e link pair

    abbrev ByRow : Pair → Type 0
    ByRow pair = (e : ℕ × PlacedRow) × (IsRowOf s last ended e × IsOpen e.1.place) × ByLink e pair

    by_row : Finite ByRow
    by_row =
        finite_over ByLink (finite_if (finite_rows s last ended) (λ e stands. decided_open e.1.place))
        (λ e waits. finite_over (WaitsFor e)
        (finite_if (finite_list links) (λ link there. decided_name link.app e.1.row.key.app))
        (λ link there. finite_made (λ (near : Arrival). pair_of e.0 near.serial)
        (finite_nearest e.1.row.key link.predecessor link.within)))

    open_by_row : (pair : Pair) → ByRow pair → IsOpenPair links s pair
    open_by_row pair (e, (stands, waits), (link, (there, app), (near, nearest, same))) =
        subst (IsOpenPair links s) same
        (record {
          placed = e.1;
          stands = stands;
          waits = waits;
          app = link.predecessor;
          within = link.within;
          listed = subst (λ n. ListsWithin links n link.predecessor link.within) app there;
          near = near;
          nearest = nearest;
          predecessor = refl;
        })

    row_by_open : (pair : Pair) → IsOpenPair links s pair → ByRow pair
    row_by_open pair h = (
      (pair.successor, h.placed),
      (h.stands, h.waits),
      (
        record { app = h.placed.row.key.app; predecessor = h.app; within = h.within },
        (h.listed, refl),
        (h.near, h.nearest, λ i. record { successor = pair.successor; predecessor = h.predecessor i }),
      ),
    )

    finite_open : Finite (IsOpenPair links s)
    finite_open = finite_so open_by_row row_by_open by_row

    -- those that stay
    abbrev Stays : Pair → ℕ → PlacedRow → Type 0
    Stays pair serial p = (serial ≡ pair.successor) × (IsLive p.place × (IsOpen p.place → ⊥))

    finite_kept : Finite (IsKeptPair before s)
    finite_kept =
        finite_so to back
        (finite_if (finite_list before) (λ pair had. decided_row s last ended (Stays pair) (λ serial p. decided_both
        (decided_number serial pair.successor) (decided_both (decided_live p.place) (decided_not (decided_open p.place))))))
      where
        to : (pair : Pair)
            → Contains before pair × ((serial : ℕ) × (p : PlacedRow) × IsOnlyAt s serial p × Stays pair serial p)
            → IsKeptPair before s pair
        to pair (had, (serial, p, stands, (same, (live, closed)))) = record {
          placed = p;
          stands = subst (λ n. IsOnlyAt s n p) same stands;
          live = live;
          waits_no_more = closed;
          had = had;
        }

        back : (pair : Pair) → IsKeptPair before s pair
            → Contains before pair × ((serial : ℕ) × (p : PlacedRow) × IsOnlyAt s serial p × Stays pair serial p)
        back pair h = (h.had, (pair.successor, h.placed, h.stands, (refl, (h.live, h.waits_no_more))))

    -- the pairs after the statement
    pub pairs_exist : (pairs : List Pair) × ArePairs before links s pairs
    pairs_exist =
        let all = listing (λ x y. pair_cmp x y ≡ Less) (λ x y z. pair_total.trans x y z)
        (finite_either finite_open finite_kept) (λ x y h k. pair_ranked x y) in
        (all.list, record { rising = all.rising; exactly = all.exactly })

  pub decided_complete_at : (serial : ℕ) → Decided (IsCompleteAt s serial)
  decided_complete_at serial =
      decided_so
      (λ (n, p, stands, (same, complete)). (p, subst (λ k. IsOnlyAt s k p) same stands, complete))
      (λ (p, stands, complete). (serial, p, stands, (refl, complete)))
      (decided_row s last ended (λ n p. (n ≡ serial) × IsComplete p.place)
      (λ n p. decided_both (decided_number n serial) (decided_complete p.place)))
