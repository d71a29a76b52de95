-- Pairs that are found anew only where a change reaches are those after a statement.
use Rattle.std.proofs.Common.{◌⊎◌, List, subst, inl, inr}
use Rattle.std.specs.List.{Contains}
use Rattle.external_dependencies.specs.Pair.{pair_cmp}
use Rattle.external_dependencies.specs.Rising.{IsRising}
use Rattle.external_dependencies.specs.declared.change.PairChange.{PairChange}
use Rattle.external_dependencies.specs.declared.links.Link.{Link}
use Rattle.external_dependencies.specs.declared.pairs.Pair.{Pair}
use Rattle.external_dependencies.specs.declared.rows.PlacedRow.{PlacedRow}
use Rattle.external_dependencies.specs.Nearest.{IsLiveIn}
use Rattle.planner_machine.specs.Content.{Sets, IsOnlyAt}
use Rattle.planner_machine.specs.Pairs.{ArePairs, IsKeptPair, IsOpenPair, LiveAt}
use Rattle.planner_machine.proofs.SeatLemmas.{one_place}
use Rattle.plan_store.specs.Changes.{LeadsOn, pairs_after}
use Rattle.plan_store.proofs.PairLemmas.{leads_on, pairs_after_contains, pairs_after_rising}
use Rattle.plan_store_pairs.specs.LiveRows.{AreLiveRows}
use Rattle.plan_store_pairs.proofs.ScratchLemmas.{live_from, live_to, open_is_live, same_nearest}
use Rattle.external_dependencies.specs.Change.{LeadsExactly}
use Rattle.external_dependencies.specs.Settled.{AreSettled, IsOnce, IsSettledPair}

module _ (s : Sets) (rows : List PlacedRow) (are : AreLiveRows s rows) where
  pub live_once : IsOnce rows
  live_once p q p_in q_in same =
      let at_p = (are.only p p_in).0 in
      let at_q = (are.only q q_in).0 in
      one_place s q.row.serial p q (subst (λ n. IsOnlyAt s n p) same at_p) at_q

  module _ (links : List Link) (old : List Pair) where
    settled_to : (pair : Pair) → IsSettledPair old rows links pair → IsOpenPair links s pair ⊎ IsKeptPair old s pair
    settled_to pair (inl is) = inl (record {
      placed = is.placed;
      stands = subst (λ n. IsOnlyAt s n is.placed) is.successor (are.only is.placed is.stands).0;
      waits = is.waits;
      app = is.app;
      within = is.within;
      listed = is.listed;
      near = is.near;
      nearest = same_nearest (IsLiveIn rows) (LiveAt s) (live_from s rows are) (live_to s rows are)
          is.placed.row.key is.app is.within is.near is.nearest;
      predecessor = is.predecessor;
    })
    settled_to pair (inr kept) = inr (record {
      placed = kept.placed;
      stands = subst (λ n. IsOnlyAt s n kept.placed) kept.successor (are.only kept.placed kept.stands).0;
      live = kept.live;
      waits_no_more = kept.closed;
      had = kept.had;
    })

    settled_from : (pair : Pair) → IsOpenPair links s pair ⊎ IsKeptPair old s pair → IsSettledPair old rows links pair
    settled_from pair (inl is) =
        let here = are.all pair.successor is.placed is.stands (open_is_live is.placed.place is.waits) in
        inl (record {
          placed = is.placed;
          stands = here.0;
          waits = is.waits;
          successor = here.1;
          app = is.app;
          within = is.within;
          listed = is.listed;
          near = is.near;
          nearest = same_nearest (LiveAt s) (IsLiveIn rows) (live_to s rows are) (live_from s rows are)
              is.placed.row.key is.app is.within is.near is.nearest;
          predecessor = is.predecessor;
        })
    settled_from pair (inr kept) =
        let here = are.all pair.successor kept.placed kept.stands kept.live in
        inr (record {
          placed = kept.placed;
          stands = here.0;
          successor = here.1;
          live = kept.live;
          closed = kept.waits_no_more;
          had = kept.had;
        })

    -- pairs that are settled are so over the list
    pub are_settled : ArePairs old links s old → AreSettled rows links old
    are_settled pairs pair = (
      (λ there. settled_from pair ((pairs.exactly pair).0 there)),
      λ is. (pairs.exactly pair).1 (settled_to pair is),
    )

    -- what leads exactly to the pairs of the list makes the pairs after a statement
    pub pairs_led : IsRising pair_cmp old → (change : PairChange)
        → LeadsExactly old (IsSettledPair old rows links) change → ArePairs old links s (pairs_after change old)
    pairs_led rising change leads = record {
      rising = pairs_after_rising change old rising;
      exactly = λ pair. (
        (λ there. settled_to pair (forward pair ((pairs_after_contains change old pair).0 there))),
        λ is. (pairs_after_contains change old pair).1 (backward pair (settled_from pair is)),
      );
    }
      where
        forward : (pair : Pair) → Contains change.added pair ⊎ (Contains old pair × (Contains change.removed pair → ⊥))
            → IsSettledPair old rows links pair
        forward pair (inl new) = ((leads.added pair).0 new).0
        forward pair (inr both) = elim (leads.stays pair both.0) [
          | inl gone ↦ absurd (both.1 gone)
          | inr stays ↦ stays
        ]

        backward : (pair : Pair) → IsSettledPair old rows links pair
            → Contains change.added pair ⊎ (Contains old pair × (Contains change.removed pair → ⊥))
        backward pair is = elim (leads.comes pair is) [
          | inl stood ↦ inr (stood, λ gone. ((leads.removed pair).0 gone).1 is)
          | inr new ↦ inl new
        ]

-- what is exactly a difference leads on
pub led_on : (change : PairChange) (old : List Pair) (IsNew : Pair → Type 0) → LeadsExactly old IsNew change
    → LeadsOn old change
led_on change old IsNew leads =
    leads_on change old (λ p gone. ((leads.removed p).0 gone).0) (λ p new. ((leads.added p).0 new).1)
