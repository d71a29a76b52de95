-- The pairs of an open occurrence that a change doesn't reach are those that it had.
use Rattle.std.proofs.Common.{◌≡◌, ◌↔◌, ℕ, List, Option, refl, sym, ap, subst, ◌∙◌, inl, inr}
use Rattle.std.specs.List.{Contains}
use Rattle.occurrences.specs.Place.{IsOpen}
use Rattle.occurrences.specs.declared.key.Key.{Key}
use Rattle.external_dependencies.specs.declared.links.Link.{Link}
use Rattle.external_dependencies.specs.declared.live.Arrival.{Arrival}
use Rattle.external_dependencies.specs.declared.pairs.Pair.{Pair}
use Rattle.external_dependencies.specs.declared.rows.PlacedRow.{PlacedRow}
use Rattle.external_dependencies.specs.Link.{ListsWithin}
use Rattle.external_dependencies.specs.Nearest.{IsCandidate, IsLiveIn, IsNearest}
use Rattle.external_dependencies.specs.Reach.{HasMoved}
use Rattle.external_dependencies.specs.declared.touch.Touch.{Touch}
use Rattle.external_dependencies.specs.Settled.{AreSettled, IsSettledPair}
use Rattle.external_dependencies.specs.Touch.{HasSameList, IsOpenIn, MayReach, Touches}
use Rattle.external_dependencies.proofs.StayLemmas.{nearest_stays}
use Rattle.external_dependencies.proofs.TouchLemmas.{came, went}

module _ (touch : Touch) (was now : List PlacedRow) (was_links links : List Link)
    (turn : Touches touch was now was_links links) (old : List Pair) (settled : AreSettled was was_links old)
    (q : PlacedRow) (stands : Contains now q) (is_open : IsOpen q.place)
    (unreached : MayReach touch links q.row → ⊥) where
  -- it was open before, under its serial and key
  before : IsOpenIn was q.row
  before = elim (turn.opened q stands is_open) [
    | inl waited ↦ waited
    | inr anew ↦ absurd (unreached (inl anew))
  ]

  same_lists : HasSameList was_links links q.row.key.app
  same_lists = elim (turn.lists q.row.key.app) [
    | inl same ↦ same
    | inr changed ↦ absurd (unreached (inr (inl changed)))
  ]

  clear : (app : List ℕ) (within : Option ℕ) → ListsWithin links q.row.key.app app within → (a : Arrival)
      → HasMoved touch a → IsCandidate q.row.key app within a → ⊥
  clear app within listed a (row, moved, arrives) may = unreached (inr (inr (
    record { app = q.row.key.app; predecessor = app; within = within },
    listed,
    (refl, (row, moved, subst (IsCandidate q.row.key app within) (sym arrives) may)),
  )))

  -- its nearest predecessors are those before
  pub nearest_on : (app : List ℕ) (within : Option ℕ) → ListsWithin links q.row.key.app app within → (near : Arrival)
      → IsNearest (IsLiveIn was) q.row.key app within near ↔ IsNearest (IsLiveIn now) q.row.key app within near
  nearest_on app within listed near = (
    nearest_stays (HasMoved touch) was now q.row.key app within (clear app within listed)
        (went touch was now was_links links turn) (came touch was now was_links links turn) near,
    nearest_stays (HasMoved touch) now was q.row.key app within (clear app within listed)
        (came touch was now was_links links turn) (went touch was now was_links links turn) near,
  )

  -- what stood before under its serial had its key
  the_one : (p : PlacedRow) → Contains was p → p.row.serial ≡ q.row.serial → before.0 ≡ p
  the_one p there same = turn.once_before before.0 p before.1 there (before.3 ∙ sym same)

  key_before : (p : PlacedRow) → Contains was p → p.row.serial ≡ q.row.serial → p.row.key ≡ q.row.key
  key_before p there same = ap (λ (r : PlacedRow). r.row.key) (sym (the_one p there same)) ∙ before.4

  pub pairs_stay : (pair : Pair) → q.row.serial ≡ pair.successor
      → Contains old pair ↔ IsSettledPair old now links pair
  pairs_stay pair same = (forward, backward)
    where
      forward : Contains old pair → IsSettledPair old now links pair
      forward there = elim ((settled pair).0 there) [
        | inl is ↦
            let keys : is.placed.row.key ≡ q.row.key = key_before is.placed is.stands (is.successor ∙ sym same) in
            let listed : ListsWithin links q.row.key.app is.app is.within = (same_lists is.app is.within).0
            (subst (λ (k : Key). ListsWithin was_links k.app is.app is.within) keys is.listed) in
            inl (record {
              placed = q;
              stands = stands;
              waits = is_open;
              successor = same;
              app = is.app;
              within = is.within;
              listed = listed;
              near = is.near;
              nearest = (nearest_on is.app is.within listed is.near).0
                  (subst (λ (k : Key). IsNearest (IsLiveIn was) k is.app is.within is.near) keys is.nearest);
              predecessor = is.predecessor;
            })
        | inr kept ↦ absurd (kept.closed (subst (λ (p : PlacedRow). IsOpen p.place)
            (the_one kept.placed kept.stands (kept.successor ∙ sym same)) before.2))
      ]

      backward : IsSettledPair old now links pair → Contains old pair
      backward (inr kept) = kept.had
      backward (inl is) =
          let one : is.placed ≡ q = turn.once_after is.placed q is.stands stands (is.successor ∙ sym same) in
          let listed : ListsWithin links q.row.key.app is.app is.within =
          subst (λ (p : PlacedRow). ListsWithin links p.row.key.app is.app is.within) one is.listed in
          let nearest : IsNearest (IsLiveIn now) q.row.key is.app is.within is.near =
          subst (λ (p : PlacedRow). IsNearest (IsLiveIn now) p.row.key is.app is.within is.near) one is.nearest in
          let keys : q.row.key ≡ before.0.row.key = sym before.4 in
          (settled pair).1 (inl (record {
            placed = before.0;
            stands = before.1;
            waits = before.2;
            successor = before.3 ∙ same;
            app = is.app;
            within = is.within;
            listed = subst (λ (k : Key). ListsWithin was_links k.app is.app is.within) keys
                ((same_lists is.app is.within).1 listed);
            near = is.near;
            nearest = subst (λ (k : Key). IsNearest (IsLiveIn was) k is.app is.within is.near) keys
                ((nearest_on is.app is.within listed is.near).1 nearest);
            predecessor = is.predecessor;
          }))
