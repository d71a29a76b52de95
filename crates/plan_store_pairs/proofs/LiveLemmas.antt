-- The live occurrences of the sets, as some list.
use Rattle.std.proofs.Common.{◌⊎◌, ℕ, zero, suc, ◌≤◌, List, [], ◌∷◌, refl, sym, subst, inl, inr, arith}
use Rattle.std.specs.List.{Contains}
use Rattle.std.proofs.lemmas.Bool.{cases_eq}
use Rattle.occurrences.specs.Place.{IsLive}
use Rattle.occurrences.specs.declared.place.Place.{Place}
use Rattle.occurrences.specs.declared.place.Place.TheVariants.{LongTerm, Current, History, Deleted}
use Rattle.occurrences.specs.declared.status.Status.TheVariants.{W, S, E, C, D}
use Rattle.external_dependencies.specs.declared.rows.PlacedRow.{PlacedRow}
use Rattle.planner_machine.specs.Content.{Sets, IsOnlyAt}
use Rattle.planner_machine.specs.Sound.{AreNumbered}
use Rattle.planner_machine.proofs.SeatLemmas.{cases_issued, not_empty, one_place}
use Rattle.plan_store_pairs.specs.LiveRows.{AreLiveRows}
use Rattle.plan_store_pairs.proofs.ListLemmas.{first_or_later, further, here, none}

cases_live : (place : Place) → IsLive place ⊎ (IsLive place → ⊥)
cases_live LongTerm = inl tt
cases_live (Current W) = inl (λ is. cc)
cases_live (Current S) = inl (λ is. cc)
cases_live (Current E) = inl (λ is. cc)
cases_live (Current C) = inl (λ is. cc)
cases_live (Current D) = inr (λ live. live refl)
cases_live History = inl tt
cases_live (Deleted reason) = inr (λ live. live)

module _ (s : Sets) (numbered : AreNumbered s) where
  -- the list has exactly the live occurrences of the serials up to a number
  record AreLiveUpTo (count : ℕ) (rows : List PlacedRow) : Type 0 where
    all : (serial : ℕ) (p : PlacedRow) → 1 ≤ serial → serial ≤ count → IsOnlyAt s serial p → IsLive p.place
        → Contains rows p
    only : (p : PlacedRow) → Contains rows p → IsOnlyAt s p.row.serial p × IsLive p.place

  live_up_to : (count : ℕ) → count ≤ s.issued → (rows : List PlacedRow) × AreLiveUpTo count rows
  live_up_to zero le = (
    [],
    record {
      all = λ serial p above below stands live. absurd (omega arith);
      only = λ p there. absurd (none p there);
    },
  )
  live_up_to (suc count) le = by_place (numbered.placed (suc count) (omega arith) le) (live_up_to count (omega arith))
    where
      by_place : (p : PlacedRow) × IsOnlyAt s (suc count) p → (rows : List PlacedRow) × AreLiveUpTo count rows
          → (rows : List PlacedRow) × AreLiveUpTo (suc count) rows
      by_place (p, stands) (rows, are) = elim (cases_live p.place) [
        | inl live ↦ (
          p ∷ rows,
          record {
            all = λ serial q above below at alive. elim (cases_eq serial (suc count)) [
              | inl last ↦ subst (Contains (p ∷ rows))
                  (one_place s (suc count) p q stands (subst (λ n. IsOnlyAt s n q) last at)) (here p rows)
              | inr other ↦ further p q rows (are.all serial q above (omega arith) at alive)
            ];
            only = λ q there. elim (first_or_later p q rows there) [
              | inl same ↦ subst (λ (x : PlacedRow). IsOnlyAt s x.row.serial x × IsLive x.place) same
                  (subst (λ n. IsOnlyAt s n p) (sym (numbered.numbered (suc count) p stands)) stands, live)
              | inr later ↦ are.only q later
            ];
          },
        )
        | inr dead ↦ (
          rows,
          record {
            all = λ serial q above below at alive. elim (cases_eq serial (suc count)) [
              | inl last ↦ absurd (dead (subst (λ (x : PlacedRow). IsLive x.place)
                  (one_place s (suc count) q p (subst (λ n. IsOnlyAt s n q) last at) stands) alive))
              | inr other ↦ are.all serial q above (omega arith) at alive
            ];
            only = are.only;
          },
        )
      ]

  pub live_rows : (rows : List PlacedRow) × AreLiveRows s rows
  live_rows =
      let (rows, are) = live_up_to s.issued (omega arith) in (
        rows,
        record {
          all = λ serial p stands live. elim (cases_issued s.issued serial) [
            | inl within ↦ (are.all serial p within.0 within.1 stands live, numbered.numbered serial p stands)
            | inr past ↦ absurd (not_empty s serial p stands (numbered.unissued serial past))
          ];
          only = are.only;
        },
      )
