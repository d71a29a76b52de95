-- The rows of the applications that a change reaches and of those that their lists name.
use Rattle.std.proofs.Common.{◌≡◌, ◌↔◌, ◌⊎◌, ℕ, List, [], ◌∷◌, ◌++◌, refl, sym, ap, subst, inl, inr}
use Rattle.std.specs.List.{Contains}
use Rattle.std.proofs.lemmas.List.Elements.{Contains-append_left, Contains-append_right, Contains-push}
use Rattle.std.proofs.lemmas.List.Elements.{Contains-push_cases}
use Rattle.occurrences.specs.declared.place.CurrentRow.{CurrentRow}
use Rattle.occurrences.specs.declared.place.Place.TheVariants.{LongTerm, History}
use Rattle.occurrences.specs.declared.row.Row.{Row}
use Rattle.external_dependencies.specs.Link.{Lists}
use Rattle.external_dependencies.specs.Settled.{IsOnce}
use Rattle.external_dependencies.specs.Touch.{IsAnew, IsMoved, MayReach}
use Rattle.external_dependencies.specs.declared.links.Link.{Link}
use Rattle.external_dependencies.specs.declared.rows.PlacedRow.{PlacedRow}
use Rattle.external_dependencies.specs.declared.touch.Touch.{Touch}
use Rattle.plan_store_lists.specs.Rows.{of_current, of_row}
use Rattle.planner_machine.specs.Content.{Sets}
use Rattle.plan_store.specs.Views.{IsAny, ListsSet}
use Rattle.plan_store_pairs.specs.ByApplications.{HasReached, HasWithList}
use Rattle.plan_store_pairs.specs.LiveRows.{AddsCurrent, AddsRows, IsCurrentIn}
use Rattle.plan_store_pairs.specs.Turns.{IsBeside, IsTouchOf}
use Rattle.plan_store_pairs.proofs.ListLemmas.{none}
use Rattle.plan_store_pairs.proofs.TurnLemmas.{AreListed}

-- ---- by applications

module _ (touch : Touch) (was_links links : List Link) (gone made stay : List Row) (current : List CurrentRow)
    (completed : List Row) (now : List PlacedRow) (is : IsTouchOf gone made was_links links touch)
    (listed : AreListed (stay ++ made) current completed now) (once : IsOnce now) where
  -- what holds of the application of each row that came or went, of each whose list changed, and of each whose list names
  -- one with such rows
  module _ (Is : List ℕ → Type 0) (touched : (row : Row) → IsMoved touch row → Is row.key.app)
      (changed : (app : List ℕ) → Contains touch.lists.items app → Is app)
      (naming : (row : Row) (app : List ℕ) → IsMoved touch row → Lists links app row.key.app → Is app) where
    of_made : (q : PlacedRow) → Contains now q → IsAnew touch q.row.serial → Is q.row.key.app
    of_made q there (inr opened) = absurd (none q.row.serial (subst (λ ns. Contains ns q.row.serial) is.none_opened opened))
    of_made q there (inl (row, named, same)) =
        let new = subst (λ rs. Contains rs row) is.comes named in
        let p : PlacedRow = record { row = row; place = LongTerm } in
        let at = (listed p).1 (inl (Contains-append_right stay made row new, refl)) in
        let one : p ≡ q = once p q at there same in
        subst Is (ap (λ (x : PlacedRow). x.row.key.app) one) (touched row (inl named))

    -- holds of that of what is reached
    pub of_each : (q : PlacedRow) → Contains now q → MayReach touch links q.row → Is q.row.key.app
    of_each q there (inl anew) = of_made q there anew
    of_each q there (inr (inl named)) = changed q.row.key.app named
    of_each q there (inr (inr (link, in_links, (of_app, (row, moved, may))))) =
        let lists : Lists links q.row.key.app row.key.app = (
          link.within,
          subst (Contains links)
              (λ i. record { app = of_app i; predecessor = sym may.of_app i; within = link.within }) in_links,
        ) in
        naming row q.row.key.app moved lists

  module _ (apps : List (List ℕ)) (has : HasReached touch links apps) where
    pub of_reached : (q : PlacedRow) → Contains now q → MayReach touch links q.row
        → HasWithList links apps q.row.key.app
    of_reached = of_each (HasWithList links apps) has.touched has.changed has.naming

    -- the application of what goes is one of these
    pub gone_app : (row : Row) → Contains gone row → Contains apps row.key.app
    gone_app row there = (has.touched row (inr (subst (λ rs. Contains rs row) (sym is.goes) there))).0

-- ---- the rows of one application after another

module _ (s : Sets) (planned : List Row) (current : List CurrentRow) (current_are : ListsSet of_current s.cp IsAny current)
    (completed : List Row) (completed_are : ListsSet of_row s.history IsAny completed) where
  abbrev pub AreSoFar : List (List ℕ) → List PlacedRow → Type 0
  AreSoFar apps rows = (p : PlacedRow) → Contains rows p
      ↔ ((Contains planned p.row × (p.place ≡ LongTerm)) ⊎ (IsBeside current completed p × Contains apps p.row.key.app))

  pub none_so_far : (rows : List PlacedRow) → AddsRows planned LongTerm [] rows → AreSoFar [] rows
  none_so_far rows adds p = (
    (λ there. elim ((adds p).0 there) [ inl nothing ↦ absurd (none p nothing) | inr first ↦ inl first ]),
    λ is. elim is [ inl first ↦ (adds p).1 (inr first) | inr beside ↦ absurd (none p.row.key.app beside.1) ],
  )

  module _ (apps : List (List ℕ)) (rows : List PlacedRow) (so_far : AreSoFar apps rows) (app : List ℕ)
      (own : List CurrentRow) (own_are : ListsSet of_current s.cp (λ x. x.row.key.app ≡ app) own) (done : List Row)
      (done_are : ListsSet of_row s.history (λ row. row.key.app ≡ app) done) where
    of_own : (p : PlacedRow) → IsCurrentIn own p → IsCurrentIn current p × (p.row.key.app ≡ app)
    of_own p is =
        let at = (own_are.exactly (record { row = p.row; status = is.status })).0 is.listed in (
          record {
            status = is.status;
            listed = (current_are.exactly (record { row = p.row; status = is.status })).1 (at.0, tt);
            placed = is.placed;
            stays = is.stays;
          },
          at.1,
        )

    to_own : (p : PlacedRow) → IsCurrentIn current p → p.row.key.app ≡ app → IsCurrentIn own p
    to_own p is same = record {
      status = is.status;
      listed = (own_are.exactly (record { row = p.row; status = is.status })).1
          (((current_are.exactly (record { row = p.row; status = is.status })).0 is.listed).0, same);
      placed = is.placed;
      stays = is.stays;
    }

    here_too : (p : PlacedRow) → p.row.key.app ≡ app → Contains (apps ++ app ∷ []) p.row.key.app
    here_too p same = subst (Contains (apps ++ app ∷ [])) (sym same) (Contains-push apps app)

    pub one_more : (middle new : List PlacedRow) → AddsCurrent own rows middle → AddsRows done History middle new
        → AreSoFar (apps ++ app ∷ []) new
    one_more middle new a1 a2 p = (forward, backward)
      where
        forward : Contains new p → (Contains planned p.row × (p.place ≡ LongTerm))
            ⊎ (IsBeside current completed p × Contains (apps ++ app ∷ []) p.row.key.app)
        forward there = elim ((a2 p).0 there) [
          | inr late ↦
              let at = (done_are.exactly p.row).0 late.0 in
              inr (inr ((completed_are.exactly p.row).1 (at.0, tt), late.1), here_too p at.1)
          | inl in_middle ↦ elim ((a1 p).0 in_middle) [
            | inr now ↦ let both = of_own p now in inr (inl both.0, here_too p both.1)
            | inl old ↦ elim ((so_far p).0 old) [
              | inl first ↦ inl first
              | inr beside ↦ inr (beside.0, Contains-append_left apps (app ∷ []) p.row.key.app beside.1)
            ]
          ]
        ]

        kept : Contains rows p → Contains new p
        kept old = (a2 p).1 (inl ((a1 p).1 (inl old)))

        here : p.row.key.app ≡ app → IsBeside current completed p → Contains new p
        here same (inl now) = (a2 p).1 (inl ((a1 p).1 (inr (to_own p now same))))
        here same (inr late) = (a2 p).1 (inr (
          (done_are.exactly p.row).1 (((completed_are.exactly p.row).0 late.0).0, same),
          late.1,
        ))

        backward : (Contains planned p.row × (p.place ≡ LongTerm))
            ⊎ (IsBeside current completed p × Contains (apps ++ app ∷ []) p.row.key.app) → Contains new p
        backward (inl first) = kept ((so_far p).1 (inl first))
        backward (inr (beside, there)) = elim (Contains-push_cases apps app p.row.key.app there) [
          | inl old ↦ kept ((so_far p).1 (inr (beside, old)))
          | inr same ↦ here (sym same) beside
        ]
