-- Rows of the plans as a list, one after another.
use Rattle.std.proofs.Common.{◌≡◌, ◌≢◌, ◌↔◌, ℕ, List, [], ◌∷◌, ◌++◌, refl, sym, ap, subst, ◌∙◌, inl, inr, Option, Some}
use Rattle.std.specs.List.{Contains}
use Rattle.std.proofs.lemmas.List.Elements.{Contains-append_cases, Contains-append_left, Contains-append_right}
use Rattle.std.proofs.lemmas.List.Elements.{Contains-push, Contains-push_cases}
use Rattle.occurrences.specs.Place.{IsLive}
use Rattle.occurrences.specs.declared.place.CurrentRow.{CurrentRow}
use Rattle.occurrences.specs.declared.place.Place.{Place}
use Rattle.occurrences.specs.declared.place.Place.TheVariants.{LongTerm, Current, History, Deleted}
use Rattle.occurrences.specs.declared.row.Row.{Row}
use Rattle.occurrences.specs.declared.status.Status.{Status}
use Rattle.occurrences.specs.declared.status.Status.TheVariants.{W, S, E, C, D}
use Rattle.external_dependencies.specs.declared.rows.PlacedRow.{PlacedRow}
use Rattle.planner_machine.specs.Content.{Seat, Sets, IsOnlyAt, alone}
use Rattle.planner_machine.proofs.ActionLemmas.{stands_in_cp}
use Rattle.planner_machine.proofs.DeleteLemmas.{stands_in_ltp}
use Rattle.planner_machine.specs.RowsSound.{RowsSound}
use Rattle.planner_machine.proofs.SeatLemmas.{cases_issued}
use Rattle.plan_store.specs.Views.{IsAny, ListsSet}
use Rattle.plan_store_pairs.proofs.ListLemmas.{none}
use Rattle.plan_store_pairs.specs.LiveRows.{AddsCurrent, AddsRows, AreLiveRows, HasLists, IsCurrentIn}
use Rattle.plan_store_pairs.specs.Turns.{IsInLists}

pub rows_none : (place : Place) (old : List PlacedRow) → AddsRows [] place old old
rows_none place old p =
    ((λ there. inl there), λ is. elim is [ inl there ↦ there | inr new ↦ absurd (none p.row new.0) ])

pub rows_more : (list : List Row) (place : Place) (old so_far : List PlacedRow) (row : Row)
    → AddsRows list place old so_far → AddsRows (list ++ row ∷ []) place old
    (so_far ++ (record { row = row; place = place }) ∷ [])
rows_more list place old so_far row adds p = (
  (λ there. elim (Contains-push_cases so_far (record { row = row; place = place }) p there) [
    | inl was ↦ elim ((adds p).0 was) [
      | inl before ↦ inl before
      | inr new ↦
          inr (Contains-append_left list (row ∷ []) p.row new.0, new.1)
    ]
    | inr same ↦
        inr (
          subst (Contains (list ++ row ∷ [])) (ap (λ (x : PlacedRow). x.row) same) (Contains-push list row),
          ap
              (λ (x : PlacedRow). x.place) (sym same),
        )
  ]),
  λ is. elim is [
    | inl before ↦ Contains-append_left so_far _ p ((adds p).1 (inl before))
    | inr new ↦ elim (Contains-push_cases list row p.row new.0) [
      | inl was ↦ Contains-append_left so_far _ p ((adds p).1 (inr (was, new.1)))
      | inr same ↦
          let whole : record { row = row; place = place } ≡ p = λ i. record { row = same i; place = (sym new.1) i } in
          subst (Contains (so_far ++ (record { row = row; place = place }) ∷ [])) whole
          (Contains-push so_far (record { row = row; place = place }))
    ]
  ],
)

-- two lists are added as one
pub rows_both : (first second : List Row) (place : Place) (r0 r1 r2 : List PlacedRow) → AddsRows first place r0 r1
    → AddsRows second place r1 r2 → AddsRows (first ++ second) place r0 r2
rows_both first second place r0 r1 r2 a1 a2 p = (
  (λ there. elim ((a2 p).0 there) [
    | inl in_1 ↦ elim ((a1 p).0 in_1) [
      | inl before ↦ inl before
      | inr new ↦ inr (Contains-append_left first second p.row new.0, new.1)
    ]
    | inr new ↦ inr (Contains-append_right first second p.row new.0, new.1)
  ]),
  λ is. elim is [
    | inl before ↦ (a2 p).1 (inl ((a1 p).1 (inl before)))
    | inr new ↦ elim (Contains-append_cases first second p.row new.0) [
      | inl was ↦ (a2 p).1 (inl ((a1 p).1 (inr (was, new.1))))
      | inr put ↦ (a2 p).1 (inr (put, new.1))
    ]
  ],
)

-- the same of the current plan
pub current_both : (first second : List CurrentRow) (r0 r1 r2 : List PlacedRow) → AddsCurrent first r0 r1
    → AddsCurrent second r1 r2 → AddsCurrent (first ++ second) r0 r2
current_both first second r0 r1 r2 a1 a2 p = (
  (λ there. elim ((a2 p).0 there) [
    | inl in_1 ↦ elim ((a1 p).0 in_1) [
      | inl before ↦ inl before
      | inr is ↦ inr (record {
        status = is.status;
        listed = Contains-append_left first second (record { row = p.row; status = is.status }) is.listed;
        placed = is.placed;
        stays = is.stays;
      })
    ]
    | inr is ↦ inr (record {
      status = is.status;
      listed = Contains-append_right first second (record { row = p.row; status = is.status }) is.listed;
      placed = is.placed;
      stays = is.stays;
    })
  ]),
  λ either. elim either [
    | inl before ↦ (a2 p).1 (inl ((a1 p).1 (inl before)))
    | inr is ↦ elim (Contains-append_cases first second (record { row = p.row; status = is.status }) is.listed) [
      | inl was ↦ (a2 p).1 (inl ((a1 p).1 (inr (record {
        status = is.status;
        listed = was;
        placed = is.placed;
        stays = is.stays;
      }))))
      | inr later ↦ (a2 p).1 (inr (record {
        status = is.status;
        listed = later;
        placed = is.placed;
        stays = is.stays;
      }))
    ]
  ],
)

pub current_none : (old : List PlacedRow) → AddsCurrent [] old old
current_none old p = ((λ there. inl there), λ is. elim is [ inl there ↦ there | inr new ↦ absurd (none _ new.listed) ])

wider : (list : List CurrentRow) (current : CurrentRow) (p : PlacedRow) → IsCurrentIn list p
    → IsCurrentIn (list ++ current ∷ []) p
wider list current p is =
    record {
      status = is.status;
      listed = Contains-append_left list (current ∷ []) _ is.listed;
      placed = is.placed;
      stays = is.stays;
    }

pub current_skip : (list : List CurrentRow) (old so_far : List PlacedRow) (current : CurrentRow) → current.status ≡ D
    → AddsCurrent list old so_far → AddsCurrent (list ++ current ∷ []) old so_far
current_skip list old so_far current deleted adds p = (
  (λ there. elim ((adds p).0 there) [ inl before ↦ inl before | inr new ↦ inr (wider list current p new) ]),
  λ is. (adds p).1 (elim is [
    | inl before ↦ inl before
    | inr new ↦ elim (Contains-push_cases list current _ new.listed) [
      | inl was ↦ inr (record { status = new.status; listed = was; placed = new.placed; stays = new.stays })
      | inr same ↦ absurd (new.stays (ap (λ (x : CurrentRow). x.status) (sym same) ∙ deleted))
    ]
  ]),
)

abbrev placed_current : CurrentRow → PlacedRow
placed_current current = record { row = current.row; place = Current current.status }

pub current_more : (list : List CurrentRow) (old so_far : List PlacedRow) (current : CurrentRow) → current.status ≢ D
    → AddsCurrent list old so_far → AddsCurrent (list ++ current ∷ []) old
    (so_far ++ (record { row = current.row; place = Current current.status }) ∷ [])
current_more list old so_far current stays adds p = (
  (λ there. elim (Contains-push_cases so_far (placed_current current) p there) [
    | inl was ↦ elim ((adds p).0 was) [ inl before ↦ inl before | inr new ↦ inr (wider list current p new) ]
    | inr same ↦
        inr (subst (IsCurrentIn (list ++ current ∷ [])) same
        (record { status = current.status; listed = Contains-push list current; placed = refl; stays = stays }))
  ]),
  λ is. elim is [
    | inl before ↦ Contains-append_left so_far _ p ((adds p).1 (inl before))
    | inr new ↦ elim (Contains-push_cases list current _ new.listed) [
      | inl was ↦
          Contains-append_left so_far _ p
          ((adds p).1 (inr (record { status = new.status; listed = was; placed = new.placed; stays = new.stays })))
      | inr same ↦
          let whole : placed_current current ≡ p = λ i. record
          { row = (same i).row; place = (ap (λ (x : CurrentRow). Current x.status) same ∙ sym new.placed) i } in
          subst (Contains (so_far ++ placed_current current ∷ [])) whole (Contains-push so_far (placed_current current))
    ]
  ],
)

history_place : (row : Row) (place : Place) (done : Row) → (alone row place).history ≡ Some done
    → alone row place ≡ alone done History
history_place row LongTerm done is = cc
history_place row (Current status) done is = cc
history_place row History done is = let same : row ≡ done = cc in ap (λ r. alone r History) same
history_place row (Deleted reason) done is = cc

stands_in_history : (c : Sets) → RowsSound c → (serial : ℕ) (row : Row) → c.history serial ≡ Some row
    → IsOnlyAt c serial (record { row = row; place = History })
stands_in_history c sound serial row is = elim (cases_issued c.issued serial) [
  | inl within ↦
      let (p, there) = sound.placed serial within.0 within.1 in
      there ∙ history_place p.row p.place row (ap (λ (s : Seat). s.history) (sym there) ∙ is)
  | inr past ↦ let no = ap (λ (s : Seat). s.history) (sound.unissued serial past) in absurd cc
]

-- the lists of the sets, one after another, are the live occurrences
module _ (s : Sets) (planned : List Row) (cp : List CurrentRow) (history : List Row)
    (has : HasLists s planned cp history) (r1 r2 r3 : List PlacedRow) (a1 : AddsRows planned LongTerm [] r1)
    (a2 : AddsCurrent cp r1 r2) (a3 : AddsRows history History r2 r3) where
  all_live : (serial : ℕ) (row : Row) (place : Place) → IsOnlyAt s serial (record { row = row; place = place })
      → IsLive place → Contains r3 (record { row = row; place = place }) × (row.serial ≡ serial)
  all_live serial row LongTerm stands live =
      let p : PlacedRow = record { row = row; place = LongTerm } in
      let numbered : row.serial ≡ serial = has.sound.numbered serial p stands in
      let there : s.ltp row.serial ≡ Some row = subst (λ n. s.ltp n ≡ Some row) (sym numbered)
      (ap (λ (x : Seat). x.ltp) stands) in
      ((a3 p).1 (inl ((a2 p).1 (inl ((a1 p).1 (inr ((has.ltp row).1 there, refl)))))), numbered)
  all_live serial row (Current status) stands live =
      let current : CurrentRow = record { row = row; status = status } in
      let p : PlacedRow = record { row = row; place = Current status } in
      let numbered : row.serial ≡ serial = has.sound.numbered serial p stands in
      let there : s.cp row.serial ≡ Some current = subst (λ n. s.cp n ≡ Some current) (sym numbered)
      (ap (λ (x : Seat). x.cp) stands) in (
        (a3 p).1
            (inl ((a2 p).1
            (inr (record { status = status; listed = (has.cp current).1 there; placed = refl; stays = live })))),
        numbered,
      )
  all_live serial row History stands live =
      let p : PlacedRow = record { row = row; place = History } in
      let numbered : row.serial ≡ serial = has.sound.numbered serial p stands in
      let there : s.history row.serial ≡ Some row = subst (λ n. s.history n ≡ Some row) (sym numbered)
      (ap (λ (x : Seat). x.history) stands) in
      ((a3 p).1 (inr ((has.history row).1 there, refl)), numbered)
  all_live serial row (Deleted reason) stands live = absurd live

  only_live : (p : PlacedRow) → Contains r3 p → IsOnlyAt s p.row.serial p × IsLive p.place
  only_live p there = elim ((a3 p).0 there) [
    | inr done ↦ (
      stands_in_history s has.sound p.row.serial p.row ((has.history p.row).0 done.0)
          ∙ ap (alone p.row) (sym done.1),
      subst IsLive (sym done.1) tt,
    )
    | inl in_2 ↦ elim ((a2 p).0 in_2) [
      | inr now ↦
          let current : CurrentRow = record { row = p.row; status = now.status } in (
            stands_in_cp s has.sound p.row.serial current ((has.cp current).0 now.listed)
                ∙ ap (alone p.row) (sym now.placed),
            subst IsLive (sym now.placed) now.stays,
          )
      | inl in_1 ↦ elim ((a1 p).0 in_1) [
        | inr first ↦ (
          stands_in_ltp s has.sound p.row.serial p.row ((has.ltp p.row).0 first.0)
              ∙ ap (alone p.row) (sym first.1),
          subst IsLive (sym first.1) tt,
        )
        | inl nothing ↦ absurd (none p nothing)
      ]
    ]
  ]

  pub are_live : AreLiveRows s r3
  are_live = record { all = λ serial p stands live. all_live serial p.row p.place stands live; only = only_live }

-- the lists, one after another, have what they list
pub are_listed : (planned : List Row) (current : List CurrentRow) (completed : List Row) (r1 r2 r3 : List PlacedRow)
    → AddsRows planned LongTerm [] r1 → AddsCurrent current r1 r2 → AddsRows completed History r2 r3
    → (p : PlacedRow) → Contains r3 p ↔ IsInLists planned current completed p
are_listed planned current completed r1 r2 r3 a1 a2 a3 p = (
  (λ there. elim ((a3 p).0 there) [
    | inr done ↦ inr (inr done)
    | inl in_2 ↦ elim ((a2 p).0 in_2) [
      | inr now ↦ inr (inl now)
      | inl in_1 ↦ elim ((a1 p).0 in_1) [ inl nothing ↦ absurd (none p nothing) | inr first ↦ inl first ]
    ]
  ]),
  λ is. elim is [
    | inl first ↦ (a3 p).1 (inl ((a2 p).1 (inl ((a1 p).1 (inr first)))))
    | inr beside ↦ elim beside [
      | inl now ↦ (a3 p).1 (inl ((a2 p).1 (inr now)))
      | inr done ↦ (a3 p).1 (inr done)
    ]
  ],
)

-- the list of a whole set
pub of_set : {X : Type 0} (row_of : X → Row) (set : ℕ → Option X) (xs : List X) → ListsSet row_of set IsAny xs
    → (x : X) → Contains xs x ↔ (set (row_of x).serial ≡ Some x)
of_set row_of set xs lists x = ((λ has. ((lists.exactly x).0 has).0), λ at. (lists.exactly x).1 (at, tt))

pub not_live : (status : Status) → (status ≢ D → ⊥) → status ≡ D
not_live W dead = absurd (dead (λ is. cc))
not_live S dead = absurd (dead (λ is. cc))
not_live E dead = absurd (dead (λ is. cc))
not_live C dead = absurd (dead (λ is. cc))
not_live D dead = refl
