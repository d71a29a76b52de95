-- Rows made, numbered after those issued.
use Rattle.std.proofs.Common.{◌≡◌, ◌≢◌, ℕ, suc, ◌+◌, ◌-◌, ◌≤◌, ◌<◌, ◌⊎◌, true, false, List, length, get_or, refl, sym}
use Rattle.std.proofs.Common.{ap, subst, ◌∙◌, inl, inr, arith, Option, None, Some}
use Rattle.std.specs.Prelude.{Contains, nat_lt, slice_get}
use Rattle.std.specs.List.{AllPairs}
use Rattle.std.proofs.lemmas.Bool.{cases_lt, cases_order, lt-ltb, le-ltb}
use Rattle.std.proofs.lemmas.Option.{get_or_from_slice_get, slice_get_cases, slice_get_past}
use Rattle.occurrences.specs.Key.{KeyBefore}
use Rattle.occurrences.proofs.KeyLemmas.{key_strict}
use Rattle.occurrences.specs.Place.{IsLive}
use Rattle.occurrences.specs.declared.key.Key.{Key}
use Rattle.occurrences.specs.declared.place.Place.{Place}
use Rattle.occurrences.specs.declared.place.Place.TheVariants.{LongTerm, Current, History, Deleted}
use Rattle.occurrences.specs.declared.row.Row.{Row}
use Rattle.external_dependencies.specs.declared.rows.PlacedRow.{PlacedRow}
use Rattle.planner_machine.specs.declared.content.Bounds.{Bounds}
use Rattle.planner_machine.specs.declared.content.Draft.{Draft}
use Rattle.planner_machine.specs.Content.{Seat, Sets, IsOnlyAt, alone, empty_seat, seat}
use Rattle.planner_machine.specs.Sound.{ArrivesIn}
use Rattle.planner_machine.specs.RowsSound.{IsPlacedIn, RowsSound}
use Rattle.planner_machine.specs.Fate.{Stays}
use Rattle.planner_machine.specs.Laws.{Follows}
use Rattle.planner_machine.specs.Moves.{made, numbered_row, seat_made, with_made}
use Rattle.planner_machine.proofs.SeatLemmas.{cases_issued, not_empty, one_place}

made_old : (n : ℕ) (drafts : List Draft) (serial : ℕ) → serial ≤ n → made n drafts serial ≡ None
made_old n drafts serial old = let not_new : nat_lt n serial ≡ false = le-ltb n serial old in rw not_new refl

-- the draft of a new serial, by its place in the list
abbrev IsDraftAt : ℕ → List Draft → ℕ → Draft → Type 0
IsDraftAt n drafts serial draft = (serial - suc n < length drafts) × (slice_get drafts (serial - suc n) ≡ Some draft)
    × (made n drafts serial ≡ Some (numbered_row serial draft))

made_new : (n : ℕ) (drafts : List Draft) (serial : ℕ) → n < serial → serial ≤ n + length drafts → (draft : Draft)
    × IsDraftAt n drafts serial draft
made_new n drafts serial above below =
    let new : nat_lt n serial ≡ true = lt-ltb n serial above in
    elim (slice_get_cases drafts (serial - suc n)).1 [
      | inl (draft, lt, is, at) ↦ (draft, (lt, is, rw (new, is) refl))
      | inr past ↦ absurd (omega (arith, past.0))
    ]

made_past : (n : ℕ) (drafts : List Draft) (serial : ℕ) → n + length drafts < serial → made n drafts serial ≡ None
made_past n drafts serial past =
    let new : nat_lt n serial ≡ true = lt-ltb n serial (omega arith) in
    let none = slice_get_past drafts (serial - suc n) (omega arith) in
    rw (new, none) refl

-- the draft at a place in the list is that of its serial
draft_at : (n : ℕ) (drafts : List Draft) (k : ℕ) (draft : Draft) → slice_get drafts k ≡ Some draft
    → IsDraftAt n drafts (n + 1 + k) draft
draft_at n drafts k draft is =
    let place : n + 1 + k - suc n ≡ k = omega arith in
    let within : k < length drafts =
    elim (slice_get_cases drafts k).1 [
      | inl (d, lt, e, at) ↦ lt
      | inr past ↦
          let no : None ≡ Some draft = sym past.1 ∙ is in absurd cc
    ] in
    let at : slice_get drafts (n + 1 + k - suc n) ≡ Some draft = ap (slice_get drafts) place ∙ is in
    let new : nat_lt n (n + 1 + k) ≡ true = lt-ltb n (n + 1 + k) (omega arith) in
    (omega arith, at, rw (new, at) refl)

module _ (place : Place) (c : Sets) (sound : RowsSound c) (drafts : List Draft) where
  abbrev after : Sets
  after = with_made place drafts c

  same_seat : (serial : ℕ) → made c.issued drafts serial ≡ None → seat after serial ≡ seat c serial
  same_seat serial none = ap (λ m. seat_made place m (seat c serial)) none

  new_seat : (serial : ℕ) (draft : Draft) → c.issued < serial → IsDraftAt c.issued drafts serial draft
      → IsOnlyAt after serial (record { row = numbered_row serial draft; place = place })
  new_seat serial draft above is = ap (λ m. seat_made place m (seat c serial)) is.2

  old_stands : (serial : ℕ) (p : PlacedRow) → IsOnlyAt c serial p → IsOnlyAt after serial p
  old_stands serial p there = elim (cases_issued c.issued serial) [
    | inl within ↦ same_seat serial (made_old c.issued drafts serial within.1) ∙ there
    | inr past ↦ absurd (not_empty c serial p there (sound.unissued serial past))
  ]

  empty_after : (serial : ℕ) → (serial ≡ 0) ⊎ (c.issued + length drafts < serial) → seat after serial ≡ empty_seat
  empty_after serial (inl zero) = same_seat serial (made_old c.issued drafts serial (omega arith))
      ∙ sound.unissued serial (inl zero)
  empty_after serial (inr past) = same_seat serial (made_past c.issued drafts serial past)
      ∙ sound.unissued serial (inr (omega arith))

  -- what stands after is what stood before, or a draft
  Source : ℕ → PlacedRow → Type 0
  Source serial q =
      IsOnlyAt c serial q
      ⊎ ((draft : Draft) × (c.issued < serial) × IsDraftAt c.issued drafts serial draft
      × (record { row = numbered_row serial draft; place = place } ≡ q))

  source : (serial : ℕ) (q : PlacedRow) → IsOnlyAt after serial q → Source serial q
  unfolding Source
  source serial q there = elim (cases_issued (c.issued + length drafts) serial) [
    | inr past ↦ absurd (not_empty after serial q there (empty_after serial past))
    | inl within ↦ elim (cases_lt c.issued serial) [
      | inl above ↦
          let (draft, is) = made_new c.issued drafts serial above within.1 in
          inr (
            draft,
            above,
            is,
            one_place after serial (record {
              row = numbered_row serial draft;
              place = place;
            }) q (new_seat serial draft above is) there,
          )
      | inr old ↦ inl (sym (same_seat serial (made_old c.issued drafts serial old)) ∙ there)
    ]
  ]

  pub made_follows : Follows place Stays drafts c after
  made_follows = record {
    issues = refl;
    old = λ serial p there. (p, refl, old_stands serial p there);
    new = λ k draft is. new_seat (c.issued + 1 + k) draft (omega arith) (draft_at c.issued drafts k draft is);
  }

  module _ (b : Bounds) (bounded : c.bounds ≡ Some b) (ahead : (draft : Draft) → Contains drafts draft
      → ArrivesIn b draft.key.ia place
      × ((serial : ℕ) (p : PlacedRow) → IsOnlyAt c serial p → IsLive p.place
      → p.row.key ≢ draft.key)) (rising : AllPairs (λ (x y : Draft). KeyBefore x.key y.key) drafts) where
    contained : (serial : ℕ) (draft : Draft) → IsDraftAt c.issued drafts serial draft → Contains drafts draft
    contained serial draft is = (serial - suc c.issued, is.0, get_or_from_slice_get drafts _ draft draft is.1)

    apart : (i j : ℕ) (x y : Draft) → i < j → j < length drafts → slice_get drafts i ≡ Some x
        → slice_get drafts j ≡ Some y → x.key ≢ y.key
    apart i j x y lt within at_x at_y same =
        let before = rising i j x lt within in
        let first : get_or drafts i x ≡ x = get_or_from_slice_get drafts i x x at_x in
        let second : get_or drafts j x ≡ y = get_or_from_slice_get drafts j y x at_y in
        let P : Key → Type 0 = λ k. KeyBefore k y.key in
        key_strict.irreflexive y.key (subst P (ap (λ (d : Draft). d.key) first
        ∙ same) (subst (λ (d : Draft). KeyBefore (get_or drafts i x).key d.key) second before))

    -- two drafts of one key are one
    one_draft : (m n : ℕ) (x y : Draft) → c.issued < m → c.issued < n → IsDraftAt c.issued drafts m x
        → IsDraftAt c.issued drafts n y → x.key ≡ y.key → m ≡ n
    one_draft m n x y above above' at_x at_y same = elim (cases_order (m - suc c.issued) (n - suc c.issued)) [
      | inl here ↦ omega arith
      | inr (inl before) ↦ absurd (apart _ _ x y before at_y.0 at_x.1 at_y.1 same)
      | inr (inr after') ↦ absurd (apart _ _ y x after' at_x.0 at_y.1 at_x.1 (sym same))
    ]

    pub made_sound : RowsSound after
    unfolding Source
    made_sound = record {
      bounds = sound.bounds;
      placed = λ serial above below. elim (cases_lt c.issued serial) [
        | inl new ↦ let (draft, is) = made_new c.issued drafts serial new below in
            (record { row = numbered_row serial draft; place = place }, new_seat serial draft new is)
        | inr old ↦ let (p, there) = sound.placed serial above old in (p, old_stands serial p there)
      ];
      unissued = empty_after;
      numbered = λ serial q there. elim (source serial q there) [
        | inl was ↦ sound.numbered serial q was
        | inr (draft, above, is, same) ↦ ap (λ (x : PlacedRow). x.row.serial) (sym same)
      ];
      arrivals = λ serial q there. elim (source serial q there) [
        | inl was ↦ sound.arrivals serial q was
        | inr (draft, above, is, same) ↦
            let ok = ahead draft (contained serial draft is) in
            let in_bounds : IsPlacedIn (Some b) (record { row = numbered_row serial draft; place = place }) = ok.0 in
            subst (λ (x : PlacedRow). IsPlacedIn c.bounds x) same
            (subst (λ (x : Option Bounds). IsPlacedIn x (record {
              row = numbered_row serial draft;
              place = place;
            })) (sym bounded) in_bounds)
      ];
      keys = λ m n p q at_p at_q live_p live_q same. elim (source m p at_p) [
        | inl was ↦ elim (source n q at_q) [
          | inl was' ↦ sound.keys m n p q was was' live_p live_q same
          | inr (draft, above, is, made') ↦
              absurd ((ahead draft (contained n draft is)).1 m p was live_p (same
              ∙ ap (λ (x : PlacedRow). x.row.key) (sym made')))
        ]
        | inr (draft, above, is, made') ↦ elim (source n q at_q) [
          | inl was' ↦ absurd ((ahead draft (contained m draft is)).1 n q was' live_q (sym same
              ∙ ap (λ (x : PlacedRow). x.row.key) (sym made')))
          | inr (draft', above', is', made'') ↦
              one_draft m n draft draft' above above' is is' (ap (λ (x : PlacedRow). x.row.key) made' ∙ same
              ∙ ap (λ (x : PlacedRow). x.row.key) (sym made''))
        ]
      ];
    }

-- a key that arrives in the long-term plan's part, and that no row there has, is that of no live row
pub fresh : (c : Sets) → RowsSound c → (b : Bounds) → c.bounds ≡ Some b → (key : Key) → b.plan_end ≤ key.ia
    → ((serial : ℕ) (row : Row) → c.ltp serial ≡ Some row → row.key ≢ key) → (serial : ℕ) (p : PlacedRow)
    → IsOnlyAt c serial p → IsLive p.place → p.row.key ≢ key
fresh c sound b bounded key late none serial p stands live same = at p.place refl
  where
    in_bounds : ArrivesIn b p.row.key.ia p.place
    in_bounds = subst (λ (x : Option Bounds). IsPlacedIn x p) bounded (sound.arrivals serial p stands)

    moment : p.row.key.ia ≡ key.ia
    moment = ap (λ (k : Key). k.ia) same

    at : (place : Place) → p.place ≡ place → ⊥
    at LongTerm is = none serial p.row (ap (λ (s : Seat). s.ltp) (stands ∙ ap (alone p.row) is)) same
    at (Current status) is = let early = subst (ArrivesIn b p.row.key.ia) is in_bounds in
        omega (arith, early.1, late, moment)
    at History is = let early = subst (ArrivesIn b p.row.key.ia) is in_bounds in omega (arith, early.1, late, moment)
    at (Deleted reason) is = subst IsLive is live
