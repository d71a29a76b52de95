-- Fresh content: what leaves it, and what keeps it.
use Rattle.std.proofs.Common.{◌≡◌, ◌⊎◌, ℕ, zero, suc, ◌+◌, ◌<◌, ◌≤◌, true, false, List, [], ◌∷◌, length}
use Rattle.std.proofs.Common.{refl, sym, ap, subst, ◌∙◌, inl, inr, arith, Some, get_or}
use Rattle.std.specs.Prelude.{Contains}
use Rattle.std.specs.List.{AllPairs}
use Rattle.std.proofs.lemmas.Bool.{cases_eq, cases_order}
use Rattle.std.proofs.lemmas.Option.{get_or_from_slice_get, slice_get_cases}
use Rattle.app_definitions.specs.declared.definitions.Definitions.{Definitions}
use Rattle.occurrences.specs.Key.{KeyBefore, key_eq}
use Rattle.occurrences.proofs.KeyLemmas.{key_strict, other_key, same_key}
use Rattle.occurrences.specs.declared.key.Key.{Key}
use Rattle.occurrences.specs.declared.place.Place.{Place}
use Rattle.occurrences.specs.declared.place.Place.TheVariants.{LongTerm, Current, History, Deleted}
use Rattle.occurrences.specs.declared.place.Reason.TheVariants.{Operator, Plan, Withdrawn}
use Rattle.occurrences.specs.declared.row.Origin.{Origin}
use Rattle.occurrences.specs.declared.row.Origin.TheVariants.{Added, Generated}
use Rattle.occurrences.specs.declared.row.Row.{Row}
use Rattle.external_dependencies.specs.declared.rows.PlacedRow.{PlacedRow}
use Rattle.planner_machine.specs.declared.content.Bounds.{Bounds}
use Rattle.planner_machine.specs.declared.content.Draft.{Draft}
use Rattle.planner_machine.specs.Content.{Content, Sets, IsOnlyAt}
use Rattle.planner_machine.specs.Drafts.{NamesDraft}
use Rattle.planner_machine.specs.Fate.{Fate, IsGenerated}
use Rattle.planner_machine.specs.Fresh.{IsFresh, IsLeftOut, LeavesOut, NamesInPlan, StandsSo, draft_of_row}
use Rattle.planner_machine.specs.Fresh.{FreshIsExact}
use Rattle.planner_machine.specs.Laws.{Follows}
use Rattle.planner_machine.specs.Moves.{numbered_row}
use Rattle.planner_machine.specs.RowsSound.{RowsSound}
use Rattle.planner_machine.specs.Sound.{IsSound}
use Rattle.planner_machine.proofs.AssembleLemmas.{in_deletions, in_ltp}
use Rattle.planner_machine.proofs.FollowLemmas.{FateKeeps, came, draft_generated}
use Rattle.planner_machine.proofs.SeatLemmas.{cases_issued, not_empty, one_place}

-- what can be told
abbrev pub Told : Type 0 → Type 0
Told P = P ⊎ (P → ⊥)

pub both_told : {P Q : Type 0} → Told P → Told Q → Told (P × Q)
both_told (inl p) (inl q) = inl (p, q)
both_told (inl p) (inr never) = inr (λ pq. never pq.1)
both_told (inr never) q = inr (λ pq. never pq.0)

pub key_told : (a b : Key) → Told (a ≡ b)
key_told a b = elim (key_eq a b) as (λ r. key_eq a b ≡ r → Told (a ≡ b)) [
  | true ↦ λ is. inl (same_key a b is)
  | false ↦ λ is. inr (other_key a b is)
] refl

pub ltp_told : (place : Place) → Told (place ≡ LongTerm)
ltp_told LongTerm = inl refl
ltp_told (Current status) = inr (λ is. cc)
ltp_told History = inr (λ is. cc)
ltp_told (Deleted reason) = inr (λ is. cc)

pub operator_told : (place : Place) → Told (place ≡ Deleted Operator)
operator_told LongTerm = inr (λ is. cc)
operator_told (Current status) = inr (λ is. cc)
operator_told History = inr (λ is. cc)
operator_told (Deleted Operator) = inl refl
operator_told (Deleted Withdrawn) = inr (λ is. let apart : Withdrawn ≡ Operator = cc in cc)
operator_told (Deleted Plan) = inr (λ is. let apart : Plan ≡ Operator = cc in cc)

pub origin_told : (origin : Origin) → (origin ≡ Added) ⊎ IsGenerated origin
origin_told (Generated name) = inr tt
origin_told Added = inl refl

pub not_generated : (origin : Origin) → origin ≡ Added → IsGenerated origin → ⊥
not_generated origin is h = subst IsGenerated is h

-- a number up to a bound that is such, or that there is none
module _ (P : ℕ → Type 0) (decide : (n : ℕ) → Told (P n)) where
  up_to : (n : ℕ) → ((m : ℕ) × P m) ⊎ ((m : ℕ) → m ≤ n → P m → ⊥)
  up_to zero = elim (decide zero) [
    | inl is ↦ inl (zero, is)
    | inr never ↦ inr (λ m le is. let same : m ≡ zero = omega arith in never (subst P same is))
  ]
  up_to (suc n) = elim (decide (suc n)) [
    | inl is ↦ inl (suc n, is)
    | inr never ↦ elim (up_to n) [
      | inl found ↦ inl found
      | inr none ↦ inr (λ m le is. elim (cases_eq m (suc n)) [
        | inl same ↦ never (subst P same is)
        | inr apart ↦ none m (omega arith) is
      ])
    ]
  ]

module _ (s : Sets) (sound : RowsSound s) (Q : PlacedRow → Type 0) (decide : (p : PlacedRow) → Told (Q p)) where
  at_told : (serial : ℕ) → Told ((p : PlacedRow) × (IsOnlyAt s serial p × Q p))
  at_told serial = elim (cases_issued s.issued serial) [
    | inr past ↦ inr (λ is. not_empty s serial is.0 is.1.0 (sound.unissued serial past))
    | inl within ↦
        let here = sound.placed serial within.0 within.1 in
        elim (decide here.0) [
          | inl is ↦ inl (here.0, (here.1, is))
          | inr never ↦ inr (λ is. never (subst Q (one_place s serial is.0 here.0 is.1.0 here.1) is.1.1))
        ]
  ]

  -- some row stands so, or none does
  pub some_stands : ((serial : ℕ) × ((p : PlacedRow) × (IsOnlyAt s serial p × Q p)))
      ⊎ ((serial : ℕ) (p : PlacedRow) → IsOnlyAt s serial p → Q p → ⊥)
  some_stands = elim (up_to (λ serial. (p : PlacedRow) × (IsOnlyAt s serial p × Q p)) at_told s.issued) [
    | inl found ↦ inl found
    | inr none ↦ inr (λ serial p there is. elim (cases_issued s.issued serial) [
      | inl within ↦ none serial within.1 (p, (there, is))
      | inr past ↦ not_empty s serial p there (sound.unissued serial past)
    ])
  ]

-- the two ways of being left out
pub out_cases : (origin : Origin) (place : Place) → LeavesOut origin place
    → ((place ≡ LongTerm) × (origin ≡ Added)) ⊎ (place ≡ Deleted Operator)
out_cases origin LongTerm out = inl (refl, out)
out_cases origin (Current status) out = absurd out
out_cases origin History out = absurd out
out_cases origin (Deleted reason) out = inr (ap Deleted out)

pub left_out_operator : (s : Sets) (serial : ℕ) (p : PlacedRow) → IsOnlyAt s serial p → p.place ≡ Deleted Operator
    → (key : Key) → p.row.key ≡ key → IsLeftOut s key
left_out_operator s serial p there is key keyed = record {
  serial = serial;
  placed = p;
  stands = there;
  keyed = keyed;
  out = subst (LeavesOut p.row.origin) (sym is) refl;
}

pub left_out_added : (s : Sets) (serial : ℕ) (p : PlacedRow) → IsOnlyAt s serial p → p.place ≡ LongTerm
    → p.row.origin ≡ Added → (key : Key) → p.row.key ≡ key → IsLeftOut s key
left_out_added s serial p there is added key keyed = record {
  serial = serial;
  placed = p;
  stands = there;
  keyed = keyed;
  out = subst (LeavesOut p.row.origin) (sym is) added;
}

pub at_ltp : (p : PlacedRow) → p.place ≡ LongTerm → p ≡ record { row = p.row; place = LongTerm }
at_ltp p is = ap (λ (x : Place). record { row = p.row; place = x }) is

live_ltp : (c : Content) → IsSound c → (m n : ℕ) (p q : PlacedRow) → IsOnlyAt c.sets m p → IsOnlyAt c.sets n q
    → p.place ≡ LongTerm → q.place ≡ LongTerm → p.row.key ≡ q.row.key → p ≡ q
live_ltp c sound m n p q at_p at_q ltp_p ltp_q same =
    let a : IsOnlyAt c.sets m (record { row = p.row; place = LongTerm }) = subst (IsOnlyAt c.sets m) (at_ltp p ltp_p) at_p in
    let b : IsOnlyAt c.sets n (record { row = q.row; place = LongTerm }) = subst (IsOnlyAt c.sets n) (at_ltp q ltp_q) at_q in
    let serials : m ≡ n = sound.keys m n (record { row = p.row; place = LongTerm })
    (record { row = q.row; place = LongTerm }) a b tt tt same in
    one_place c.sets n p q (subst (λ k. IsOnlyAt c.sets k p) serials at_p) at_q

-- fresh content, by the drafts of its generated rows
pub fresh_exact : FreshIsExact
fresh_exact c sound fresh draft = (forward, backward)
  where
    forward : StandsSo c.sets draft × IsGenerated draft.origin
        → NamesInPlan c.definitions fresh.bounds draft × (IsLeftOut c.sets draft.key → ⊥)
    forward ((serial, there), generated) = (fresh.named serial (numbered_row serial draft) there generated, clear)
      where
        row : PlacedRow
        row = record { row = numbered_row serial draft; place = LongTerm }

        clear : IsLeftOut c.sets draft.key → ⊥
        clear out = elim (out_cases out.placed.row.origin out.placed.place out.out) [
          | inl added ↦
              let same = live_ltp c sound out.serial serial out.placed
              (record { row = numbered_row serial draft; place = LongTerm }) out.stands there added.0 refl out.keyed in
              not_generated draft.origin (ap (λ (p : PlacedRow). p.row.origin) (sym same) ∙ added.1) generated
          | inr operator ↦ sound.arrivals.not_deleted serial (numbered_row serial draft)
              (in_ltp c.sets serial (record { row = numbered_row serial draft; place = LongTerm }) refl there) generated
              out.serial (record { row = out.placed.row; reason = Operator })
              (in_deletions c.sets out.serial out.placed operator out.stands) refl out.keyed
        ]

    backward : NamesInPlan c.definitions fresh.bounds draft × (IsLeftOut c.sets draft.key → ⊥)
        → StandsSo c.sets draft × IsGenerated draft.origin
    backward (names, clear) = elim (fresh.stands draft names) [
      | inl stands ↦ (stands, draft_generated c.definitions draft names.0)
      | inr out ↦ absurd (clear out)
    ]

-- what is named and stands in the long-term plan is named in its days
in_plan : (c : Content) → IsSound c → (b : Bounds) → c.sets.bounds ≡ Some b → (serial : ℕ) (row : Row)
    → IsOnlyAt c.sets serial (record { row = row; place = LongTerm }) → NamesDraft c.definitions (draft_of_row row)
    → NamesInPlan c.definitions b (draft_of_row row)
in_plan c sound b is serial row there names =
    let arrives = sound.arrivals.in_bounds b is serial (record { row = row; place = LongTerm }) there in
    (names, arrives.0, arrives.1)

-- fresh content from what is named, and from what stands
pub fresh_of : (c : Content) → IsSound c → (b : Bounds) → c.sets.bounds ≡ Some b
    → ((serial : ℕ) (row : Row) → IsOnlyAt c.sets serial (record { row = row; place = LongTerm })
    → IsGenerated row.origin → NamesDraft c.definitions (draft_of_row row))
    → ((draft : Draft) → NamesInPlan c.definitions b draft → StandsSo c.sets draft ⊎ IsLeftOut c.sets draft.key)
    → IsFresh c
fresh_of c sound b is named stands = record {
  bounds = b;
  planned = is;
  named = λ serial row there generated. in_plan c sound b is serial row there (named serial row there generated);
  stands = stands;
}

-- a draft that is made stands
pub made_stands : (fate : Fate) (drafts : List Draft) (s s' : Sets) → Follows LongTerm fate drafts s s' → (draft : Draft)
    → Contains drafts draft → StandsSo s' draft
made_stands fate drafts s s' f draft (k, lt, at) = elim (slice_get_cases drafts k).1 [
  | inl (d, within, is, here) ↦
      let same : d ≡ draft = sym (get_or_from_slice_get drafts k d draft is) ∙ at in
      (s.issued + 1 + k, f.new k draft (is ∙ ap Some same))
  | inr past ↦ absurd (omega (arith, lt, past.0))
]

-- what a fate makes of a row of the long-term plan that arrives from a moment on, and of one that an operator deleted:
-- it stays, or an operator deletes it; and it stays
pub record Leaves (fate : Fate) (from : ℕ) : Type 0 where
  pub keeps : FateKeeps fate
  pub row : (p q : PlacedRow) → fate p q → q.row ≡ p.row
  pub ltp : (p q : PlacedRow) → fate p q → p.place ≡ LongTerm → from ≤ p.row.key.ia
      → (q ≡ p) ⊎ (q ≡ record { row = p.row; place = Deleted Operator })
  pub deleted : (p q : PlacedRow) → fate p q → p.place ≡ Deleted Operator → q ≡ p

module _ (fate : Fate) (from : ℕ) (leaves : Leaves fate from) (place : Place) (drafts : List Draft) (s s' : Sets)
    (f : Follows place fate drafts s s') (draft : Draft) (late : from ≤ draft.key.ia) where
  carried_out : IsLeftOut s draft.key → IsLeftOut s' draft.key
  carried_out out =
      let went = f.old out.serial out.placed out.stands in
      elim (out_cases out.placed.row.origin out.placed.place out.out) [
        | inl added ↦
            let ia : out.placed.row.key.ia ≡ draft.key.ia = ap (λ (k : Key). k.ia) out.keyed in
            elim (leaves.ltp out.placed went.0 went.1 added.0 (omega arith)) [
              | inl same ↦ left_out_added s' out.serial out.placed (subst (IsOnlyAt s' out.serial) same went.2) added.0
                  added.1 draft.key out.keyed
              | inr gone ↦ left_out_operator s' out.serial (record { row = out.placed.row; place = Deleted Operator })
                  (subst (IsOnlyAt s' out.serial) gone went.2) refl draft.key out.keyed
            ]
        | inr operator ↦ left_out_operator s' out.serial out.placed
            (subst (IsOnlyAt s' out.serial) (leaves.deleted out.placed went.0 went.1 operator) went.2) operator
            draft.key out.keyed
      ]

  pub carried : StandsSo s draft ⊎ IsLeftOut s draft.key → StandsSo s' draft ⊎ IsLeftOut s' draft.key
  carried (inr out) = inr (carried_out out)
  carried (inl (serial, there)) =
      let row : PlacedRow = record { row = numbered_row serial draft; place = LongTerm } in
      let went = f.old serial (record { row = numbered_row serial draft; place = LongTerm }) there in
      elim (leaves.ltp (record { row = numbered_row serial draft; place = LongTerm }) went.0 went.1 refl late) [
        | inl same ↦ inl (serial, subst (IsOnlyAt s' serial) same went.2)
        | inr gone ↦ inr (left_out_operator s' serial (record {
          row = numbered_row serial draft;
          place = Deleted Operator;
        }) (subst (IsOnlyAt s' serial) gone went.2) refl draft.key refl)
      ]

-- what is named before is named after, where rows stay as they are and what is made is named
module _ (fate : Fate) (from : ℕ) (leaves : Leaves fate from) (place : Place) (drafts : List Draft) (all : Definitions)
    (s s' : Sets) (sound : RowsSound s) (sound' : RowsSound s') (f : Follows place fate drafts s s')
    (made : (draft : Draft) → Contains drafts draft → place ≡ LongTerm → IsGenerated draft.origin → NamesDraft all draft)
    (before : (serial : ℕ) (row : Row) → IsOnlyAt s serial (record { row = row; place = LongTerm })
    → IsGenerated row.origin → NamesDraft all (draft_of_row row)) where
  pub named_after : (serial : ℕ) (row : Row) → IsOnlyAt s' serial (record { row = row; place = LongTerm })
      → IsGenerated row.origin → NamesDraft all (draft_of_row row)
  named_after serial row there generated =
      elim (came place fate drafts s s' sound sound' f serial (record { row = row; place = LongTerm }) there) [
        | inl (p, was, goes) ↦
            let same : row ≡ p.row = leaves.row p (record { row = row; place = LongTerm }) goes in
            let ltp : p.place ≡ LongTerm = leaves.keeps.ltp p (record { row = row; place = LongTerm }) goes refl in
            subst (λ (r : Row). NamesDraft all (draft_of_row r)) (sym same)
            (before serial p.row (subst (IsOnlyAt s serial) (at_ltp p ltp) was)
            (subst (λ (r : Row). IsGenerated r.origin) same generated))
        | inr new ↦
            let rows : row ≡ numbered_row serial new.draft = ap (λ (p : PlacedRow). p.row) new.is in
            let ltp : place ≡ LongTerm = ap (λ (p : PlacedRow). p.place) (sym new.is) in
            subst (λ (r : Row). NamesDraft all (draft_of_row r)) (sym rows)
            (made new.draft new.listed ltp (subst (λ (r : Row). IsGenerated r.origin) rows generated))
      ]

-- one draft of a key is named
pub one_of_key : (drafts : List Draft) → AllPairs (λ a b. KeyBefore a.key b.key) drafts → (a b : Draft)
    → Contains drafts a → Contains drafts b → a.key ≡ b.key → a ≡ b
one_of_key drafts rising a b (i, i_lt, at_a) (j, j_lt, at_b) same = elim (cases_order i j) [
  | inl equal ↦ sym at_a ∙ ap (λ k. get_or drafts k a) equal ∙ any_default drafts j a b j_lt ∙ at_b
  | inr apart ↦ elim apart [
    | inl less ↦ absurd (before i j a b less j_lt at_a at_b same)
    | inr more ↦ absurd (before j i b a more i_lt at_b at_a (sym same))
  ]
]
  where
    any_default : (xs : List Draft) (k : ℕ) (d e : Draft) → k < length xs → get_or xs k d ≡ get_or xs k e
    any_default [] k d e lt = absurd (omega arith)
    any_default (x ∷ xs) zero d e lt = refl
    any_default (x ∷ xs) (suc k) d e lt = any_default xs k d e (omega arith)

    before : (m n : ℕ) (x y : Draft) → m < n → n < length drafts → get_or drafts m x ≡ x → get_or drafts n y ≡ y
        → x.key ≡ y.key → ⊥
    before m n x y lt within at_x at_y keys =
        let order = rising m n x lt within in
        let one : get_or drafts n x ≡ y = any_default drafts n x y within ∙ at_y in
        let rises : KeyBefore x.key y.key = subst (λ (z : Draft). KeyBefore x.key z.key) one
        (subst (λ (z : Draft). KeyBefore z.key (get_or drafts n x).key) at_x order) in
        key_strict.irreflexive y.key (subst (λ (k : Key). KeyBefore k y.key) keys rises)
