-- Two sets of rows of which the one has one live occurrence more, and what is nearest in both.
use Rattle.std.proofs.Common.{◌≡◌, ◌≢◌, ◌↔◌, ◌⊎◌, ℕ, ◌<◌, ◌≤◌, List, Option, refl, sym, ap, subst, ◌∙◌, inl, inr, arith}
use Rattle.std.specs.List.{Contains}
use Rattle.std.proofs.lemmas.Bool.{cases_eq}
use Rattle.occurrences.specs.Place.{IsLive}
use Rattle.occurrences.specs.declared.key.Key.{Key}
use Rattle.occurrences.specs.declared.place.Place.{Place}
use Rattle.occurrences.specs.declared.row.Row.{Row}
use Rattle.external_dependencies.specs.Change.{LeadsExactly}
use Rattle.external_dependencies.specs.Nearest.{IsCandidate, IsNearest, arrival_of}
use Rattle.external_dependencies.specs.Pair.{pair_cmp}
use Rattle.external_dependencies.specs.Rising.{IsRising}
use Rattle.external_dependencies.specs.declared.change.PairChange.{PairChange}
use Rattle.external_dependencies.specs.declared.links.Link.{Link}
use Rattle.external_dependencies.specs.declared.live.Arrival.{Arrival}
use Rattle.external_dependencies.specs.declared.pairs.Pair.{Pair}
use Rattle.external_dependencies.specs.declared.rows.PlacedRow.{PlacedRow}
use Rattle.planner_machine.specs.Content.{Sets, IsOnlyAt}
use Rattle.planner_machine.specs.Pairs.{ArePairs, IsKeptPair, IsOpenPair, LiveAt}
use Rattle.planner_machine.proofs.SeatLemmas.{one_place}
use Rattle.plan_store.specs.Changes.{LeadsOn, pairs_after}
use Rattle.plan_store.proofs.PairLemmas.{pairs_after_contains, pairs_after_rising}
use Rattle.plan_store_pairs.proofs.TouchLemmas.{led_on}

-- the second sets have the row besides, which lives there, and no other live occurrence has its key
pub record HasOneMore (small big : Sets) (row : Row) (place : Place) : Type 0 where
  pub stands : IsOnlyAt big row.serial (record { row = row; place = place })
  pub lives : IsLive place
  pub absent : (p : PlacedRow) → IsOnlyAt small row.serial p → IsLive p.place → ⊥
  pub others : (serial : ℕ) → serial ≢ row.serial → (p : PlacedRow) → IsOnlyAt small serial p ↔ IsOnlyAt big serial p
  pub numbered : (serial : ℕ) (p : PlacedRow) → IsOnlyAt big serial p → p.row.serial ≡ serial
  pub own_key : (serial : ℕ) (p : PlacedRow) → IsOnlyAt big serial p → IsLive p.place → p.row.key ≡ row.key
      → serial ≡ row.serial

-- an occurrence doesn't precede itself
pub not_itself : (row : Row) (app : List ℕ) (within : Option ℕ) → IsCandidate row.key app within (arrival_of row) → ⊥
not_itself row app within may = let lt = may.before_own (sym may.of_app) in omega (arith, lt)

-- what lives stands under its serial
pub live_stands : (s : Sets) → ((serial : ℕ) (p : PlacedRow) → IsOnlyAt s serial p → p.row.serial ≡ serial)
    → (a : Arrival) → LiveAt s a
    → (p : PlacedRow) × IsOnlyAt s a.serial p × IsLive p.place × (arrival_of p.row ≡ a)
live_stands s numbered a (n, p, stands, live, arrives) =
    let number : n ≡ a.serial = sym (numbered n p stands) ∙ ap (λ (b : Arrival). b.serial) arrives in
    (p, subst (λ m. IsOnlyAt s m p) number stands, live, arrives)

-- and is told by its serial
pub one_arrival : (s : Sets) → ((serial : ℕ) (p : PlacedRow) → IsOnlyAt s serial p → p.row.serial ≡ serial)
    → (a b : Arrival) → LiveAt s a → LiveAt s b → a.serial ≡ b.serial → a ≡ b
one_arrival s numbered a b live_a live_b same =
    let (p, at_p, _, is_a) = live_stands s numbered a live_a in
    let (q, at_q, _, is_b) = live_stands s numbered b live_b in
    let one : p ≡ q = one_place s b.serial p q (subst (λ n. IsOnlyAt s n p) same at_p) at_q in
    sym is_a ∙ ap (λ (x : PlacedRow). arrival_of x.row) one ∙ is_b

module _ (small big : Sets) (row : Row) (place : Place) (more : HasOneMore small big row place) where
  abbrev itself : PlacedRow
  itself = record { row = row; place = place }

  pub live_row : LiveAt big (arrival_of row)
  live_row = (row.serial, itself, more.stands, more.lives, refl)

  pub not_row : (serial : ℕ) (p : PlacedRow) → IsOnlyAt small serial p → IsLive p.place → serial ≢ row.serial
  not_row serial p stands live same = more.absent p (subst (λ n. IsOnlyAt small n p) same stands) live

  pub live_up : (a : Arrival) → LiveAt small a → LiveAt big a
  live_up a (n, p, stands, live, arrives) =
      (n, p, (more.others n (not_row n p stands live) p).0 stands, live, arrives)

  pub live_down : (a : Arrival) → LiveAt big a → LiveAt small a ⊎ (a ≡ arrival_of row)
  live_down a (n, p, stands, live, arrives) = elim (cases_eq n row.serial) [
    | inl same ↦
        let one : p ≡ itself = one_place big row.serial p itself (subst (λ m. IsOnlyAt big m p) same stands)
        more.stands in
        inr (sym arrives ∙ ap (λ (q : PlacedRow). arrival_of q.row) one)
    | inr other ↦ inl (n, p, (more.others n other p).1 stands, live, arrives)
  ]

  pub other_serial : (a : Arrival) → LiveAt small a → a.serial ≢ row.serial
  other_serial a (n, p, stands, live, arrives) same =
      let at = (more.others n (not_row n p stands live) p).0 stands in
      let number : n ≡ row.serial = sym (more.numbered n p at) ∙ ap (λ (b : Arrival). b.serial) arrives ∙ same in
      not_row n p stands live number

  pub other_moment : (a : Arrival) → LiveAt small a → a.app ≡ row.key.app → a.ia ≢ row.key.ia
  other_moment a (n, p, stands, live, arrives) of_app at_once =
      let at = (more.others n (not_row n p stands live) p).0 stands in
      let app : p.row.key.app ≡ row.key.app = ap (λ (b : Arrival). b.app) arrives ∙ of_app in
      let ia : p.row.key.ia ≡ row.key.ia = ap (λ (b : Arrival). b.ia) arrives ∙ at_once in
      let key : p.row.key ≡ row.key = λ i. record { ia = ia i; app = app i } in
      not_row n p stands live (more.own_key n p at live key)

  module _ (key : Key) (app : List ℕ) (within : Option ℕ) (near : Arrival) where
    -- what is nearest with the row is so without it, unless it is the row
    pub nearest_down : IsNearest (LiveAt big) key app within near → near.serial ≢ row.serial
        → IsNearest (LiveAt small) key app within near
    nearest_down is other = record {
      live = elim (live_down near is.live) [
        | inl below ↦ below
        | inr same ↦ absurd (other (ap (λ (a : Arrival). a.serial) same))
      ];
      candidate = is.candidate;
      greatest = λ a live. is.greatest a (live_up a live);
      last = λ a live. is.last a (live_up a live);
    }

    -- and what is nearest without the row is so with it, where it arrives later than the row or this may not precede
    pub nearest_up : IsNearest (LiveAt small) key app within near
        → (IsCandidate key app within (arrival_of row) → row.key.ia < near.ia)
        → IsNearest (LiveAt big) key app within near
    nearest_up is later = record {
      live = live_up near is.live;
      candidate = is.candidate;
      greatest = λ a live may. elim (live_down a live) [
        | inl below ↦ is.greatest a below may
        | inr same ↦
            let lt = later (subst (IsCandidate key app within) same may) in
            let at : a.ia ≡ row.key.ia = ap (λ (b : Arrival). b.ia) same in
            omega (arith, lt, at)
      ];
      last = λ a live may at_once. elim (live_down a live) [
        | inl below ↦ is.last a below may at_once
        | inr same ↦
            let lt = later (subst (IsCandidate key app within) same may) in
            let at : a.ia ≡ row.key.ia = ap (λ (b : Arrival). b.ia) same in
            absurd (omega (arith, lt, at, at_once))
      ];
    }

  -- the row is nearest where it may precede and no other arrives later
  pub nearest_row : (key : Key) (app : List ℕ) (within : Option ℕ) → IsCandidate key app within (arrival_of row)
      → ((a : Arrival) → LiveAt small a → IsCandidate key app within a → a.ia ≤ row.key.ia)
      → IsNearest (LiveAt big) key app within (arrival_of row)
  nearest_row key app within may latest = record {
    live = live_row;
    candidate = may;
    greatest = λ a live m. elim (live_down a live) [
      | inl below ↦ latest a below m
      | inr same ↦ let at : a.ia ≡ row.key.ia = ap (λ (b : Arrival). b.ia) same in omega (arith, at)
    ];
    last = λ a live m at_once. elim (live_down a live) [
      | inl below ↦ absurd (other_moment a below (m.of_app ∙ sym may.of_app) at_once)
      | inr same ↦ let at : a.serial ≡ row.serial = ap (λ (b : Arrival). b.serial) same in omega (arith, at)
    ];
  }

-- what takes away only what stood and is no pair, and brings only pairs that did not stand, and leaves out none, is
-- exactly the difference
pub exactly_leads : (old : List Pair) (IsNew : Pair → Type 0) (change : PairChange)
    → ((pair : Pair) → Contains change.removed pair → Contains old pair × (IsNew pair → ⊥))
    → ((pair : Pair) → Contains change.added pair → IsNew pair × (Contains old pair → ⊥))
    → ((pair : Pair) → Contains old pair → Contains change.removed pair ⊎ IsNew pair)
    → ((pair : Pair) → IsNew pair → Contains old pair ⊎ Contains change.added pair)
    → LeadsExactly old IsNew change
exactly_leads old IsNew change goes new stays comes = record {
  removed = λ pair. (
    goes pair,
    λ both. elim (stays pair both.0) [
      | inl gone ↦ gone
      | inr is ↦ absurd (both.1 is)
    ],
  );
  added = λ pair. (
    new pair,
    λ both. elim (comes pair both.0) [
      | inl stood ↦ absurd (both.1 stood)
      | inr there ↦ there
    ],
  );
  stays = stays;
  comes = comes;
}

-- and makes the pairs after a statement
pub pairs_exact : (old : List Pair) (links : List Link) (s : Sets) (change : PairChange) → IsRising pair_cmp old
    → LeadsExactly old (λ pair. IsOpenPair links s pair ⊎ IsKeptPair old s pair) change
    → ArePairs old links s (pairs_after change old) × LeadsOn old change
pairs_exact old links s change rising leads = (
  record {
    rising = pairs_after_rising change old rising;
    exactly = λ pair. (
      (λ there. elim ((pairs_after_contains change old pair).0 there) [
        | inl new ↦ ((leads.added pair).0 new).0
        | inr both ↦ elim (leads.stays pair both.0) [ inl gone ↦ absurd (both.1 gone) | inr is ↦ is ]
      ]),
      λ is. (pairs_after_contains change old pair).1 (elim (leads.comes pair is) [
        | inl stood ↦ inr (stood, λ gone. ((leads.removed pair).0 gone).1 is)
        | inr new ↦ inl new
      ]),
    );
  },
  led_on change old (λ pair. IsOpenPair links s pair ⊎ IsKeptPair old s pair) leads,
)
