-- The least predecessor that isn't complete.
use Rattle.std.proofs.Common.{◌≡◌, ◌↔◌, ℕ, ◌+◌, ◌<◌, ◌≤◌, List, length, get_or, refl, arith, sym, ap, subst, ◌∙◌, inl}
use Rattle.std.proofs.Common.{inr, Some, None, Option}
use Rattle.std.specs.List.{AllWithin, Contains}
use Rattle.std.specs.Ordering.{MatchOrdering}
use Rattle.std.specs.declared.cmp.Ordering.TheVariants.{Less}
use Rattle.std.proofs.lemmas.List.{get_or_default}
use Rattle.std.proofs.lemmas.Bool.{cases_eq, cases_lt}
use Rattle.occurrences.specs.Place.{IsLive, IsOpen}
use Rattle.occurrences.specs.Status.{changed_status}
use Rattle.occurrences.specs.declared.place.Place.{Place}
use Rattle.occurrences.specs.declared.place.Place.TheVariants.{LongTerm, Current, History, Deleted}
use Rattle.occurrences.specs.declared.row.Row.{Row}
use Rattle.occurrences.specs.declared.status.Action.TheVariants.{Start}
use Rattle.occurrences.specs.declared.status.Status.{Status}
use Rattle.occurrences.specs.declared.status.Status.TheVariants.{W, S, E, C, D}
use Rattle.external_dependencies.specs.Pair.{PairBefore, pair_cmp}
use Rattle.external_dependencies.specs.Rising.{IsRising}
use Rattle.external_dependencies.specs.declared.live.Arrival.{Arrival}
use Rattle.external_dependencies.specs.declared.pairs.Pair.{Pair}
use Rattle.external_dependencies.specs.declared.rows.PlacedRow.{PlacedRow}
use Rattle.external_dependencies.proofs.LexLemmas.{pairs_ordered}
use Rattle.planner_machine.specs.Act.{IsLeastUncompleted, IsUncompleted}
use Rattle.planner_machine.specs.Content.{Content, Seat, Sets, IsOnlyAt, alone, seat}
use Rattle.planner_machine.specs.Pairs.{IsCompleteAt, pair_of}
use Rattle.planner_machine.specs.Sound.{IsSound}
use Rattle.planner_machine.proofs.SeatLemmas.{one_place}
use Rattle.plan_store.specs.Views.{IsOutside}
use Rattle.plan_store.proofs.PlaceLemmas.{stands_cp}
use Rattle.daily_planning.specs.Actions.{LivesAt}

module _ (c : Content) (serial : ℕ) (list : List Pair) (rising : IsRising pair_cmp list)
    (all : (pair : Pair) → Contains list pair ↔ (Contains c.pairs pair × (pair.successor ≡ serial))) where
  abbrev pub IsDone : Pair → Type 0
  IsDone pair = IsCompleteAt c.sets pair.predecessor

  of_serial : (pair : Pair) → pair.successor ≡ serial → pair_of serial pair.predecessor ≡ pair
  of_serial pair is i = record { successor = sym is i; predecessor = pair.predecessor }

  pub more_done : (index : ℕ) → index < length list → AllWithin IsDone list 0 index → (pair : Pair)
      → get_or list index pair ≡ pair → IsDone pair → AllWithin IsDone list 0 (index + 1)
  more_done index inside done pair at complete k d low lt = elim (cases_lt k index) [
    | inl early ↦ done k d low early
    | inr late ↦
        let same : index ≡ k = omega (arith, late, lt) in
        let here : get_or list index d ≡ pair = get_or_default list index d pair inside ∙ at in
        subst (λ n. IsDone (get_or list n d)) same (subst IsDone (sym here) complete)
  ]

  pub none_waits : AllWithin IsDone list 0 (length list) → (n : ℕ) → IsUncompleted c serial n → ⊥
  none_waits done n (has, waits) =
      let (k, lt, at) = (all (pair_of serial n)).1 (has, refl) in
      waits (subst IsDone at (done k (pair_of serial n) (omega arith) lt))

  before : (a b : Pair) → pair_cmp a b ≡ Less → a.successor ≡ b.successor → a.predecessor < b.predecessor
  before a b less same =
      elim (subst (λ o. MatchOrdering o (PairBefore a b) (a ≡ b) (PairBefore b a)) less (pairs_ordered.ranks a b)) [
        | inl first ↦ omega (arith, first, same)
        | inr both ↦ both.1
      ]

  pub first_waits : (index : ℕ) → index < length list → AllWithin IsDone list 0 index → (pair : Pair)
      → get_or list index pair ≡ pair → (IsDone pair → ⊥) → IsLeastUncompleted c serial pair.predecessor
  first_waits index inside done pair at waits =
      ((subst (Contains c.pairs) (sym (of_serial pair own)) has.0, waits), least)
    where
      has : Contains c.pairs pair × (pair.successor ≡ serial)
      has = (all pair).0 (index, inside, at)

      own : pair.successor ≡ serial
      own = has.1

      least : (m : ℕ) → IsUncompleted c serial m → pair.predecessor ≤ m
      least m (there, lacks) =
          let (k, lt, is) = (all (pair_of serial m)).1 (there, refl) in
          elim (cases_lt k index) [
            | inl early ↦ absurd (lacks (subst IsDone is (done k (pair_of serial m) (omega arith) early)))
            | inr late ↦ elim (cases_eq index k) [
              | inl same ↦
                  let e : get_or list index (pair_of serial m) ≡ pair_of serial m =
                  ap (λ n. get_or list n (pair_of serial m)) same ∙ is in
                  let one : get_or list index (pair_of serial m) ≡ pair =
                  get_or_default list index (pair_of serial m) pair inside ∙ at in
                  let p : m ≡ pair.predecessor = ap (λ (x : Pair). x.predecessor) (sym e ∙ one) in omega (arith, p)
              | inr other ↦
                  let less : pair_cmp (get_or list index pair) (get_or list k pair) ≡ Less =
                  rising index k pair (omega (arith, late, other)) lt in
                  let e : get_or list k pair ≡ pair_of serial m = get_or_default list k pair (pair_of serial m) lt
                  ∙ is in
                  let here : pair_cmp pair (pair_of serial m) ≡ Less =
                  subst (λ x. pair_cmp x (pair_of serial m) ≡ Less) at
                  (subst (λ y. pair_cmp (get_or list index pair) y ≡ Less) e less) in
                  let below : pair.predecessor < m = before pair (pair_of serial m) here own in
                  omega (arith, below)
            ]
          ]

-- only what waits is started
pub started_waits : (was now : Status) → changed_status was Start ≡ Some now → was ≡ W
started_waits W now is = refl
started_waits S now is = cc
started_waits E now is = cc
started_waits C now is = cc
started_waits D now is = cc

-- the predecessors of what waits live
pub predecessor_lives : (c : Content) → IsSound c → (row : Row)
    → c.sets.cp row.serial ≡ Some (record { row = row; status = W }) → (pair : Pair) → Contains c.pairs pair
    → pair.successor ≡ row.serial → LivesAt c.sets pair.predecessor
predecessor_lives c sound row waits pair there own = elim ((sound.pairs.settled.exactly pair).0 there) [
  | inl is ↦
      let (serial, p, stands, live, arrives) = is.nearest.live in
      let same : serial ≡ pair.predecessor = sym (sound.serials.numbered serial p stands)
      ∙ ap (λ (a : Arrival). a.serial) arrives ∙ is.predecessor in
      (p, subst (λ n. IsOnlyAt c.sets n p) same stands, live)
  | inr is ↦
      let at = stands_cp c.sets sound.serials row.serial (record { row = row; status = W }) waits in
      let one = one_place c.sets row.serial (record { row = row; place = Current W }) is.placed at
      (subst (λ n. IsOnlyAt c.sets n is.placed) own is.stands) in
      absurd (is.waits_no_more (subst (λ (p : PlacedRow). IsOpen p.place) one refl))
]

-- what lives stands in a plan or in history
pub outside_dead : (s : Sets) (serial : ℕ) → IsOutside s serial → LivesAt s serial → ⊥
outside_dead s serial outside (p, stands, live) = by_place p.place p.row stands live
  where
    no : {X : Type 0} (o : Option X) (x : X) → o ≡ None → o ≡ Some x → ⊥
    no o x none some = cc

    by_place : (place : Place) (row : Row) → seat s serial ≡ alone row place → IsLive place → ⊥
    by_place LongTerm row at live = no (s.ltp serial) row outside.ltp (ap (λ (x : Seat). x.ltp) at)
    by_place (Current status) row at live =
        no (s.cp serial) (record { row = row; status = status }) outside.cp (ap (λ (x : Seat). x.cp) at)
    by_place History row at live = no (s.history serial) row outside.history (ap (λ (x : Seat). x.history) at)
    by_place (Deleted reason) row at live = live
