-- Those of the pairs that a window shows: of what is open, and of the live row of a key.
use Rattle.std.proofs.Common.{◌≡◌, ◌≢◌, ◌↔◌, ◌&&◌, ◌||◌, ℕ, true, List, Some, None, Option, refl, ap, sym, subst}
use Rattle.std.proofs.Common.{inl, inr}
use Rattle.std.specs.Prelude.{is_some, not}
use Rattle.std.specs.List.{Contains}
use Rattle.occurrences.specs.Place.{IsLive, IsOpen}
use Rattle.occurrences.specs.declared.key.Key.{Key}
use Rattle.occurrences.specs.declared.place.CurrentRow.{CurrentRow}
use Rattle.occurrences.specs.declared.place.Place.{Place}
use Rattle.occurrences.specs.declared.place.Place.TheVariants.{LongTerm, Current, History, Deleted}
use Rattle.occurrences.specs.declared.row.Row.{Row}
use Rattle.occurrences.specs.declared.status.Status.{Status}
use Rattle.occurrences.specs.declared.status.Status.TheVariants.{W, S, E, C, D}
use Rattle.occurrences.proofs.KeyLemmas.{key_same}
use Rattle.external_dependencies.specs.declared.pairs.Pair.{Pair}
use Rattle.external_dependencies.specs.declared.rows.PlacedRow.{PlacedRow}
use Rattle.planner_machine.specs.Content.{Seat, Sets, IsOnlyAt, alone, seat}
use Rattle.planner_machine.specs.DailyPlan.{is_deleted}
use Rattle.plan_store_lists.proofs.KeyLemmas.{contains_filter, filter_contains}
use Rattle.plan_store.specs.Views.{needed_pairs, needs_pairs, needs_planned, is_asked, is_of_key, is_waiting}
use Rattle.plan_store_pairs.specs.Planned.{IsOpenRow}
use Rattle.plan_store_pairs.proofs.SetLemmas.{some_keep}

-- ---- what is asked for

-- pairs of what waits are asked for, whatever the key
waiting_asked : (key : Option Key) (x : CurrentRow) → x.status ≡ W → is_asked key x ≡ true
waiting_asked key x is = ap (λ status. is_waiting status || (is_of_key key x.row && not (is_deleted status))) is

-- and for its own key those of a row that is not deleted
own_asked : (row : Row) (status : Status) → status ≢ D
    → is_asked (Some row.key) (record { row = row; status = status }) ≡ true
own_asked row W live = refl
own_asked row S live = rw (key_same row.key row.key refl) refl
own_asked row E live = rw (key_same row.key row.key refl) refl
own_asked row C live = rw (key_same row.key row.key refl) refl
own_asked row D live = absurd (live refl)

module _ (key : Option Key) (s : Sets) (serial : ℕ) where
  pub planned_ltp : (row : Row) → s.ltp serial ≡ Some row → needs_planned key s.ltp s.cp serial ≡ true
  planned_ltp row is = rw is refl

  by_cp : (x : CurrentRow) (o : Option Row) → s.ltp serial ≡ o → s.cp serial ≡ Some x → is_asked key x ≡ true
      → needs_planned key s.ltp s.cp serial ≡ true
  by_cp x None none is asked = rw none (ap is_some (some_keep (is_asked key) (s.cp serial) x is asked))
  by_cp x (Some row) there is asked = planned_ltp row there

  pub planned_waiting : (x : CurrentRow) → s.cp serial ≡ Some x → x.status ≡ W
      → needs_planned key s.ltp s.cp serial ≡ true
  planned_waiting x is waits = by_cp x (s.ltp serial) refl is (waiting_asked key x waits)

  -- what is asked for as of one in a plan is asked for
  of_planned : needs_planned key s.ltp s.cp serial ≡ true → needs_pairs key s.ltp s.cp s.history serial ≡ true
  of_planned asked = rw asked refl

  pub asked_ltp : (row : Row) → s.ltp serial ≡ Some row → needs_pairs key s.ltp s.cp s.history serial ≡ true
  asked_ltp row is = of_planned (planned_ltp row is)

  asked_cp : (x : CurrentRow) → s.cp serial ≡ Some x → is_asked key x ≡ true
      → needs_pairs key s.ltp s.cp s.history serial ≡ true
  asked_cp x is asked = of_planned (by_cp x (s.ltp serial) refl is asked)

  pub asked_waiting : (x : CurrentRow) → s.cp serial ≡ Some x → x.status ≡ W
      → needs_pairs key s.ltp s.cp s.history serial ≡ true
  asked_waiting x is waits = of_planned (planned_waiting x is waits)

-- pairs of what is open are asked for, whatever the key
pub asked_row : (key : Option Key) (s : Sets) (row : Row) → IsOpenRow s row
    → needs_pairs key s.ltp s.cp s.history row.serial ≡ true
asked_row key s row (inl at) = asked_ltp key s row.serial row at
asked_row key s row (inr at) = asked_waiting key s row.serial (record { row = row; status = W }) at refl

asked_open : (key : Option Key) (s : Sets) (p : PlacedRow) → IsOnlyAt s p.row.serial p → IsOpen p.place
    → needs_pairs key s.ltp s.cp s.history p.row.serial ≡ true
asked_open key s p stands waits = open_at p.place p.row stands waits
  where
    open_at : (place : Place) (row : Row) → seat s row.serial ≡ alone row place → IsOpen place
        → needs_pairs key s.ltp s.cp s.history row.serial ≡ true
    open_at LongTerm row stands waits = asked_ltp key s row.serial row (ap (λ (x : Seat). x.ltp) stands)
    open_at (Current status) row stands waits = asked_waiting key s row.serial
        (record { row = row; status = status }) (ap (λ (x : Seat). x.cp) stands) waits
    open_at History row stands waits = absurd waits
    open_at (Deleted reason) row stands waits = absurd waits

-- and for its own key those of a live row of the current plan
pub asked_current : (s : Sets) (row : Row) (status : Status)
    → s.cp row.serial ≡ Some (record { row = row; status = status }) → status ≢ D
    → needs_pairs (Some row.key) s.ltp s.cp s.history row.serial ≡ true
asked_current s row status at live = asked_cp (Some row.key) s row.serial (record { row = row; status = status }) at
    (own_asked row status live)

-- of any live row
pub asked_live : (s : Sets) (row : Row) (place : Place) → IsOnlyAt s row.serial (record { row = row; place = place })
    → IsLive place → needs_pairs (Some row.key) s.ltp s.cp s.history row.serial ≡ true
asked_live s row LongTerm stands live =
    asked_ltp (Some row.key) s row.serial row (ap (λ (x : Seat). x.ltp) stands)
asked_live s row (Current status) stands live = asked_current s row status (ap (λ (x : Seat). x.cp) stands) live
asked_live s row History stands live =
    let ltp : s.ltp row.serial ≡ None = ap (λ (x : Seat). x.ltp) stands in
    let cp : s.cp row.serial ≡ None = ap (λ (x : Seat). x.cp) stands in
    let at : s.history row.serial ≡ Some row = ap (λ (x : Seat). x.history) stands in
    rw (ltp, cp, at, key_same row.key row.key refl) refl
asked_live s row (Deleted reason) stands live = absurd live

-- ---- the pairs that are shown

module _ (key : Option Key) (s : Sets) (shown old : List Pair)
    (is : shown ≡ needed_pairs key s.ltp s.cp s.history old) where
  -- a pair that is asked for is shown
  pub asked_shown : (pair : Pair) → Contains old pair → needs_pairs key s.ltp s.cp s.history pair.successor ≡ true
      → Contains shown pair
  asked_shown pair there asked = subst (λ (ps : List Pair). Contains ps pair) (sym is)
      (filter_contains (λ (p : Pair). needs_pairs key s.ltp s.cp s.history p.successor) old pair there asked)

  -- and what is shown stood
  pub shown_stood : (pair : Pair) → Contains shown pair → Contains old pair
  shown_stood pair there = (contains_filter (λ (p : Pair). needs_pairs key s.ltp s.cp s.history p.successor) old pair
      (subst (λ (ps : List Pair). Contains ps pair) is there)).0

  -- so of what is open all are shown
  pub open_shown : (p : PlacedRow) → IsOnlyAt s p.row.serial p → IsOpen p.place → (pair : Pair)
      → Contains old pair → pair.successor ≡ p.row.serial → Contains shown pair
  open_shown p stands waits pair there same = asked_shown pair there
      (subst (λ n. needs_pairs key s.ltp s.cp s.history n ≡ true) (sym same) (asked_open key s p stands waits))

-- those of one successor that are shown are all that it has, where they are asked for
pub pairs_are : (key : Option Key) (s : Sets) (shown old list : List Pair)
    → shown ≡ needed_pairs key s.ltp s.cp s.history old → (serial : ℕ)
    → needs_pairs key s.ltp s.cp s.history serial ≡ true
    → ((pair : Pair) → Contains list pair ↔ (Contains shown pair × (pair.successor ≡ serial))) → (pair : Pair)
    → Contains list pair ↔ (Contains old pair × (pair.successor ≡ serial))
pairs_are key s shown old list is serial asked all pair = (
  (λ there. let both = (all pair).0 there in (shown_stood key s shown old is pair both.0, both.1)),
  λ both. (all pair).1 (
    asked_shown key s shown old is pair both.0
        (subst (λ n. needs_pairs key s.ltp s.cp s.history n ≡ true) (sym both.1) asked),
    both.1,
  ),
)
