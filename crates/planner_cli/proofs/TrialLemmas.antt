-- What trials show: the way of the rows from the sets as they are to the sets as a statement would leave them.
use Rattle.std.proofs.Common.{◌≡◌, ◌↔◌, ◌⊎◌, ◌∙◌, ℕ, ◌<◌, ◌≤◌, List, ◌++◌, get_or, map, Bool, refl, sym, ap, subst, inl}
use Rattle.std.proofs.Common.{inr, true, false, None, Option, Some}
use Rattle.std.specs.List.{AllPairs, Contains, filter}
use Rattle.std.specs.Prelude.{if◌then◌else◌, nat_lt}
use Rattle.std.proofs.lemmas.List.Elements.{Contains-append_cases, Contains-append_left, Contains-append_right}
use Rattle.std.proofs.lemmas.List.Kept.{AllPairs-filter}
use Rattle.app_definitions.specs.declared.definitions.Definitions.{Definitions}
use Rattle.occurrences.specs.declared.place.CurrentRow.{CurrentRow}
use Rattle.occurrences.specs.declared.place.Place.{Place}
use Rattle.occurrences.specs.declared.place.Place.TheVariants.{Current, Deleted, History, LongTerm}
use Rattle.occurrences.specs.declared.place.Reason.TheVariants.{Plan, Withdrawn}
use Rattle.occurrences.specs.declared.row.Row.{Row}
use Rattle.occurrences.specs.declared.status.Status.{Status}
use Rattle.occurrences.specs.declared.status.Status.TheVariants.{C, D, E, S, W}
use Rattle.external_dependencies.specs.declared.rows.PlacedRow.{PlacedRow}
use Rattle.planner_machine.specs.Content.{Seat, Sets, IsOnlyAt}
use Rattle.planner_machine.specs.DailyPlan.{is_completed, is_deleted, is_uncompleted}
use Rattle.planner_machine.specs.Fate.{DailyFate, Fate, ModifyFate, Stays, place_after_daily_plan}
use Rattle.planner_machine.specs.Shown.{DailyChange, DailyMark, IsDailyChange, IsDailyStep, IsPlanChange, PlanChange}
use Rattle.planner_machine.specs.Shown.{PlanMark}
use Rattle.planner_machine.specs.Shown.{WouldBeCarried, WouldBeDeleted, WouldBeHistory, WouldBeMade, WouldBeMoved}
use Rattle.planner_machine.specs.Shown.{WouldBeWithdrawn}
use Rattle.planner_machine.specs.Sound.{AreNumbered}
use Rattle.planner_machine.proofs.SeatLemmas.{cases_issued, one_place}
use Rattle.plan_store_lists.proofs.KeyLemmas.{contains_filter, filter_contains}
use Rattle.plan_store.proofs.PlaceLemmas.{stands_cp, stands_ltp}
use Rattle.planner_cli.specs.Trials.{carried_part, completed, daily_changes, deleted, deleted_part, history_part}
use Rattle.planner_cli.specs.Trials.{plan_changes}
use Rattle.planner_cli.specs.Trials.{uncompleted, would_be_carried, would_be_deleted, would_be_history, would_be_made}
use Rattle.planner_cli.specs.Trials.{would_be_moved, would_be_withdrawn}
use Rattle.planner_cli.proofs.ShownLists.{contains_map, map_contains, pairs_append, pairs_map}

some_none : {X : Type 0} (o : Option X) (x : X) → o ≡ Some x → o ≡ None → ⊥
some_none o x a b = cc

one_some : {X : Type 0} (o : Option X) (x y : X) → o ≡ Some x → o ≡ Some y → x ≡ y
one_some o x y a b = cc

-- a row in the long-term plan
abbrev planned : Row → PlacedRow
planned row = record { row = row; place = LongTerm }

module _ (s : Sets) (numbered : AreNumbered s) where
  in_ltp : (serial : ℕ) (row : Row) → IsOnlyAt s serial (planned row) → s.ltp serial ≡ Some row
  in_ltp serial row stands = ap (λ (x : Seat). x.ltp) stands

  in_cp : (serial : ℕ) (row : Row) (status : Status) → IsOnlyAt s serial (record { row = row; place = Current status })
      → s.cp serial ≡ Some (record { row = row; status = status })
  in_cp serial row status stands = ap (λ (x : Seat). x.cp) stands

  -- the place of what the long-term plan has, and what it has of a place
  place_planned : (serial : ℕ) (row : Row) (q : PlacedRow) → s.ltp serial ≡ Some row → IsOnlyAt s serial q
      → q ≡ planned row
  place_planned serial row q is stands = one_place s serial q (planned row) stands (stands_ltp s numbered serial row is)

  not_planned : (serial : ℕ) (q : PlacedRow) → IsOnlyAt s serial q → s.ltp serial ≡ None → q.place ≡ LongTerm → ⊥
  not_planned serial q stands none is =
      some_none (s.ltp serial) q.row
      (in_ltp serial q.row (subst (λ place. IsOnlyAt s serial (record { row = q.row; place = place })) is stands)) none

  unissued_none : (serial : ℕ) → s.issued < serial → s.ltp serial ≡ None
  unissued_none serial above = ap (λ (x : Seat). x.ltp) (numbered.unissued serial (inr above))

-- what a statement of the long-term plan does of one occurrence: nothing comes into the plan, and what goes is
-- withdrawn
pub record IsPlanFate (fate : Fate) : Type 0 where
  pub comes : (p q : PlacedRow) → fate p q → q.place ≡ LongTerm → p.place ≡ LongTerm
  pub goes : (p q : PlacedRow) → fate p q → p.place ≡ LongTerm
      → (q.place ≡ LongTerm) ⊎ (q ≡ record { row = p.row; place = Deleted Withdrawn })

pub stays_fate : IsPlanFate Stays
stays_fate = record {
  comes = λ p q is there. ap (λ (x : PlacedRow). x.place) (sym is) ∙ there;
  goes = λ p q is there. inl (ap (λ (x : PlacedRow). x.place) is ∙ there);
}

pub modify_fate : (Looks : List ℕ → Type 0) (all : Definitions)
    → IsPlanFate (ModifyFate Looks all)
modify_fate Looks all = record { comes = comes; goes = goes }
  where
    comes : (p q : PlacedRow) → ModifyFate Looks all p q → q.place ≡ LongTerm → p.place ≡ LongTerm
    comes p q (inl (looked, _)) there = looked.0
    comes p q (inr (_, is)) there = stays_fate.comes p q is there

    goes : (p q : PlacedRow) → ModifyFate Looks all p q → p.place ≡ LongTerm
        → (q.place ≡ LongTerm) ⊎ (q ≡ record { row = p.row; place = Deleted Withdrawn })
    goes p q (inl (looked, inl named)) there = inl (ap (λ (x : PlacedRow). x.place) named.stays)
    goes p q (inl (looked, inr withdrawn)) there = inr withdrawn.goes
    goes p q (inr (_, is)) there = stays_fate.goes p q is there

-- two serials
abbrev pub PlanApart : PlanChange → PlanChange → Type 0
PlanApart a b = a.row.serial ≡ b.row.serial → ⊥

abbrev pub DailyApart : DailyChange → DailyChange → Type 0
DailyApart a b = a.row.serial ≡ b.row.serial → ⊥

-- a list has exactly the rows that come into a set, or go from it
pub record AreRowsOf (Is : ℕ → Row → Type 0) (rows : List Row) : Type 0 where
  pub apart : AllPairs (λ (a b : Row). a.serial ≡ b.serial → ⊥) rows
  pub is : (row : Row) → Contains rows row → Is row.serial row
  pub all : (serial : ℕ) (row : Row) → Is serial row → Contains rows row

abbrev pub ComesIn : Sets → Sets → ℕ → Row → Type 0
ComesIn s s' serial row = (s.ltp serial ≡ None) × (s'.ltp serial ≡ Some row)

abbrev pub GoesOut : Sets → Sets → ℕ → Row → Type 0
GoesOut s s' serial row = (s.ltp serial ≡ Some row) × (s'.ltp serial ≡ None)

module _ (s s' : Sets) (numbered : AreNumbered s) (numbered' : AreNumbered s') (fate : Fate) (fair : IsPlanFate fate)
    (old : (serial : ℕ) (p : PlacedRow) → IsOnlyAt s serial p → (q : PlacedRow) × fate p q × IsOnlyAt s' serial q)
    (made withdrawn : List Row) (are_made : AreRowsOf (ComesIn s s') made)
    (are_withdrawn : AreRowsOf (GoesOut s s') withdrawn) where
  made_so : (row : Row) → Contains made row → IsPlanChange s s' (would_be_made row)
  made_so row there =
      let (none, is) = are_made.is row there in
      let stands = stands_ltp s' numbered' row.serial row is in
      (row.serial, (new none is stands (cases_issued s.issued row.serial), stands))
    where
      new : s.ltp row.serial ≡ None → s'.ltp row.serial ≡ Some row → IsOnlyAt s' row.serial (planned row)
          → ((1 ≤ row.serial) × (row.serial ≤ s.issued)) ⊎ ((row.serial ≡ 0) ⊎ (s.issued < row.serial))
          → s.issued < row.serial
      new none is stands (inl within) =
          let (p, stood) = numbered.placed row.serial within.0 within.1 in
          let (q, f, stands_q) = old row.serial p stood in
          let q_is = place_planned s' numbered' row.serial row q is stands_q in
          absurd (not_planned s numbered row.serial p stood none
          (fair.comes p q f (ap (λ (x : PlacedRow). x.place) q_is)))
      new none is stands (inr (inl zero)) =
          let empty = numbered'.unissued row.serial (inl zero) in
          absurd (some_none (s'.ltp row.serial) row is (ap (λ (x : Seat). x.ltp) empty))
      new none is stands (inr (inr above)) = above

  withdrawn_so : (row : Row) → Contains withdrawn row → IsPlanChange s s' (would_be_withdrawn row)
  withdrawn_so row there =
      let (is, none) = are_withdrawn.is row there in
      let stood = stands_ltp s numbered row.serial row is in
      let (q, f, stands) = old row.serial (planned row) stood in (
        row.serial,
        (
          stood,
          elim (fair.goes (planned row) q f refl) [
            | inl still ↦ absurd (not_planned s' numbered' row.serial q stands none still)
            | inr gone ↦ subst (IsOnlyAt s' row.serial) gone stands
          ],
        ),
      )

  so_listed : (row : Row) (mark : PlanMark) → IsPlanChange s s' (record { row = row; mark = mark })
      → Contains (plan_changes made withdrawn) (record { row = row; mark = mark })
  so_listed row WouldBeMade (serial, (above, stands)) =
      let at = are_made.all serial row (unissued_none s numbered serial above, in_ltp s' numbered' serial row stands) in
      Contains-append_left (map would_be_made made) (map would_be_withdrawn withdrawn) _
      (map_contains would_be_made made row at)
  so_listed row WouldBeWithdrawn (serial, (stood, stands)) =
      let none : s'.ltp serial ≡ None = ap (λ (x : Seat). x.ltp) stands in
      let at = are_withdrawn.all serial row (in_ltp s numbered serial row stood, none) in
      Contains-append_right (map would_be_made made) (map would_be_withdrawn withdrawn) _
      (map_contains would_be_withdrawn withdrawn row at)

  pub plan_listed : (change : PlanChange) → Contains (plan_changes made withdrawn) change ↔ IsPlanChange s s' change
  plan_listed change = (
    λ there. elim (Contains-append_cases (map would_be_made made) (map would_be_withdrawn withdrawn) change there) [
      | inl at ↦ let (row, in_list, is) = contains_map would_be_made made change at in
          subst (IsPlanChange s s') (sym is) (made_so row in_list)
      | inr at ↦ let (row, in_list, is) = contains_map would_be_withdrawn withdrawn change at in
          subst (IsPlanChange s s') (sym is) (withdrawn_so row in_list)
    ],
    λ is. so_listed change.row change.mark is,
  )

  -- no two of them have one serial
  not_both : (a b : Row) → Contains made a → Contains withdrawn b → a.serial ≡ b.serial → ⊥
  not_both a b at_a at_b same =
      let (none, _) = are_made.is a at_a in
      let (some, _) = are_withdrawn.is b at_b in
      some_none (s.ltp b.serial) b some (subst (λ n. s.ltp n ≡ None) same none)

  pub plan_apart : AllPairs PlanApart (plan_changes made withdrawn)
  plan_apart =
      pairs_append PlanApart (map would_be_made made) (map would_be_withdrawn withdrawn)
      (pairs_map would_be_made PlanApart made are_made.apart)
      (pairs_map would_be_withdrawn PlanApart withdrawn are_withdrawn.apart)
      (λ x y at_x at_y same.
      let (a, at_a, is_a) = contains_map would_be_made made x at_x in
      let (b, at_b, is_b) = contains_map would_be_withdrawn withdrawn y at_y in
      not_both a b at_a at_b (ap (λ (c : PlanChange). c.row.serial) (sym is_a) ∙ same
      ∙ ap (λ (c : PlanChange). c.row.serial) is_b))

-- ---- daily plans

-- a list has exactly the rows of the current plan
pub record AreCurrent (s : Sets) (rows : List CurrentRow) : Type 0 where
  pub apart : AllPairs (λ (a b : CurrentRow). a.row.serial ≡ b.row.serial → ⊥) rows
  pub is : (current : CurrentRow) → Contains rows current → s.cp current.row.serial ≡ Some current
  pub all : (serial : ℕ) (current : CurrentRow) → s.cp serial ≡ Some current → Contains rows current

uncompleted_stays : (t : ℕ) (row : Row) (status : Status) → is_uncompleted status ≡ true
    → place_after_daily_plan t row (Current status) ≡ Current status
uncompleted_stays t row W is = refl
uncompleted_stays t row S is = refl
uncompleted_stays t row E is = refl
uncompleted_stays t row C is = cc
uncompleted_stays t row D is = cc

completed_is : (status : Status) → is_completed status ≡ true → status ≡ C
completed_is C is = refl
completed_is W is = cc
completed_is S is = cc
completed_is E is = cc
completed_is D is = cc

deleted_is : (status : Status) → is_deleted status ≡ true → status ≡ D
deleted_is D is = refl
deleted_is W is = cc
deleted_is S is = cc
deleted_is E is = cc
deleted_is C is = cc

-- what stays in the current plan is uncompleted
still_uncompleted : (t : ℕ) (row : Row) (status : Status)
    → place_after_daily_plan t row (Current status) ≡ Current status
    → is_uncompleted status ≡ true
still_uncompleted t row W is = refl
still_uncompleted t row S is = refl
still_uncompleted t row E is = refl
still_uncompleted t row C is = cc
still_uncompleted t row D is = cc

-- a row of the long-term plan that leaves it waits in the current plan
moved_place : (t : ℕ) (row : Row) → (place_after_daily_plan t row LongTerm ≡ LongTerm → ⊥)
    → place_after_daily_plan t row LongTerm ≡ Current W
moved_place t row other = elim (nat_lt row.key.ia t) as
    (λ b. ((if b then Current W else LongTerm) ≡ LongTerm → ⊥) → (if b then Current W else LongTerm) ≡ Current W) [
      | true ↦ λ other. refl
      | false ↦ λ other. absurd (other refl)
    ] other

module _ (s s' : Sets) (numbered : AreNumbered s) (numbered' : AreNumbered s') (t : ℕ)
    (old : (serial : ℕ) (p : PlacedRow) → IsOnlyAt s serial p → (q : PlacedRow) × DailyFate t p q
    × IsOnlyAt s' serial q)
    (moved : List Row) (rows : List CurrentRow) (are_moved : AreRowsOf (GoesOut s s') moved)
    (are_current : AreCurrent s rows) where
  -- where what stood somewhere stands after the plan
  goes_to : (serial : ℕ) (row : Row) (place : Place) → IsOnlyAt s serial (record { row = row; place = place })
      → IsOnlyAt s' serial (record { row = row; place = place_after_daily_plan t row place })
  goes_to serial row place stood =
      let (q, is, stands) = old serial (record { row = row; place = place }) stood in
      subst (IsOnlyAt s' serial) is stands

  moved_so : (row : Row) → Contains moved row → IsDailyChange s s' (would_be_moved row)
  moved_so row there =
      let (is, none) = are_moved.is row there in
      let stood = stands_ltp s numbered row.serial row is in
      let stands = goes_to row.serial row LongTerm stood in
      let waits = moved_place t row (λ still. not_planned s' numbered' row.serial _ stands none still) in (
        row.serial,
        LongTerm,
        Current W,
        stood,
        subst
            (λ place. IsOnlyAt s' row.serial (record { row = row; place = place })) waits stands,
        (refl, refl, refl),
      )

  stood_current : (current : CurrentRow) → Contains rows current
      → IsOnlyAt s current.row.serial (record { row = current.row; place = Current current.status })
  stood_current current there = stands_cp s numbered current.row.serial current (are_current.is current there)

  carried_so : (current : CurrentRow) → Contains rows current → is_uncompleted current.status ≡ true
      → IsDailyChange s s' (would_be_carried current)
  carried_so current there unfinished =
      let stood = stood_current current there in
      let stands = goes_to current.row.serial current.row (Current current.status) stood in (
        current.row.serial,
        Current current.status,
        Current current.status,
        stood,
        subst (λ place. IsOnlyAt s' current.row.serial (record { row = current.row; place = place }))
            (uncompleted_stays t current.row current.status unfinished) stands,
        (refl, refl),
      )

  history_so : (row : Row) (status : Status) → status ≡ C → Contains rows (record { row = row; status = status })
      → IsDailyChange s s' (would_be_history (record { row = row; status = status }))
  history_so row status is there =
      let stood = subst (λ x. IsOnlyAt s row.serial (record { row = row; place = Current x })) is
      (stood_current (record { row = row; status = status }) there) in
      (row.serial, Current C, History, stood, goes_to row.serial row (Current C) stood, (refl, refl, refl))

  deleted_so : (row : Row) (status : Status) → status ≡ D → Contains rows (record { row = row; status = status })
      → IsDailyChange s s' (would_be_deleted (record { row = row; status = status }))
  deleted_so row status is there =
      let stood = subst (λ x. IsOnlyAt s row.serial (record { row = row; place = Current x })) is
      (stood_current (record { row = row; status = status }) there) in
      (row.serial, Current D, Deleted Plan, stood, goes_to row.serial row (Current D) stood, (refl, refl, refl))

  -- the four parts of the list
  abbrev InParts : DailyChange → Type 0
  InParts change =
      Contains (map would_be_moved moved) change ⊎ (Contains (carried_part rows) change
      ⊎ (Contains (history_part rows) change ⊎ Contains (deleted_part rows) change))

  in_parts : (change : DailyChange) → Contains (daily_changes moved rows) change → InParts change
  in_parts change there = elim (Contains-append_cases (map would_be_moved moved)
      (carried_part rows ++ (history_part rows ++ deleted_part rows)) change there) [
        | inl at ↦ inl at
        | inr later ↦ elim (Contains-append_cases (carried_part rows) (history_part rows ++ deleted_part rows)
            change later) [
              | inl at ↦ inr (inl at)
              | inr last ↦ inr (inr (Contains-append_cases (history_part rows) (deleted_part rows) change last))
            ]
      ]

  from_parts : (change : DailyChange) → InParts change → Contains (daily_changes moved rows) change
  from_parts change (inl at) = Contains-append_left (map would_be_moved moved)
      (carried_part rows ++ (history_part rows ++ deleted_part rows)) change at
  from_parts change (inr (inl at)) =
      Contains-append_right (map would_be_moved moved) (carried_part rows ++ (history_part rows ++ deleted_part rows))
      change (Contains-append_left (carried_part rows) (history_part rows ++ deleted_part rows) change at)
  from_parts change (inr (inr (inl at))) =
      Contains-append_right (map would_be_moved moved) (carried_part rows ++ (history_part rows ++ deleted_part rows))
      change (Contains-append_right (carried_part rows) (history_part rows ++ deleted_part rows) change
      (Contains-append_left (history_part rows) (deleted_part rows) change at))
  from_parts change (inr (inr (inr at))) =
      Contains-append_right (map would_be_moved moved) (carried_part rows ++ (history_part rows ++ deleted_part rows))
      change (Contains-append_right (carried_part rows) (history_part rows ++ deleted_part rows) change
      (Contains-append_right (history_part rows) (deleted_part rows) change at))

  part_so : (change : DailyChange) → InParts change → IsDailyChange s s' change
  part_so change (inl at) =
      let (row, there, is) = contains_map would_be_moved moved change at in
      subst (IsDailyChange s s') (sym is) (moved_so row there)
  part_so change (inr (inl at)) =
      let (current, there, is) = contains_map would_be_carried (filter uncompleted rows) change at in
      let (in_rows, unfinished) = contains_filter uncompleted rows current there in
      subst (IsDailyChange s s') (sym is) (carried_so current in_rows unfinished)
  part_so change (inr (inr (inl at))) =
      let (current, there, is) = contains_map would_be_history (filter completed rows) change at in
      let (in_rows, done) = contains_filter completed rows current there in
      subst (IsDailyChange s s') (sym is)
      (history_so current.row current.status (completed_is current.status done) in_rows)
  part_so change (inr (inr (inr at))) =
      let (current, there, is) = contains_map would_be_deleted (filter deleted rows) change at in
      let (in_rows, gone) = contains_filter deleted rows current there in
      subst (IsDailyChange s s') (sym is)
      (deleted_so current.row current.status (deleted_is current.status gone) in_rows)

  current_at : (serial : ℕ) (row : Row) (status : Status)
      → IsOnlyAt s serial (record { row = row; place = Current status })
      → Contains rows (record { row = row; status = status })
  current_at serial row status stood = are_current.all serial (record { row = row; status = status })
      (in_cp s numbered serial row status stood)

  so_part : (row : Row) (mark : DailyMark) (status : Status) (serial : ℕ) (before after : Place)
      → IsOnlyAt s serial (record { row = row; place = before })
      → IsOnlyAt s' serial (record { row = row; place = after })
      → IsDailyStep mark status before after → InParts (record { row = row; mark = mark; status = status })
  so_part row WouldBeMoved status serial before after stood stands (is, was, now) =
      let from = subst (λ place. IsOnlyAt s serial (record { row = row; place = place })) was stood in
      let to = subst (λ place. IsOnlyAt s' serial (record { row = row; place = place })) now stands in
      let at = are_moved.all serial row (in_ltp s numbered serial row from, ap (λ (x : Seat). x.ltp) to) in
      inl (subst (λ x. Contains (map would_be_moved moved) (record { row = row; mark = WouldBeMoved; status = x }))
      (sym is) (map_contains would_be_moved moved row at))
  so_part row WouldBeCarried status serial before after stood stands (was, now) =
      let from = subst (λ place. IsOnlyAt s serial (record { row = row; place = place })) was stood in
      let to = subst (λ place. IsOnlyAt s' serial (record { row = row; place = place })) now stands in
      let same = one_place s' serial _ _ (goes_to serial row (Current status) from) to in
      let unfinished = still_uncompleted t row status (ap (λ (p : PlacedRow). p.place) same) in
      let at = filter_contains uncompleted rows (record { row = row; status = status })
      (current_at serial row status from) unfinished in
      inr (inl (map_contains would_be_carried (filter uncompleted rows) (record { row = row; status = status }) at))
  so_part row WouldBeHistory status serial before after stood stands (is, was, now) =
      let from = subst (λ place. IsOnlyAt s serial (record { row = row; place = place })) was stood in
      let at = filter_contains completed rows (record { row = row; status = C }) (current_at serial row C from) refl in
      inr
      (inr (inl (subst (λ x. Contains (history_part rows) (record { row = row; mark = WouldBeHistory; status = x }))
      (sym is)
      (map_contains would_be_history (filter completed rows) (record { row = row; status = C }) at))))
  so_part row WouldBeDeleted status serial before after stood stands (is, was, now) =
      let from = subst (λ place. IsOnlyAt s serial (record { row = row; place = place })) was stood in
      let at = filter_contains deleted rows (record { row = row; status = D }) (current_at serial row D from) refl in
      inr
      (inr (inr (subst (λ x. Contains (deleted_part rows) (record { row = row; mark = WouldBeDeleted; status = x }))
      (sym is)
      (map_contains would_be_deleted (filter deleted rows) (record { row = row; status = D }) at))))

  pub daily_listed : (change : DailyChange) → Contains (daily_changes moved rows) change ↔ IsDailyChange s s' change
  daily_listed change = (
    λ there. part_so change (in_parts change there),
    λ (serial, before, after, stood, stands, step). from_parts change
        (so_part change.row change.mark change.status serial before after stood stands step),
  )

  -- no two of them have one serial
  apart_parts : (p q : CurrentRow → Bool) (f g : CurrentRow → DailyChange) → ((x : CurrentRow) → (f x).row ≡ x.row)
      → ((x : CurrentRow) → (g x).row ≡ x.row)
      → ((x : CurrentRow) → p x ≡ true → q x ≡ true → ⊥) → (x y : DailyChange) → Contains (map f (filter p rows)) x
      → Contains (map g (filter q rows)) y
      → x.row.serial ≡ y.row.serial → ⊥
  apart_parts p q f g same_f same_g other x y at_x at_y same =
      let (a, in_a, is_a) = contains_map f (filter p rows) x at_x in
      let (b, in_b, is_b) = contains_map g (filter q rows) y at_y in
      let (there_a, yes_a) = contains_filter p rows a in_a in
      let (there_b, yes_b) = contains_filter q rows b in_b in
      let serials : a.row.serial ≡ b.row.serial =
      ap (λ (r : Row). r.serial) (sym (same_f a)) ∙ ap (λ (c : DailyChange). c.row.serial) (sym is_a) ∙ same
      ∙ ap (λ (c : DailyChange). c.row.serial) is_b ∙ ap (λ (r : Row). r.serial) (same_g b) in
      let one = one_some (s.cp b.row.serial) a b (subst (λ n. s.cp n ≡ Some a) serials (are_current.is a there_a))
      (are_current.is b there_b) in
      other b (subst (λ c. p c ≡ true) one yes_a) yes_b

  moved_apart : (f : CurrentRow → DailyChange) (p : CurrentRow → Bool) → ((x : CurrentRow) → (f x).row ≡ x.row)
      → (x y : DailyChange)
      → Contains (map would_be_moved moved) x → Contains (map f (filter p rows)) y → x.row.serial ≡ y.row.serial → ⊥
  moved_apart f p same_f x y at_x at_y same =
      let (a, in_a, is_a) = contains_map would_be_moved moved x at_x in
      let (b, in_b, is_b) = contains_map f (filter p rows) y at_y in
      let there_b = (contains_filter p rows b in_b).0 in
      let serials : a.serial ≡ b.row.serial =
      ap (λ (c : DailyChange). c.row.serial) (sym is_a) ∙ same ∙ ap (λ (c : DailyChange). c.row.serial) is_b
      ∙ ap (λ (r : Row). r.serial) (same_f b) in
      let (some, _) = are_moved.is a in_a in
      let stood = stood_current b there_b in
      some_none (s.ltp b.row.serial) a (subst (λ n. s.ltp n ≡ Some a) serials some) (ap (λ (x : Seat). x.ltp) stood)

  part_apart : (f : CurrentRow → DailyChange) (p : CurrentRow → Bool) → ((x : CurrentRow) → (f x).row ≡ x.row)
      → AllPairs DailyApart (map f (filter p rows))
  part_apart f p same_f =
      pairs_map f DailyApart (filter p rows)
      (λ i j d below lt same. AllPairs-filter (λ (a b : CurrentRow). a.row.serial ≡ b.row.serial → ⊥) p rows
      are_current.apart i j d below lt
      (ap (λ (r : Row). r.serial) (sym (same_f (get_or (filter p rows) i d))) ∙ same
      ∙ ap (λ (r : Row). r.serial) (same_f (get_or (filter p rows) j d))))

  not_completed : (x : CurrentRow) → uncompleted x ≡ true → completed x ≡ true → ⊥
  not_completed x a b = let is = completed_is x.status b in
      let no : is_uncompleted C ≡ true = subst (λ y. is_uncompleted y ≡ true) is a in cc

  not_deleted : (x : CurrentRow) → uncompleted x ≡ true → deleted x ≡ true → ⊥
  not_deleted x a b = let is = deleted_is x.status b in
      let no : is_uncompleted D ≡ true = subst (λ y. is_uncompleted y ≡ true) is a in cc

  one_end : (x : CurrentRow) → completed x ≡ true → deleted x ≡ true → ⊥
  one_end x a b = let is = deleted_is x.status b in
      let no : is_completed D ≡ true = subst (λ y. is_completed y ≡ true) is a in cc

  pub daily_apart : AllPairs DailyApart (daily_changes moved rows)
  daily_apart =
      pairs_append DailyApart (map would_be_moved moved) (carried_part rows ++ (history_part rows ++ deleted_part rows))
      (pairs_map would_be_moved DailyApart moved are_moved.apart)
      (pairs_append DailyApart (carried_part rows) (history_part rows ++ deleted_part rows)
      (part_apart would_be_carried uncompleted (λ x. refl))
      (pairs_append DailyApart (history_part rows) (deleted_part rows)
      (part_apart would_be_history completed (λ x. refl)) (part_apart would_be_deleted deleted (λ x. refl))
      (apart_parts completed deleted would_be_history would_be_deleted (λ x. refl) (λ x. refl) one_end))
      (λ x y at_x at_y. elim (Contains-append_cases (history_part rows) (deleted_part rows) y at_y) [
        | inl at ↦ apart_parts uncompleted completed would_be_carried would_be_history (λ x. refl) (λ x. refl)
            not_completed x y at_x at
        | inr at ↦ apart_parts uncompleted deleted would_be_carried would_be_deleted (λ x. refl) (λ x. refl) not_deleted
            x y at_x at
      ]))
      (λ x y at_x at_y. elim (Contains-append_cases (carried_part rows) (history_part rows ++ deleted_part rows)
      y at_y) [
        | inl at ↦ moved_apart would_be_carried uncompleted (λ x. refl) x y at_x at
        | inr rest ↦ elim (Contains-append_cases (history_part rows) (deleted_part rows) y rest) [
          | inl at ↦ moved_apart would_be_history completed (λ x. refl) x y at_x at
          | inr at ↦ moved_apart would_be_deleted deleted (λ x. refl) x y at_x at
        ]
      ])
