-- Rows of definitions are told apart by their keys.
use Rattle.std.proofs.Common.{◌≡◌, ◌∙◌, ℕ, true, List, [], ◌∷◌, Option, Some, inl, inr, get_or}
use Rattle.std.proofs.Common.{sym, ap, subst, arith}
use Rattle.std.specs.FinMap as maps
use Rattle.std.specs.Prelude.{codes, slice_get}
use Rattle.std.specs.List.{Contains}
use Rattle.std.proofs.lemmas.Bool.{cases_order}
use Rattle.std.proofs.lemmas.List.{get_or_default}
use Rattle.sqlite.specs.Order.{Row as Values, column}
use Rattle.sqlite_value.specs.declared.value.Value.TheVariants.{Text}
use Rattle.work_calendars.specs.Calendar.{CalendarEntries}
use Rattle.work_calendars.specs.declared.statuses.DayStatus.{DayStatus}
use Rattle.plan_periods.specs.declared.periods.Period.{Period}
use Rattle.plan_periods.specs.declared.periods.Period.TheVariants as period
use Rattle.run_cycles.specs.declared.cycles.RunCycle.{RunCycle}
use Rattle.app_definition_records.specs.Rising.{AreRising}
use Rattle.app_definition_records.proofs.RisingLemmas.{own_names}
use Rattle.app_definition_records.specs.declared.applications.Application.{Application}
use Rattle.app_definition_records.specs.declared.predecessors.Predecessor.{Predecessor}
use Rattle.plan_tables_content.specs.Content.{AreEach, ByName, IsApplicationRow, IsNamed, IsOfSome}
use Rattle.plan_tables_content.specs.Facts.{IsCalendarRow, IsCycleRow, IsOffsetRow, IsPeriodRow, IsPredecessorRow}
use Rattle.plan_tables_content.specs.Facts.{application_values, cycle_values, entry_values, is_work, natural, offset_values}
use Rattle.plan_tables_content.specs.Facts.{predecessor_values}
use Rattle.plan_tables_constraints.proofs.Held.{one_natural, one_text, same_cell}

abbrev HasSame : ℕ → Values → Values → Type 0
HasSame i v w = same_cell (column v i) (column w i) ≡ true

-- the cells of rows are those of their values
cells_of : (i : ℕ) (v w a b : Values) → v ≡ a → w ≡ b → HasSame i v w → HasSame i a b
cells_of i v w a b is js h = subst (λ x. HasSame i a x) js (subst (λ x. HasSame i x w) is h)

one_of : {X : Type 0} (o : Option X) (x y : X) → o ≡ Some x → o ≡ Some y → x ≡ y
one_of o x y a b = cc

-- what stands under one name is one
one_named : {D : Type 0} (all : ByName D) (n m : List ℕ) (d e : D) → maps.get all n ≡ Some d
    → maps.get all m ≡ Some e → n ≡ m → d ≡ e
one_named all n m d e at bt same =
    one_of (maps.get all m) d e (subst (λ k. maps.get all k ≡ Some d) same at) bt

-- one of a rising list has a name
one_rising : {X : Type 0} (name_of : X → List ℕ) (xs : List X) → AreRising name_of xs → (x y : X) → Contains xs x
    → Contains xs y → name_of x ≡ name_of y → x ≡ y
one_rising name_of xs rising x y (i, lt_i, at_x) (j, lt_j, at_y) same = elim (cases_order i j) [
  | inl one ↦ sym at_x ∙ ap (λ n. get_or xs n x) one ∙ get_or_default xs j x y lt_j ∙ at_y
  | inr (inl below) ↦ absurd (own_names name_of xs rising i j x below lt_j (ap name_of at_x ∙ same
      ∙ ap name_of (sym (get_or_default xs j x y lt_j ∙ at_y))))
  | inr (inr above) ↦ absurd (own_names name_of xs rising j i y above lt_i (ap name_of at_y ∙ sym same
      ∙ ap name_of (sym (get_or_default xs i y x lt_i ∙ at_x))))
]

pub one_application : (all : ByName Application) (v w : Values) → IsOfSome IsApplicationRow all v
    → IsOfSome IsApplicationRow all w → HasSame 0 v w → v ≡ w
one_application all v w (n, d, at, is) (m, e, bt, js) h =
    let name : n ≡ m = one_text n m (cells_of 0 v w (application_values n d) (application_values m e) is js h) in
    let one = one_named all n m d e at bt name in
    is ∙ (λ i. application_values (name i) (one i)) ∙ sym js

one_status : (status other : DayStatus) (o : Option (Option DayStatus)) → o ≡ Some (Some status)
    → o ≡ Some (Some other) → status ≡ other
one_status status other o a b = cc

-- of one calendar
calendar_cells : (n : List ℕ) (d : CalendarEntries) (v w : Values) → IsCalendarRow n d v → IsCalendarRow n d w
    → HasSame 1 v w → HasSame 2 v w → v ≡ w
calendar_cells n d v w (IsCalendarRow.Weekday day status at is) (IsCalendarRow.Weekday day' status' bt js) one two =
    let same : day ≡ day' = one_natural day day' (cells_of 2 v w _ _ is js two) in
    let both : status ≡ status' = one_status status status' (slice_get d.weekdays day')
    (subst (λ k. slice_get d.weekdays k ≡ Some (Some status)) same at) bt in
    is ∙ (λ i. Text n ∷ natural 0 ∷ natural (same i) ∷ is_work (both i) ∷ []) ∙ sym js
calendar_cells n d v w (IsCalendarRow.Weekday day status at is) (IsCalendarRow.Date day' status' bt js) one two =
    absurd (let no : 0 ≡ 1 = one_natural 0 1 (cells_of 1 v w _ _ is js one) in let h : ⊥ = omega (arith, no) in h)
calendar_cells n d v w (IsCalendarRow.Date day status at is) (IsCalendarRow.Weekday day' status' bt js) one two =
    absurd (let no : 1 ≡ 0 = one_natural 1 0 (cells_of 1 v w _ _ is js one) in let h : ⊥ = omega (arith, no) in h)
calendar_cells n d v w (IsCalendarRow.Date day status at is) (IsCalendarRow.Date day' status' bt js) one two =
    let same : day ≡ day' = one_natural day day' (cells_of 2 v w _ _ is js two) in
    let both : status ≡ status' = one_of (maps.get d.dates day') status status'
    (subst (λ k. maps.get d.dates k ≡ Some status) same at) bt in
    is ∙ (λ i. Text n ∷ natural 1 ∷ natural (same i) ∷ is_work (both i) ∷ []) ∙ sym js

calendar_name : (n : List ℕ) (d : CalendarEntries) (v : Values) → IsCalendarRow n d v → column v 0 ≡ Text n
calendar_name n d v (IsCalendarRow.Weekday day status at is) = ap (λ (x : Values). column x 0) is
calendar_name n d v (IsCalendarRow.Date day status at is) = ap (λ (x : Values). column x 0) is

-- the first cells are names
names_of : (n m : List ℕ) (v w : Values) → column v 0 ≡ Text n → column w 0 ≡ Text m → HasSame 0 v w → n ≡ m
names_of n m v w is js h = one_text n m (subst (λ x. same_cell (Text n) x ≡ true) js
    (subst (λ x. same_cell x (column w 0) ≡ true) is h))

pub one_calendar : (all : ByName CalendarEntries) (v w : Values) → IsOfSome IsCalendarRow all v
    → IsOfSome IsCalendarRow all w → HasSame 0 v w → HasSame 1 v w → HasSame 2 v w → v ≡ w
one_calendar all v w (n, d, at, is) (m, e, bt, js) h one two =
    let name : n ≡ m = names_of n m v w (calendar_name n d v is) (calendar_name m e w js) h in
    let same : d ≡ e = one_named all n m d e at bt name in
    calendar_cells m e v w (subst (λ x. IsCalendarRow m x v) same (subst (λ k. IsCalendarRow k d v) name is)) js one two

-- of one period
period_cells : (n : List ℕ) (p : Period) (v w : Values) → IsPeriodRow n p v → IsPeriodRow n p w → HasSame 1 v w
    → v ≡ w
period_cells n (period.All origin interval) v w is js one = is ∙ sym js
period_cells n (period.Work origin interval) v w is js one = is ∙ sym js
period_cells n (period.Listed origins) v w (place, entry, at, is) (other, second, bt, js) one =
    let same : place ≡ other = one_natural place other (cells_of 1 v w _ _ is js one) in
    let both : entry ≡ second = one_of (slice_get origins other) entry second
    (subst (λ k. slice_get origins k ≡ Some entry) same at) bt in
    is ∙ (λ i. entry_values n (same i) (codes "N") (both i).0 (both i).1) ∙ sym js

period_name : (n : List ℕ) (p : Period) (v : Values) → IsPeriodRow n p v → column v 0 ≡ Text n
period_name n (period.All origin interval) v is = ap (λ (x : Values). column x 0) is
period_name n (period.Work origin interval) v is = ap (λ (x : Values). column x 0) is
period_name n (period.Listed origins) v (place, entry, at, is) = ap (λ (x : Values). column x 0) is

pub one_period : (all : ByName Period) (v w : Values) → IsOfSome IsPeriodRow all v → IsOfSome IsPeriodRow all w
    → HasSame 0 v w → HasSame 1 v w → v ≡ w
one_period all v w (n, d, at, is) (m, e, bt, js) h one =
    let name : n ≡ m = names_of n m v w (period_name n d v is) (period_name m e w js) h in
    let same : d ≡ e = one_named all n m d e at bt name in
    period_cells m e v w (subst (λ x. IsPeriodRow m x v) same (subst (λ k. IsPeriodRow k d v) name is)) js one

pub one_predecessor : (all : ByName (List Predecessor)) → AreEach (IsNamed (λ (p : Predecessor). p.name)) all
    → (v w : Values) → IsOfSome IsPredecessorRow all v → IsOfSome IsPredecessorRow all w → HasSame 0 v w
    → HasSame 1 v w → v ≡ w
one_predecessor all named v w (n, d, at, (p, has, is)) (m, e, bt, (q, has', js)) h one =
    let name : n ≡ m = one_text n m (cells_of 0 v w (predecessor_values n p) (predecessor_values m q) is js h) in
    let own : p.name ≡ q.name =
    one_text p.name q.name (cells_of 1 v w (predecessor_values n p) (predecessor_values m q) is js one) in
    let same : d ≡ e = one_named all n m d e at bt name in
    let both : p ≡ q = one_rising (λ (x : Predecessor). x.name) e (named m e bt).rising p q
    (subst (λ x. Contains x p) same has) has' own in
    is ∙ (λ i. predecessor_values (name i) (both i)) ∙ sym js

pub one_cycle : (all : ByName (List RunCycle)) → AreEach (IsNamed (λ (cycle : RunCycle). cycle.name)) all
    → (v w : Values) → IsOfSome IsCycleRow all v → IsOfSome IsCycleRow all w → HasSame 0 v w → HasSame 1 v w → v ≡ w
one_cycle all named v w (n, d, at, (p, has, is)) (m, e, bt, (q, has', js)) h one =
    let name : n ≡ m = one_text n m (cells_of 0 v w (cycle_values n p) (cycle_values m q) is js h) in
    let own : p.name ≡ q.name = one_text p.name q.name (cells_of 1 v w (cycle_values n p) (cycle_values m q) is js one) in
    let same : d ≡ e = one_named all n m d e at bt name in
    let both : p ≡ q = one_rising (λ (x : RunCycle). x.name) e (named m e bt).rising p q
    (subst (λ x. Contains x p) same has) has' own in
    is ∙ (λ i. cycle_values (name i) (both i)) ∙ sym js

pub one_offset : (all : ByName (List RunCycle)) → AreEach (IsNamed (λ (cycle : RunCycle). cycle.name)) all
    → (v w : Values) → IsOfSome IsOffsetRow all v → IsOfSome IsOffsetRow all w → HasSame 0 v w → HasSame 1 v w
    → HasSame 2 v w → v ≡ w
one_offset all named v w (n, d, at, (p, has, place, k, sat, is)) (m, e, bt, (q, has', other, l, tat, js)) h one two =
    let name : n ≡ m =
    one_text n m (cells_of 0 v w (offset_values n p.name place k) (offset_values m q.name other l) is js h) in
    let own : p.name ≡ q.name = one_text p.name q.name
    (cells_of 1 v w (offset_values n p.name place k) (offset_values m q.name other l) is js one) in
    let at_one : place ≡ other = one_natural place other
    (cells_of 2 v w (offset_values n p.name place k) (offset_values m q.name other l) is js two) in
    let same : d ≡ e = one_named all n m d e at bt name in
    let both : p ≡ q = one_rising (λ (x : RunCycle). x.name) e (named m e bt).rising p q
    (subst (λ x. Contains x p) same has) has' own in
    let by : k ≡ l = one_of (slice_get q.offsets other) k l (subst (λ (c : RunCycle). slice_get c.offsets other ≡ Some k)
    both (subst (λ i. slice_get p.offsets i ≡ Some k) at_one sat)) tat in
    is ∙ (λ i. offset_values (name i) (own i) (at_one i) (by i)) ∙ sym js
