-- Each kind of definition is told by its rows.
use Rattle.std.proofs.Common.{◌≡◌, ℕ, ℤ, suc, List, [], ◌∷◌, Option, Some, None, length, refl, sym, ap, ◌∙◌, arith}
use Rattle.std.proofs.Common.{subst}
use Rattle.std.proofs.Common.{◌⊎◌, inl, inr, get_or, Bool, true, false, cond}
use Rattle.std.proofs.lemmas.Bool.{cases_lt}
use Rattle.std.proofs.lemmas.List.{get_or_default}
use Rattle.std.specs.Prelude.{nat_eq}
use Rattle.std.specs.Prelude.{Contains, slice_get, codes}
use Rattle.std.proofs.lemmas.Cmp.{nat_cmp_total}
use Rattle.std.specs.FinMap as maps
use Rattle.std.specs.FinMap.{same_map, nat_cmp-IsAntisymmetric}
use Rattle.sqlite.specs.Order.{Row as Values, column}
use Rattle.sqlite.specs.declared.types.Value.TheVariants.{Text}
use Rattle.work_calendars.specs.Calendar.{CalendarEntries}
use Rattle.work_calendars.specs.declared.statuses.DayStatus.{DayStatus}
use Rattle.work_calendars.specs.declared.statuses.DayStatus.TheVariants.{Work, Free}
use Rattle.plan_periods.specs.declared.periods.Period.{Period}
use Rattle.plan_periods.specs.declared.periods.Period.TheVariants.{All, Work as Days, Listed}
use Rattle.run_cycles.specs.declared.cycles.CycleType.{CycleType}
use Rattle.run_cycles.specs.declared.cycles.CycleType.TheVariants.{Normal, Negative}
use Rattle.run_cycles.specs.declared.cycles.Deadline.{Deadline}
use Rattle.run_cycles.specs.declared.cycles.RunCycle.{RunCycle}
use Rattle.run_cycles.specs.declared.rules.Rule.{Rule}
use Rattle.run_cycles.specs.declared.rules.Rule.TheVariants as rule
use Rattle.app_definition_records.specs.CycleRecords.{rule_text}
use Rattle.app_definition_records.specs.declared.predecessors.Predecessor.{Predecessor}
use Rattle.app_definition_records.specs.Rising.{AreRising}
use Rattle.app_definition_records.proofs.RisingLemmas.{first_of_list, own_names, same_rising}
use Rattle.plan_tables_content.specs.Facts.{IsCalendarRow, IsCycleRow, IsOffsetRow, IsPeriodRow, IsPredecessorRow}
use Rattle.plan_tables_content.specs.Facts.IsCalendarRow.{Weekday, Date}
use Rattle.plan_tables_content.specs.Facts.{cycle_values, entry_values, is_work, natural, offset_values, predecessor_values}
use Rattle.plan_tables_content.specs.Content.{HasEntry, IsNamed, IsTold}
use Rattle.plan_tables_content.specs.Decoded.{int_in, letter_in, nat_in, or_nat, text_in}
use Rattle.plan_tables_content.proofs.Decoded.{nat_back}
use Rattle.plan_tables_content.proofs.SameOptions.{is_some, none_some, same_options}

-- lists of which each element stands at one place in both
pub same_places : {X : Type 0} (xs ys : List X) → ((i : ℕ) (x : X) → slice_get xs i ≡ Some x → slice_get ys i ≡ Some x)
    → ((i : ℕ) (x : X) → slice_get ys i ≡ Some x → slice_get xs i ≡ Some x) → xs ≡ ys
same_places [] [] h k = refl
same_places [] (y ∷ ys) h k = none_some (slice_get [] 0) y refl (k 0 y refl)
same_places (x ∷ xs) [] h k = none_some (slice_get [] 0) x refl (h 0 x refl)
same_places (x ∷ xs) (y ∷ ys) h k =
    let first : y ≡ x = is_some y x (h 0 x refl) in
    let rest : xs ≡ ys = same_places xs ys (λ i z e. h (suc i) z e) (λ i z e. k (suc i) z e) in
    λ i. sym first i ∷ rest i

-- of one name there is one
pub same_named : {X : Type 0} (called : X → List ℕ) (xs : List X) → AreRising called xs → (x y : X) → Contains xs x
    → Contains xs y → called x ≡ called y → x ≡ y
same_named {X} called xs rising x y (i, lt, is) (j, under, are) e = elim (cases_lt i j) [
  | inl less ↦ absurd (own_names called xs rising i j x less under (ap called is ∙ e ∙ sym (at x)))
  | inr more ↦ elim (cases_lt j i) [
    | inl less ↦ absurd (own_names called xs rising j i y less lt (ap called are ∙ sym e ∙ sym (to y)))
    | inr other ↦ let one : i ≡ j = omega (arith, more, other) in sym is ∙ ap (λ k. get_or xs k x) one ∙ reads x
  ]
]
  where
    reads : (d : X) → get_or xs j d ≡ y
    reads d = get_or_default xs j d y under ∙ are

    at : (d : X) → called (get_or xs j d) ≡ called y
    at d = ap called (reads d)

    to : (d : X) → called (get_or xs i d) ≡ called x
    to d = ap called (get_or_default xs i d x lt ∙ is)

-- ---- predecessors

abbrev pub name_of : Values → List ℕ
name_of v = text_in (column v 0)

abbrev second_name : Values → List ℕ
second_name v = text_in (column v 1)

abbrev ArePredecessors : List Predecessor → Type 0
ArePredecessors = IsNamed (λ (p : Predecessor). p.name)

pub predecessor_named : (name : List ℕ) (d : List Predecessor) (v : Values) → IsPredecessorRow name d v
    → name_of v ≡ name
predecessor_named name d v (p, has, is) = ap name_of is

pub predecessor_some : (name : List ℕ) (d : List Predecessor) → ArePredecessors d
    → (v : Values) × IsPredecessorRow name d v
predecessor_some name [] good = absurd (good.some refl)
predecessor_some name (p ∷ ps) good = (_, (p, first_of_list p ps, refl))

-- the name and the limit that a row tells
abbrev predecessor_of : Values → Predecessor
predecessor_of v = record { name = second_name v; within = or_nat (column v 2) }

predecessor_back : (app : List ℕ) (p : Predecessor) → predecessor_of (predecessor_values app p) ≡ p
predecessor_back app p = λ i. record p { within = nat_back p.within i }

pub one_predecessor : (app : List ℕ) (p q : Predecessor) → predecessor_values app p ≡ predecessor_values app q → p ≡ q
one_predecessor app p q e = sym (predecessor_back app p) ∙ ap predecessor_of e ∙ predecessor_back app q

predecessors_go : (name : List ℕ) (d e : List Predecessor) → ((v : Values) → IsPredecessorRow name d v
    → IsPredecessorRow name e v)
    → (p : Predecessor) → Contains d p → Contains e p
predecessors_go name d e into p has = let (q, there, is) = into _ (p, has, refl) in
    subst (Contains e) (sym (one_predecessor name p q is)) there

pub one_predecessors : (name : List ℕ) (d e : List Predecessor) → ArePredecessors d → ArePredecessors e
    → ((v : Values) → IsPredecessorRow name d v → IsPredecessorRow name e v)
    → ((v : Values) → IsPredecessorRow name e v → IsPredecessorRow name d v) → d ≡ e
one_predecessors name d e good fine into back = same_rising (λ (p : Predecessor). p.name) d e good.rising fine.rising
    (predecessors_go name d e into)
    (predecessors_go name e d back)

-- ---- periods

abbrev letter_of : Values → ℕ
letter_of v = letter_in (column v 2)

abbrev origin_of : Values → ℕ
origin_of v = nat_in (column v 3)

abbrev second_of : Values → Option ℕ
second_of v = or_nat (column v 4)

abbrev place_of : Values → ℕ
place_of v = nat_in (column v 1)

pub period_named : (name : List ℕ) (d : Period) (v : Values) → IsPeriodRow name d v → name_of v ≡ name
period_named name (All origin interval) v is = ap name_of is
period_named name (Days origin interval) v is = ap name_of is
period_named name (Listed origins) v (place, entry, at, is) = ap name_of is

pub period_some : (name : List ℕ) (d : Period) → HasEntry d → (v : Values) × IsPeriodRow name d v
period_some name (All origin interval) has = (_, refl)
period_some name (Days origin interval) has = (_, refl)
period_some name (Listed []) has = absurd (has refl)
period_some name (Listed (e ∷ es)) has = (_, (0, e, refl, refl))

abbrev Apart : ℕ → ℕ → Type 0
Apart m n = m ≡ n → ⊥

letters_apart : {A : Type 0} (v w : Values) (m n : ℕ) → letter_of v ≡ m → letter_of w ≡ n → Apart m n → v ≡ w → A
letters_apart v w m n a b apart e = absurd (apart (sym a ∙ ap letter_of e ∙ b))

a_w : Apart 65 87
a_w e = omega (arith, e)

a_n : Apart 65 78
a_n e = omega (arith, e)

w_n : Apart 87 78
w_n e = omega (arith, e)

entries_go : (name : List ℕ) (xs ys : List (ℕ × Option ℕ))
    → ((v : Values) → IsPeriodRow name (Listed xs) v → IsPeriodRow name (Listed ys) v)
    → (i : ℕ) (x : ℕ × Option ℕ) → slice_get xs i ≡ Some x → slice_get ys i ≡ Some x
entries_go name xs ys into i x at =
    let (j, y, there, is) = into (entry_values name i (codes "N") x.0 x.1) (i, x, at, refl) in
    let place : i ≡ j = ap place_of is in
    let first : x.0 ≡ y.0 = ap origin_of is in
    let second : x.1 ≡ y.1 = sym (nat_back x.1) ∙ ap second_of is ∙ nat_back y.1 in
    let same : x ≡ y = λ k. (first k, second k) in
    ap (slice_get ys) place ∙ there ∙ ap Some (sym same)

pub one_period : (name : List ℕ) (d e : Period) → HasEntry d → HasEntry e
    → ((v : Values) → IsPeriodRow name d v → IsPeriodRow name e v)
    → ((v : Values) → IsPeriodRow name e v → IsPeriodRow name d v) → d ≡ e
one_period name (All o n) (All p m) has got into back =
    let is = into _ refl in λ i. All (ap origin_of is i) (is_some n m (ap second_of is) i)
one_period name (Days o n) (Days p m) has got into back =
    let is = into _ refl in λ i. Days (ap origin_of is i) (is_some n m (ap second_of is) i)
one_period name (Listed xs) (Listed ys) has got into back =
    ap Listed (same_places xs ys (entries_go name xs ys into) (entries_go name ys xs back))
one_period name (All o n) (Days p m) has got into back =
    letters_apart (entry_values name 0 (codes "A") o (Some n)) (entry_values name 0 (codes "W") p
    (Some m)) 65 87 refl refl a_w (into _ refl)
one_period name (Days o n) (All p m) has got into back =
    letters_apart (entry_values name 0 (codes "A") p (Some m)) (entry_values name 0 (codes "W") o
    (Some n)) 65 87 refl refl a_w (sym (into _ refl))
one_period name (All o n) (Listed ys) has got into back =
    let (j, y, there, is) = into _ refl in letters_apart (entry_values name 0 (codes "A") o (Some n))
    (entry_values name j (codes "N") y.0 y.1) 65 78 refl refl a_n is
one_period name (Days o n) (Listed ys) has got into back =
    let (j, y, there, is) = into _ refl in letters_apart (entry_values name 0 (codes "W") o (Some n))
    (entry_values name j (codes "N") y.0 y.1) 87 78 refl refl w_n is
one_period name (Listed xs) (All p m) has got into back =
    let (j, y, there, is) = back _ refl in letters_apart (entry_values name 0 (codes "A") p (Some m))
    (entry_values name j (codes "N") y.0 y.1) 65 78 refl refl a_n is
one_period name (Listed xs) (Days p m) has got into back =
    let (j, y, there, is) = back _ refl in letters_apart (entry_values name 0 (codes "W") p (Some m))
    (entry_values name j (codes "N") y.0 y.1) 87 78 refl refl w_n is

-- ---- run cycles: their rows and those of their offsets

abbrev pub IsEitherRow : List ℕ → List RunCycle → (Values ⊎ Values) → Type 0
IsEitherRow app cycles (inl v) = IsCycleRow app cycles v
IsEitherRow app cycles (inr v) = IsOffsetRow app cycles v

abbrev pub either_name : (Values ⊎ Values) → List ℕ
either_name (inl v) = name_of v
either_name (inr v) = name_of v

pub cycle_named : (app : List ℕ) (d : List RunCycle) (w : Values ⊎ Values) → IsEitherRow app d w → either_name w ≡ app
cycle_named app d (inl v) (cycle, has, is) = ap name_of is
cycle_named app d (inr v) (cycle, has, place, k, at, is) = ap name_of is

abbrev IsCycles : List RunCycle → Type 0
IsCycles = IsNamed (λ (cycle : RunCycle). cycle.name)

pub cycle_some : (app : List ℕ) (d : List RunCycle) → IsCycles d → (w : Values ⊎ Values) × IsEitherRow app d w
cycle_some app [] good = absurd (good.some refl)
cycle_some app (x ∷ xs) good = (inl (cycle_values app x), (x, first_of_list x xs, refl))

abbrev rule_at : ℕ → Rule
rule_at n = cond (nat_eq n 69) rule.WorkDaysOnly
    (cond (nat_eq n 49) rule.Before (cond (nat_eq n 50) rule.After (cond (nat_eq n 51) rule.Same rule.Skip)))

abbrev rule_in : List ℕ → Rule
rule_in t = rule_at (letter_in (Text t))

rule_back : (r : Rule) → rule_in (rule_text r) ≡ r
rule_back rule.WorkDaysOnly = refl
rule_back rule.Before = refl
rule_back rule.After = refl
rule_back rule.Same = refl
rule_back rule.Skip = refl

abbrev deadline_in : Option ℕ → Option ℕ → Option Deadline
deadline_in (Some days) (Some time) = Some (record { days = days; time = time })
deadline_in None time = None
deadline_in (Some days) None = None

abbrev kind_in : Bool → Option Deadline → CycleType
kind_in true (Some deadline) = Normal deadline
kind_in true None = Negative None
kind_in false deadline = Negative deadline

abbrev kind_of : Values → CycleType
kind_of v = kind_in (nat_eq (letter_of v) 78) (deadline_in (or_nat (column v 8)) (or_nat (column v 9)))

kind_back : (app : List ℕ) (name period : List ℕ) (kind : CycleType) (rule : Rule) (from : ℕ) (out : Option ℕ)
    (offsets : List ℤ) (ia : ℕ)
    → kind_of (cycle_values app (record {
      name = name;
      kind = kind;
      period = period;
      rule = rule;
      offsets =
          offsets;
      in_effect = from;
      out_effect = out;
      ia = ia;
    })) ≡ kind
kind_back app name period (Normal deadline) rule from out offsets ia = refl
kind_back app name period (Negative None) rule from out offsets ia = refl
kind_back app name period (Negative (Some deadline)) rule from out offsets ia = refl

-- the run cycle of these values, with offsets
abbrev cycle_of : List ℤ → Values → RunCycle
cycle_of offsets v = record {
  name = text_in (column v 1);
  kind = kind_of v;
  period = text_in (column v 3);
  rule = rule_in (text_in (column v 4));
  offsets = offsets;
  in_effect = nat_in (column v 5);
  out_effect = or_nat (column v 6);
  ia = nat_in (column v 7);
}

cycle_back : (app : List ℕ) (x : RunCycle) → cycle_of x.offsets (cycle_values app x) ≡ x
cycle_back app x = λ i. record x {
  kind = kind_back app x.name x.period x.kind x.rule x.in_effect x.out_effect x.offsets x.ia i;
  rule = rule_back x.rule i;
  out_effect = nat_back x.out_effect i;
}

-- but for its offsets, a run cycle is told by its row
one_cycle : (app : List ℕ) (x y : RunCycle) → x.offsets ≡ y.offsets → cycle_values app x ≡ cycle_values app y → x ≡ y
one_cycle app x y same e = sym (cycle_back app x) ∙ (λ i. cycle_of (same i) (e i)) ∙ cycle_back app y

offsets_go : (app : List ℕ) (d e : List RunCycle) → IsCycles e → ((w : Values ⊎ Values) → IsEitherRow app d w
    → IsEitherRow app e w)
    → (x y : RunCycle) → Contains d x → Contains e y → x.name ≡ y.name
    → (i : ℕ) (k : ℤ) → slice_get x.offsets i ≡ Some k → slice_get y.offsets i ≡ Some k
offsets_go app d e fine into x y has there named i k at =
    let (z, found, place, l, got, is) = into (inr (offset_values app x.name i k)) (x, has, i, k, at, refl) in
    let name : x.name ≡ z.name = ap second_name is in
    let same : z ≡ y = same_named (λ (c : RunCycle). c.name) e fine.rising z y found there (sym name ∙ named) in
    let same_place : i ≡ place = ap (λ (v : Values). nat_in (column v 2)) is in
    let same_offset : k ≡ l = ap (λ (v : Values). int_in (column v 3)) is in
    ap (slice_get y.offsets) same_place ∙ ap (λ (c : RunCycle). slice_get c.offsets place) (sym same) ∙ got
    ∙ ap Some (sym same_offset)

cycles_go : (app : List ℕ) (d e : List RunCycle) → IsCycles d → IsCycles e → ((w : Values ⊎ Values)
    → IsEitherRow app d w → IsEitherRow app e w)
    → ((w : Values ⊎ Values) → IsEitherRow app e w → IsEitherRow app d w) → (x : RunCycle) → Contains d x → Contains e x
cycles_go app d e good fine into back x has =
    let (y, there, is) = into (inl (cycle_values app x)) (x, has, refl) in
    let named : x.name ≡ y.name = ap second_name is in
    let offsets : x.offsets ≡ y.offsets = same_places x.offsets y.offsets
    (offsets_go app d e fine into x y has there named)
    (offsets_go app e d good back y x there has (sym named)) in
    subst (Contains e) (sym (one_cycle app x y offsets is)) there

pub one_cycles : (app : List ℕ) (d e : List RunCycle) → IsCycles d → IsCycles e
    → ((w : Values ⊎ Values) → IsEitherRow app d w → IsEitherRow app e w)
    → ((w : Values ⊎ Values) → IsEitherRow app e w → IsEitherRow app d w) → d ≡ e
one_cycles app d e good fine into back = same_rising (λ (c : RunCycle). c.name) d e good.rising fine.rising
    (cycles_go app d e good fine into back) (cycles_go app e d fine good back into)

-- ---- calendars

pub calendar_named : (name : List ℕ) (d : CalendarEntries) (v : Values) → IsCalendarRow name d v → name_of v ≡ name
calendar_named name d v (Weekday weekday status at is) = ap name_of is
calendar_named name d v (Date day status at is) = ap name_of is

pub calendar_some : (name : List ℕ) (d : CalendarEntries) → IsTold d → (v : Values) × IsCalendarRow name d v
calendar_some name d told = let (v, row) = told.some in go v row
  where
    go : (v : Values) → IsCalendarRow [] d v → (v : Values) × IsCalendarRow name d v
    go v (Weekday weekday status at is) = (_, Weekday weekday status at refl)
    go v (Date day status at is) = (_, Date day status at refl)

status_back : (s : DayStatus) → cond (nat_eq (nat_in (is_work s)) 1) Work Free ≡ s
status_back Work = refl
status_back Free = refl

abbrev status_of : Values → DayStatus
status_of v = cond (nat_eq (nat_in (column v 3)) 1) Work Free

zero_one : Apart 0 1
zero_one e = omega (arith, e)

kinds_apart : {A : Type 0} (v w : Values) → nat_in (column v 1) ≡ 0 → nat_in (column w 1) ≡ 1 → v ≡ w → A
kinds_apart v w a b e = absurd (zero_one (sym a ∙ ap (λ (u : Values). nat_in (column u 1)) e ∙ b))

weekday_go : (name : List ℕ) (d e : CalendarEntries) (weekday : ℕ) (s : DayStatus)
    → IsCalendarRow name e (Text name ∷ natural 0 ∷ natural weekday ∷ is_work s ∷ [])
    → slice_get e.weekdays weekday ≡ Some (Some s)
weekday_go name d e weekday s (Weekday w t at is) =
    let same : weekday ≡ w = ap (λ (u : Values). nat_in (column u 2)) is in
    let status : s ≡ t = sym (status_back s) ∙ ap status_of is ∙ status_back t in
    ap (slice_get e.weekdays) same ∙ at ∙ ap (λ x. Some (Some x)) (sym status)
weekday_go name d e weekday s (Date day t at is) =
    kinds_apart (Text name ∷ natural 0 ∷ natural weekday ∷ is_work s ∷ [])
    (Text name ∷ natural 1 ∷ natural day ∷ is_work t ∷ []) refl refl is

date_go : (name : List ℕ) (d e : CalendarEntries) (day : ℕ) (s : DayStatus)
    → IsCalendarRow name e (Text name ∷ natural 1 ∷ natural day ∷ is_work s ∷ []) → maps.get e.dates day ≡ Some s
date_go name d e day s (Date other t at is) =
    let same : day ≡ other = ap (λ (u : Values). nat_in (column u 2)) is in
    let status : s ≡ t = sym (status_back s) ∙ ap status_of is ∙ status_back t in
    ap (maps.get e.dates) same ∙ at ∙ ap Some (sym status)
date_go name d e day s (Weekday w t at is) =
    kinds_apart (Text name ∷ natural 0 ∷ natural w ∷ is_work t ∷ [])
    (Text name ∷ natural 1 ∷ natural day ∷ is_work s ∷ []) refl refl (sym is)

-- lists of one length that have the same at the same places, where they have something
same_filled : {X : Type 0} (xs ys : List (Option X)) → length xs ≡ length ys
    → ((i : ℕ) (x : X) → slice_get xs i ≡ Some (Some x) → slice_get ys i ≡ Some (Some x))
    → ((i : ℕ) (x : X) → slice_get ys i ≡ Some (Some x) → slice_get xs i ≡ Some (Some x)) → xs ≡ ys
same_filled [] [] e h k = refl
same_filled [] (y ∷ ys) e h k = absurd (omega (arith, e))
same_filled (x ∷ xs) [] e h k = absurd (omega (arith, e))
same_filled (x ∷ xs) (y ∷ ys) e h k =
    let first : x ≡ y = same_options x y (λ z f. is_some y (Some z) (h 0 z (ap Some f))) (λ z f. is_some x
    (Some z) (k 0 z (ap Some f))) in
    let rest : xs ≡ ys = same_filled xs ys (omega (arith, e)) (λ i z f. h (suc i) z f) (λ i z f. k (suc i) z f) in
    λ i. first i ∷ rest i

pub one_calendar : (name : List ℕ) (d e : CalendarEntries) → IsTold d → IsTold e
    → ((v : Values) → IsCalendarRow name d v → IsCalendarRow name e v)
    → ((v : Values) → IsCalendarRow name e v → IsCalendarRow name d v) → d ≡ e
one_calendar name d e good fine into back =
    let week : d.weekdays ≡ e.weekdays = same_filled d.weekdays e.weekdays (good.week ∙ sym fine.week)
    (λ i s at. weekday_go name d e i s (into _ (Weekday i s at refl))) (λ i s at. weekday_go name e d i s (back _
    (Weekday i s at refl))) in
    let dates : d.dates ≡ e.dates = same_map nat_cmp_total nat_cmp-IsAntisymmetric d.dates e.dates
    (λ day. same_options (maps.get d.dates day) (maps.get e.dates day) (λ s at. date_go name d e day s (into _
    (Date day s at refl)))
    (λ s at. date_go name e d day s (back _ (Date day s at refl)))) in
    λ i. record { weekdays = week i; dates = dates i }
