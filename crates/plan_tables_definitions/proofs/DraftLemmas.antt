-- What rows of one name have told so far, kind by kind.
use Rattle.std.proofs.Common.{◌≡◌, ◌⊎◌, inl, inr, ℕ, zero, suc, ◌<◌, List, [], ◌∷◌, Option, Some, None}
use Rattle.std.proofs.Common.{cond, nat_eq, length, get_or, refl, sym, ap, ◌∙◌, subst, arith}
use Rattle.std.specs.Prelude.{slice_get, IsSome}
use Rattle.std.specs.FinMap as map
use Rattle.sqlite.specs.Order.{Row as Values, column}
use Rattle.app_definition_records.specs.declared.applications.Application.{Application}
use Rattle.plan_tables_content.specs.Facts.{application_values}
use Rattle.plan_tables_content.specs.Decoded.{nat_in}
use Rattle.plan_tables_content.proofs.Decoded.{one_application}
use Rattle.plan_tables_content.specs.Facts.{IsCalendarRow, is_work}
use Rattle.plan_tables_content.specs.Facts.IsCalendarRow.{Weekday, Date}
use Rattle.std.specs.Cmp.{nat_cmp_total, unsigned_ties}
use Rattle.std.specs.FinMap.{get-empty, get-insert}
use Rattle.std.specs.Ordering.{nat_cmp}
use Rattle.std.proofs.Math.Dec.{eqb}
use Rattle.std.proofs.lemmas.Bool.{cases_eq, eq-eqb, ne_eqb}
use Rattle.std.proofs.lemmas.List.{get_or-set_same, get_or-set_other}
use Rattle.std.proofs.lemmas.Option.{get_or_from_slice_get}
use Rattle.sqlite.specs.declared.types.Value.{Value}
use Rattle.work_calendars.specs.Calendar.{CalendarEntries, no_entries, with_date, with_weekday}
use Rattle.work_calendars.specs.declared.statuses.DayStatus.{DayStatus}
use Rattle.work_calendars.specs.declared.statuses.DayStatus.TheVariants.{Work, Free}
use Rattle.plan_tables_definitions.specs.Drafted.{IsReadApplication, RepresentsEntry}
use Rattle.plan_tables_definitions.specs.Drafted.{calendar_values}
use Rattle.plan_tables_definitions.specs.Gathering.{Alike, Joins, Within}

some_is : {X : Type 0} (a b : X) → Some a ≡ Some b → a ≡ b
some_is a b e = cc

-- ---- applications

-- two applications that one row tells
pub other_application : (name : List ℕ) (row : Values) (a b d : Application) → row ≡ application_values name b
    → row ≡ application_values name d → Within (IsReadApplication name (Some a)) (λ v. v ≡ application_values name d)
    → a ≡ b
other_application name row a b d is at within =
    one_application name a d (within (application_values name a) refl)
    ∙ one_application name d b (sym at ∙ is)

pub application_read : (name : List ℕ) (d : Application) (o : Option Application)
    → Alike (λ v. v ≡ application_values name d) (IsReadApplication name o) → IsSome o
application_read name d None alike = absurd ((alike (application_values name d)).0 refl)
application_read name d (Some a) alike = refl

-- ---- calendars

reads_some : {X : Type 0} (xs : List (Option X)) (n : ℕ) (x : X) → get_or xs n None ≡ Some x
    → slice_get xs n ≡ Some (Some x)
reads_some [] n x is = absurd (let h : ⊥ = cc in h)
reads_some (y ∷ ys) zero x is = ap Some is
reads_some (y ∷ ys) (suc n) x is = reads_some ys n x is

some_reads : {X : Type 0} (xs : List (Option X)) (n : ℕ) (x : X) → slice_get xs n ≡ Some (Some x)
    → get_or xs n None ≡ Some x
some_reads xs n x at = get_or_from_slice_get xs n (Some x) None at

abbrev status_in : Value → DayStatus
status_in v = cond (nat_eq (nat_in v) 1) Work Free

status_back : (s : DayStatus) → status_in (is_work s) ≡ s
status_back Work = refl
status_back Free = refl

abbrev kind_of : Values → ℕ
kind_of v = nat_in (column v 1)

abbrev day_of : Values → ℕ
day_of v = nat_in (column v 2)

abbrev status_of : Values → DayStatus
status_of v = status_in (column v 3)

same_parts : {A : Type 0} (name other : List ℕ) (k l m n : ℕ) (s t : DayStatus)
    → calendar_values name k m s ≡ calendar_values other l n t
    → (k ≡ l → m ≡ n → s ≡ t → A) → A
same_parts name other k l m n s t e then = then (ap kind_of e) (ap day_of e)
    (sym (status_back s) ∙ ap status_of e ∙ status_back t)

pub entry_told : (name : List ℕ) (c : CalendarEntries) (kind day : ℕ) (status : DayStatus)
    → IsCalendarRow name c (calendar_values name kind day status) → RepresentsEntry c kind day status
entry_told name c kind day status (Weekday w t at is) = same_parts name name kind 0 day w status t is
    (λ k d s. inl (k, ap (λ n. get_or c.weekdays n None) d ∙ some_reads c.weekdays w t at ∙ ap Some (sym s)))
entry_told name c kind day status (Date d t at is) = same_parts name name kind 1 day d status t is
    (λ k e s. inr (k, ap (map.get c.dates) e ∙ at ∙ ap Some (sym s)))

pub told_entry : (name : List ℕ) (c : CalendarEntries) (kind day : ℕ) (status : DayStatus)
    → RepresentsEntry c kind day status → IsCalendarRow name c (calendar_values name kind day status)
told_entry name c kind day status (inl (k, at)) =
    Weekday day status (reads_some c.weekdays day status at) (ap (λ n. calendar_values name n day status) k)
told_entry name c kind day status (inr (k, at)) =
    Date day status at (ap (λ n. calendar_values name n day status) k)

-- each row of a calendar is of an entry
pub entry_of : (name : List ℕ) (c : CalendarEntries) (v : Values) → IsCalendarRow name c v
    → (kind : ℕ) × (day : ℕ) × (status : DayStatus) × (v ≡ calendar_values name kind day status)
    × RepresentsEntry c kind day status
entry_of name c v (Weekday w t at is) = (0, w, t, is, inl (refl, some_reads c.weekdays w t at))
entry_of name c v (Date d t at is) = (1, d, t, is, inr (refl, at))

-- an entry that a calendar has
pub has_entry : (name : List ℕ) (c : CalendarEntries) (kind day : ℕ) (status : DayStatus)
    → RepresentsEntry c kind day status
    → Joins (IsCalendarRow name c) (calendar_values name kind day status) (IsCalendarRow name c)
has_entry name c kind day status told v = (
  λ is. inl is,
  λ some. elim some [
    | inl is ↦ is
    | inr is ↦ subst (IsCalendarRow name c) (sym is) (told_entry name c kind day status
        told)
  ],
)

-- an entry that a calendar gets
gets_entry : (name : List ℕ) (c new : CalendarEntries) (kind day : ℕ) (status : DayStatus)
    → RepresentsEntry new kind day status
    → ((k d : ℕ) (s : DayStatus) → RepresentsEntry c k d s → RepresentsEntry new k d s)
    → ((k d : ℕ) (s : DayStatus) → RepresentsEntry new k d s
    → RepresentsEntry c k d s ⊎ ((k ≡ kind) × (d ≡ day) × (s ≡ status)))
    → Joins (IsCalendarRow name c) (calendar_values name kind day status) (IsCalendarRow name new)
gets_entry name c new kind day status told kept come v = (
  λ is. let (k, d, s, it, tells) = entry_of name new v is in elim (come k d s tells) [
    | inl was ↦ inl (subst (IsCalendarRow name c) (sym it) (told_entry name c k d s was))
    | inr (a, b, e) ↦ inr (it ∙ (λ i. calendar_values name (a i) (b i) (e i)))
  ],
  λ some. elim some [
    | inl is ↦ let (k, d, s, it, tells) = entry_of name c v is in
        subst (IsCalendarRow name new) (sym it) (told_entry name new k d s (kept k d s tells))
    | inr is ↦ subst (IsCalendarRow name new) (sym is) (told_entry name new kind day status told)
  ],
)

pub gets_weekday : (name : List ℕ) (c : CalendarEntries) (w : ℕ) (status : DayStatus) → w < length c.weekdays
    → get_or c.weekdays w None ≡ None
    → Joins (IsCalendarRow name c) (calendar_values name 0 w status) (IsCalendarRow name (with_weekday c w status))
gets_weekday name c w status under none = gets_entry name c (with_weekday c w status) 0 w status (inl (refl, here))
    kept come
  where
    here : get_or (with_weekday c w status).weekdays w None ≡ Some status
    here = get_or-set_same c.weekdays w (Some status) None under

    other : (d : ℕ) → (d ≡ w → ⊥) → get_or (with_weekday c w status).weekdays d None ≡ get_or c.weekdays d None
    other d apart = get_or-set_other c.weekdays w d (Some status) None apart

    dates : (with_weekday c w status).dates ≡ c.dates
    dates = refl

    kept : (k d : ℕ) (s : DayStatus) → RepresentsEntry c k d s → RepresentsEntry (with_weekday c w status) k d s
    kept k d s (inl (is, at)) = inl (
      is,
      other d (λ e. none_is_some (ap (λ n. get_or c.weekdays n None) (sym e) ∙ at))
          ∙ at,
    )
      where
        none_is_some : get_or c.weekdays w None ≡ Some s → ⊥
        none_is_some e = let h : ⊥ = cc in h
    kept k d s (inr (is, at)) = inr (is, ap (λ m. map.get m d) dates ∙ at)

    come : (k d : ℕ) (s : DayStatus) → RepresentsEntry (with_weekday c w status) k d s → RepresentsEntry c k d s ⊎ ((k ≡ 0) × (d
        ≡ w) × (s ≡ status))
    come k d s (inl (is, at)) = elim (cases_eq d w) [
      | inl same ↦ inr (
        is,
        same,
        some_is s status (sym at ∙ ap (λ n. get_or (with_weekday c w status).weekdays n
            None) same ∙ here),
      )
      | inr apart ↦ inl (inl (is, sym (other d apart) ∙ at))
    ]
    come k d s (inr (is, at)) = inl (inr (is, ap (λ m. map.get m d) (sym dates) ∙ at))

got_date : (c : CalendarEntries) (day : ℕ) (status : DayStatus) (d : ℕ)
    → map.get (with_date c day status).dates d ≡ cond (eqb d day) (Some status) (map.get c.dates d)
got_date c day status d = get-insert nat_cmp_total c.dates day status d
    ∙ ap (λ b. cond b (Some status) (map.get c.dates d)) (sym (unsigned_ties d day))

pub gets_date : (name : List ℕ) (c : CalendarEntries) (day : ℕ) (status : DayStatus) → map.get c.dates day ≡ None
    → Joins (IsCalendarRow name c) (calendar_values name 1 day status) (IsCalendarRow name (with_date c day status))
gets_date name c day status none = gets_entry name c (with_date c day status) 1 day status (inr (refl, here)) kept come
  where
    got : (d : ℕ) → map.get (with_date c day status).dates d ≡ cond (eqb d day) (Some status) (map.get c.dates d)
    got d = got_date c day status d

    here : map.get (with_date c day status).dates day ≡ Some status
    here = got day ∙ ap (λ b. cond b (Some status) (map.get c.dates day)) (eq-eqb day day refl)

    other : (d : ℕ) → (d ≡ day → ⊥) → map.get (with_date c day status).dates d ≡ map.get c.dates d
    other d apart = got d ∙ ap (λ b. cond b (Some status) (map.get c.dates d)) (ne_eqb d day apart)

    week : (with_date c day status).weekdays ≡ c.weekdays
    week = refl

    kept : (k d : ℕ) (s : DayStatus) → RepresentsEntry c k d s → RepresentsEntry (with_date c day status) k d s
    kept k d s (inl (is, at)) = inl (is, ap (λ l. get_or l d None) week ∙ at)
    kept k d s (inr (is, at)) = inr (is, other d (λ e. none_is_some (ap (map.get c.dates) (sym e) ∙ at)) ∙ at)
      where
        none_is_some : map.get c.dates day ≡ Some s → ⊥
        none_is_some e = let h : ⊥ = cc in h

    come : (k d : ℕ) (s : DayStatus) → RepresentsEntry (with_date c day status) k d s → RepresentsEntry c k d s ⊎ ((k ≡ 1) × (d
        ≡ day) × (s ≡ status))
    come k d s (inl (is, at)) = inl (inl (is, ap (λ l. get_or l d None) (sym week) ∙ at))
    come k d s (inr (is, at)) = elim (cases_eq d day) [
      | inl same ↦ inr (is, same, some_is s status (sym at ∙ ap (map.get (with_date c day status).dates) same ∙ here))
      | inr apart ↦ inl (inr (is, sym (other d apart) ∙ at))
    ]

-- nothing is listed yet
pub no_entry : (name : List ℕ) (v : Values) → IsCalendarRow name no_entries v → ⊥
no_entry name v is = let (k, d, s, it, tells) = entry_of name no_entries v is in elim tells [
  | inl (a, at) ↦ none_listed d s at
  | inr (a, at) ↦ let none = get-empty nat_cmp d in none_here (map.get no_entries.dates d) s none at
]
  where
    none_here : (o : Option DayStatus) (s : DayStatus) → o ≡ None → o ≡ Some s → ⊥
    none_here o s e h = let k : ⊥ = cc in k

    none_listed : (d : ℕ) (s : DayStatus) → get_or no_entries.weekdays d None ≡ Some s → ⊥
    none_listed zero s e = let h : ⊥ = cc in h
    none_listed (suc zero) s e = let h : ⊥ = cc in h
    none_listed (suc (suc zero)) s e = let h : ⊥ = cc in h
    none_listed (suc (suc (suc zero))) s e = let h : ⊥ = cc in h
    none_listed (suc (suc (suc (suc zero)))) s e = let h : ⊥ = cc in h
    none_listed (suc (suc (suc (suc (suc zero))))) s e = let h : ⊥ = cc in h
    none_listed (suc (suc (suc (suc (suc (suc zero)))))) s e = let h : ⊥ = cc in h
    none_listed (suc (suc (suc (suc (suc (suc (suc n))))))) s e = let h : ⊥ = cc in h

-- of one entry there is one status
pub one_status : (c : CalendarEntries) (kind day : ℕ) (s t : DayStatus) → RepresentsEntry c kind day s
    → RepresentsEntry c kind day t → s ≡ t
one_status c kind day s t (inl (a, at)) (inl (b, is)) = some_is s t (sym at ∙ is)
one_status c kind day s t (inr (a, at)) (inr (b, is)) = some_is s t (sym at ∙ is)
one_status c kind day s t (inl (a, at)) (inr (b, is)) = absurd (omega (arith, a, b))
one_status c kind day s t (inr (a, at)) (inl (b, is)) = absurd (omega (arith, a, b))

-- ---- run cycles

pub width_9 : (v : Values) → length v ≡ 9
    → v ≡ column v 0 ∷ column v 1 ∷ column v 2 ∷ column v 3 ∷ column v 4 ∷ column v 5 ∷ column v 6 ∷ column v 7
    ∷ column v 8 ∷ []
width_9 [] long = absurd (omega (arith, long))
width_9 (a ∷ []) long = absurd (omega (arith, long))
width_9 (a ∷ b ∷ []) long = absurd (omega (arith, long))
width_9 (a ∷ b ∷ c ∷ []) long = absurd (omega (arith, long))
width_9 (a ∷ b ∷ c ∷ d ∷ []) long = absurd (omega (arith, long))
width_9 (a ∷ b ∷ c ∷ d ∷ e ∷ []) long = absurd (omega (arith, long))
width_9 (a ∷ b ∷ c ∷ d ∷ e ∷ f ∷ []) long = absurd (omega (arith, long))
width_9 (a ∷ b ∷ c ∷ d ∷ e ∷ f ∷ g ∷ []) long = absurd (omega (arith, long))
width_9 (a ∷ b ∷ c ∷ d ∷ e ∷ f ∷ g ∷ h ∷ []) long = absurd (omega (arith, long))
width_9 (a ∷ b ∷ c ∷ d ∷ e ∷ f ∷ g ∷ h ∷ i ∷ []) long = refl
width_9 (a ∷ b ∷ c ∷ d ∷ e ∷ f ∷ g ∷ h ∷ i ∷ j ∷ v) long = absurd (omega (arith, long))
