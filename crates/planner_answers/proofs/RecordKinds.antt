-- Blocks of the kinds that have records: they are read, or are faulty at a record.
use Rattle.std.proofs.Common.{◌≡◌, ◌⊎◌, ◌↔◌, ℕ, ℤ, ◌-◌, ◌<◌, Bool, true, false, List, [], ◌∷◌}
use Rattle.std.proofs.Common.{◌++◌, length, map, get_or, refl, sym, ap, subst, ◌∙◌, inl, inr, arith, Option, None, Some, Less}
use Rattle.std.specs.Prelude.{IsTrue, codes}
use Rattle.std.specs.List.{All, Any, Contains, slice_index_or}
use Rattle.std.specs.Cmp.Lexicographic.{slice_cmp, nat_list_cmp_total}
use Rattle.std.specs.Ordering.{nat_cmp}
use Rattle.std.proofs.lemmas.List.Elements.{All-contains, Contains-append_left, Contains-get_or}
use Rattle.std.proofs.lemmas.List.Elements.{Contains-push, Contains-push_cases}
use Rattle.work_calendars.specs.Calendar.{CalendarEntries, no_entries, with_date, with_weekday}
use Rattle.work_calendars.specs.Name.{IsName}
use Rattle.work_calendars.specs.declared.names.TheConstants.{LONGEST_NAME, LONGEST_SHORT_NAME}
use Rattle.work_calendars.specs.declared.within.TheConstants.{MAX_WITHIN}
use Rattle.work_calendars.proofs.SpellingFacts.{SpellsDay-one_day}
use Rattle.plan_periods.specs.Period.{Entry}
use Rattle.plan_periods.specs.declared.periods.Period.{Period}
use Rattle.plan_periods.specs.declared.periods.Period.TheVariants.{All as AllDays, Work, Listed}
use Rattle.plan_periods.specs.declared.periods.TheConstants.{MAX_INTERVAL}
use Rattle.run_cycles.specs.declared.cycles.CycleType.{CycleType}
use Rattle.run_cycles.specs.declared.cycles.CycleType.TheVariants.{Normal, Negative}
use Rattle.run_cycles.specs.declared.cycles.Deadline.{Deadline}
use Rattle.run_cycles.specs.declared.cycles.RunCycle.{RunCycle}
use Rattle.run_cycles.specs.declared.cycles.TheConstants.{MAX_DEADLINE_DAYS}
use Rattle.run_cycles.specs.declared.offsets.TheConstants.{MAX_OFFSET, MAX_OFFSETS}
use Rattle.run_cycles.specs.declared.rules.Rule.{Rule}
use Rattle.run_cycles.specs.declared.rules.Rule.TheVariants.{WorkDaysOnly, Before, After, Same, Skip}
use Rattle.app_definition_records.specs.Applications.{FitsApplication, IsApplicationOf}
use Rattle.app_definition_records.specs.ByName.{IsDefinedBy}
use Rattle.app_definition_records.specs.Calendars.{FitsCalendar, IsCalendarOf, IsWeekdayText}
use Rattle.app_definition_records.specs.Calendars.{status_of, weekday_letters}
use Rattle.app_definition_records.specs.CycleRecords.{AreRunCyclesOf, FitsRunCycle, IsOffsetText, IsRunCycleText}
use Rattle.app_definition_records.specs.CycleRecords.{SpellsDeadline, SpellsOffsets, SpellsRunCycle, SpellsType}
use Rattle.app_definition_records.specs.CycleRecords.{cycle_names_of, offset_digits, offset_value, pieces_of, rule_text}
use Rattle.app_definition_records.specs.Fields.{field, number_value}
use Rattle.app_definition_records.specs.Fields.{some_unless_empty}
use Rattle.app_definition_records.specs.Periods.{BeginsPeriod, FitsPeriod, GiveEntries, GivesEntry, HasInterval, IsLaterThan}
use Rattle.app_definition_records.specs.Periods.{IsPeriodOf}
use Rattle.app_definition_records.specs.Predecessors.{ArePredecessorsOf, FitsPredecessors, IsPredecessorRecord, IsWithinText}
use Rattle.app_definition_records.specs.Predecessors.{named_by, predecessor_of, predecessors_of}
use Rattle.app_definition_records.specs.Records.{Record, Records}
use Rattle.app_definition_records.specs.declared.applications.Application.{Application}
use Rattle.app_definition_records.specs.declared.columns.TheConstants.{APPLICATION_CALENDAR, APPLICATION_STATUS}
use Rattle.app_definition_records.specs.declared.columns.TheConstants.{CALENDAR_ENTRY, CALENDAR_STATUS, CYCLE_DEADLINE_DAY}
use Rattle.app_definition_records.specs.declared.columns.TheConstants.{CYCLE_DEADLINE_TIME, CYCLE_IA, CYCLE_IN_EFFECT}
use Rattle.app_definition_records.specs.declared.columns.TheConstants.{CYCLE_NAME, CYCLE_OFFSETS, CYCLE_OUT_EFFECT}
use Rattle.app_definition_records.specs.declared.columns.TheConstants.{CYCLE_PERIOD, CYCLE_RULE, CYCLE_TYPE, NAME}
use Rattle.app_definition_records.specs.declared.columns.TheConstants.{PERIOD_LENGTH, PERIOD_ORIGIN, PERIOD_TYPE}
use Rattle.app_definition_records.specs.declared.columns.TheConstants.{PREDECESSOR, PREDECESSOR_WITHIN}
use Rattle.app_definition_records.specs.declared.predecessors.Predecessor.{Predecessor}
use Rattle.app_definition_records.proofs.CalendarLemmas.{IsCalendarOf-none, date-more, weekday-more}
use Rattle.app_definition_records.proofs.PeriodLemmas.{GiveEntries-push, entry-ends}
use Rattle.app_definition_records.proofs.RisingLemmas.{Contains-map, Contains-map_back, own_names}
use Rattle.planner_answers.proofs.Finite.{Decided, decided_all, decided_any, decided_both, decided_either, decided_le}
use Rattle.planner_answers.proofs.Finite.{decided_lt, decided_not, decided_so, decided_three, finite_below, finite_list}
use Rattle.planner_answers.proofs.Ordered.{listing}
use Rattle.planner_answers.proofs.Orders.{name_ranked, one_of_name}
use Rattle.planner_answers.proofs.Equal.{decided_all_in, decided_if_some, decided_name}
use Rattle.planner_answers.proofs.Texts.{decided_day_text, decided_empty_or, decided_minute_text, decided_named, decided_nil}
use Rattle.planner_answers.proofs.Texts.{decided_number_text, decided_optional_day, decided_up_to}

-- what is decided, as a test
told : {A : Type 0} → Decided A → (b : Bool) × (IsTrue b ↔ A)
told (inl a) = (true, ((λ _. a), λ _. refl))
told (inr never) = (false, ((λ is. absurd (let no : ⊥ = cc in no)), λ a. absurd (never a)))

decided_contains : (xs : List (List ℕ)) (x : List ℕ) → Decided (Contains xs x)
decided_contains xs x =
    decided_so (λ (y, there, same). subst (Contains xs) same there) (λ there. (x, there, refl))
    (decided_any (finite_list xs) (λ y there. decided_name y x))

each_of : {X : Type 0} (P : X → Type 0) (xs : List X) → ((x : X) → Contains xs x → P x) → All P xs
each_of P xs f k d lt = f (get_or xs k d) (Contains-get_or xs k d lt)

some_of : {X : Type 0} (P : X → Type 0) (xs : List X) (x : X) → Contains xs x → P x → Any P xs
some_of P xs x (k, lt, is) p = (k, x, lt, is, p)

-- applications

pub application_fits : (before : Records) (row : Record) → Decided (FitsApplication before row)
application_fits before row =
    decided_so
    (λ (only, status, calendar). record { only = only; status = status; calendar = calendar })
    (λ h. (h.only, h.status, h.calendar))
    (decided_three (decided_nil before)
    (decided_either (decided_name (field row APPLICATION_STATUS) (codes "A"))
    (decided_name (field row APPLICATION_STATUS) (codes "P")))
    (decided_empty_or IsName (field row APPLICATION_CALENDAR)
    (decided_named LONGEST_NAME (field row APPLICATION_CALENDAR))))

pub application_joins : (o : Option Application) (earlier : Records) (row : Record)
    → IsDefinedBy IsApplicationOf o earlier → FitsApplication earlier row
    → (a : Application) × IsApplicationOf a (earlier ++ row ∷ [])
application_joins o earlier row by fits =
    let active = told (decided_name (field row APPLICATION_STATUS) (codes "A")) in
    let a : Application = record {
      active = active.0;
      calendar = some_unless_empty (field row APPLICATION_CALENDAR);
    } in
    subst (λ l. (a : Application) × IsApplicationOf a (l ++ row ∷ [])) (sym fits.only)
    (a, record { active = active.1; calendar = refl })

-- calendars

decided_weekday : (text : List ℕ) → Decided ((weekday : ℕ) × IsWeekdayText text weekday)
decided_weekday text =
    decided_so (λ (w, lt, same). (w, (lt, same))) (λ (w, both). (w, both.0, both.1))
    (decided_any (finite_below 7) (λ w lt. decided_name text (slice_index_or weekday_letters w [])))

pub calendar_fits : (before : Records) (row : Record) → Decided (FitsCalendar before row)
calendar_fits before row =
    decided_so
    (λ (entry, status, new). record { entry = entry; status = status; new = new })
    (λ h. (h.entry, h.status, h.new))
    (decided_three
    (decided_either (decided_weekday (field row CALENDAR_ENTRY)) (decided_day_text (field row CALENDAR_ENTRY)))
    (decided_either (decided_name (field row CALENDAR_STATUS) (codes "WORK"))
    (decided_name (field row CALENDAR_STATUS) (codes "FREE")))
    (decided_all (finite_list before)
    (λ earlier there. decided_not (decided_name (field earlier CALENDAR_ENTRY) (field row CALENDAR_ENTRY)))))

calendar_more : (c : CalendarEntries) (before : Records) (row : Record) → IsCalendarOf c before → FitsCalendar before row
    → (c' : CalendarEntries) × IsCalendarOf c' (before ++ row ∷ [])
calendar_more c before row of fits = elim fits.entry [
  | inl (w, about) ↦ (
    with_weekday c w (status_of (field row CALENDAR_STATUS)),
    weekday-more c before row w (status_of (field row CALENDAR_STATUS)) about refl of,
  )
  | inr (day, spells) ↦ (
    with_date c day (status_of (field row CALENDAR_STATUS)),
    date-more c before row day (status_of (field row CALENDAR_STATUS)) spells refl of,
  )
]

pub calendar_joins : (o : Option CalendarEntries) (earlier : Records) (row : Record)
    → IsDefinedBy IsCalendarOf o earlier → FitsCalendar earlier row
    → (c : CalendarEntries) × IsCalendarOf c (earlier ++ row ∷ [])
calendar_joins None earlier row none fits =
    calendar_more no_entries earlier row (subst (IsCalendarOf no_entries) (sym none) IsCalendarOf-none) fits
calendar_joins (Some c) earlier row by fits = calendar_more c earlier row by.1 fits

-- periods

decided_interval : (row : Record) → Decided (HasInterval row)
decided_interval row =
    decided_both (decided_up_to MAX_INTERVAL (field row PERIOD_LENGTH))
    (decided_le 1 (number_value (field row PERIOD_LENGTH)))

decided_entry : (row : Record) → Decided ((entry : Entry) × GivesEntry row entry)
decided_entry row = elim (decided_day_text (field row PERIOD_ORIGIN)) [
  | inl (origin, spells) ↦ elim (decided_optional_day (field row PERIOD_LENGTH)) [
    | inl (end, spells') ↦ elim (decided_if_some end (λ last. decided_le origin last)) [
      | inl ends ↦ inl ((origin, end), (spells, spells', ends))
      | inr never ↦ inr (λ (e, gives). never (entry-ends row origin end spells spells' e gives))
    ]
    | inr never ↦ inr (λ (e, gives). never (e.1, gives.1))
  ]
  | inr never ↦ inr (λ (e, gives). never (e.0, gives.0))
]

decided_later : (before : Records) (origin : ℕ) → Decided (IsLaterThan before origin)
decided_later before origin =
    elim (decided_day_text (field (slice_index_or before (length before - 1) []) PERIOD_ORIGIN)) [
      | inl (day, spells) ↦
          decided_so
          (λ lt last spells'. subst (λ x. x < origin)
          (SpellsDay-one_day (field (slice_index_or before (length before - 1) []) PERIOD_ORIGIN) day last spells spells') lt)
          (λ h. h day spells) (decided_lt day origin)
      | inr never ↦ inl (λ last spells. absurd (never (last, spells)))
    ]

decided_goes_on : (before : Records) (row : Record)
    → Decided ((entry : Entry) × GivesEntry row entry × IsLaterThan before entry.0)
decided_goes_on before row = elim (decided_entry row) [
  | inl (e, gives) ↦ elim (decided_later before e.0) [
    | inl later ↦ inl (e, gives, later)
    | inr never ↦ inr (λ (f, gives', later). never (subst (IsLaterThan before)
        (SpellsDay-one_day (field row PERIOD_ORIGIN) f.0 e.0 gives'.0 gives.0) later))
  ]
  | inr never ↦ inr (λ (f, gives', later). never (f, gives'))
]

pub period_fits : (before : Records) (row : Record) → Decided (FitsPeriod before row)
period_fits [] row =
    decided_both (decided_named LONGEST_SHORT_NAME (field row NAME))
    (decided_either
    (decided_three
    (decided_either (decided_name (field row PERIOD_TYPE) (codes "A")) (decided_name (field row PERIOD_TYPE) (codes "W")))
    (decided_day_text (field row PERIOD_ORIGIN)) (decided_interval row))
    (decided_both (decided_name (field row PERIOD_TYPE) (codes "N")) (decided_entry row)))
period_fits (first ∷ more) row =
    decided_three (decided_name (field (slice_index_or (first ∷ more) 0 []) PERIOD_TYPE) (codes "N"))
    (decided_name (field row PERIOD_TYPE) (codes "N")) (decided_goes_on (first ∷ more) row)

no_entries_given : GiveEntries [] []
no_entries_given = record { same_length = refl; each = λ k lt. absurd (omega (arith, lt)) }

period_begun : (row : Record) → BeginsPeriod row → (p : Period) × IsPeriodOf p (row ∷ [])
period_begun row (short, inl (inl all, day, interval)) =
    (AllDays day.0 (number_value (field row PERIOD_LENGTH)), (all, day.1, refl))
period_begun row (short, inl (inr work, day, interval)) =
    (Work day.0 (number_value (field row PERIOD_LENGTH)), (work, day.1, refl))
period_begun row (short, inr (listed, (e, gives))) =
    (Listed (e ∷ []), (listed, GiveEntries-push [] [] row e no_entries_given gives))

letters_apart : (a b : ℕ) → (a ≡ b → ⊥) → (text : List ℕ) → text ≡ a ∷ [] → text ≡ b ∷ [] → ⊥
letters_apart a b apart text p q = apart (let e : a ∷ [] ≡ b ∷ [] = sym p ∙ q in cc)

period_goes_on : (p : Period) (first : Record) (more : Records) (row : Record) → IsPeriodOf p (first ∷ more)
    → FitsPeriod (first ∷ more) row → (q : Period) × IsPeriodOf q ((first ∷ more) ++ row ∷ [])
period_goes_on (AllDays origin n) first more row of fits =
    absurd (letters_apart 65 78 (λ e. omega (arith, e)) (field first PERIOD_TYPE) of.0 fits.0)
period_goes_on (Work origin n) first more row of fits =
    absurd (letters_apart 87 78 (λ e. omega (arith, e)) (field first PERIOD_TYPE) of.0 fits.0)
period_goes_on (Listed entries) first more row of fits =
    let (e, gives, later) = fits.2 in
    (Listed (entries ++ e ∷ []), (of.0, GiveEntries-push (first ∷ more) entries row e of.1 gives))

pub period_joins : (o : Option Period) (earlier : Records) (row : Record) → IsDefinedBy IsPeriodOf o earlier
    → FitsPeriod earlier row → (p : Period) × IsPeriodOf p (earlier ++ row ∷ [])
period_joins None earlier row none fits =
    subst (λ l. (p : Period) × IsPeriodOf p (l ++ row ∷ [])) (sym none)
    (period_begun row (subst (λ l. FitsPeriod l row) none fits))
period_joins (Some p) [] row by fits = absurd (by.0 refl)
period_joins (Some p) (first ∷ more) row by fits = period_goes_on p first more row by.1 fits

-- predecessors

decided_within_text : (text : List ℕ) → Decided (IsWithinText text)
decided_within_text text =
    decided_both (decided_number_text text)
    (decided_both (decided_le 1 (number_value text)) (decided_le (number_value text) MAX_WITHIN))

decided_predecessor : (row : Record) → Decided (IsPredecessorRecord row)
decided_predecessor row =
    decided_so (λ (named, within). record { named = named; within = within }) (λ h. (h.named, h.within))
    (decided_both (decided_named LONGEST_NAME (field row PREDECESSOR))
    (decided_empty_or IsWithinText (field row PREDECESSOR_WITHIN) (decided_within_text (field row PREDECESSOR_WITHIN))))

pub predecessors_fit : (before : Records) (row : Record) → Decided (FitsPredecessors before row)
predecessors_fit before row =
    decided_so (λ (is, new). record { is = is; new = new }) (λ h. (h.is, h.new))
    (decided_both (decided_predecessor row)
    (decided_not (decided_contains (named_by before) (field row PREDECESSOR))))

module _ (listed : List Predecessor) (before : Records) (row : Record) (are : ArePredecessorsOf listed before)
    (fits : FitsPredecessors before row) where
  abbrev IsOne : Predecessor → Type 0
  IsOne p = Contains (predecessors_of (before ++ row ∷ [])) p

  -- it was there, or is the new one
  old_or_new : (p : Predecessor) → IsOne p → Contains listed p ⊎ (predecessor_of row ≡ p)
  old_or_new p there = by (Contains-map_back predecessor_of (before ++ row ∷ []) p there)
    where
      by : ((r : Record) × Contains (before ++ row ∷ []) r × (predecessor_of r ≡ p))
          → Contains listed p ⊎ (predecessor_of row ≡ p)
      by (r, has, same) = elim (Contains-push_cases before row r has) [
        | inl old ↦ inl ((are.exactly p).1
            (subst (Contains (predecessors_of before)) same (Contains-map predecessor_of before r old)))
        | inr new ↦ inr (ap predecessor_of new ∙ same)
      ]

  new_apart : (p : Predecessor) → Contains listed p → p.name ≡ field row PREDECESSOR → ⊥
  new_apart p there same =
      let (r, has, is) = Contains-map_back predecessor_of before p ((are.exactly p).0 there) in
      fits.new (subst (Contains (named_by before)) (ap (λ (q : Predecessor). q.name) is ∙ same)
      (Contains-map (λ (x : Record). field x PREDECESSOR) before r has))

  one_named : (p q : Predecessor) → IsOne p → IsOne q → p.name ≡ q.name → p ≡ q
  one_named p q there there' same = elim (old_or_new p there) [
    | inl old ↦ elim (old_or_new q there') [
      | inl old' ↦ one_of_name (λ (x : Predecessor). x.name) listed (own_names (λ (x : Predecessor). x.name) listed are.rising) p q old old' same
      | inr new' ↦ absurd (new_apart p old (same ∙ sym (ap (λ (x : Predecessor). x.name) new')))
    ]
    | inr new ↦ elim (old_or_new q there') [
      | inl old' ↦ absurd (new_apart q old' (sym same ∙ sym (ap (λ (x : Predecessor). x.name) new)))
      | inr new' ↦ sym new ∙ new'
    ]
  ]

  predecessors_more : (listed' : List Predecessor) × ArePredecessorsOf listed' (before ++ row ∷ [])
  predecessors_more =
      let list = listing (λ (p : Predecessor) (q : Predecessor). slice_cmp nat_cmp p.name q.name ≡ Less)
      (λ p q r. nat_list_cmp_total.trans p.name q.name r.name)
      (finite_list (predecessors_of (before ++ row ∷ [])))
      (λ p q h k. name_ranked (λ (x : Predecessor). x.name) p q (one_named p q h k)) in
      (list.list, record { rising = list.rising; exactly = list.exactly })

nothing_in : {X : Type 0} (x : X) → Contains [] x → ⊥
nothing_in x (k, lt, is) = omega (arith, lt)

no_predecessors : ArePredecessorsOf [] []
no_predecessors = record {
  rising = λ i j d lt within. absurd (omega (arith, within));
  exactly = λ p. ((λ h. absurd (nothing_in p h)), λ h. absurd (nothing_in p h));
}

pub predecessors_join : (o : Option (List Predecessor)) (earlier : Records) (row : Record)
    → IsDefinedBy ArePredecessorsOf o earlier → FitsPredecessors earlier row
    → (listed : List Predecessor) × ArePredecessorsOf listed (earlier ++ row ∷ [])
predecessors_join None earlier row none fits =
    predecessors_more [] earlier row (subst (ArePredecessorsOf []) (sym none) no_predecessors) fits
predecessors_join (Some listed) earlier row by fits = predecessors_more listed earlier row by.1 fits

-- run cycles

decided_rule : (text : List ℕ) → Decided ((rule : Rule) × (text ≡ rule_text rule))
decided_rule text = elim (decided_name text (rule_text WorkDaysOnly)) [
  | inl is ↦ inl (WorkDaysOnly, is)
  | inr a ↦ elim (decided_name text (rule_text Before)) [
    | inl is ↦ inl (Before, is)
    | inr b ↦ elim (decided_name text (rule_text After)) [
      | inl is ↦ inl (After, is)
      | inr c ↦ elim (decided_name text (rule_text Same)) [
        | inl is ↦ inl (Same, is)
        | inr d ↦ elim (decided_name text (rule_text Skip)) [
          | inl is ↦ inl (Skip, is)
          | inr e ↦ inr (λ found. none a b c d e found.0 found.1)
        ]
      ]
    ]
  ]
]
  where
    none : (text ≡ rule_text WorkDaysOnly → ⊥) → (text ≡ rule_text Before → ⊥) → (text ≡ rule_text After → ⊥)
        → (text ≡ rule_text Same → ⊥) → (text ≡ rule_text Skip → ⊥) → (rule : Rule) → text ≡ rule_text rule → ⊥
    none a b c d e WorkDaysOnly is = a is
    none a b c d e Before is = b is
    none a b c d e After is = c is
    none a b c d e Same is = d is
    none a b c d e Skip is = e is

decided_deadline : (day time : List ℕ) → Decided ((deadline : Deadline) × SpellsDeadline day time deadline)
decided_deadline day time =
    decided_so
    (λ (text, (minute, spells)). (
      record { days = number_value day; time = minute },
      record { day_text = text; days = refl; clock = spells },
    ))
    (λ (deadline, is). (is.day_text, (deadline.time, is.clock)))
    (decided_both (decided_up_to MAX_DEADLINE_DAYS day) (decided_minute_text time))

decided_type : (letter day time : List ℕ) → Decided ((kind : CycleType) × SpellsType letter day time kind)
decided_type letter day time =
    decided_so to back
    (decided_either
    (decided_both (decided_name letter (codes "N")) (decided_deadline day time))
    (decided_both (decided_name letter (codes "X"))
    (decided_either (decided_deadline day time) (decided_both (decided_nil day) (decided_nil time)))))
  where
    to : ((letter ≡ codes "N") × ((deadline : Deadline) × SpellsDeadline day time deadline))
        ⊎ ((letter ≡ codes "X") × (((deadline : Deadline) × SpellsDeadline day time deadline)
        ⊎ ((day ≡ []) × (time ≡ []))))
        → (kind : CycleType) × SpellsType letter day time kind
    to (inl (is, (deadline, spells))) = (Normal deadline, (is, spells))
    to (inr (is, inl (deadline, spells))) = (Negative (Some deadline), (is, spells))
    to (inr (is, inr (no_day, no_time))) = (Negative None, (is, no_day, no_time))

    back : ((kind : CycleType) × SpellsType letter day time kind)
        → ((letter ≡ codes "N") × ((deadline : Deadline) × SpellsDeadline day time deadline))
        ⊎ ((letter ≡ codes "X") × (((deadline : Deadline) × SpellsDeadline day time deadline)
        ⊎ ((day ≡ []) × (time ≡ []))))
    back (Normal deadline, spells) = inl (spells.0, (deadline, spells.1))
    back (Negative (Some deadline), spells) = inr (spells.0, inl (deadline, spells.1))
    back (Negative None, spells) = inr (spells.0, inr (spells.1, spells.2))

decided_offset : (text : List ℕ) → Decided (IsOffsetText text)
decided_offset text =
    decided_both (decided_up_to MAX_OFFSET (offset_digits text)) (decided_le 1 (number_value (offset_digits text)))

decided_offsets : (text : List ℕ) → Decided ((offsets : List ℤ) × SpellsOffsets text offsets)
decided_offsets text =
    decided_so
    (λ (each, few). (map offset_value (pieces_of text), record { each = each; few = few; values = refl }))
    (λ (offsets, is). (is.each, is.few))
    (decided_both (decided_all_in (pieces_of text) decided_offset) (decided_le (length (pieces_of text)) MAX_OFFSETS))

decided_cycle : (row : Record) → Decided (IsRunCycleText row)
decided_cycle row =
    decided_so
    (λ (((short, kind), (short_period, rule)), ((offsets, in_effect), (out_effect, ia))). (
      record {
        name = field row CYCLE_NAME;
        kind = kind.0;
        period = field row CYCLE_PERIOD;
        rule = rule.0;
        offsets = offsets.0;
        in_effect = in_effect.0;
        out_effect = out_effect.0;
        ia = ia.0;
      },
      record {
        short_name = short;
        name = refl;
        kind = kind.1;
        short_period = short_period;
        period = refl;
        rule = rule.1;
        offsets = offsets.1;
        in_effect = in_effect.1;
        out_effect = out_effect.1;
        ia = ia.1;
      },
    ))
    (λ (cycle, is). (
      ((is.short_name, (cycle.kind, is.kind)), (is.short_period, (cycle.rule, is.rule))),
      (
        ((cycle.offsets, is.offsets), (cycle.in_effect, is.in_effect)),
        ((cycle.out_effect, is.out_effect), (cycle.ia, is.ia)),
      ),
    ))
    (decided_both
    (decided_both
    (decided_both (decided_named LONGEST_SHORT_NAME (field row CYCLE_NAME))
    (decided_type (field row CYCLE_TYPE) (field row CYCLE_DEADLINE_DAY) (field row CYCLE_DEADLINE_TIME)))
    (decided_both (decided_named LONGEST_SHORT_NAME (field row CYCLE_PERIOD)) (decided_rule (field row CYCLE_RULE))))
    (decided_both
    (decided_both (decided_offsets (field row CYCLE_OFFSETS)) (decided_day_text (field row CYCLE_IN_EFFECT)))
    (decided_both (decided_optional_day (field row CYCLE_OUT_EFFECT)) (decided_minute_text (field row CYCLE_IA)))))

pub cycles_fit : (before : Records) (row : Record) → Decided (FitsRunCycle before row)
cycles_fit before row =
    decided_both (decided_cycle row) (decided_not (decided_contains (cycle_names_of before) (field row CYCLE_NAME)))

module _ (cycles : List RunCycle) (before : Records) (row : Record) (are : AreRunCyclesOf cycles before)
    (fits : FitsRunCycle before row) where
  abbrev new_cycle : RunCycle
  new_cycle = fits.0.0

  abbrev cycle_name : RunCycle → List ℕ
  cycle_name cycle = cycle.name

  abbrev with_new : List RunCycle
  with_new = cycles ++ new_cycle ∷ []

  cycle_apart : (c : RunCycle) → Contains cycles c → c.name ≡ new_cycle.name → ⊥
  cycle_apart c there same =
      let (k, r, lt, at, spelled) =
      All-contains (λ x. Any (λ r. SpellsRunCycle r x) before) cycles c are.each there in
      fits.1 (subst (Contains (cycle_names_of before)) (sym spelled.name ∙ same ∙ fits.0.1.name)
      (Contains-map (λ (x : Record). field x CYCLE_NAME) before r (k, lt, at)))

  one_cycle : (c e : RunCycle) → Contains with_new c → Contains with_new e → c.name ≡ e.name → c ≡ e
  one_cycle c e there there' same = elim (Contains-push_cases cycles new_cycle c there) [
    | inl old ↦ elim (Contains-push_cases cycles new_cycle e there') [
      | inl old' ↦ one_of_name cycle_name cycles (own_names cycle_name cycles are.rising) c e old old' same
      | inr new' ↦ absurd (cycle_apart c old (same ∙ sym (ap cycle_name new')))
    ]
    | inr new ↦ elim (Contains-push_cases cycles new_cycle e there') [
      | inl old' ↦ absurd (cycle_apart e old' (sym same ∙ sym (ap cycle_name new)))
      | inr new' ↦ sym new ∙ new'
    ]
  ]

  cycle_spelled : (c : RunCycle) → Contains with_new c → Any (λ r. SpellsRunCycle r c) (before ++ row ∷ [])
  cycle_spelled c there = elim (Contains-push_cases cycles new_cycle c there) [
    | inl old ↦
        let (k, r, lt, at, spelled) =
        All-contains (λ x. Any (λ r. SpellsRunCycle r x) before) cycles c are.each old in
        some_of (λ r. SpellsRunCycle r c) (before ++ row ∷ []) r (Contains-append_left before (row ∷ []) r (k, lt, at))
        spelled
    | inr new ↦
        some_of (λ r. SpellsRunCycle r c) (before ++ row ∷ []) row (Contains-push before row)
        (subst (SpellsRunCycle row) new fits.0.1)
  ]

  record_spells : (list : List RunCycle) → ((c : RunCycle) → Contains with_new c → Contains list c) → (r : Record)
      → Contains (before ++ row ∷ []) r → Any (SpellsRunCycle r) list
  record_spells list has r there = elim (Contains-push_cases before row r there) [
    | inl old ↦
        let (k, c, lt, at, spelled) = All-contains (λ x. Any (SpellsRunCycle x) cycles) before r are.all old in
        some_of (SpellsRunCycle r) list c
        (has c (Contains-append_left cycles (new_cycle ∷ []) c (k, lt, at))) spelled
    | inr new ↦
        some_of (SpellsRunCycle r) list new_cycle (has new_cycle (Contains-push cycles new_cycle))
        (subst (λ x. SpellsRunCycle x new_cycle) new fits.0.1)
  ]

  cycles_more : (cycles' : List RunCycle) × AreRunCyclesOf cycles' (before ++ row ∷ [])
  cycles_more =
      let list = listing (λ (c : RunCycle) (e : RunCycle). slice_cmp nat_cmp c.name e.name ≡ Less)
      (λ c d e. nat_list_cmp_total.trans c.name d.name e.name) (finite_list with_new)
      (λ c e h k. name_ranked cycle_name c e (one_cycle c e h k)) in (
        list.list,
        record {
          rising = list.rising;
          each = each_of (λ c. Any (λ r. SpellsRunCycle r c) (before ++ row ∷ [])) list.list
              (λ c there. cycle_spelled c ((list.exactly c).0 there));
          all = each_of (λ r. Any (SpellsRunCycle r) list.list) (before ++ row ∷ [])
              (record_spells list.list (λ c there. (list.exactly c).1 there));
        },
      )

no_cycles : AreRunCyclesOf [] []
no_cycles = record {
  rising = λ i j d lt within. absurd (omega (arith, within));
  each = λ k d lt. absurd (omega (arith, lt));
  all = λ k d lt. absurd (omega (arith, lt));
}

pub cycles_join : (o : Option (List RunCycle)) (earlier : Records) (row : Record)
    → IsDefinedBy AreRunCyclesOf o earlier → FitsRunCycle earlier row
    → (cycles : List RunCycle) × AreRunCyclesOf cycles (earlier ++ row ∷ [])
cycles_join None earlier row none fits =
    cycles_more [] earlier row (subst (AreRunCyclesOf []) (sym none) no_cycles) fits
cycles_join (Some cycles) earlier row by fits = cycles_more cycles earlier row by.1 fits
