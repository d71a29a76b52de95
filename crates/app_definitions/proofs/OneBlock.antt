-- A text reads as one block of a kind at most, and never as one and as faulty.
use Rattle.std.proofs.Common.{◌≡◌, ◌≢◌, ◌⊎◌, ◌∙◌, sym, refl, ap, subst, inl, inr, ℕ, ℤ, pos, cond, ◌-◌, ◌<◌, ◌≤◌}
use Rattle.std.proofs.Common.{List, [], ◌∷◌, length, get_or, take, Bool, true, false, Option, Some, None, arith}
use Rattle.std.specs.Prelude.{All, AllPairs, Any, Contains, IsTrue, ◌↔◌, codes, nat_eq, filter}
use Rattle.std.specs.List.{slice_index_or}
use Rattle.std.specs.FinMap as map
use Rattle.std.specs.FinMap.{same_map, nat_cmp-IsAntisymmetric}
use Rattle.std.specs.Cmp.{nat_cmp_total}
use Rattle.std.specs.Cmp.Lexicographic.{pointwise}
use Rattle.std.proofs.Props.{props}
use Rattle.std.proofs.lemmas.Bool.{cases_lt}
use Rattle.std.proofs.lemmas.List.{get_or_default, get_or-take, length-take, same_lists}
use Rattle.std.proofs.lemmas.List.Elements.{All-contains, Contains-get_or, filter_passes}
use Rattle.std.proofs.lemmas.List.Kept.{AllPairs-filter}
use Rattle.std.specs.Ordering.{nat_cmp}
use Rattle.toml.specs.Data.{Data, string, integer, get_member}
use Rattle.plan_periods.specs.Period.{Entry}
use Rattle.plan_periods.specs.declared.periods.Period.{Period}
use Rattle.plan_periods.specs.declared.periods.Period.TheVariants.{All as AllDays, Work, Listed}
use Rattle.run_cycles.specs.declared.cycles.Deadline.{Deadline}
use Rattle.run_cycles.specs.declared.cycles.CycleType.{CycleType}
use Rattle.run_cycles.specs.declared.cycles.CycleType.TheVariants.{Normal, Negative}
use Rattle.run_cycles.specs.declared.cycles.RunCycle.{RunCycle}
use Rattle.run_cycles.specs.declared.cycles.TheConstants.{MAX_DEADLINE_DAYS}
use Rattle.run_cycles.specs.declared.rules.Rule.{Rule}
use Rattle.run_cycles.specs.declared.rules.Rule.TheVariants.{WorkDaysOnly, Before, After, Same, Skip}
use Rattle.work_calendars.specs.Calendar.{CalendarEntries}
use Rattle.work_calendars.specs.declared.statuses.DayStatus.{DayStatus}
use Rattle.work_calendars.specs.Spelling.{SpellsDay}
use Rattle.work_calendars.proofs.SpellingFacts.{SpellsDay-one_day, SpellsDay-one_text, SpellsMinute-one_minute}
use Rattle.app_definition_records.specs.Applications.{FitsApplication, IsApplicationOf}
use Rattle.app_definitions.specs.Blocks.{Gives, ReadsAs, IsFaultyAt}
use Rattle.app_definition_records.specs.ByName.{records_of, FitsKind, IsDefinedBy, AreGivenBy}
use Rattle.app_definition_records.specs.Calendars.{FitsCalendar, IsCalendarOf, IsListedBy, IsWeekdayText, status_of}
use Rattle.app_definition_records.specs.CycleRecords.{FitsRunCycle, SpellsDeadline, SpellsType, SpellsRunCycle}
use Rattle.app_definition_records.specs.CycleRecords.{AreRunCyclesOf, rule_text}
use Rattle.app_definition_records.specs.Fields.{field, IsNumberUpTo}
use Rattle.app_definitions.specs.Options.{AreOptionsOf, GivesCalendar, GivesHours}
use Rattle.app_definition_records.specs.Periods.{FitsPeriod, IsPeriodOf, GivesEntry, GiveEntries}
use Rattle.app_definition_records.specs.declared.predecessors.Predecessor.{Predecessor}
use Rattle.app_definition_records.specs.Predecessors.{FitsPredecessors, ArePredecessorsOf}
use Rattle.app_definition_records.specs.Records.{Record, Records, AllGood, FirstFaulty, block_records}
use Rattle.app_definition_records.specs.declared.applications.Application.{Application}
use Rattle.app_definitions.specs.declared.kinds.Block.{Block}
use Rattle.app_definitions.specs.declared.kinds.Block.TheVariants as block
use Rattle.app_definitions.specs.declared.kinds.Kind.{Kind}
use Rattle.app_definitions.specs.declared.kinds.Kind.TheVariants as kind
use Rattle.app_definitions.specs.declared.options.Options.{Options}
use Rattle.app_definitions.specs.declared.options.TheConstants.{MAX_EXTENSION_HOURS}
use Rattle.app_definition_records.proofs.ByNameLemmas.{Definitions, same_by_name, same_name, name_itself}
use Rattle.app_definition_records.proofs.CalendarLemmas.{weekday-one_text}
use Rattle.app_definition_records.proofs.PeriodLemmas.{one_end}
use Rattle.app_definition_records.proofs.RisingLemmas.{behind, first_of_list, later_of_list, same_rising, three}
use Rattle.app_definition_records.specs.declared.columns.TheConstants.{NAME, CALENDAR_ENTRY, CALENDAR_STATUS, PERIOD_ORIGIN}
use Rattle.app_definition_records.specs.declared.columns.TheConstants.{PERIOD_LENGTH, CYCLE_TYPE, CYCLE_RULE}
use Rattle.app_definition_records.specs.declared.columns.TheConstants.{CYCLE_IN_EFFECT, CYCLE_OUT_EFFECT, CYCLE_IA}
use Rattle.app_definition_records.specs.declared.columns.TheConstants.{CYCLE_DEADLINE_DAY, CYCLE_DEADLINE_TIME}
use Rattle.app_definition_records.specs.FieldCounts.{HasApplicationFields, HasCalendarFields, HasCycleFields}
use Rattle.app_definition_records.specs.FieldCounts.{HasPeriodFields, HasPredecessorFields}

-- ---- first faulty records

-- of two first faulty records neither comes first
not_before : (Fits : Records → Record → Type 0) (rows : Records) (m n : ℕ) → FirstFaulty Fits rows m
    → FirstFaulty Fits rows n → m < n → ⊥
not_before Fits rows m n p q lt = p.faulty (q.before (m - 1) (omega (arith, p.counted, lt)))

one_first : (Fits : Records → Record → Type 0) (rows : Records) (m n : ℕ) → FirstFaulty Fits rows m
    → FirstFaulty Fits rows n → m ≡ n
one_first Fits rows m n p q = elim (cases_lt m n) [
  | inl lt ↦ absurd (not_before Fits rows m n p q lt)
  | inr ge ↦ elim (cases_lt n m) [ inl lt ↦ absurd (not_before Fits rows n m q p lt) | inr le ↦ omega (arith, ge, le) ]
]

pub one_fault : (k : Kind) (text : List ℕ) (m n : ℕ) → IsFaultyAt k text m → IsFaultyAt k text n → m ≡ n
one_fault kind.Applications text m n p q = one_first _ _ m n p q
one_fault kind.Calendars text m n p q = one_first _ _ m n p q
one_fault kind.Periods text m n p q = one_first _ _ m n p q
one_fault kind.Predecessors text m n p q = one_first _ _ m n p q
one_fault kind.RunCycles text m n p q = one_first _ _ m n p q
one_fault kind.Options text m n p q = p.first ∙ sym q.first

-- good records have no first faulty one
all_good : (Fits : Records → Record → Type 0) (rows : Records) (n : ℕ) → AllGood Fits rows → FirstFaulty Fits rows n → ⊥
all_good Fits rows n good first = first.faulty (good (n - 1) (omega (arith, first.counted, first.there)))

pub never_both : (k : Kind) (text : List ℕ) (b : Block) (n : ℕ) → ReadsAs k text b → IsFaultyAt k text n → ⊥
never_both kind.Applications text b n reads faulty = all_good _ _ n reads.good faulty
never_both kind.Calendars text b n reads faulty = all_good _ _ n reads.good faulty
never_both kind.Periods text b n reads faulty = all_good _ _ n reads.good faulty
never_both kind.Predecessors text b n reads faulty = all_good _ _ n reads.good faulty
never_both kind.RunCycles text b n reads faulty = all_good _ _ n reads.good faulty
never_both kind.Options text b n reads faulty = faulty.no_options reads.0 reads.2

-- ---- applications

same_truth : (a b : Bool) (P : Type 0) → (IsTrue a ↔ P) → (IsTrue b ↔ P) → a ≡ b
same_truth true true P p q = refl
same_truth true false P p q = sym (q.1 (p.0 refl))
same_truth false true P p q = p.1 (q.0 refl)
same_truth false false P p q = refl

one_application : (a b : Application) (rows : Records) → IsApplicationOf a rows → IsApplicationOf b rows → a ≡ b
one_application a b rows p q =
    let active : a.active ≡ b.active = same_truth a.active b.active _ p.active q.active in
    let calendar : a.calendar ≡ b.calendar = p.calendar ∙ sym q.calendar in
    let by_active = λ (x : Bool). let r : Application = record { active = x; calendar = a.calendar } in r in
    let by_calendar = λ (x : Option (List ℕ)). let r : Application = record { active = b.active; calendar = x } in r in
    ap by_active active ∙ ap by_calendar calendar

-- ---- predecessors

one_list : (xs ys : List Predecessor) (rows : Records) → ArePredecessorsOf xs rows → ArePredecessorsOf ys rows → xs ≡ ys
one_list xs ys rows p q = same_rising (λ p. p.name) xs ys p.rising q.rising
    (λ n has. (q.exactly n).1 ((p.exactly n).0 has)) (λ n has. (p.exactly n).1 ((q.exactly n).0 has))

-- ---- options

abbrev options_with : (calendar : List ℕ) (hours : ℕ) → 1 ≤ hours → hours ≤ MAX_EXTENSION_HOURS → Options
options_with calendar hours some in_range =
    record { default_calendar = calendar; max_extension_hours = hours; some = some; in_range = in_range }

one_way : (c : List ℕ) (h : ℕ) (a x : 1 ≤ h) (b y : h ≤ MAX_EXTENSION_HOURS)
    → options_with c h a b ≡ options_with c h x y
one_way c h a x b y =
    let some : a ≡ x = (let p : IsProp (1 ≤ h) = hlevel props in p a x) in
    let in_range : b ≡ y = (let p : IsProp (h ≤ MAX_EXTENSION_HOURS) = hlevel props in p b y) in
    ap (λ (z : 1 ≤ h). options_with c h z b) some ∙ ap (λ (z : h ≤ MAX_EXTENSION_HOURS). options_with c h x z) in_range

same_hours : (c : List ℕ) (h k : ℕ) → h ≡ k
    → (a : 1 ≤ h) (b : h ≤ MAX_EXTENSION_HOURS) (x : 1 ≤ k) (y : k ≤ MAX_EXTENSION_HOURS)
    → options_with c h a b ≡ options_with c k x y
same_hours c h k e =
    let P : ℕ → Type 0 = λ n. (a : 1 ≤ h) (b : h ≤ MAX_EXTENSION_HOURS) (x : 1 ≤ n) (y : n ≤ MAX_EXTENSION_HOURS)
    → options_with c h a b ≡ options_with c n x y in
    subst P e (λ a b x y. one_way c h a x b y)

same_options : (o p : Options) → o.default_calendar ≡ p.default_calendar
    → o.max_extension_hours ≡ p.max_extension_hours → o ≡ p
same_options o p e f =
    same_hours o.default_calendar o.max_extension_hours p.max_extension_hours f o.some o.in_range p.some p.in_range
    ∙ ap (λ c. options_with c p.max_extension_hours p.some p.in_range) e

one_calendar_name : (d : Option Data) (m n : List ℕ) → GivesCalendar d m → GivesCalendar d n → m ≡ n
one_calendar_name None m n p q = p ∙ sym q
one_calendar_name (Some d) m n p q = let e : string m ≡ string n = sym p.0 ∙ q.0 in cc

one_hours : (d : Option Data) (m n : ℕ) → GivesHours d m → GivesHours d n → m ≡ n
one_hours None m n p q = p ∙ sym q
one_hours (Some d) m n p q = let e : integer (pos m) ≡ integer (pos n) = sym p.0 ∙ q.0 in cc

one_options : (text : List ℕ) (o p : Options) → AreOptionsOf o text → AreOptionsOf p text → o ≡ p
one_options text o p a b =
    let e : a.1 ≡ b.1 = (let s : Some a.1 ≡ Some b.1 = sym a.2 ∙ b.2 in cc) in
    let calendar = one_calendar_name (get_member (codes "default_calendar") b.1) o.default_calendar p.default_calendar
    (subst (λ m. GivesCalendar
    (get_member (codes "default_calendar") m) o.default_calendar) e a.3.calendar) b.3.calendar in
    let hours = one_hours (get_member (codes "max_extension_hours") b.1) o.max_extension_hours p.max_extension_hours
    (subst (λ m. GivesHours
    (get_member (codes "max_extension_hours") m) o.max_extension_hours) e a.3.hours) b.3.hours in
    same_options o p calendar hours

-- ---- periods

one_entry : (row : Record) (e f : Entry) → GivesEntry row e → GivesEntry row f → e ≡ f
one_entry row e f p q =
    let origin = SpellsDay-one_day (field row PERIOD_ORIGIN) e.0 f.0 p.0 q.0 in
    let end = one_end (field row PERIOD_LENGTH) e.1 f.1 p.1 q.1 in
    ap (λ (x : ℕ). let r : Entry = (x, e.1) in r) origin ∙ ap (λ (x : Option ℕ). let r : Entry = (f.0, x) in r) end

one_entries : (rows : Records) (xs ys : List Entry) → GiveEntries rows xs → GiveEntries rows ys → xs ≡ ys
one_entries rows xs ys p q = same_lists xs ys (sym p.same_length ∙ q.same_length) (λ k d lt. at k d lt)
  where
    at : (k : ℕ) (d : Entry) → k < length xs → get_or xs k d ≡ get_or ys k d
    at k d lt =
        let below : k < length rows = omega (arith, lt, p.same_length) in
        let within : k < length ys = omega (arith, below, q.same_length) in
        get_or_default xs k d (0, None) lt ∙ one_entry (get_or rows k []) (get_or xs k (0, None))
        (get_or ys k (0, None)) (p.each k below) (q.each k below) ∙ sym (get_or_default ys k d (0, None) within)

letters_apart : (a b : ℕ) → a ≢ b → (text : List ℕ) → text ≡ a ∷ [] → text ≡ b ∷ [] → ⊥
letters_apart a b apart text p q = apart (let e : a ∷ [] ≡ b ∷ [] = sym p ∙ q in cc)

one_period : (rows : Records) (p q : Period) → IsPeriodOf p rows → IsPeriodOf q rows → p ≡ q
one_period rows (AllDays o m) (AllDays p n) a b =
    ap (λ x. AllDays x m) (SpellsDay-one_day _ o p a.1 b.1) ∙ ap (λ x. AllDays p x) (a.2 ∙ sym b.2)
one_period rows (AllDays o m) (Work p n) a b = absurd (letters_apart 65 87 (λ e. omega (arith, e)) _ a.0 b.0)
one_period rows (AllDays o m) (Listed ys) a b = absurd (letters_apart 65 78 (λ e. omega (arith, e)) _ a.0 b.0)
one_period rows (Work o m) (AllDays p n) a b = absurd (letters_apart 87 65 (λ e. omega (arith, e)) _ a.0 b.0)
one_period rows (Work o m) (Work p n) a b =
    ap (λ x. Work x m) (SpellsDay-one_day _ o p a.1 b.1) ∙ ap (λ x. Work p x) (a.2 ∙ sym b.2)
one_period rows (Work o m) (Listed ys) a b = absurd (letters_apart 87 78 (λ e. omega (arith, e)) _ a.0 b.0)
one_period rows (Listed xs) (AllDays p n) a b = absurd (letters_apart 78 65 (λ e. omega (arith, e)) _ a.0 b.0)
one_period rows (Listed xs) (Work p n) a b = absurd (letters_apart 78 87 (λ e. omega (arith, e)) _ a.0 b.0)
one_period rows (Listed xs) (Listed ys) a b = ap Listed (one_entries rows xs ys a.1 b.1)

-- ---- run cycles

one_deadline : (day time : List ℕ) (a b : Deadline) → SpellsDeadline day time a → SpellsDeadline day time b → a ≡ b
one_deadline day time a b p q =
    let days = p.days ∙ sym q.days in
    let clock = SpellsMinute-one_minute time a.time b.time p.clock q.clock in
    ap (λ (x : ℕ). let r : Deadline = record { days = x; time = a.time } in r) days
    ∙ ap (λ (x : ℕ). let r : Deadline = record { days = b.days; time = x } in r) clock

-- the rule of a letter
rule_back : List ℕ → Rule
rule_back text =
    let letter = get_or text 0 0 in
    cond (nat_eq letter 69) WorkDaysOnly (cond (nat_eq letter 49) Before
    (cond (nat_eq letter 50) After (cond (nat_eq letter 51) Same Skip)))

rule_back-text : (rule : Rule) → rule_back (rule_text rule) ≡ rule
unfolding rule_back
rule_back-text WorkDaysOnly = refl
rule_back-text Before = refl
rule_back-text After = refl
rule_back-text Same = refl
rule_back-text Skip = refl

one_rule : (a b : Rule) (text : List ℕ) → text ≡ rule_text a → text ≡ rule_text b → a ≡ b
one_rule a b text p q = sym (rule_back-text a) ∙ ap rule_back (sym p ∙ q) ∙ rule_back-text b

-- a field that is empty is no number
no_number : (greatest : ℕ) (text : List ℕ) → text ≡ [] → IsNumberUpTo greatest text → ⊥
no_number greatest text e number = let some = number.0.not_empty in let none : length text ≡ 0 = ap length e in
    absurd (omega (arith, some, none))

one_kind : (letter day time : List ℕ) (a b : CycleType) → SpellsType letter day time a → SpellsType letter day time b
    → a ≡ b
one_kind letter day time (Normal c) (Normal d) p q = ap Normal (one_deadline day time c d p.1 q.1)
one_kind letter day time (Normal c) (Negative None) p q =
    absurd (letters_apart 78 88 (λ e. omega (arith, e)) letter p.0 q.0)
one_kind letter day time (Normal c) (Negative (Some d)) p q =
    absurd (letters_apart 78 88 (λ e. omega (arith, e)) letter p.0 q.0)
one_kind letter day time (Negative None) (Normal d) p q =
    absurd (letters_apart 88 78 (λ e. omega (arith, e)) letter p.0 q.0)
one_kind letter day time (Negative (Some c)) (Normal d) p q =
    absurd (letters_apart 88 78 (λ e. omega (arith, e)) letter p.0 q.0)
one_kind letter day time (Negative None) (Negative None) p q = refl
one_kind letter day time (Negative None) (Negative (Some d)) p q =
    absurd (no_number MAX_DEADLINE_DAYS day p.1 q.1.day_text)
one_kind letter day time (Negative (Some c)) (Negative None) p q =
    absurd (no_number MAX_DEADLINE_DAYS day q.1 p.1.day_text)
one_kind letter day time (Negative (Some c)) (Negative (Some d)) p q =
    ap (λ (x : Deadline). Negative (Some x)) (one_deadline day time c d p.1 q.1)

abbrev cycle_with : List ℕ → CycleType → List ℕ → Rule → List ℤ → ℕ → Option ℕ → ℕ → RunCycle
cycle_with name kind period rule offsets in_effect out_effect ia =
    record {
      name = name;
      kind = kind;
      period = period;
      rule = rule;
      offsets = offsets;
      in_effect = in_effect;
      out_effect = out_effect;
      ia = ia;
    }

one_cycle : (row : Record) (a b : RunCycle) → SpellsRunCycle row a → SpellsRunCycle row b → a ≡ b
one_cycle row a b p q =
    ap (λ x. cycle_with x a.kind a.period a.rule a.offsets a.in_effect a.out_effect a.ia) (p.name ∙ sym q.name)
    ∙ ap (λ x. cycle_with b.name x a.period a.rule a.offsets a.in_effect a.out_effect a.ia)
    (one_kind (field row CYCLE_TYPE) (field row CYCLE_DEADLINE_DAY)
    (field row CYCLE_DEADLINE_TIME) a.kind b.kind p.kind q.kind)
    ∙ ap (λ x. cycle_with b.name b.kind x a.rule a.offsets a.in_effect a.out_effect a.ia) (p.period ∙ sym q.period)
    ∙ ap (λ x. cycle_with b.name b.kind b.period x a.offsets a.in_effect a.out_effect a.ia)
    (one_rule a.rule b.rule (field row CYCLE_RULE) p.rule q.rule)
    ∙ ap (λ x. cycle_with b.name b.kind b.period b.rule x a.in_effect a.out_effect a.ia)
    (p.offsets.values ∙ sym q.offsets.values)
    ∙ ap (λ x. cycle_with b.name b.kind b.period b.rule b.offsets x a.out_effect a.ia)
    (SpellsDay-one_day (field row CYCLE_IN_EFFECT) a.in_effect b.in_effect p.in_effect q.in_effect)
    ∙ ap (λ x. cycle_with b.name b.kind b.period b.rule b.offsets b.in_effect x a.ia)
    (one_end (field row CYCLE_OUT_EFFECT) a.out_effect b.out_effect p.out_effect q.out_effect)
    ∙ ap (λ x. cycle_with b.name b.kind b.period b.rule b.offsets b.in_effect b.out_effect x)
    (SpellsMinute-one_minute (field row CYCLE_IA) a.ia b.ia p.ia q.ia)

one_cycles : (xs ys : List RunCycle) (rows : Records) → AreRunCyclesOf xs rows → AreRunCyclesOf ys rows → xs ≡ ys
one_cycles xs ys rows p q = same_rising (λ c. c.name) xs ys p.rising q.rising (into xs ys p q) (into ys xs q p)
  where
    into : (us vs : List RunCycle) → AreRunCyclesOf us rows → AreRunCyclesOf vs rows → (c : RunCycle) → Contains us c
        → Contains vs c
    into us vs u v c has =
        let (k, row, lt, is, spelled) = All-contains (λ x. Any (λ r. SpellsRunCycle r x) rows) us c u.each has in
        let (j, other, below, at, same) = All-contains (λ r. Any (SpellsRunCycle r) vs) rows row v.all (k, lt, is) in
        subst (Contains vs) (sym (one_cycle row c other spelled same)) (j, below, at)

-- ---- calendars

-- what a filter keeps
either_way : {X : Type 0} (b : Bool) (y : X) (zs : List X) (x : X) → Contains zs x → Contains (cond b (y ∷ zs) zs) x
either_way true y zs x has = later_of_list y zs x has
either_way false y zs x has = has

kept_of : {X : Type 0} (p : X → Bool) (y : X) (ys : List X) (x : X) → p x ≡ true
    → (Contains ys x → Contains (filter p ys) x) → (y ≡ x) ⊎ Contains ys x → Contains (filter p (y ∷ ys)) x
kept_of p y ys x passes rest (inl e) =
    let yes : p y ≡ true = ap p e ∙ passes in
    subst (λ b. Contains (cond b (y ∷ filter p ys) (filter p ys)) x) (sym yes)
    (subst (Contains (y ∷ filter p ys)) e (first_of_list y (filter p ys)))
kept_of p y ys x passes rest (inr later) = either_way (p y) y (filter p ys) x (rest later)

Contains-filter : {X : Type 0} (p : X → Bool) (xs : List X) (x : X) → p x ≡ true → Contains xs x
    → Contains (filter p xs) x
Contains-filter p [] x passes (k, lt, is) = absurd (omega (arith, lt))
Contains-filter p (y ∷ ys) x passes has = kept_of p y ys x passes (Contains-filter p ys x passes) (behind y ys x has)

-- a record is about the name
abbrev IsOf : List ℕ → Record → Type 0
IsOf name row = pointwise nat_eq (field row NAME) name ≡ true

abbrev AreApart : List ℕ → Record → Record → Type 0
AreApart name r s = IsOf name r → IsOf name s → field r CALENDAR_ENTRY ≢ field s CALENDAR_ENTRY

-- good records of one calendar have different entries
rows_apart : (rows : Records) (name : List ℕ) → AllGood (FitsKind HasCalendarFields FitsCalendar) rows
    → AllPairs (AreApart name) rows
rows_apart rows name good i j d lt within of_first of_second same =
    let row = get_or rows j [] in
    let earlier = get_or (take j rows) i d in
    let fits : FitsCalendar (records_of (field row NAME) (take j rows)) row = (good j within).fits in
    let here : get_or rows j d ≡ row = get_or_default rows j d [] within in
    let there : earlier ≡ get_or rows i d = get_or-take j rows i d lt in
    let short : i < length (take j rows) = omega (arith, length-take j rows, lt, within) in
    let named : field earlier NAME ≡ field row NAME =
    ap (λ r. field r NAME) there ∙ same_name (field (get_or rows i d) NAME) name of_first
    ∙ sym (same_name (field (get_or rows j d) NAME) name of_second) ∙ ap (λ r. field r NAME) here in
    let about : IsOf (field row NAME) earlier =
    subst (λ n. pointwise nat_eq (field earlier NAME) n ≡ true) named (name_itself (field earlier NAME)) in
    fits.new earlier (Contains-filter (λ r. pointwise nat_eq (field r NAME) (field row NAME))
    (take j rows) earlier about (Contains-get_or (take j rows) i d short))
    (ap (λ r. field r CALENDAR_ENTRY) there ∙ same ∙ ap (λ r. field r CALENDAR_ENTRY) here)

-- one record of a calendar is about an entry at most
one_record : (rows : Records) (name : List ℕ) → AllGood (FitsKind HasCalendarFields FitsCalendar) rows → (r s : Record)
    → Contains (records_of name rows) r → Contains (records_of name rows) s
    → field r CALENDAR_ENTRY ≡ field s CALENDAR_ENTRY → r ≡ s
one_record rows name good r s (i, li, ei) (j, lj, ej) same = at (three i j)
  where
    own : Records
    own = records_of name rows

    second : get_or own j r ≡ s
    second = get_or_default own j r s lj ∙ ej

    pairs : AllPairs (AreApart name) own
    pairs = AllPairs-filter (AreApart name) (λ row. pointwise nat_eq (field row NAME) name) rows
        (rows_apart rows name good)

    of : All (IsOf name) own
    of = filter_passes (λ row. pointwise nat_eq (field row NAME) name) rows

    at : (i < j) ⊎ ((i ≡ j) ⊎ (j < i)) → r ≡ s
    at (inl lt) = absurd (pairs i j r lt lj (of i r li) (of j r lj)
        (ap (λ x. field x CALENDAR_ENTRY) ei ∙ same ∙ sym (ap (λ x. field x CALENDAR_ENTRY) second)))
    at (inr (inl e)) = sym ei ∙ ap (λ n. get_or own n r) e ∙ second
    at (inr (inr lt)) = absurd (pairs j i r lt li (of j r lj) (of i r li)
        (ap (λ x. field x CALENDAR_ENTRY) second ∙ sym same ∙ sym (ap (λ x. field x CALENDAR_ENTRY) ei)))

one_listed : (listed other : Option DayStatus) (IsAbout : List ℕ → Type 0) (rows : Records)
    → ((r s : Record) → Contains rows r → Contains rows s → IsAbout (field r CALENDAR_ENTRY)
    → IsAbout (field s CALENDAR_ENTRY) → r ≡ s)
    → IsListedBy listed IsAbout rows → IsListedBy other IsAbout rows → listed ≡ other
one_listed None None IsAbout rows one p q = refl
one_listed None (Some t) IsAbout rows one p q = absurd (p q.0 q.1 q.2)
one_listed (Some s) None IsAbout rows one p q = absurd (q p.0 p.1 p.2)
one_listed (Some s) (Some t) IsAbout rows one p q =
    ap Some (p.3 ∙ ap (λ r. status_of (field r CALENDAR_STATUS)) (one p.0 q.0 p.1 q.1 p.2 q.2) ∙ sym q.3)

one_calendar : (rows : Records) (name : List ℕ) → AllGood (FitsKind HasCalendarFields FitsCalendar) rows
    → (c d : CalendarEntries)
    → IsCalendarOf c (records_of name rows) → IsCalendarOf d (records_of name rows) → c ≡ d
one_calendar rows name good c d p q = ap (λ w. with_parts w c.dates) week ∙ ap (λ m. with_parts d.weekdays m) dates
  where
    with_parts : List (Option DayStatus) → map.FinMap nat_cmp DayStatus → CalendarEntries
    with_parts w m = record { weekdays = w; dates = m }

    own : Records
    own = records_of name rows

    on_weekday : (w : ℕ) → w < 7 → slice_index_or c.weekdays w None ≡ slice_index_or d.weekdays w None
    on_weekday w lt =
        one_listed (slice_index_or c.weekdays w None) (slice_index_or d.weekdays w None)
        (λ text. IsWeekdayText text w) own
        (λ r s a b about other. one_record rows name good r s a b
        (weekday-one_text w (field r CALENDAR_ENTRY) (field s CALENDAR_ENTRY) about other)) (p.weekdays w lt)
        (q.weekdays w lt)

    week : c.weekdays ≡ d.weekdays
    week = same_lists c.weekdays d.weekdays (p.week ∙ sym q.week) (λ w x lt.
        let in_week : w < 7 = omega (arith, lt, p.week) in
        let within : w < length d.weekdays = omega (arith, in_week, q.week) in
        get_or_default c.weekdays w x None lt ∙ on_weekday w in_week ∙ sym (get_or_default d.weekdays w x None within))

    dates : c.dates ≡ d.dates
    dates = same_map nat_cmp_total nat_cmp-IsAntisymmetric c.dates d.dates (λ day.
        one_listed (map.get c.dates day) (map.get d.dates day) (λ text. SpellsDay text day) own
        (λ r s a b about other. one_record rows name good r s a b
        (SpellsDay-one_text (field r CALENDAR_ENTRY) (field s CALENDAR_ENTRY) day about other)) (p.dates day)
        (q.dates day))

-- ---- definitions by name

one_defined : {D : Type 0} (IsMadeOf : D → Records → Type 0) (rows : Records) (o p : Option D)
    → ((d e : D) → IsMadeOf d rows → IsMadeOf e rows → d ≡ e) → IsDefinedBy IsMadeOf o rows
    → IsDefinedBy IsMadeOf p rows → o ≡ p
one_defined IsMadeOf rows None None one a b = refl
one_defined IsMadeOf rows None (Some e) one a b = absurd (b.0 a)
one_defined IsMadeOf rows (Some d) None one a b = absurd (a.0 b)
one_defined IsMadeOf rows (Some d) (Some e) one a b = ap Some (one d e a.1 b.1)

one_given : {D : Type 0} (IsMadeOf : D → Records → Type 0) (rows : Records) (m n : Definitions D)
    → ((name : List ℕ) (d e : D) → IsMadeOf d (records_of name rows) → IsMadeOf e (records_of name rows) → d ≡ e)
    → AreGivenBy IsMadeOf m rows → AreGivenBy IsMadeOf n rows → m ≡ n
one_given IsMadeOf rows m n one a b = same_by_name m n
    (λ name. one_defined IsMadeOf (records_of name rows) (map.get m name) (map.get n name) (one name) (a name) (b name))

one_gives : {D : Type 0} (of : Definitions D → Block) (HasFields : ℕ → Type 0) (FitsName : Records → Record → Type 0)
    (IsMadeOf : D → Records → Type 0) (rows : Records) (a b : Block)
    → (AllGood (FitsKind HasFields FitsName) rows → (name : List ℕ) (d e : D) → IsMadeOf d (records_of name rows)
    → IsMadeOf e (records_of name rows) → d ≡ e)
    → Gives of HasFields FitsName IsMadeOf rows a → Gives of HasFields FitsName IsMadeOf rows b → a ≡ b
one_gives of HasFields FitsName IsMadeOf rows a b one p q =
    p.is ∙ ap of (one_given IsMadeOf rows p.definitions q.definitions (one p.good) p.given q.given) ∙ sym q.is

pub one_block : (k : Kind) (text : List ℕ) (a b : Block) → ReadsAs k text a → ReadsAs k text b → a ≡ b
one_block kind.Applications text a b p q =
    let rows = block_records text in
    one_gives block.Applications HasApplicationFields FitsApplication IsApplicationOf rows a b
    (λ good name d e. one_application d e (records_of name rows)) p q
one_block kind.Calendars text a b p q =
    let rows = block_records text in
    one_gives block.Calendars HasCalendarFields FitsCalendar IsCalendarOf rows a b
    (λ good name d e. one_calendar rows name good d e) p q
one_block kind.Periods text a b p q =
    let rows = block_records text in
    one_gives block.Periods HasPeriodFields FitsPeriod IsPeriodOf rows a b
    (λ good name d e. one_period (records_of name rows) d e) p q
one_block kind.Predecessors text a b p q =
    let rows = block_records text in
    one_gives block.Predecessors HasPredecessorFields FitsPredecessors ArePredecessorsOf rows a b
    (λ good name d e. one_list d e (records_of name rows)) p q
one_block kind.RunCycles text a b p q =
    let rows = block_records text in
    one_gives block.RunCycles HasCycleFields FitsRunCycle AreRunCyclesOf rows a b
    (λ good name d e. one_cycles d e (records_of name rows)) p q
one_block kind.Options text a b p q = p.1 ∙ ap block.Options (one_options text p.0 q.0 p.2 q.2) ∙ sym q.1
