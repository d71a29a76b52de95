-- Each text of a `define` is read as a block, or is faulty at a record.
use Rattle.std.proofs.Common.{◌≡◌, ◌⊎◌, ℕ, pos, negsuc, ◌≤◌, true, false, List, refl, sym, subst, ◌∙◌}
use Rattle.std.proofs.Common.{inl, inr, arith, Option, None, Some, IsSome, IsUtf8, Ordering, Less, Equal, Greater}
use Rattle.std.specs.Prelude.{codes, Bool}
use Rattle.std.specs.Str.{is_utf8}
use Rattle.std.specs.Cmp.{tied_itself}
use Rattle.std.specs.Cmp.Lexicographic.{slice_cmp, nat_list_cmp_total}
use Rattle.std.specs.Ordering.{match_ordering, nat_cmp}
use Rattle.std.proofs.lemmas.Str.{IsUtf8-from_is_utf8, is_utf8-from_IsUtf8}
use Rattle.toml.specs.Data.{Data, Members, array, boolean, datetime, float, get_member, integer, member, no_members, string}
use Rattle.toml.specs.Data.{table}
use Rattle.toml.specs.Parse.{parse_document}
use Rattle.work_calendars.specs.Name.{IsName}
use Rattle.work_calendars.specs.declared.names.TheConstants.{LONGEST_NAME}
use Rattle.app_definition_records.specs.Applications.{FitsApplication, IsApplicationOf}
use Rattle.app_definition_records.specs.Calendars.{FitsCalendar, IsCalendarOf}
use Rattle.app_definition_records.specs.CycleRecords.{AreRunCyclesOf, FitsRunCycle}
use Rattle.app_definition_records.specs.FieldCounts.{HasApplicationFields, HasCalendarFields, HasCycleFields}
use Rattle.app_definition_records.specs.FieldCounts.{HasPeriodFields, HasPredecessorFields}
use Rattle.app_definition_records.specs.Periods.{FitsPeriod, IsPeriodOf}
use Rattle.app_definition_records.specs.Predecessors.{ArePredecessorsOf, FitsPredecessors}
use Rattle.app_definition_records.specs.Records.{block_records}
use Rattle.app_definition_records.specs.declared.columns.TheConstants.{APPLICATION_FIELDS, CALENDAR_FIELDS, CYCLE_FIELDS}
use Rattle.app_definition_records.specs.declared.columns.TheConstants.{LIMITED_PREDECESSOR_FIELDS, PERIOD_FIELDS}
use Rattle.app_definition_records.specs.declared.columns.TheConstants.{PREDECESSOR_FIELDS}
use Rattle.app_definitions.specs.Blocks.{IsFaultyAt, ReadsAs}
use Rattle.app_definitions.specs.Options.{AreOptionsIn, AreOptionsOf, GivesCalendar, GivesHours, HasOnlyOptions, IsOptionKey}
use Rattle.app_definitions.specs.declared.kinds.Block.{Block}
use Rattle.app_definitions.specs.declared.kinds.Block.TheVariants as block
use Rattle.app_definitions.specs.declared.kinds.Kind.{Kind}
use Rattle.app_definitions.specs.declared.kinds.Kind.TheVariants as kind
use Rattle.app_definitions.specs.declared.options.Options.{Options}
use Rattle.app_definitions.specs.declared.options.TheConstants.{MAX_EXTENSION_HOURS}
use Rattle.external_dependencies.proofs.OrderLemmas.{name_ties}
use Rattle.planner_answers.proofs.Finite.{Decided, decided_both, decided_either, decided_le, decided_number, decided_so}
use Rattle.planner_answers.proofs.Finite.{decided_three}
use Rattle.planner_answers.proofs.Equal.{decided_name}
use Rattle.planner_answers.proofs.Texts.{decided_named}
use Rattle.planner_answers.proofs.Readings.{read_or_faulty}
use Rattle.planner_answers.proofs.RecordKinds.{application_fits, application_joins, calendar_fits, calendar_joins, cycles_fit}
use Rattle.planner_answers.proofs.RecordKinds.{cycles_join, period_fits, period_joins, predecessors_fit, predecessors_join}

-- options

decided_option_key : (key : List ℕ) → Decided (IsOptionKey key)
decided_option_key key =
    decided_either (decided_name key (codes "default_calendar")) (decided_name key (codes "max_extension_hours"))

-- what a look-up finds among one member more
found_at : (o : Ordering) (d : Data) (rest : Option Data) (P : Type 0) → (o ≡ Equal → P) → (IsSome rest → P)
    → IsSome (match_ordering o rest (Some d) rest) → P
found_at Less d rest P same other found = other found
found_at Equal d rest P same other found = same refl
found_at Greater d rest P same other found = other found

found_or : (o : Ordering) (d : Data) (rest : Option Data) → IsSome rest → IsSome (match_ordering o rest (Some d) rest)
found_or Less d rest h = h
found_or Equal d rest h = refl
found_or Greater d rest h = h

found_here : (l : List ℕ) (d : Data) (ms : Members) → IsSome (get_member l (member l d ms))
found_here l d ms =
    subst (λ o. IsSome (match_ordering o (get_member l ms) (Some d) (get_member l ms)))
    (sym (tied_itself nat_list_cmp_total l)) refl

decided_only : (ms : Members) → Decided (HasOnlyOptions ms)
decided_only no_members = inl (λ key found. absurd (let no : ⊥ = cc in no))
decided_only (member l d ms) = elim (decided_option_key l) [
  | inr never ↦ inr (λ only. never (only l (found_here l d ms)))
  | inl is ↦ decided_so (wider is) narrower (decided_only ms)
]
  where
    wider : IsOptionKey l → HasOnlyOptions ms → HasOnlyOptions (member l d ms)
    wider is only key found =
        found_at (slice_cmp nat_cmp key l) d (get_member key ms) (IsOptionKey key)
        (λ tie. subst IsOptionKey (sym (name_ties key l tie)) is) (λ rest. only key rest) found

    narrower : HasOnlyOptions (member l d ms) → HasOnlyOptions ms
    narrower only key found = only key (found_or (slice_cmp nat_cmp key l) d (get_member key ms) found)

decided_calendar : (o : Option Data) → Decided ((name : List ℕ) × GivesCalendar o name)
decided_calendar None = inl (codes "DEFAULT", refl)
decided_calendar (Some (string s)) =
    decided_so (λ named. (s, (refl, named)))
    (λ (name, both). let same : string s ≡ string name = both.0 in
    let names : name ≡ s = cc in subst IsName names both.1)
    (decided_named LONGEST_NAME s)
decided_calendar (Some (integer z)) = inr (λ (name, both). let same = both.0 in cc)
decided_calendar (Some (float x)) = inr (λ (name, both). let same = both.0 in cc)
decided_calendar (Some (boolean b)) = inr (λ (name, both). let same = both.0 in cc)
decided_calendar (Some (datetime dt)) = inr (λ (name, both). let same = both.0 in cc)
decided_calendar (Some (array ds)) = inr (λ (name, both). let same = both.0 in cc)
decided_calendar (Some (table ms)) = inr (λ (name, both). let same = both.0 in cc)

decided_hours : (o : Option Data) → Decided ((hours : ℕ) × GivesHours o hours)
decided_hours None = inl (MAX_EXTENSION_HOURS, refl)
decided_hours (Some (integer (pos n))) =
    decided_so (λ (least, most). (n, (refl, least, most)))
    (λ (hours, all). let same : integer (pos n) ≡ integer (pos hours) = all.0 in
    let hours_are : hours ≡ n = cc in
    (subst (λ h. 1 ≤ h) hours_are all.1, subst (λ h. h ≤ MAX_EXTENSION_HOURS) hours_are all.2))
    (decided_both (decided_le 1 n) (decided_le n MAX_EXTENSION_HOURS))
decided_hours (Some (integer (negsuc m))) =
    inr (λ (hours, all). let same : integer (negsuc m) ≡ integer (pos hours) = all.0 in cc)
decided_hours (Some (string s)) = inr (λ (hours, all). let same = all.0 in cc)
decided_hours (Some (float x)) = inr (λ (hours, all). let same = all.0 in cc)
decided_hours (Some (boolean b)) = inr (λ (hours, all). let same = all.0 in cc)
decided_hours (Some (datetime dt)) = inr (λ (hours, all). let same = all.0 in cc)
decided_hours (Some (array ds)) = inr (λ (hours, all). let same = all.0 in cc)
decided_hours (Some (table ms)) = inr (λ (hours, all). let same = all.0 in cc)

hours_range : (o : Option Data) (hours : ℕ) → GivesHours o hours → (1 ≤ hours) × (hours ≤ MAX_EXTENSION_HOURS)
hours_range None hours same = (omega (arith, same), omega (arith, same))
hours_range (Some d) hours all = (all.1, all.2)

decided_options_in : (ms : Members) → Decided ((o : Options) × AreOptionsIn o ms)
decided_options_in ms =
    decided_so to (λ (o, is). (is.only, (o.default_calendar, is.calendar), (o.max_extension_hours, is.hours)))
    (decided_three (decided_only ms) (decided_calendar (get_member (codes "default_calendar") ms))
    (decided_hours (get_member (codes "max_extension_hours") ms)))
  where
    to : HasOnlyOptions ms × ((name : List ℕ) × GivesCalendar (get_member (codes "default_calendar") ms) name)
        × ((hours : ℕ) × GivesHours (get_member (codes "max_extension_hours") ms) hours)
        → (o : Options) × AreOptionsIn o ms
    to (only, (name, calendar), (hours, gives)) =
        let range = hours_range (get_member (codes "max_extension_hours") ms) hours gives in (
          record { default_calendar = name; max_extension_hours = hours; some = range.0; in_range = range.1 },
          record { only = only; calendar = calendar; hours = gives },
        )

module _ (text : List ℕ) where
  decided_document : (o : Option Members) → parse_document text ≡ o → IsUtf8 text
      → Decided ((o : Options) × AreOptionsOf o text)
  decided_document None is utf8 =
      inr (λ (options, are). let at = are.2 in
      let no : None ≡ Some are.1 = sym is ∙ at in absurd (let x : ⊥ = cc in x))
  decided_document (Some ms) is utf8 =
      decided_so (λ (options, are). (options, (utf8, ms, is, are)))
      (λ (options, are). let at = are.2 in
      let whole : Some are.1 ≡ Some ms = sym at ∙ is in
      let same : are.1 ≡ ms = cc in
      (options, subst (AreOptionsIn options) same are.3))
      (decided_options_in ms)

  decided_options : Decided ((o : Options) × AreOptionsOf o text)
  decided_options = by_test (is_utf8 text) refl
    where
      by_test : (b : Bool) → is_utf8 text ≡ b → Decided ((o : Options) × AreOptionsOf o text)
      by_test true is = decided_document (parse_document text) refl (IsUtf8-from_is_utf8 text is)
      by_test false is =
          inr (λ (options, are). let yes = is_utf8-from_IsUtf8 text are.0 in
          let no : false ≡ true = sym is ∙ yes in absurd (let x : ⊥ = cc in x))

-- each kind

pub reads_or_is_faulty : (k : Kind) (text : List ℕ)
    → ((number : ℕ) × IsFaultyAt k text number) ⊎ ((b : Block) × ReadsAs k text b)
reads_or_is_faulty kind.Applications text =
    elim (read_or_faulty HasApplicationFields FitsApplication IsApplicationOf (λ n. decided_number n APPLICATION_FIELDS)
    application_fits application_joins (block_records text)) [
      | inl faulty ↦ inl faulty
      | inr (good, (m, given)) ↦
          inr (block.Applications m, record { good = good; definitions = m; is = refl; given = given })
    ]
reads_or_is_faulty kind.Calendars text =
    elim (read_or_faulty HasCalendarFields FitsCalendar IsCalendarOf (λ n. decided_number n CALENDAR_FIELDS)
    calendar_fits calendar_joins (block_records text)) [
      | inl faulty ↦ inl faulty
      | inr (good, (m, given)) ↦
          inr (block.Calendars m, record { good = good; definitions = m; is = refl; given = given })
    ]
reads_or_is_faulty kind.Periods text =
    elim (read_or_faulty HasPeriodFields FitsPeriod IsPeriodOf (λ n. decided_number n PERIOD_FIELDS)
    period_fits period_joins (block_records text)) [
      | inl faulty ↦ inl faulty
      | inr (good, (m, given)) ↦
          inr (block.Periods m, record { good = good; definitions = m; is = refl; given = given })
    ]
reads_or_is_faulty kind.Predecessors text =
    elim (read_or_faulty HasPredecessorFields FitsPredecessors ArePredecessorsOf
    (λ n. decided_either (decided_number n PREDECESSOR_FIELDS) (decided_number n LIMITED_PREDECESSOR_FIELDS))
    predecessors_fit predecessors_join (block_records text)) [
      | inl faulty ↦ inl faulty
      | inr (good, (m, given)) ↦
          inr (block.Predecessors m, record { good = good; definitions = m; is = refl; given = given })
    ]
reads_or_is_faulty kind.RunCycles text =
    elim (read_or_faulty HasCycleFields FitsRunCycle AreRunCyclesOf (λ n. decided_number n CYCLE_FIELDS)
    cycles_fit cycles_join (block_records text)) [
      | inl faulty ↦ inl faulty
      | inr (good, (m, given)) ↦
          inr (block.RunCycles m, record { good = good; definitions = m; is = refl; given = given })
    ]
reads_or_is_faulty kind.Options text = elim (decided_options text) [
  | inl (o, are) ↦ inr (block.Options o, (o, refl, are))
  | inr none ↦ inl (1, record { first = refl; no_options = λ o are. none (o, are) })
]
