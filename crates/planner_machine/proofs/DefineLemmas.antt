-- Sound content stays sound where definitions change.
use Rattle.std.proofs.Common.{◌≡◌, ℕ, List, [], refl, sym, ap, subst, ◌∙◌, arith, Option, None, Some, Bool, true}
use Rattle.std.proofs.Common.{false, cond}
use Rattle.std.specs.Prelude.{nat_eq}
use Rattle.std.specs.Cmp.Lexicographic.{pointwise, slice_cmp}
use Rattle.std.specs.FinMap as map
use Rattle.std.specs.Option.{option_or}
use Rattle.std.specs.Ordering.{nat_cmp}
use Rattle.work_calendars.specs.Name.{IsName}
use Rattle.app_definition_records.proofs.ByNameLemmas.{get-overlaid, get-removed}
use Rattle.app_definitions.proofs.OptionLemmas.{IsName-default}
use Rattle.app_definition_records.specs.Applications.{FitsApplication, IsApplicationOf}
use Rattle.app_definitions.specs.Blocks.{ReadsAs}
use Rattle.app_definition_records.specs.ByName.{AreGivenBy, FitsKind, IsDefinedBy, overlaid, records_of}
use Rattle.app_definition_records.specs.Calendars.{FitsCalendar, IsCalendarOf}
use Rattle.app_definition_records.specs.CycleRecords.{AreRunCyclesOf, FitsRunCycle}
use Rattle.app_definitions.specs.Definitions.{merged, without}
use Rattle.app_definitions.specs.Options.{GivesCalendar}
use Rattle.app_definition_records.specs.Periods.{FitsPeriod, IsPeriodOf}
use Rattle.app_definition_records.specs.Predecessors.{ArePredecessorsOf, FitsPredecessors}
use Rattle.app_definition_records.specs.Records.{AllGood, block_records, Record, Records}
use Rattle.app_definitions.specs.declared.definitions.Definitions.{Definitions}
use Rattle.app_definitions.specs.declared.kinds.Block.{Block}
use Rattle.app_definitions.specs.declared.kinds.Kind.{Kind}
use Rattle.app_definitions.specs.declared.kinds.Kind.TheVariants as kind
use Rattle.planner_machine.specs.Content.{Content}
use Rattle.planner_machine.specs.Sound.{AreDefinable, AreDefinitions, IsSound}
use Rattle.app_definition_records.specs.FieldCounts.{HasApplicationFields, HasCalendarFields, HasCycleFields}
use Rattle.app_definition_records.specs.FieldCounts.{HasPeriodFields, HasPredecessorFields}

module _ {D : Type 0} (HasFields : ℕ → Type 0) (Fits : Records → Record → Type 0) (IsMadeOf : D
    → Records → Type 0) where
  -- what a block gives goes over what was there
  overlaid_definable : (old more : map.FinMap (slice_cmp nat_cmp) D) (rows : Records)
      → AreDefinable HasFields Fits IsMadeOf (map.get old) → AllGood (FitsKind HasFields Fits) rows
      → AreGivenBy IsMadeOf more rows → AreDefinable HasFields Fits IsMadeOf (map.get (overlaid old more))
  overlaid_definable old more rows were good given name = at (map.get more name) refl
    where
      at : (o : Option D) → map.get more name ≡ o → (rows' : Records)
          × AllGood (FitsKind HasFields Fits) rows'
          × IsDefinedBy IsMadeOf (map.get (overlaid old more) name) (records_of name rows')
      at None is =
          let same : map.get old name ≡ map.get (overlaid old more) name =
          sym (get-overlaid old more name ∙ ap (λ (o : Option D). option_or o (map.get old name)) is) in
          let (rows', good', made) = were name in
          (rows', good', subst (λ (o : Option D). IsDefinedBy IsMadeOf o (records_of name rows')) same made)
      at (Some d) is =
          let same : map.get more name ≡ map.get (overlaid old more) name = is
          ∙ sym (get-overlaid old more name ∙ ap (λ (o : Option D). option_or o (map.get old name)) is) in
          (rows, good, subst (λ (o : Option D). IsDefinedBy IsMadeOf o (records_of name rows)) same (given name))

  -- a name is taken away
  removed_definable : (old : map.FinMap (slice_cmp nat_cmp) D) (gone : List ℕ)
      → AreDefinable HasFields Fits IsMadeOf (map.get old)
      → AreDefinable HasFields Fits IsMadeOf (map.get (map.remove old gone))
  removed_definable old gone were name = at (pointwise nat_eq gone name) refl
    where
      at : (b : Bool) → pointwise nat_eq gone name ≡ b → (rows : Records)
          × AllGood (FitsKind HasFields Fits) rows
          × IsDefinedBy IsMadeOf (map.get (map.remove old gone) name) (records_of name rows)
      at true is =
          let none : None ≡ map.get (map.remove old gone) name =
          sym (get-removed old gone name ∙ ap (λ b. cond b None (map.get old name)) is) in
          ([], (λ k lt. absurd (omega (arith, lt))), subst (λ (o : Option D). IsDefinedBy IsMadeOf o []) none refl)
      at false is =
          let same : map.get old name ≡ map.get (map.remove old gone) name =
          sym (get-removed old gone name ∙ ap (λ b. cond b None (map.get old name)) is) in
          let (rows, good, made) = were name in
          (rows, good, subst (λ (o : Option D). IsDefinedBy IsMadeOf o (records_of name rows)) same made)

by_option : {X : Type 0} (G : Option X → Type 0) (P : Type 0) → (G None → P) → ((d : X) → G (Some d) → P)
    → (o : Option X) → G o → P
by_option G P none some None given = none given
by_option G P none some (Some d) given = some d given

pub define_are : (k : Kind) (text : List ℕ) (block : Block) (all : Definitions) → AreDefinitions all
    → ReadsAs k text block → AreDefinitions (merged all block)
define_are kind.Applications text block all are gives =
    subst (λ (b : Block). AreDefinitions (merged all b)) (sym gives.is) (record {
      applications = overlaid_definable HasApplicationFields FitsApplication IsApplicationOf all.applications
          gives.definitions (block_records text) are.applications gives.good gives.given;
      calendars = are.calendars;
      periods = are.periods;
      predecessors = are.predecessors;
      run_cycles = are.run_cycles;
      default_calendar = are.default_calendar;
    })
define_are kind.Calendars text block all are gives =
    subst (λ (b : Block). AreDefinitions (merged all b)) (sym gives.is) (record {
      applications = are.applications;
      calendars = overlaid_definable HasCalendarFields FitsCalendar IsCalendarOf all.calendars gives.definitions
          (block_records text) are.calendars gives.good gives.given;
      periods = are.periods;
      predecessors = are.predecessors;
      run_cycles = are.run_cycles;
      default_calendar = are.default_calendar;
    })
define_are kind.Periods text block all are gives =
    subst (λ (b : Block). AreDefinitions (merged all b)) (sym gives.is) (record {
      applications = are.applications;
      calendars = are.calendars;
      periods = overlaid_definable HasPeriodFields FitsPeriod IsPeriodOf all.periods gives.definitions
          (block_records text) are.periods gives.good gives.given;
      predecessors = are.predecessors;
      run_cycles = are.run_cycles;
      default_calendar = are.default_calendar;
    })
define_are kind.Predecessors text block all are gives =
    subst (λ (b : Block). AreDefinitions (merged all b)) (sym gives.is) (record {
      applications = are.applications;
      calendars = are.calendars;
      periods = are.periods;
      predecessors = overlaid_definable HasPredecessorFields FitsPredecessors ArePredecessorsOf all.predecessors
          gives.definitions (block_records text) are.predecessors gives.good gives.given;
      run_cycles = are.run_cycles;
      default_calendar = are.default_calendar;
    })
define_are kind.RunCycles text block all are gives =
    subst (λ (b : Block). AreDefinitions (merged all b)) (sym gives.is) (record {
      applications = are.applications;
      calendars = are.calendars;
      periods = are.periods;
      predecessors = are.predecessors;
      run_cycles = overlaid_definable HasCycleFields FitsRunCycle AreRunCyclesOf all.run_cycles gives.definitions
          (block_records text) are.run_cycles gives.good gives.given;
      default_calendar = are.default_calendar;
    })
define_are kind.Options text block all are (o, is, options) =
    subst (λ (b : Block). AreDefinitions (merged all b)) (sym is) (record {
      applications = are.applications;
      calendars = are.calendars;
      periods = are.periods;
      predecessors = are.predecessors;
      run_cycles = are.run_cycles;
      default_calendar = let (utf8, members, parsed, are_in) = options in
          by_option (λ x. GivesCalendar x o.default_calendar) (IsName o.default_calendar)
          (λ same. subst IsName (sym same) IsName-default) (λ d given. given.1) _ are_in.calendar;
    })

pub undefine_are : (k : Kind) (name : List ℕ) (all : Definitions) → AreDefinitions all
    → AreDefinitions (without all k name)
undefine_are kind.Applications name all are =
    record {
      applications = removed_definable HasApplicationFields FitsApplication IsApplicationOf all.applications name
          are.applications;
      calendars = are.calendars;
      periods = are.periods;
      predecessors =
          are.predecessors;
      run_cycles = are.run_cycles;
      default_calendar = are.default_calendar;
    }
undefine_are kind.Calendars name all are =
    record {
      applications = are.applications;
      calendars = removed_definable HasCalendarFields FitsCalendar IsCalendarOf all.calendars name are.calendars;
      periods = are.periods;
      predecessors = are.predecessors;
      run_cycles = are.run_cycles;
      default_calendar = are.default_calendar;
    }
undefine_are kind.Periods name all are =
    record {
      applications = are.applications;
      calendars = are.calendars;
      periods = removed_definable HasPeriodFields FitsPeriod IsPeriodOf all.periods name are.periods;
      predecessors = are.predecessors;
      run_cycles = are.run_cycles;
      default_calendar = are.default_calendar;
    }
undefine_are kind.Predecessors name all are =
    record {
      applications = are.applications;
      calendars = are.calendars;
      periods = are.periods;
      predecessors = removed_definable HasPredecessorFields FitsPredecessors ArePredecessorsOf all.predecessors name
          are.predecessors;
      run_cycles = are.run_cycles;
      default_calendar = are.default_calendar;
    }
undefine_are kind.RunCycles name all are =
    record {
      applications = are.applications;
      calendars = are.calendars;
      periods = are.periods;
      predecessors = are.predecessors;
      run_cycles =
          removed_definable HasCycleFields FitsRunCycle AreRunCyclesOf all.run_cycles name are.run_cycles;
      default_calendar =
          are.default_calendar;
    }
undefine_are kind.Options name all are = are

-- all else stays
pub definitions_sound : (c : Content) (all : Definitions) → IsSound c → AreDefinitions all
    → IsSound (record c { definitions = all })
definitions_sound c all sound are = record {
  ranges = record { definitions = are; rows = sound.ranges.rows; days = sound.ranges.days; links = sound.ranges.links };
  bounds = record {
    before = λ none. let u = sound.bounds.before none in
        record { rows = u.rows; pairs = u.pairs; in_force = u.in_force; issued = u.issued };
    after =
        sound.bounds.after;
  };
  serials = sound.serials;
  keys = sound.keys;
  arrivals = sound.arrivals;
  sizes = sound.sizes;
  lists = sound.lists;
  pairs = record {
    settled = sound.pairs.settled;
    complete = sound.pairs.complete;
    one_each = sound.pairs.one_each;
    in_time = sound.pairs.in_time;
    no_loop = sound.pairs.no_loop;
  };
  jobs = sound.jobs;
}
