-- What the definitions name has its ranges and forms.
use Rattle.std.proofs.Common.{◌≡◌, ◌≢◌, ℕ, zero, ◌+◌, ◌<◌, ◌≤◌, List, [], ◌∷◌, length, get_or, refl, sym, ap, suc}
use Rattle.std.proofs.Common.{subst, ◌∙◌, arith, Option, None, Some, true, inl, inr}
use Rattle.std.specs.Prelude.{Any, Contains, IfSome, nat_eq, take, unwrap_or}
use Rattle.std.specs.Cmp.Lexicographic.{pointwise}
use Rattle.std.specs.FinMap as map
use Rattle.std.proofs.lemmas.List.{get_or-map, get_or_default, length-map}
use Rattle.std.proofs.lemmas.List.Elements.{All-contains, All-contains_itself, All-filter, Contains-get_or}
use Rattle.std.proofs.lemmas.List.Elements.{filter_passes}
use Rattle.work_calendars.specs.Day.{last_kept_day, first_day, last_day}
use Rattle.work_calendars.specs.Minute.{IsMinute}
use Rattle.work_calendars.specs.Moment.{IsMoment}
use Rattle.work_calendars.specs.Name.{IsName, IsShort}
use Rattle.work_calendars.specs.Within.{IsWithinHours}
use Rattle.run_cycles.specs.Occurrence.{HasDeadline}
use Rattle.run_cycles.specs.declared.cycles.CycleType.{CycleType}
use Rattle.run_cycles.specs.declared.cycles.CycleType.TheVariants.{Negative, Normal}
use Rattle.run_cycles.specs.declared.cycles.Deadline.{Deadline}
use Rattle.run_cycles.specs.declared.cycles.RunCycle.{RunCycle}
use Rattle.app_definition_records.proofs.ByNameLemmas.{same_name}
use Rattle.app_definition_records.specs.Applications.{FitsApplication, IsApplicationOf}
use Rattle.app_definition_records.specs.ByName.{FitsKind, IsDefinedBy, records_of}
use Rattle.app_definition_records.specs.CycleRecords.{AreRunCyclesOf, FitsRunCycle, SpellsType, SpellsRunCycle}
use Rattle.app_definition_records.specs.Fields.{IsEmptyOr, field}
use Rattle.app_definition_records.specs.Predecessors.{ArePredecessorsOf, FitsPredecessors, IsWithinText}
use Rattle.app_definition_records.specs.Predecessors.{predecessor_of, predecessors_of, within_of}
use Rattle.app_definition_records.specs.declared.predecessors.Predecessor.{Predecessor}
use Rattle.app_definition_records.specs.Records.{AllGood, Record, Records}
use Rattle.app_definitions.specs.declared.definitions.Definitions.{Definitions}
use Rattle.external_dependencies.specs.declared.links.Link.{Link}
use Rattle.planner_machine.specs.declared.content.Draft.{Draft}
use Rattle.planner_machine.specs.Drafts.{NamesDraft, draft_of}
use Rattle.planner_machine.specs.InForce.{IsDefinedLink}
use Rattle.planner_machine.specs.Moves.{numbered_row}
use Rattle.planner_machine.specs.Sound.{AreDefinable, AreDefinitions, IsLink, IsOrigin, IsRow}
use Rattle.app_definition_records.specs.declared.columns.TheConstants.{NAME, PREDECESSOR_WITHIN, CYCLE_TYPE, CYCLE_DEADLINE_DAY}
use Rattle.app_definition_records.specs.FieldCounts.{HasApplicationFields, HasCycleFields, HasPredecessorFields}
use Rattle.app_definition_records.specs.declared.columns.TheConstants.{CYCLE_DEADLINE_TIME}
use Rattle.planner_machine.specs.Content.{midnight}

-- a record among good ones is good after some
good_row : (Fits : Records → Record → Type 0) (rows : Records) (row : Record)
    → AllGood Fits rows → Contains rows row → (before : Records) × Fits before row
good_row Fits rows row good (k, lt, is) =
    (take k rows, subst (Fits (take k rows)) (get_or_default rows k [] row lt ∙ is) (good k lt))

-- a record about a name is one of all, and its first field is the name
record_in : (name : List ℕ) (rows : Records) (row : Record) → Contains (records_of name rows) row
    → Contains rows row × (field row NAME ≡ name)
record_in name rows row there = (
  All-contains (Contains rows) (records_of name rows) row
      (All-filter (λ r. pointwise nat_eq (field r NAME) name) (Contains rows) rows (All-contains_itself rows)) there,
  same_name (field row NAME) name
      (All-contains (λ r. pointwise nat_eq (field r NAME) name ≡ true) (records_of name rows) row
      (filter_passes (λ r. pointwise nat_eq (field r NAME) name) rows) there),
)

some_element : {X : Type 0} (xs : List X) → xs ≢ [] → (x : X) × Contains xs x
some_element [] some = absurd (some refl)
some_element (x ∷ xs) some = (x, (zero, omega arith, refl))

-- a name that is defined has the form of a name
module _ {D : Type 0} (HasFields : ℕ → Type 0) (FitsName : Records → Record → Type 0) (IsMadeOf : D
    → Records → Type 0) (definition_of : List ℕ
    → Option D) (are : AreDefinable HasFields FitsName IsMadeOf definition_of) where
  made_of : (name : List ℕ) (d : D) → definition_of name ≡ Some d → (rows : Records)
      × AllGood (FitsKind HasFields FitsName) rows × (records_of name rows ≢ []) × IsMadeOf d (records_of name rows)
  made_of name d is =
      let (rows, good, defined) = are name in
      let whole : IsDefinedBy IsMadeOf (Some d) (records_of name rows) =
      subst (λ (o : Option D). IsDefinedBy IsMadeOf o (records_of name rows)) is defined in
      (rows, good, whole.0, whole.1)

  pub defined_name : (name : List ℕ) (d : D) → definition_of name ≡ Some d → IsName name
  defined_name name d is =
      let (rows, good, some, made) = made_of name d is in
      let (row, there) = some_element (records_of name rows) some in
      let at = record_in name rows row there in
      let (before, fits) = good_row (FitsKind HasFields FitsName) rows row good at.0 in
      subst IsName at.1 fits.name

-- a limit that a record spells is such
pub limit_value : (text : List ℕ) → IsEmptyOr IsWithinText text → IfSome (within_of text) IsWithinHours
limit_value [] form = tt
limit_value (b ∷ text) form = elim form [
  | inl empty ↦ let e : suc (length text) ≡ 0 = ap length empty in absurd (omega arith)
  | inr is ↦ is.1
]

-- the links of defined lists are of names, and their limits are such
pub link_names : (all : Definitions) → AreDefinitions all → (link : Link) → IsDefinedLink all link → IsLink link
link_names all are link (listed, is, there) =
    let (rows, good, some, made) =
    made_of HasPredecessorFields FitsPredecessors ArePredecessorsOf
    (map.get all.predecessors) are.predecessors link.app listed is in
    let p : Predecessor = record { name = link.predecessor; within = link.within } in
    let parts = in_records rows good p (records_of link.app rows)
    (λ row there. (record_in link.app rows row there).0) ((made.exactly p).0 there) in (
      defined_name HasPredecessorFields FitsPredecessors ArePredecessorsOf
          (map.get all.predecessors) are.predecessors link.app listed is,
      parts.0,
      parts.1,
    )
  where
    in_records : (rows : Records) → AllGood (FitsKind HasPredecessorFields FitsPredecessors) rows
        → (p : Predecessor) (some : Records)
        → ((row : Record) → Contains some row → Contains rows row) → Contains (predecessors_of some) p
        → IsName p.name × IfSome p.within IsWithinHours
    in_records rows good p some all_in (k, lt, is) =
        let within : k < length some = omega (arith, length-map some predecessor_of) in
        let row : List (List ℕ) = get_or some k [] in
        let (before, fits) = good_row (FitsKind HasPredecessorFields FitsPredecessors) rows (get_or some k []) good
        (all_in (get_or some k []) (Contains-get_or some k [] within)) in
        let same : predecessor_of row ≡ p = sym (get_or-map predecessor_of some k [] p within) ∙ is in (
          subst (λ (q : Predecessor). IsName q.name) same fits.fits.is.named,
          subst (λ (q : Predecessor). IfSome q.within IsWithinHours) same
              (limit_value (field row PREDECESSOR_WITHIN) fits.fits.is.within),
        )

-- the run cycles of an application have their ranges
pub record CycleRanges (cycle : RunCycle) : Type 0 where
  pub name : IsShort cycle.name
  pub ia : IsMinute cycle.ia
  pub deadline : (d : Deadline) → HasDeadline cycle.kind d → (d.days ≤ 99) × IsMinute d.time

kind_ranges : (kind : CycleType) (letter day time : List ℕ) → SpellsType letter day time kind → (d : Deadline)
    → HasDeadline kind d → (d.days ≤ 99) × IsMinute d.time
kind_ranges (Normal own) letter day time spells d is =
    let spelled = spells.1 in let most = spelled.day_text.1 in let days = spelled.days in
    subst (λ (x : Deadline). (x.days ≤ 99) × IsMinute x.time) (sym is) (omega arith, spelled.clock.in_range)
kind_ranges (Negative own) letter day time spells d is = absurd is

pub cycle_ranges : (all : Definitions) → AreDefinitions all → (app : List ℕ) (o : Option (List RunCycle))
    → map.get all.run_cycles app ≡ o → (cycle : RunCycle) → Contains (unwrap_or o []) cycle → CycleRanges cycle
cycle_ranges all are app None is cycle (k, lt, at) = absurd (omega (arith, lt))
cycle_ranges all are app (Some cycles) is cycle there =
    let (rows, good, some, made) =
    made_of HasCycleFields FitsRunCycle AreRunCyclesOf (map.get all.run_cycles) are.run_cycles app cycles is in
    let (k, row, within, at, spells) =
    All-contains (λ c. Any (λ r. SpellsRunCycle r c) (records_of app rows)) cycles cycle made.each there in
    record {
      name = subst IsShort (sym spells.name) spells.short_name;
      ia = spells.ia.in_range;
      deadline = kind_ranges cycle.kind (field row CYCLE_TYPE) (field row CYCLE_DEADLINE_DAY)
          (field row CYCLE_DEADLINE_TIME) spells.kind;
    }

pub is_moment : (m : ℕ) → midnight first_day ≤ m → m < midnight (last_day + 1) → IsMoment m
is_moment m from to = (omega arith, omega arith)

-- a draft that is named has its ranges, where it arrives in days that plans can have
pub record DraftRanges (draft : Draft) : Type 0 where
  pub app : IsName draft.key.app
  pub ia : IsMoment draft.key.ia
  pub deadline : IsMoment draft.deadline
  pub origin : IsOrigin draft.origin

pub row_ranges : (serial : ℕ) (draft : Draft) → DraftRanges draft → IsRow (numbered_row serial draft)
row_ranges serial draft r = record { app = r.app; ia = r.ia; deadline = r.deadline; origin = r.origin }

pub named_ranges : (all : Definitions) → AreDefinitions all → (draft : Draft) → NamesDraft all draft
    → midnight first_day ≤ draft.key.ia → draft.key.ia < midnight (last_kept_day + 1) → DraftRanges draft
named_ranges all are draft (app, x, named, is) from to =
    let ia : draft.key.ia ≡ (draft_of app x).key.ia = ap (λ (d : Draft). d.key.ia) is in
    let (a, active, occurs) = named in
    let (k, cycle, within, at, gives) = occurs.given in
    let ranges = cycle_ranges all are app (map.get all.run_cycles app) refl cycle (k, within, at) in
    let (deadline, has, due) = gives.0 in
    let limits = ranges.deadline deadline has in
    let days = limits.0 in let clock = limits.1 in
    let time : cycle.ia ≡ x.time = gives.1.0 in let minute = ranges.ia in
    subst DraftRanges (sym is) (record {
      app = defined_name HasApplicationFields FitsApplication IsApplicationOf
          (map.get all.applications) are.applications app a active.0;
      ia = is_moment _ (omega arith) (omega arith);
      deadline = subst IsMoment (sym due) (is_moment _ (omega arith) (omega arith));
      origin = subst IsShort (sym gives.2) ranges.name;
    })
