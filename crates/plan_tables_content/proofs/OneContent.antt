-- Tables have one content at most.
use Rattle.std.proofs.Common.{◌≡◌, ℕ, List, cond, Option, Some, None, refl, sym, ap, ◌∙◌, ◌≤◌, subst, ◌⊎◌, inl, inr}
use Rattle.std.specs.Prelude.{nat_eq}
use Rattle.std.proofs.Props.{props}
use Rattle.std.specs.FinMap as maps
use Rattle.sqlite.specs.Order.{Row as Values, column}
use Rattle.occurrences.specs.declared.place.CurrentRow.{CurrentRow}
use Rattle.occurrences.specs.declared.place.Deletion.{Deletion}
use Rattle.occurrences.specs.declared.row.Row.{Row}
use Rattle.run_cycles.specs.declared.cycles.RunCycle.{RunCycle}
use Rattle.app_definitions.specs.declared.options.Options.{Options}
use Rattle.app_definitions.specs.declared.options.TheConstants.{MAX_EXTENSION_HOURS}
use Rattle.app_definition_records.specs.declared.predecessors.Predecessor.{Predecessor}
use Rattle.external_dependencies.specs.Link.{link_cmp}
use Rattle.external_dependencies.specs.Pair.{pair_cmp}
use Rattle.external_dependencies.specs.Rising.{RisingIsUnique}
use Rattle.planner_machine.specs.Content.{Content}
use Rattle.planner_machine.specs.declared.content.Bounds.{Bounds}
use Rattle.planner_machine.specs.declared.job.Job.{Job}
use Rattle.plan_tables_schema.specs.Rows.{Tables}
use Rattle.plan_tables_schema.specs.declared.tables.Table.{Table}
use Rattle.plan_tables_schema.specs.declared.tables.Table.TheVariants as table
use Rattle.plan_tables_content.specs.Facts.{current_values, deletion_values, link_values, pair_values, row_values}
use Rattle.plan_tables_content.specs.Facts.{IsCalendarRow, IsPeriodRow, IsPredecessorRow}
use Rattle.plan_tables_content.specs.Content.{job_values, meta_values, HaveOneContent, HasEntry, IsApplicationRow}
use Rattle.plan_tables_content.specs.Content.{IsContentOf, IsFact, IsNamed, IsSmall, IsTold}
use Rattle.plan_tables_content.specs.Decoded.{nat_in, text_in}
use Rattle.plan_tables_content.proofs.Decoded.{one_application, one_current, one_deletion, one_link}
use Rattle.plan_tables_content.proofs.Decoded.{one_pair, one_row}
use Rattle.plan_tables_content.proofs.DefinitionLemmas.{calendar_named, calendar_some, cycle_named, cycle_some, either_name}
use Rattle.plan_tables_content.proofs.DefinitionLemmas.{IsEitherRow}
use Rattle.plan_tables_content.proofs.DefinitionLemmas.{name_of, one_calendar, one_cycles, one_period, one_predecessors}
use Rattle.plan_tables_content.proofs.DefinitionLemmas.{period_named, period_some, predecessor_named, predecessor_some}
use Rattle.plan_tables_content.proofs.AnswerLemmas.{one_answer}
use Rattle.plan_tables_content.proofs.SameOptions.{has_same, one_by_name, one_set, one_such_set}

-- ---- how far the plans reach

abbrev bounds_in : Values → Option Bounds
bounds_in v = cond (nat_eq (nat_in (column v 2)) 1) (Some (record {
  first_day = nat_in (column v 3);
  last_day = nat_in (column v 4);
  plan_end = nat_in (column v 5);
})) None

abbrev options_with : (calendar : List ℕ) (hours : ℕ) → 1 ≤ hours → hours ≤ MAX_EXTENSION_HOURS → Options
options_with calendar hours some in_range =
    record { default_calendar = calendar; max_extension_hours = hours; some = some; in_range = in_range }

one_way : (c : List ℕ) (h : ℕ) (a x : 1 ≤ h) (b y : h ≤ MAX_EXTENSION_HOURS)
    → options_with c h a b ≡ options_with c h x y
one_way c h a x b y =
    let some : a ≡ x = (let p : IsProp (1 ≤ h) = hlevel props in p a x) in
    let in_range : b ≡ y = (let p : IsProp (h ≤ MAX_EXTENSION_HOURS) = hlevel props in p b y) in
    ap (λ (z : 1 ≤ h). options_with c h z b) some ∙ ap (λ (z : h ≤ MAX_EXTENSION_HOURS). options_with c h x z) in_range

same_hours : (c : List ℕ) (h k : ℕ) → h ≡ k
    → (a : 1 ≤ h) (b : h ≤ MAX_EXTENSION_HOURS) (x : 1 ≤ k) (y : k ≤ MAX_EXTENSION_HOURS)
    → options_with c h a b ≡ options_with c k x y
same_hours c h k e =
    let P : ℕ → Type 0 = λ n. (a : 1 ≤ h) (b : h ≤ MAX_EXTENSION_HOURS) (x : 1 ≤ n) (y : n ≤ MAX_EXTENSION_HOURS)
    → options_with c h a b ≡ options_with c n x y in
    subst P e (λ a b x y. one_way c h a x b y)

same_options : (o p : Options) → o.default_calendar ≡ p.default_calendar
    → o.max_extension_hours ≡ p.max_extension_hours → o ≡ p
same_options o p e f =
    same_hours o.default_calendar o.max_extension_hours p.max_extension_hours f o.some o.in_range p.some p.in_range
    ∙ ap (λ c. options_with c p.max_extension_hours p.some p.in_range) e

bounds_back : (bounds : Option Bounds) (issued : ℕ) (options : Options)
    → bounds_in (meta_values bounds issued options) ≡ bounds
bounds_back None issued options = refl
bounds_back (Some b) issued options = refl

issued_back : (bounds : Option Bounds) (issued : ℕ) (options : Options)
    → nat_in (column (meta_values bounds issued options) 6) ≡ issued
issued_back None issued options = refl
issued_back (Some b) issued options = refl

calendar_back : (bounds : Option Bounds) (issued : ℕ) (options : Options)
    → text_in (column (meta_values bounds issued options) 7) ≡ options.default_calendar
calendar_back None issued options = refl
calendar_back (Some b) issued options = refl

hours_back : (bounds : Option Bounds) (issued : ℕ) (options : Options)
    → nat_in (column (meta_values bounds issued options) 8) ≡ options.max_extension_hours
hours_back None issued options = refl
hours_back (Some b) issued options = refl

one_job : (x y : Job) → IsSmall x.reply → IsSmall y.reply → job_values x ≡ job_values y → x ≡ y
one_job x y low small e =
    let number : x.number ≡ y.number = ap (λ (v : Values). nat_in (column v 0)) e in
    let text : x.text ≡ y.text = ap (λ (v : Values). text_in (column v 1)) e in
    let reply : x.reply ≡ y.reply = one_answer x.reply y.reply low small (ap (λ (v : Values). text_in
    (column v 2)) e) in
    λ i. record { number = number i; text = text i; reply = reply i }

module _ (pairs_by : RisingIsUnique pair_cmp) (links_by : RisingIsUnique link_cmp) where
  goes : (all : Tables) (c d : Content) → IsContentOf all c → IsContentOf all d → (t : Table) (v : Values)
      → IsFact t c v → IsFact t d v
  goes all c d ic id t v is = (id.facts t v).0 ((ic.facts t v).1 is)

  either_goes : (all : Tables) (c d : Content) → IsContentOf all c → IsContentOf all d → (w : Values ⊎ Values)
      → ((name : List ℕ) × (x : List RunCycle) × (maps.get c.definitions.run_cycles name ≡ Some x)
      × IsEitherRow name x w)
      → ((name : List ℕ) × (x : List RunCycle) × (maps.get d.definitions.run_cycles name ≡ Some x)
      × IsEitherRow name x w)
  either_goes all c d ic id (inl v) is = goes all c d ic id table.RunCycle v is
  either_goes all c d ic id (inr v) is = goes all c d ic id table.Offset v is

  pub one_content : HaveOneContent
  one_content all c d ic id =
      let into = goes all c d ic id in
      let back = goes all d c id ic in
      let m = ic.representable in
      let n = id.representable in
      let meta : meta_values c.sets.bounds c.sets.issued c.definitions.options
      ≡ meta_values d.sets.bounds d.sets.issued d.definitions.options = into table.Meta _ refl in
      let calendars : c.definitions.calendars ≡ d.definitions.calendars =
      one_by_name IsCalendarRow name_of calendar_named IsTold calendar_some one_calendar _ _ m.calendars n.calendars
      (into table.CalendarEntry) (back table.CalendarEntry) in
      let periods : c.definitions.periods ≡ d.definitions.periods =
      one_by_name IsPeriodRow name_of period_named HasEntry period_some one_period _ _ m.periods n.periods
      (into table.Period) (back table.Period) in
      let applications : c.definitions.applications ≡ d.definitions.applications =
      one_by_name IsApplicationRow name_of (λ name a v is. ap name_of is) (λ _. Unit {0}) (λ name a _. (_, refl))
      (λ name a b _ _ h _. one_application name a b (h _ refl)) _ _ (λ _ _ _. tt) (λ _ _ _. tt)
      (into table.Application) (back table.Application) in
      let run_cycles : c.definitions.run_cycles ≡ d.definitions.run_cycles =
      one_by_name IsEitherRow either_name cycle_named (IsNamed (λ (x : RunCycle). x.name)) cycle_some one_cycles _ _
      m.run_cycles n.run_cycles (either_goes all c d ic id) (either_goes all d c id ic) in
      let predecessors : c.definitions.predecessors ≡ d.definitions.predecessors =
      one_by_name IsPredecessorRow name_of predecessor_named (IsNamed (λ (p : Predecessor). p.name)) predecessor_some
      one_predecessors _ _ m.predecessors n.predecessors (into table.Predecessor) (back table.Predecessor) in
      let options : c.definitions.options ≡ d.definitions.options =
      same_options c.definitions.options d.definitions.options
      (sym (calendar_back c.sets.bounds c.sets.issued c.definitions.options)
      ∙ ap (λ (v : Values). text_in (column v 7)) meta ∙ calendar_back d.sets.bounds d.sets.issued
      d.definitions.options)
      (sym (hours_back c.sets.bounds c.sets.issued c.definitions.options)
      ∙ ap (λ (v : Values). nat_in (column v 8)) meta ∙ hours_back d.sets.bounds d.sets.issued d.definitions.options) in
      let bounds : c.sets.bounds ≡ d.sets.bounds =
      sym (bounds_back c.sets.bounds c.sets.issued c.definitions.options) ∙ ap bounds_in meta
      ∙ bounds_back d.sets.bounds d.sets.issued d.definitions.options in
      let issued : c.sets.issued ≡ d.sets.issued =
      sym (issued_back c.sets.bounds c.sets.issued c.definitions.options)
      ∙ ap (λ (v : Values). nat_in (column v 6)) meta ∙ issued_back d.sets.bounds d.sets.issued d.definitions.options in
      let ltp : c.sets.ltp ≡ d.sets.ltp =
      one_set row_values (λ (r : Row). r.serial) one_row _ _ m.ltp n.ltp (into table.LongTerm) (back table.LongTerm) in
      let cp : c.sets.cp ≡ d.sets.cp =
      one_set current_values (λ (r : CurrentRow). r.row.serial) one_current _ _ m.cp n.cp (into table.Current)
      (back table.Current) in
      let history : c.sets.history ≡ d.sets.history =
      one_set row_values (λ (r : Row). r.serial) one_row _ _ m.history n.history (into table.History)
      (back table.History) in
      let deletions : c.sets.deletions ≡ d.sets.deletions =
      one_set deletion_values (λ (r : Deletion). r.row.serial) one_deletion _ _ m.deletions n.deletions
      (into table.Deletion)
      (back table.Deletion) in
      let in_force : c.in_force ≡ d.in_force =
      links_by c.in_force d.in_force m.in_force n.in_force (λ x. (
        has_same link_values one_link c.in_force d.in_force (into table.LinkInForce) x,
        has_same link_values one_link d.in_force c.in_force (back table.LinkInForce) x,
      )) in
      let pairs : c.pairs ≡ d.pairs =
      pairs_by c.pairs d.pairs m.pairs n.pairs (λ x. (
        has_same pair_values one_pair c.pairs d.pairs (into table.Dependency) x,
        has_same pair_values one_pair d.pairs c.pairs (back table.Dependency) x,
      )) in
      let jobs : c.jobs ≡ d.jobs =
      one_such_set job_values (λ (j : Job). j.number) (λ (j : Job). IsSmall j.reply) one_job _ _ m.answers
      n.answers m.jobs n.jobs
      (into table.Job) (back table.Job) in
      λ i. record {
        definitions = record {
          applications = applications i;
          calendars = calendars i;
          periods = periods i;
          predecessors = predecessors i;
          run_cycles = run_cycles i;
          options = options i;
        };
        sets = record {
          bounds = bounds i;
          issued = issued i;
          ltp = ltp i;
          cp = cp i;
          history =
              history i;
          deletions = deletions i;
        };
        in_force = in_force i;
        pairs = pairs i;
        jobs = jobs i;
      }
