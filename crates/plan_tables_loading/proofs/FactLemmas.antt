-- The content of lists is that of the tables that tell them.
use Rattle.std.proofs.Common.{◌≡◌, ◌↔◌, ◌∙◌, ℕ, List, map, refl, sym, ap, subst, Option, Some}
use Rattle.std.specs.List.{Contains}
use Rattle.sqlite.specs.Order.{Row as Values}
use Rattle.run_cycles.specs.declared.cycles.RunCycle.{RunCycle}
use Rattle.app_definition_records.proofs.RisingLemmas.{Contains-map, Contains-map_back}
use Rattle.app_definition_records.specs.declared.predecessors.Predecessor.{Predecessor}
use Rattle.app_definitions.specs.declared.definitions.Definitions.{Definitions}
use Rattle.external_dependencies.specs.Rising.{HaveSame}
use Rattle.planner_machine.specs.Content.{Content}
use Rattle.planner_machine.specs.declared.job.Job.{Job}
use Rattle.plan_tables_schema.specs.Rows.{Tables, shown}
use Rattle.plan_tables_schema.specs.declared.tables.Table.{Table}
use Rattle.plan_tables_schema.specs.declared.tables.Table.TheVariants as table
use Rattle.plan_tables_content.specs.Content.{AreEach, HasEntry, IsContentOf, IsNamed, IsTold}
use Rattle.plan_tables_content.specs.Content.{IsFact, IsOfList, IsOfSet, IsSmall, IsRepresentable, IsUnderOwn}
use Rattle.plan_tables_content.specs.Content.{job_values, meta_values}
use Rattle.plan_tables_content.specs.Facts.{current_values, deletion_values, link_values, pair_values, row_values}
use Rattle.plan_tables_loading.specs.Lists.{HasLists, HoldsEach}
use Rattle.plan_tables_loading.specs.Order.{current_number, deletion_number, job_number, row_number}
use Rattle.plan_tables_loading.specs.Tables.{IsOneOf, RepresentDefinitions, RepresentPlans}
use Rattle.plan_tables_loading.specs.declared.lists.PlanLists.{PlanLists}

module _ {X : Type 0} (values_of : X → Values) where
  -- the facts of a set that has what is listed
  of_set : (number_of : X → ℕ) (xs : List X) (set : ℕ → Option X) → HoldsEach number_of xs set → (v : Values)
      → IsOneOf values_of xs v ↔ IsOfSet values_of set v
  of_set number_of xs set holds v = (
    (λ there.
        let back = Contains-map_back values_of xs v there in
        (number_of back.0, back.0, (holds (number_of back.0) back.0).1 (back.1, refl), sym back.2)),
    λ fact.
        let has = ((holds fact.0 fact.1).0 fact.2).0 in
        subst (Contains (map values_of xs)) (sym fact.3) (Contains-map values_of xs fact.1 has),
  )

  -- the facts of a list with the same items
  of_list : (xs ys : List X) → HaveSame ys xs → (v : Values) → IsOneOf values_of xs v ↔ IsOfList values_of ys v
  of_list xs ys same v = (
    (λ there.
        let back = Contains-map_back values_of xs v there in
        (back.0, (same back.0).1 back.1, sym back.2)),
    λ fact.
        subst (Contains (map values_of xs)) (sym fact.2)
        (Contains-map values_of xs fact.0 ((same fact.0).0 fact.1)),
  )

  own : (number_of : X → ℕ) (xs : List X) (set : ℕ → Option X) → HoldsEach number_of xs set → IsUnderOwn number_of set
  own number_of xs set holds n x is = ((holds n x).0 is).1

have_same : {X : Type 0} (xs ys : List X) → ys ≡ xs → HaveSame ys xs
have_same xs ys is x = (subst (λ l. Contains l x) is, subst (λ l. Contains l x) (sym is))

both : {A B C : Type 0} → A ↔ B → B ↔ C → A ↔ C
both f g = ((λ a. g.0 (f.0 a)), λ c. f.1 (g.1 c))

module _ (all : Tables) (definitions : Definitions) (lists : PlanLists) (c : Content)
    (decode : RepresentPlans all lists) (define : RepresentDefinitions all definitions)
    (options : definitions.options ≡ lists.meta.options) (has : HasLists definitions lists c) where
  abbrev Facts : Table → Content → Type 0
  Facts t d = (v : Values) → Contains (map (shown t) (all t)) v ↔ IsFact t d v

  -- with the definitions in place of those of the content
  abbrev with_these : Definitions → Content
  with_these d = record {
    definitions = d;
    sets = c.sets;
    in_force = c.in_force;
    pairs = c.pairs;
    jobs = c.jobs;
  }

  defined : (t : Table) → Facts t (with_these definitions) → Facts t c
  defined t facts = subst (λ (d : Definitions). Facts t (with_these d)) (sym has.defined) facts

  meta_is : meta_values lists.meta.bounds lists.meta.issued lists.meta.options
      ≡ meta_values c.sets.bounds c.sets.issued c.definitions.options
  meta_is = λ i. meta_values (sym has.bounds i) (sym has.issued i)
      ((sym options ∙ ap (λ (d : Definitions). d.options) (sym has.defined)) i)

  facts_of : (t : Table) → Facts t c
  facts_of table.Meta v = both (decode.meta.exactly v) ((λ is. is ∙ meta_is), λ is. is ∙ sym meta_is)
  facts_of table.CalendarEntry v = defined table.CalendarEntry define.calendar_rows.exactly v
  facts_of table.Period v = defined table.Period define.period_rows.exactly v
  facts_of table.Application v = defined table.Application define.application_rows.exactly v
  facts_of table.RunCycle v = defined table.RunCycle define.cycle_rows.exactly v
  facts_of table.Offset v = defined table.Offset define.offset_rows.exactly v
  facts_of table.Predecessor v = defined table.Predecessor define.predecessor_rows.exactly v
  facts_of table.LinkInForce v = both (decode.links.exactly v)
      (of_list link_values lists.links c.in_force (have_same lists.links c.in_force has.in_force) v)
  facts_of table.LongTerm v = both (decode.placed.in_ltp.exactly v)
      (of_set row_values row_number lists.rows.ltp.items c.sets.ltp has.placed.ltp v)
  facts_of table.Current v = both (decode.placed.in_cp.exactly v)
      (of_set current_values current_number lists.rows.cp.items c.sets.cp has.placed.cp v)
  facts_of table.History v = both (decode.placed.in_history.exactly v)
      (of_set row_values row_number lists.rows.history.items c.sets.history has.placed.history v)
  facts_of table.Deletion v = both (decode.placed.in_deletions.exactly v)
      (of_set deletion_values deletion_number lists.rows.deletions.items c.sets.deletions has.placed.deletions v)
  facts_of table.Dependency v = both (decode.pairs.exactly v) (of_list pair_values lists.pairs.items c.pairs has.paired v)
  facts_of table.Job v = both (decode.jobs.exactly v) (of_set job_values job_number lists.jobs.items c.jobs has.kept v)

  small : (n : ℕ) (job : Job) → c.jobs n ≡ Some job → IsSmall job.reply
  small n job is =
      let there = ((has.kept n job).0 is).0 in
      subst (λ (j : Job). IsSmall j.reply) there.2 (has.small there.0 job there.1)

  representable : IsRepresentable c
  representable = record {
    calendars = subst (λ (d : Definitions). AreEach IsTold d.calendars) (sym has.defined) define.calendars;
    periods = subst (λ (d : Definitions). AreEach HasEntry d.periods) (sym has.defined) define.periods;
    run_cycles = subst (λ (d : Definitions). AreEach (IsNamed (λ (cycle : RunCycle). cycle.name)) d.run_cycles)
        (sym has.defined) define.run_cycles;
    predecessors = subst (λ (d : Definitions). AreEach (IsNamed (λ (p : Predecessor). p.name)) d.predecessors)
        (sym has.defined) define.predecessors;
    ltp = own row_values row_number lists.rows.ltp.items c.sets.ltp has.placed.ltp;
    cp = own current_values current_number lists.rows.cp.items c.sets.cp has.placed.cp;
    history = own row_values row_number lists.rows.history.items c.sets.history has.placed.history;
    deletions = own deletion_values deletion_number lists.rows.deletions.items c.sets.deletions has.placed.deletions;
    in_force = has.links_rise;
    pairs = has.pairs_rise;
    jobs = own job_values job_number lists.jobs.items c.jobs has.kept;
    answers = small;
  }

  pub is_content : IsContentOf all c
  is_content = record { representable = representable; facts = facts_of }
