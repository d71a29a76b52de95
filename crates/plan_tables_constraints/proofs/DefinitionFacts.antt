-- The tables after a change of definitions have the content with the new ones.
use Rattle.std.proofs.Common.{◌≡◌, ◌↔◌, ◌==◌, ℕ, false, List, [], ◌∷◌, refl, sym, subst, ◌∙◌, Option}
use Rattle.std.specs.FinMap as maps
use Rattle.sqlite.specs.Order.{Row as Values}
use Rattle.work_calendars.specs.Calendar.{CalendarEntries}
use Rattle.plan_periods.specs.declared.periods.Period.{Period}
use Rattle.run_cycles.specs.declared.cycles.RunCycle.{RunCycle}
use Rattle.app_definition_records.specs.ByName.{overlaid}
use Rattle.app_definition_records.specs.declared.applications.Application.{Application}
use Rattle.app_definition_records.specs.declared.predecessors.Predecessor.{Predecessor}
use Rattle.app_definitions.specs.declared.definitions.Definitions.{Definitions}
use Rattle.app_definitions.specs.declared.kinds.Block.{Block}
use Rattle.app_definitions.specs.declared.kinds.Block.TheVariants as block
use Rattle.app_definitions.specs.declared.kinds.Kind.{Kind}
use Rattle.app_definitions.specs.declared.kinds.Kind.TheVariants as kind
use Rattle.app_definitions.specs.declared.options.Options.{Options}
use Rattle.planner_machine.specs.Content.{Content}
use Rattle.plan_tables_schema.specs.Rows.{Tables}
use Rattle.plan_tables_schema.specs.Schema.{place}
use Rattle.plan_tables_schema.specs.declared.tables.Table.{Table}
use Rattle.plan_tables_schema.specs.declared.tables.Table.TheVariants as table
use Rattle.plan_store.specs.Changes.{redefined}
use Rattle.plan_store.specs.Room.{with_definitions}
use Rattle.plan_store.specs.declared.changes.DefinitionChange.{DefinitionChange}
use Rattle.plan_store.specs.declared.changes.DefinitionChange.TheVariants.{AsBefore, Merged, Removed}
use Rattle.plan_tables_definitions.specs.Representable.{IsRepresentableBlock}
use Rattle.plan_tables_content.specs.Content.{AreEach, ByName, HasEntry, IsApplicationRow, IsContentOf, IsFact, IsNamed}
use Rattle.plan_tables_content.specs.Content.{IsOfSome, IsRepresentable, IsTold, meta_values}
use Rattle.plan_tables_content.specs.Facts.{IsCalendarRow, IsCycleRow, IsOffsetRow, IsPeriodRow, IsPredecessorRow}
use Rattle.plan_tables_writing.specs.Redefining.{AreMovesOf, AreRowsOf, BringsRows, cycles_gone, cycles_renewed}
use Rattle.plan_tables_writing.specs.Redefining.{definitions_moved, kind_moved, kind_of, moved_by, name_key}
use Rattle.plan_tables_writing.specs.Redefining.{renewed, rows_of}
use Rattle.plan_tables_writing.specs.Writing.{meta_told, with_each, without_each}
use Rattle.plan_tables_writing.specs.declared.redefining.DefinitionMoves.{DefinitionMoves}
use Rattle.plan_tables_constraints.proofs.ChangeLemmas.{meta_key, meta_shown}
use Rattle.plan_tables_constraints.proofs.ContentAfter.{told_other}
use Rattle.plan_tables_constraints.proofs.Held.{Shows, matched}
use Rattle.plan_tables_constraints.proofs.NamedRows.{application_named, application_shown, calendar_named, calendar_shown}
use Rattle.plan_tables_constraints.proofs.NamedRows.{cycle_named, cycle_shown, offset_named, offset_shown, period_named}
use Rattle.plan_tables_constraints.proofs.NamedRows.{period_shown, predecessor_named, predecessor_shown}
use Rattle.plan_tables_constraints.proofs.NameTables.{by_name, each_overlaid, each_removed, HasName, IsShown, merged_shown}
use Rattle.plan_tables_constraints.proofs.NameTables.{removed_shown}
use Rattle.plan_tables_constraints.proofs.SetMoves.{with_other, without_other}

abbrev IsApart : Table → Table → Type 0
IsApart u t = (place u == place t) ≡ false

-- ---- one table of definitions

module _ {D : Type 0} (t : Table) (IsRow : List ℕ → D → Values → Type 0)
    (by : (key v : Values) → matched t key v ≡ by_name key v)
    (named : (name : List ℕ) (d : D) (v : Values) → IsRow name d v → HasName name v)
    (shows : (name : List ℕ) (d : D) (v : Values) → IsRow name d v → IsShown t v) where
  renewed_shown : {cells : ℕ} (old more : ByName D) (names : List (List ℕ)) (rows : List Values) (all : Tables)
      → AreRowsOf cells IsRow more names rows → ((v : Values) → Shows t (all t) v ↔ IsOfSome IsRow old v) → (v : Values)
      → Shows t (renewed t names rows all t) v ↔ IsOfSome IsRow (overlaid old more) v
  renewed_shown old more names rows all are held v =
      merged_shown t IsRow by named shows old more names rows all (without_each t name_key names all) refl are held v

  gone_shown : (old : ByName D) (name : List ℕ) (names : List (List ℕ)) (rows : List Values) (all : Tables)
      → names ≡ name ∷ [] → rows ≡ [] → ((v : Values) → Shows t (all t) v ↔ IsOfSome IsRow old v) → (v : Values)
      → Shows t (renewed t names rows all t) v ↔ IsOfSome IsRow (maps.remove old name) v
  gone_shown old name names rows all one none held v =
      let same : without_each t name_key (name ∷ []) all ≡ renewed t names rows all =
      λ i. renewed t (sym one i) (sym none i) all in
      subst (λ (new : Tables). Shows t (new t) v ↔ IsOfSome IsRow (maps.remove old name) v) same
      (removed_shown t IsRow by named old name all held v)

pub renewed_other : (t u : Table) → IsApart u t → (names : List (List ℕ)) (rows : List Values) (all : Tables)
    → renewed t names rows all u ≡ all u
renewed_other t u apart names rows all = with_other t rows_of u apart rows (without_each t name_key names all)
    ∙ without_other t name_key u apart names all

-- ---- run cycles and their offsets

module _ (names : List (List ℕ)) (cycles offsets : List Values) (all : Tables) where
  abbrev bare : Tables
  bare = without_each table.Offset name_key names all

  abbrev cycled : Tables
  cycled = with_each table.RunCycle rows_of cycles (cycles_gone names all)

  pub cycles_other : (u : Table) → IsApart u table.RunCycle → IsApart u table.Offset
      → cycles_renewed names cycles offsets all u ≡ all u
  cycles_other u a b = with_other table.Offset rows_of u b offsets cycled
      ∙ with_other table.RunCycle rows_of u a cycles (cycles_gone names all)
      ∙ without_other table.RunCycle name_key u a names bare ∙ without_other table.Offset name_key u b names all

  bare_cycles : bare table.RunCycle ≡ all table.RunCycle
  bare_cycles = without_other table.Offset name_key table.RunCycle refl names all

  cycled_offsets : cycled table.Offset ≡ bare table.Offset
  cycled_offsets = with_other table.RunCycle rows_of table.Offset refl cycles (cycles_gone names all)
      ∙ without_other table.RunCycle name_key table.Offset refl names bare

  at_cycles : cycles_renewed names cycles offsets all table.RunCycle ≡ cycled table.RunCycle
  at_cycles = with_other table.Offset rows_of table.RunCycle refl offsets cycled

  module _ (old : ByName (List RunCycle))
      (held : (v : Values) → Shows table.RunCycle (all table.RunCycle) v ↔ IsOfSome IsCycleRow old v)
      (held_offsets : (v : Values) → Shows table.Offset (all table.Offset) v ↔ IsOfSome IsOffsetRow old v) where
    bare_held : (v : Values) → Shows table.RunCycle (bare table.RunCycle) v ↔ IsOfSome IsCycleRow old v
    bare_held v = subst (λ rows. Shows table.RunCycle rows v ↔ IsOfSome IsCycleRow old v) (sym bare_cycles) (held v)

    cycles_shown : (more : ByName (List RunCycle)) → AreRowsOf 2 IsCycleRow more names cycles → (v : Values)
        → Shows table.RunCycle (cycles_renewed names cycles offsets all table.RunCycle) v
        ↔ IsOfSome IsCycleRow (overlaid old more) v
    cycles_shown more are v =
        subst (λ rows. Shows table.RunCycle rows v ↔ IsOfSome IsCycleRow (overlaid old more) v) (sym at_cycles)
        (merged_shown table.RunCycle IsCycleRow (λ key w. refl) cycle_named cycle_shown old more names cycles bare
        (cycles_gone names all) refl are bare_held v)

    offsets_shown : (more : ByName (List RunCycle)) → AreRowsOf 3 IsOffsetRow more names offsets → (v : Values)
        → Shows table.Offset (cycles_renewed names cycles offsets all table.Offset) v
        ↔ IsOfSome IsOffsetRow (overlaid old more) v
    offsets_shown more are v =
        merged_shown table.Offset IsOffsetRow (λ key w. refl) offset_named offset_shown old more names offsets all
        cycled cycled_offsets are held_offsets v

    module _ (name : List ℕ) (one : names ≡ name ∷ []) (none : cycles ≡ []) (no_offsets : offsets ≡ []) where
      same : cycles_gone (name ∷ []) all ≡ cycles_renewed names cycles offsets all
      same = λ i. cycles_renewed (sym one i) (sym none i) (sym no_offsets i) all

      cycles_gone_shown : (v : Values)
          → Shows table.RunCycle (cycles_renewed names cycles offsets all table.RunCycle) v
          ↔ IsOfSome IsCycleRow (maps.remove old name) v
      cycles_gone_shown v =
          subst (λ (new : Tables). Shows table.RunCycle (new table.RunCycle) v
          ↔ IsOfSome IsCycleRow (maps.remove old name) v) same
          (removed_shown table.RunCycle IsCycleRow (λ key w. refl) cycle_named old name
          (without_each table.Offset name_key (name ∷ []) all)
          (λ w. subst (λ (ns : List (List ℕ)). Shows table.RunCycle
          (without_each table.Offset name_key ns all table.RunCycle) w ↔ IsOfSome IsCycleRow old w) one
          (bare_held w)) v)

      offsets_gone_shown : (v : Values)
          → Shows table.Offset (cycles_renewed names cycles offsets all table.Offset) v
          ↔ IsOfSome IsOffsetRow (maps.remove old name) v
      offsets_gone_shown v =
          subst (λ (new : Tables). Shows table.Offset (new table.Offset) v
          ↔ IsOfSome IsOffsetRow (maps.remove old name) v) same
          (subst (λ rows. Shows table.Offset rows v ↔ IsOfSome IsOffsetRow (maps.remove old name) v)
          (sym (without_other table.RunCycle name_key table.Offset refl (name ∷ [])
          (without_each table.Offset name_key (name ∷ []) all)))
          (removed_shown table.Offset IsOffsetRow (λ key w. refl) offset_named old name all held_offsets v))

-- ---- all tables

module _ (c : Content) (all : Tables) (is : IsContentOf all c) where
  abbrev defs : Definitions
  defs = c.definitions

  held : (t : Table) (v : Values) → Shows t (all t) v ↔ IsFact t c v
  held t v = is.facts t v

  -- the tables show what the content with these definitions has
  abbrev ShowAll : Tables → Definitions → Type 0
  ShowAll new d = (t : Table) (v : Values) → Shows t (new t) v ↔ IsFact t (with_definitions d c) v

  still : (t : Table) (new : Tables) → new t ≡ all t → (v : Values) → Shows t (new t) v ↔ IsFact t c v
  still t new e v = subst (λ r. Shows t r v ↔ IsFact t c v) (sym e) (held t v)

  application_facts : (m : ByName Application) (new : Tables)
      → ((u : Table) → IsApart u table.Application → new u ≡ all u)
      → ((v : Values) → Shows table.Application (new table.Application) v ↔ IsOfSome IsApplicationRow m v)
      → ShowAll new (record defs { applications = m })
  application_facts m new other shown table.Application v = shown v
  application_facts m new other shown t v = still t new (other t refl) v

  calendar_facts : (m : ByName CalendarEntries) (new : Tables)
      → ((u : Table) → IsApart u table.CalendarEntry → new u ≡ all u)
      → ((v : Values) → Shows table.CalendarEntry (new table.CalendarEntry) v ↔ IsOfSome IsCalendarRow m v)
      → ShowAll new (record defs { calendars = m })
  calendar_facts m new other shown table.CalendarEntry v = shown v
  calendar_facts m new other shown t v = still t new (other t refl) v

  period_facts : (m : ByName Period) (new : Tables)
      → ((u : Table) → IsApart u table.Period → new u ≡ all u)
      → ((v : Values) → Shows table.Period (new table.Period) v ↔ IsOfSome IsPeriodRow m v)
      → ShowAll new (record defs { periods = m })
  period_facts m new other shown table.Period v = shown v
  period_facts m new other shown t v = still t new (other t refl) v

  predecessor_facts : (m : ByName (List Predecessor)) (new : Tables)
      → ((u : Table) → IsApart u table.Predecessor → new u ≡ all u)
      → ((v : Values) → Shows table.Predecessor (new table.Predecessor) v ↔ IsOfSome IsPredecessorRow m v)
      → ShowAll new (record defs { predecessors = m })
  predecessor_facts m new other shown table.Predecessor v = shown v
  predecessor_facts m new other shown t v = still t new (other t refl) v

  cycle_facts : (m : ByName (List RunCycle)) (new : Tables)
      → ((u : Table) → IsApart u table.RunCycle → IsApart u table.Offset → new u ≡ all u)
      → ((v : Values) → Shows table.RunCycle (new table.RunCycle) v ↔ IsOfSome IsCycleRow m v)
      → ((v : Values) → Shows table.Offset (new table.Offset) v ↔ IsOfSome IsOffsetRow m v)
      → ShowAll new (record defs { run_cycles = m })
  cycle_facts m new other cycles offsets table.RunCycle v = cycles v
  cycle_facts m new other cycles offsets table.Offset v = offsets v
  cycle_facts m new other cycles offsets t v = still t new (other t refl refl) v

  option_facts : (options : Options)
      → ShowAll (meta_told c.sets.bounds c.sets.issued options all) (record defs { options = options })
  option_facts options table.Meta v = meta_shown c.sets.bounds c.sets.issued options
      (meta_values c.sets.bounds c.sets.issued defs.options) all
      (meta_key c.sets.bounds c.sets.issued defs.options) (held table.Meta) v
  option_facts options t v = still t (meta_told c.sets.bounds c.sets.issued options all)
      (told_other t refl c.sets.bounds c.sets.issued options all) v

  -- what tables can tell of the rest stays
  representable_with : (d : Definitions) → AreEach IsTold d.calendars → AreEach HasEntry d.periods
      → AreEach (IsNamed (λ (x : RunCycle). x.name)) d.run_cycles → AreEach (IsNamed (λ (p : Predecessor). p.name)) d.predecessors
      → IsRepresentable (with_definitions d c)
  representable_with d calendars periods run_cycles predecessors = record {
    calendars = calendars;
    periods = periods;
    run_cycles = run_cycles;
    predecessors = predecessors;
    ltp = is.representable.ltp;
    cp = is.representable.cp;
    history = is.representable.history;
    deletions = is.representable.deletions;
    in_force = is.representable.in_force;
    pairs = is.representable.pairs;
    jobs = is.representable.jobs;
    answers = is.representable.answers;
  }

  abbrev IsAfter : Tables → Definitions → Type 0
  IsAfter new d = IsContentOf new (with_definitions d c)

  -- with a block's definitions
  block_content : (b : Block) (moves : DefinitionMoves) → BringsRows b moves → IsRepresentableBlock b
      → IsAfter (kind_moved (kind_of b) c.sets.bounds c.sets.issued (redefined (Merged b) defs).options moves all)
      (redefined (Merged b) defs)
  block_content (block.Applications more) moves are told = record {
    representable = representable_with (redefined (Merged (block.Applications more)) defs) is.representable.calendars
        is.representable.periods is.representable.run_cycles is.representable.predecessors;
    facts = application_facts (overlaid defs.applications more)
        (renewed table.Application moves.names.items moves.rows.items all)
        (λ u apart. renewed_other table.Application u apart moves.names.items moves.rows.items all)
        (renewed_shown table.Application IsApplicationRow
        (λ key v. refl) application_named application_shown defs.applications more
        moves.names.items moves.rows.items all are (held table.Application));
  }
  block_content (block.Calendars more) moves are told = record {
    representable = representable_with (redefined (Merged (block.Calendars more)) defs)
        (each_overlaid IsTold defs.calendars more is.representable.calendars told) is.representable.periods
        is.representable.run_cycles is.representable.predecessors;
    facts = calendar_facts (overlaid defs.calendars more)
        (renewed table.CalendarEntry moves.names.items moves.rows.items all)
        (λ u apart. renewed_other table.CalendarEntry u apart moves.names.items moves.rows.items all)
        (renewed_shown table.CalendarEntry IsCalendarRow
        (λ key v. refl) calendar_named calendar_shown defs.calendars more
        moves.names.items moves.rows.items all are (held table.CalendarEntry));
  }
  block_content (block.Periods more) moves are told = record {
    representable = representable_with (redefined (Merged (block.Periods more)) defs) is.representable.calendars
        (each_overlaid HasEntry defs.periods more is.representable.periods told) is.representable.run_cycles
        is.representable.predecessors;
    facts = period_facts (overlaid defs.periods more)
        (renewed table.Period moves.names.items moves.rows.items all)
        (λ u apart. renewed_other table.Period u apart moves.names.items moves.rows.items all)
        (renewed_shown table.Period IsPeriodRow (λ key v. refl) period_named period_shown defs.periods more
        moves.names.items moves.rows.items all are (held table.Period));
  }
  block_content (block.Predecessors more) moves are told = record {
    representable = representable_with (redefined (Merged
        (block.Predecessors more)) defs) is.representable.calendars is.representable.periods is.representable.run_cycles
        (each_overlaid (IsNamed (λ (p : Predecessor). p.name)) defs.predecessors more is.representable.predecessors told);
    facts = predecessor_facts (overlaid defs.predecessors more)
        (renewed table.Predecessor moves.names.items moves.rows.items all)
        (λ u apart. renewed_other table.Predecessor u apart moves.names.items moves.rows.items all)
        (renewed_shown table.Predecessor IsPredecessorRow
        (λ key v. refl) predecessor_named predecessor_shown defs.predecessors more
        moves.names.items moves.rows.items all are (held table.Predecessor));
  }
  block_content (block.RunCycles more) moves are told = record {
    representable = representable_with (redefined (Merged
        (block.RunCycles more)) defs) is.representable.calendars is.representable.periods (each_overlaid (IsNamed (λ
        (x : RunCycle). x.name)) defs.run_cycles more is.representable.run_cycles told) is.representable.predecessors;
    facts = cycle_facts (overlaid defs.run_cycles more)
        (cycles_renewed moves.names.items moves.rows.items moves.offsets.items all)
        (λ u a b. cycles_other moves.names.items moves.rows.items moves.offsets.items all u a b)
        (cycles_shown moves.names.items moves.rows.items moves.offsets.items all defs.run_cycles
        (held table.RunCycle) (held table.Offset) more are.0)
        (offsets_shown moves.names.items moves.rows.items moves.offsets.items all defs.run_cycles
        (held table.RunCycle) (held table.Offset) more are.1);
  }
  block_content (block.Options given) moves are told = record {
    representable = representable_with (redefined (Merged (block.Options given)) defs) is.representable.calendars
        is.representable.periods is.representable.run_cycles is.representable.predecessors;
    facts = option_facts given;
  }

  -- without the definition of a kind and name
  removed_content : (k : Kind) (name : List ℕ) (moves : DefinitionMoves) → moves.names.items ≡ name ∷ []
      → moves.rows.items ≡ [] → moves.offsets.items ≡ []
      → IsAfter (kind_moved k c.sets.bounds c.sets.issued (redefined (Removed k name) defs).options moves all)
      (redefined (Removed k name) defs)
  removed_content kind.Applications name moves one none no_offsets = record {
    representable = representable_with (redefined
        (Removed kind.Applications name) defs) is.representable.calendars is.representable.periods is.representable.run_cycles
        is.representable.predecessors;
    facts = application_facts (maps.remove defs.applications name)
        (renewed table.Application moves.names.items moves.rows.items all)
        (λ u apart. renewed_other table.Application u apart moves.names.items moves.rows.items all)
        (gone_shown table.Application IsApplicationRow
        (λ key v. refl) application_named application_shown defs.applications name
        moves.names.items moves.rows.items all one none (held table.Application));
  }
  removed_content kind.Calendars name moves one none no_offsets = record {
    representable = representable_with (redefined (Removed kind.Calendars name) defs)
        (each_removed IsTold defs.calendars name is.representable.calendars) is.representable.periods is.representable.run_cycles
        is.representable.predecessors;
    facts = calendar_facts (maps.remove defs.calendars name)
        (renewed table.CalendarEntry moves.names.items moves.rows.items all)
        (λ u apart. renewed_other table.CalendarEntry u apart moves.names.items moves.rows.items all)
        (gone_shown table.CalendarEntry IsCalendarRow
        (λ key v. refl) calendar_named calendar_shown defs.calendars name
        moves.names.items moves.rows.items all one none (held table.CalendarEntry));
  }
  removed_content kind.Periods name moves one none no_offsets = record {
    representable = representable_with (redefined (Removed kind.Periods name) defs) is.representable.calendars
        (each_removed HasEntry defs.periods name is.representable.periods) is.representable.run_cycles is.representable.predecessors;
    facts = period_facts (maps.remove defs.periods name)
        (renewed table.Period moves.names.items moves.rows.items all)
        (λ u apart. renewed_other table.Period u apart moves.names.items moves.rows.items all)
        (gone_shown table.Period IsPeriodRow (λ key v. refl) period_named period_shown defs.periods name
        moves.names.items moves.rows.items all one none (held table.Period));
  }
  removed_content kind.Predecessors name moves one none no_offsets = record {
    representable = representable_with (redefined
        (Removed kind.Predecessors name) defs) is.representable.calendars is.representable.periods is.representable.run_cycles
        (each_removed (IsNamed (λ (p : Predecessor). p.name)) defs.predecessors name is.representable.predecessors);
    facts = predecessor_facts (maps.remove defs.predecessors name)
        (renewed table.Predecessor moves.names.items moves.rows.items all)
        (λ u apart. renewed_other table.Predecessor u apart moves.names.items moves.rows.items all)
        (gone_shown table.Predecessor IsPredecessorRow
        (λ key v. refl) predecessor_named predecessor_shown defs.predecessors name
        moves.names.items moves.rows.items all one none (held table.Predecessor));
  }
  removed_content kind.RunCycles name moves one none no_offsets = record {
    representable = representable_with (redefined
        (Removed kind.RunCycles name) defs) is.representable.calendars is.representable.periods (each_removed (IsNamed (λ
        (x : RunCycle). x.name)) defs.run_cycles name is.representable.run_cycles) is.representable.predecessors;
    facts = cycle_facts (maps.remove defs.run_cycles name)
        (cycles_renewed moves.names.items moves.rows.items moves.offsets.items all)
        (λ u a b. cycles_other moves.names.items moves.rows.items moves.offsets.items all u a b)
        (cycles_gone_shown moves.names.items moves.rows.items moves.offsets.items all defs.run_cycles
        (held table.RunCycle) (held table.Offset) name one none no_offsets)
        (offsets_gone_shown moves.names.items moves.rows.items moves.offsets.items all defs.run_cycles
        (held table.RunCycle) (held table.Offset) name one none no_offsets);
  }
  removed_content kind.Options name moves one none no_offsets = record {
    representable = representable_with defs is.representable.calendars is.representable.periods is.representable.run_cycles
        is.representable.predecessors;
    facts = option_facts defs.options;
  }

  pub redefined_content : (change : DefinitionChange) (moves : DefinitionMoves) → AreMovesOf change moves
      → IsAfter (definitions_moved c.sets.bounds c.sets.issued (redefined change defs).options moves all)
      (redefined change defs)
  redefined_content AsBefore moves none =
      subst (λ (k : Option Kind). IsAfter (moved_by k c.sets.bounds c.sets.issued defs.options moves all) defs)
      (sym none)
      (record { representable = is.representable; facts = is.facts })
  redefined_content (Merged b) moves (at, are, told) =
      subst (λ (k : Option Kind). IsAfter (moved_by k c.sets.bounds c.sets.issued
      (redefined (Merged b) defs).options moves all)
      (redefined (Merged b) defs)) (sym at) (block_content b moves are told)
  redefined_content (Removed k name) moves (at, one, none, no_offsets) =
      subst (λ (o : Option Kind). IsAfter (moved_by o c.sets.bounds c.sets.issued
      (redefined (Removed k name) defs).options moves all) (redefined (Removed k name) defs)) (sym at)
      (removed_content k name moves one none no_offsets)
