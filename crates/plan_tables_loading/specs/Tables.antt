-- What tables encode.
use Rattle.std.specs.Prelude.{◌≡◌, ◌↔◌, List, Contains, map}
use Rattle.sqlite.specs.Order.{Row as Values}
use Rattle.run_cycles.specs.declared.cycles.RunCycle.{RunCycle}
use Rattle.app_definition_records.specs.declared.predecessors.Predecessor.{Predecessor}
use Rattle.app_definitions.specs.declared.definitions.Definitions.{Definitions}
use Rattle.plan_tables_schema.specs.Rows.{HaveRowids, Tables, shown}
use Rattle.plan_tables_schema.specs.declared.tables.Table.{Table}
use Rattle.plan_tables_schema.specs.declared.tables.Table.TheVariants as table
use Rattle.plan_tables_content.specs.Content.{AreEach, HasEntry, IsApplicationRow, IsNamed, IsOfSome, IsTold, job_values}
use Rattle.plan_tables_content.specs.Content.{meta_values}
use Rattle.plan_tables_content.specs.Facts.{IsCalendarRow, IsCycleRow, IsOffsetRow, IsPeriodRow, IsPredecessorRow}
use Rattle.plan_tables_content.specs.Facts.{current_values, deletion_values, link_values, pair_values, row_values}
use Rattle.plan_tables_loading.specs.declared.lists.PlanLists.{PlanLists}
use Rattle.plan_tables_loading.specs.declared.lists.PlanRows.{PlanRows}
use Rattle.plan_tables_loading.specs.declared.meta.Meta.{Meta}

-- the table shows exactly these values
pub record ShowsOnly (all : Tables) (t : Table) (Is : Values → Type 0) : Type 0 where
  pub exactly : (v : Values) → Contains (map (shown t) (all t)) v ↔ Is v

-- and its rowids are integers, none twice
abbrev pub ShowsOnce : Tables → Table → (Values → Type 0) → Type 0
ShowsOnce all t Is = ShowsOnly all t Is × HaveRowids (all t)

-- one of these has the values
abbrev pub IsOneOf : {X : Type 0} → (X → Values) → List X → Values → Type 0
IsOneOf values_of xs v = Contains (map values_of xs) v

-- the tables of the sets encode these rows
pub record RepresentRows (all : Tables) (rows : PlanRows) : Type 0 where
  pub in_ltp : ShowsOnly all table.LongTerm (IsOneOf row_values rows.ltp.items)
  pub in_cp : ShowsOnly all table.Current (IsOneOf current_values rows.cp.items)
  pub in_history : ShowsOnly all table.History (IsOneOf row_values rows.history.items)
  pub in_deletions : ShowsOnly all table.Deletion (IsOneOf deletion_values rows.deletions.items)

-- the one row of how far the plans reach
abbrev pub RepresentsMeta : Tables → Meta → Type 0
RepresentsMeta all m = ShowsOnly all table.Meta (λ v. v ≡ meta_values m.bounds m.issued m.options)

abbrev pub RepresentsMetaOnce : Tables → Meta → Type 0
RepresentsMetaOnce all m = RepresentsMeta all m × HaveRowids (all table.Meta)

-- the tables whose rows are read with their rowids: integers, in none of them one twice
pub record HaveShownRowids (all : Tables) : Type 0 where
  pub meta : HaveRowids (all table.Meta)
  pub ltp : HaveRowids (all table.LongTerm)
  pub cp : HaveRowids (all table.Current)
  pub history : HaveRowids (all table.History)
  pub deletions : HaveRowids (all table.Deletion)
  pub pairs : HaveRowids (all table.Dependency)
  pub jobs : HaveRowids (all table.Job)

-- the tables of the plans encode what is listed
pub record RepresentPlans (all : Tables) (lists : PlanLists) : Type 0 where
  pub meta : RepresentsMeta all lists.meta
  pub links : ShowsOnly all table.LinkInForce (IsOneOf link_values lists.links)
  pub placed : RepresentRows all lists.rows
  pub pairs : ShowsOnly all table.Dependency (IsOneOf pair_values lists.pairs.items)
  pub jobs : ShowsOnly all table.Job (IsOneOf job_values lists.jobs.items)

-- the tables of the definitions encode these, which tables can distinguish from all others
pub record RepresentDefinitions (all : Tables) (d : Definitions) : Type 0 where
  pub calendar_rows : ShowsOnly all table.CalendarEntry (IsOfSome IsCalendarRow d.calendars)
  pub period_rows : ShowsOnly all table.Period (IsOfSome IsPeriodRow d.periods)
  pub application_rows : ShowsOnly all table.Application (IsOfSome IsApplicationRow d.applications)
  pub cycle_rows : ShowsOnly all table.RunCycle (IsOfSome IsCycleRow d.run_cycles)
  pub offset_rows : ShowsOnly all table.Offset (IsOfSome IsOffsetRow d.run_cycles)
  pub predecessor_rows : ShowsOnly all table.Predecessor (IsOfSome IsPredecessorRow d.predecessors)
  pub calendars : AreEach IsTold d.calendars
  pub periods : AreEach HasEntry d.periods
  pub run_cycles : AreEach (IsNamed (λ (cycle : RunCycle). cycle.name)) d.run_cycles
  pub predecessors : AreEach (IsNamed (λ (p : Predecessor). p.name)) d.predecessors
