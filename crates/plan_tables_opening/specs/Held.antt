-- Tables that hold a plan.
use Rattle.std.specs.Prelude.{◌≡◌, List, [], ◌∷◌, map}
use Rattle.sqlite.specs.Order.{Row as Values, column}
use Rattle.plan_tables_content.specs.Facts.{natural}
use Rattle.planner_machine.specs.Content.{Content}
use Rattle.planner_machine.specs.Sound.{IsSound}
use Rattle.plan_tables_schema.specs.Rows.{Tables, shown, tables_of}
use Rattle.plan_tables_schema.specs.declared.tables.TheConstants.{SCHEMA_VERSION}
use Rattle.plan_tables_schema.specs.declared.tables.Table.TheVariants.{Meta}
use Rattle.plan_tables_content.specs.Content.{IsContentOf}
use Rattle.sqlite.specs.State.{State}
use Rattle.plan_tables_loading.specs.Reading.{HasPlan}
use Rattle.plan_tables_opening.specs.Stored.{AllHaveRowids}

-- the one row that `plan_meta` shows has a known version
abbrev pub AreKnown : List Values → Type 0
AreKnown rows = (cells : Values) × (rows ≡ cells ∷ []) × (column cells 1 ≡ natural SCHEMA_VERSION)

-- the tables have a sound content, and no table has two rows with one rowid
pub record HoldSound (all : Tables) : Type 0 where
  pub content : Content
  pub told : IsContentOf all content
  pub sound : IsSound content
  pub rowids : AllHaveRowids all

-- the database has the tables of the plan, and these hold a sound content
abbrev pub HoldsPlan : State → Type 0
HoldsPlan s = HasPlan s × HoldSound (tables_of s.now.trees)

-- the database has the tables of the plan, of a known version
abbrev pub HasVersion : State → Type 0
HasVersion s = HasPlan s × AreKnown (map (shown Meta) (tables_of s.now.trees Meta))
