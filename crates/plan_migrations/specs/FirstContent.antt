-- The content that the rows of the tables of schema 1 stand for.
use Rattle.std.specs.Prelude.{◌≡◌, ◌↔◌, ℕ, List, [], ◌∷◌, map, Option, None, Contains}
use Rattle.sqlite.specs.Order.{Row as Values, column}
use Rattle.sqlite.specs.declared.types.Value.TheVariants.{Text}
use Rattle.app_definitions.specs.declared.options.Options.{Options}
use Rattle.app_definition_records.specs.declared.predecessors.Predecessor.{Predecessor}
use Rattle.external_dependencies.specs.declared.links.Link.{Link}
use Rattle.planner_machine.specs.Content.{Content}
use Rattle.planner_machine.specs.declared.content.Bounds.{Bounds}
use Rattle.plan_tables_schema.specs.Rows.{Tables}
use Rattle.plan_tables_schema.specs.declared.tables.Table.{Table}
use Rattle.plan_tables_schema.specs.declared.tables.Table.TheVariants as table
use Rattle.plan_tables_content.specs.Content.{AreEach, IsFact, IsOfList, IsOfSome, IsRepresentable, bounds_values}
use Rattle.plan_tables_content.specs.Facts.{natural}
use Rattle.plan_migrations_remaking.specs.FirstSchema.{first_shown}
use Rattle.plan_migrations.specs.declared.versions.TheConstants.{FIRST_VERSION}

abbrev pub first_meta_values : Option Bounds → ℕ → Options → Values
first_meta_values bounds issued options = natural 1 ∷ natural FIRST_VERSION
    ∷ bounds_values bounds (natural issued ∷ Text options.default_calendar ∷ natural options.max_extension_hours ∷ [])

abbrev pub first_link_values : Link → Values
first_link_values link = Text link.app ∷ Text link.predecessor ∷ []

abbrev pub first_predecessor_values : List ℕ → Predecessor → Values
first_predecessor_values app p = Text app ∷ Text p.name ∷ []

-- of an application's list of predecessors: each of them
abbrev pub IsFirstPredecessorRow : List ℕ → List Predecessor → Values → Type 0
IsFirstPredecessorRow app all values =
    (p : Predecessor) × Contains all p × (values ≡ first_predecessor_values app p)

-- a fact of the content that belongs to the table: as in the current schema, except for the version and the limits
abbrev pub IsFirstFact : Table → Content → Values → Type 0
IsFirstFact table.Meta c values = values ≡ first_meta_values c.sets.bounds c.sets.issued c.definitions.options
IsFirstFact table.Predecessor c values = IsOfSome IsFirstPredecessorRow c.definitions.predecessors values
IsFirstFact table.LinkInForce c values = IsOfList first_link_values c.in_force values
IsFirstFact t c values = IsFact t c values

-- no list of predecessors has a limit, neither as it is defined nor in force
pub record HasNoLimits (c : Content) : Type 0 where
  pub defined : AreEach (λ (all : List Predecessor). (p : Predecessor) → Contains all p → p.within ≡ None)
      c.definitions.predecessors
  pub in_force : (link : Link) → Contains c.in_force link → link.within ≡ None

-- the content of the tables: lists of predecessors without limits, one row for each fact, and no others
pub record IsFirstContentOf (all : Tables) (c : Content) : Type 0 where
  pub representable : IsRepresentable c
  pub unlimited : HasNoLimits c
  pub facts : (t : Table) (values : Values) → Contains (map (first_shown t) (all t)) values ↔ IsFirstFact t c values

-- each row of `plan_meta` is of schema 1
abbrev pub AreOfFirst : Tables → Type 0
AreOfFirst all = (values : Values) → Contains (map (first_shown table.Meta) (all table.Meta)) values
    → column values 1 ≡ natural FIRST_VERSION
