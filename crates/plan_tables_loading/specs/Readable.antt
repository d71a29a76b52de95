-- What tables show if all of it can be decoded.
use Rattle.std.specs.Prelude.{◌≡◌, ℕ, Contains, map}
use Rattle.sqlite.specs.Order.{Row as Values, column}
use Rattle.sqlite.specs.Tree.{rowid}
use Rattle.plan_tables_schema.specs.Rows.{HaveRowids, Tables, shown}
use Rattle.plan_tables_schema.specs.declared.tables.Table.{Table}
use Rattle.plan_tables_schema.specs.declared.tables.Table.TheVariants as table
use Rattle.occurrences.specs.declared.place.CurrentRow.{CurrentRow}
use Rattle.occurrences.specs.declared.place.Deletion.{Deletion}
use Rattle.external_dependencies.specs.Link.{HaveSameNames}
use Rattle.external_dependencies.specs.declared.links.Link.{Link}
use Rattle.planner_machine.specs.Sound.{IsLink}
use Rattle.plan_tables_content.specs.Content.{job_values}
use Rattle.plan_tables_content.specs.Facts.{current_values, deletion_values, link_values, natural, pair_values, row_values}
use Rattle.plan_tables_loading.specs.Cells.{IsMeta, IsNumberedRow, IsPair, IsReadJob}
use Rattle.plan_tables_loading.specs.Tables.{RepresentsMeta}
use Rattle.plan_tables_loading.specs.declared.meta.Meta.{Meta}

-- each row that the table shows is that of something of this kind
pub record ShowsEach {X : Type 0} (all : Tables) (t : Table) (values_of : X → Values) (Is : X → Type 0) : Type 0 where
  pub each : (v : Values) → Contains (map (shown t) (all t)) v → (x : X) × Is x × (values_of x ≡ v)

-- and its rowids are integers, none twice
pub record ShowsEachOnce {X : Type 0} (all : Tables) (t : Table) (values_of : X → Values) (Is : X → Type 0)
    : Type 0 where
  pub shows : ShowsEach all t values_of Is
  pub rowids : HaveRowids (all t)

-- the number comes first in the values, if the table shows the rowid
pub record ShowsNumbers {X : Type 0} (t : Table) (values_of : X → Values) (number_of : X → ℕ) : Type 0 where
  pub of_item : (x : X) → column (values_of x) 0 ≡ natural (number_of x)
  pub of_row : (row : Values) → column (shown t row) 0 ≡ rowid row

-- `plan_meta` shows one row, which encodes how far the plans reach
pub record ShowsMeta (all : Tables) : Type 0 where
  pub meta : Meta
  pub form : IsMeta meta
  pub tells : RepresentsMeta all meta
  pub rowids : HaveRowids (all table.Meta)

-- `link_in_force` shows a row of the link
abbrev pub ShowsLink : Tables → Link → Type 0
ShowsLink all link = Contains (map (shown table.LinkInForce) (all table.LinkInForce)) (link_values link)

-- each row that `link_in_force` shows is that of a link, and no two that differ have the same names
pub record ShowsLinks (all : Tables) : Type 0 where
  pub shows : ShowsEach all table.LinkInForce link_values IsLink
  pub once : (a b : Link) → ShowsLink all a → ShowsLink all b → HaveSameNames a b → a ≡ b

-- all rows of the tables of the plans can be decoded
pub record ArePlansReadable (all : Tables) : Type 0 where
  pub ltp : ShowsEachOnce all table.LongTerm row_values IsNumberedRow
  pub cp : ShowsEachOnce all table.Current current_values (λ (current : CurrentRow). IsNumberedRow current.row)
  pub history : ShowsEachOnce all table.History row_values IsNumberedRow
  pub deletions : ShowsEachOnce all table.Deletion deletion_values (λ (gone : Deletion). IsNumberedRow gone.row)
  pub links : ShowsLinks all
  pub pairs : ShowsEachOnce all table.Dependency pair_values IsPair
  pub meta : ShowsMeta all
  pub jobs : ShowsEachOnce all table.Job job_values IsReadJob
