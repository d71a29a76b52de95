-- Tables that are in a schema.
use Rattle.std.specs.Prelude.{◌≡◌, ◌⊎◌, ◌<◌, ◌^◌, List, MatchOption}
use Rattle.std.specs.List.{All}
use Rattle.sqlite_schema.specs.declared.schema.Table.{Table}
use Rattle.sqlite_trees.specs.Tree.{IsAscending}
use Rattle.plan_tables_schema.specs.Free.{AreAside}
use Rattle.plan_tables_schema.specs.Named.{first_named}
use Rattle.plan_tables_schema.specs.Places.{TreesDiffer}
use Rattle.plan_tables_schema.specs.Schema.{name}
use Rattle.plan_tables_schema.specs.declared.tables.Table.TheVariants.{Offset}
use Rattle.plan_tables_opening.specs.Alike.{IsAlike}

-- the first table of its name is like it
unfoldable pub IsThere : List Table → Table → Type 0
IsThere tables table =
    MatchOption (first_named tables table.name) ⊥ (λ found. IsAlike found table × (found.tree < 2 ^ 31))

-- but for the offsets no table refers to one of these
unfoldable pub OffsetsRefer : List Table → List Table → Type 0
OffsetsRefer tables made = MatchOption (first_named tables (name Offset)) ⊥
    (λ offsets. All (λ child. (child.tree ≡ offsets.tree) ⊎ AreAside made child) tables)

-- these tables are among the others, each in a tree of its own, and none of the others refers to one of them
pub record StandAmong (tables made : List Table) : Type 0 where
  pub stand : All (IsThere tables) made
  pub apart : IsAscending TreesDiffer tables
  pub refer : OffsetsRefer tables made
