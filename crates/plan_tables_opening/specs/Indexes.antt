-- Indexes of the tables of a plan.
use Rattle.std.specs.Prelude.{◌≡◌, ◌≢◌, ◌⊎◌, List, [], ◌∷◌, MatchOption}
use Rattle.std.specs.List.{All}
use Rattle.sqlite_schema.specs.declared.schema.Index.{Index}
use Rattle.sqlite_schema.specs.declared.schema.Table.{Table}
use Rattle.plan_tables_schema.specs.Named.{first_named}

-- it is that of the only key of the table
pub record IsOfKey (made : Table) (index : Index) : Type 0 where
  pub columns : made.uniques ≡ index.columns ∷ []
  pub order : made.orders ≡ index.order ∷ []

-- it is in another tree than the first table of the name, or that of its only key
unfoldable pub IsOwnOf : List Table → Index → Table → Type 0
IsOwnOf tables index made =
    MatchOption (first_named tables made.name) ⊥ (λ found. (index.table ≢ found.tree) ⊎ IsOfKey made index)

abbrev pub IsOwn : List Table → List Table → Index → Type 0
IsOwn tables made index = All (IsOwnOf tables index) made

abbrev pub AreOwn : List Table → List Table → List Index → Type 0
AreOwn tables made indexes = All (IsOwn tables made) indexes
