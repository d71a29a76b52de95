-- Tables that are found by their names.
use Rattle.std.specs.Prelude.{ℕ, List, find, Option}
use Rattle.sqlite_schema.specs.Names.{same_name}
use Rattle.sqlite_schema.specs.declared.schema.Table.{Table}

-- the first table of the name
abbrev pub first_named : List Table → List ℕ → Option Table
first_named tables wanted = find (λ t. same_name t.name wanted) tables
