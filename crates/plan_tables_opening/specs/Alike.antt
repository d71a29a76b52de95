-- Tables that are alike, whatever their trees.
use Rattle.std.specs.Prelude.{◌≡◌}
use Rattle.sqlite_schema.specs.declared.schema.Table.{Table}

-- the same name, columns and key
pub record HaveSameColumns (a b : Table) : Type 0 where
  pub name : a.name ≡ b.name
  pub columns : a.columns ≡ b.columns
  pub key : a.key ≡ b.key

-- the same keys
pub record HaveSameKeys (a b : Table) : Type 0 where
  pub primary : a.primary ≡ b.primary
  pub uniques : a.uniques ≡ b.uniques
  pub orders : a.orders ≡ b.orders
  pub references : a.references ≡ b.references

-- the same checks and defaults
pub record HaveSameChecks (a b : Table) : Type 0 where
  pub checks : a.checks ≡ b.checks
  pub computed : a.computed ≡ b.computed
  pub stamps : a.stamps ≡ b.stamps
  pub counted : a.is_counted ≡ b.is_counted

-- the same but for their trees
abbrev pub IsAlike : Table → Table → Type 0
IsAlike a b = a ≡ record b { tree = a.tree }
