-- Texts that only read.
use Rattle.std.specs.Prelude.{ℕ, List, Ok, Err, ⊤}
use Rattle.sqlite_ast.specs.declared.Statement.{Statement}
use Rattle.sqlite_ast.specs.declared.Statement.TheVariants.{Select}
use Rattle.sqlite_resolve.specs.Compile.{first}
use Rattle.sqlite_resolve.specs.Lowering.{Checked}
use Rattle.sqlite_syntax.specs.declared.statement.Parsed.{Parsed}

abbrev pub IsQuery : Statement → Type 0
IsQuery (Select s) = ⊤
IsQuery _ = ⊥

abbrev pub IsReadAsQuery : Checked Parsed → Type 0
IsReadAsQuery (Ok p) = IsQuery p.statement
IsReadAsQuery (Err e) = ⊥

-- the text begins with a query
abbrev pub IsReading : List ℕ → Type 0
IsReading sql = IsReadAsQuery (first sql)
