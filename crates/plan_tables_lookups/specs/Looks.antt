-- The queries.
use Rattle.std.specs.Prelude.{◌≡◌, ℕ, ℤ, true, false, List, [], ◌∷◌, codes}
use Rattle.sqlite.specs.Order.{Row}
use Rattle.sqlite.specs.declared.types.Value.TheVariants.{Int, Text}
use Rattle.sqlite_sql.specs.declared.ops.CompareOp.TheVariants.{Eq, Le, Ge}
use Rattle.plan_tables_lookups.specs.Question.{By, Question, Test, question_text}
use Rattle.plan_tables_lookups.specs.Question.Side.{Given, Letters}
use Rattle.plan_tables_lookups.specs.declared.looks.Look.{Look}
use Rattle.plan_tables_lookups.specs.declared.looks.Look.TheVariants.{InHistory, InDeletions, LastOf, DeletedFrom}
use Rattle.plan_tables_lookups.specs.declared.looks.Look.TheVariants.{JobOf}
use Rattle.plan_tables_lookups.specs.declared.looks.Look.TheVariants.{HistoryListed, HistoryOf, DeletionsListed}
use Rattle.plan_tables_lookups.specs.declared.looks.Look.TheVariants.{DeletionsOf, Whole}
use Rattle.plan_tables_schema.specs.declared.tables.Table.{Table}
use Rattle.plan_tables_schema.specs.declared.tables.Table.TheVariants.{History, Deletion, Job}

-- the column has the value that is bound, the first or a later one
abbrev equals_parameter : List ℕ → ℕ → Test
equals_parameter column n = record { column = column; how = Eq; side = Given n }

abbrev rising : List ℕ → By
rising column = record { column = column; falls = false }

-- the rows of a table that pass, in no order
abbrev those : Table → List Test → Question
those table tests = record { table = table; tests = tests; order = []; is_one = false }

-- in the order of a listing
abbrev listed : Table → List Test → Question
listed table tests = record {
  table = table;
  tests = tests;
  order = rising (codes "ia") ∷ rising (codes "app") ∷ rising (codes "serial") ∷ [];
  is_one = false;
}

abbrev pub question : Look → Question
question InHistory = those History (equals_parameter (codes "serial") 0 ∷ [])
question InDeletions = those Deletion (equals_parameter (codes "serial") 0 ∷ [])
question LastOf = record {
  table = History;
  tests = equals_parameter (codes "app") 0 ∷ record { column = codes "ia"; how = Le; side = Given 1 } ∷ [];
  order = record { column = codes "ia"; falls = true } ∷ [];
  is_one = true;
}
question DeletedFrom = those Deletion (record { column = codes "reason"; how = Eq; side = Letters (codes "O") }
    ∷ record { column = codes "ia"; how = Ge; side = Given 0 } ∷ [])
question JobOf = those Job (equals_parameter (codes "number") 0 ∷ [])
question HistoryListed = listed History []
question HistoryOf = listed History (equals_parameter (codes "app") 0 ∷ [])
question DeletionsListed = listed Deletion []
question DeletionsOf = listed Deletion (equals_parameter (codes "app") 0 ∷ [])
question (Whole t) = those t []

abbrev pub look_sql : Look → List ℕ
look_sql look = question_text (question look)

-- values of the kinds that are bound
abbrev pub AreAsked : Look → Row → Type 0
AreAsked LastOf asked = (app : List ℕ) × (moment : ℤ) × (asked ≡ Text app ∷ Int moment ∷ [])
AreAsked HistoryListed asked = asked ≡ []
AreAsked DeletionsListed asked = asked ≡ []
AreAsked (Whole t) asked = asked ≡ []
AreAsked HistoryOf asked = (app : List ℕ) × (asked ≡ Text app ∷ [])
AreAsked DeletionsOf asked = (app : List ℕ) × (asked ≡ Text app ∷ [])
AreAsked look asked = (number : ℤ) × (asked ≡ Int number ∷ [])
