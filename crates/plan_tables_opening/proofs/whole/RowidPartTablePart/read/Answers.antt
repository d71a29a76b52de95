use Rattle.plan_tables_schema.specs.Schema.{table_of}
use Rattle.plan_tables_opening.proofs.whole.RowidPartTablePart.read.Goals as goal

pub returns-in-None-clause-refused : goal.returns-in-None-clause-refused
returns-in-None-clause-refused g c clean plan none have =
    c.in_ok-parts.ensures.refused clean plan c.in-None.is (
      ((have (table_of 1), have (table_of 2)), (have (table_of 3), have (table_of 4))),
      ((have (table_of 5), have (table_of 6)), have (table_of 7)),
    )
