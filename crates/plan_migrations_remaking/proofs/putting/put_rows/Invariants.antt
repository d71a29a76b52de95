use Rattle.std.proofs.Common.{◌≡◌, drop, IsTrue}
use Rattle.sqlite.specs.State.{HasCleanDisk, KeepsCommit, Survives}
use Rattle.sqlite.specs.Held.{state}
use Rattle.plan_tables_schema.specs.Rows.{IsPlan, tables_of}
use Rattle.plan_migrations_remaking.specs.Remaking.{with_rows_put}
use Rattle.plan_migrations_remaking.specs.Types.{AreFirst}
use Rattle.plan_tables_schema.proofs.InTurn.{IsOnWay}
use Rattle.plan_migrations_remaking.proofs.putting.put_rows.Given as goal

abbrev pub invariant-loop-row : goal.invariant-loop-row
invariant-loop-row g l =
    let old = state g.S.Store l.fn.tx.conn.now in
    let now = state g.S.Store l.tx.conn.now in
    record {
      same : l.tx.conn.ghost_name ≡ l.fn.tx.conn.ghost_name;
      kept : HasCleanDisk now → KeepsCommit old now;
      survives : Survives old now (λ _. ⊥);
      opened : HasCleanDisk now → IsPlan old → IsTrue old.in_transaction → IsTrue old.is_open → AreFirst l.table l.rows
          → IsTrue now.is_open;
      leaves : HasCleanDisk now → IsPlan old → IsTrue old.in_transaction → AreFirst l.table l.rows
          → IsOnWay old now (with_rows_put l.table (drop l.row-index l.rows))
          (with_rows_put l.table l.rows (tables_of old.now.trees));
    }
