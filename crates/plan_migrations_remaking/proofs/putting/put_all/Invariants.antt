use Rattle.std.proofs.Common.{◌≡◌, drop, IsTrue}
use Rattle.sqlite.specs.State.{HasCleanDisk, KeepsCommit, Survives}
use Rattle.sqlite.specs.Held.{state}
use Rattle.plan_tables_schema.specs.Rows.{IsPlan, tables_of}
use Rattle.plan_migrations_remaking.specs.Remaking.{AreAllFirst, with_all_put}
use Rattle.plan_tables_schema.proofs.InTurn.{IsOnWay}
use Rattle.plan_migrations_remaking.proofs.putting.put_all.Given as goal

abbrev pub invariant-loop-read : goal.invariant-loop-read
invariant-loop-read g l =
    let old = state g.S.Store l.fn.tx.conn.now in
    let now = state g.S.Store l.tx.conn.now in
    record {
      same : l.tx.conn.ghost_name ≡ l.fn.tx.conn.ghost_name;
      kept : HasCleanDisk now → KeepsCommit old now;
      survives : Survives old now (λ _. ⊥);
      opened : HasCleanDisk now → IsPlan old → IsTrue old.in_transaction → IsTrue old.is_open → AreAllFirst l.reads
          → IsTrue now.is_open;
      leaves : HasCleanDisk now → IsPlan old → IsTrue old.in_transaction → AreAllFirst l.reads
          → IsOnWay old now (with_all_put (drop l.read-index l.reads)) (with_all_put l.reads (tables_of old.now.trees));
    }
