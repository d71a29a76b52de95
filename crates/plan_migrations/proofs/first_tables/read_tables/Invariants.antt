use Rattle.std.proofs.Common.{◌≡◌, false, take}
use Rattle.std.specs.List.{All}
use Rattle.sqlite.specs.State.{HasCleanDisk, IsUnchanged, Survives}
use Rattle.sqlite.specs.Held.{state}
use Rattle.plan_migrations_remaking.specs.Remaking.{AreAllFirst, tables_in}
use Rattle.plan_migrations.specs.Migrating.{AreShown}
use Rattle.plan_migrations.proofs.first_tables.read_tables.Given as goal

abbrev pub invariant-loop-table : goal.invariant-loop-table
invariant-loop-table g l =
    let old = state g.S.Store l.fn.conn in
    let now = state g.S.Store l.conn in
    record {
      mode : l.conn.in_transaction ≡ false;
      survives : Survives old now (λ _. ⊥);
      whole : tables_in l.reads.items ≡ take l.table-index l.tables;
      typed : AreAllFirst l.reads.items;
      told : HasCleanDisk now → IsUnchanged old now × All (AreShown old now) l.reads.items;
    }
