use Rattle.std.proofs.Common.{◌≡◌, false}
use Rattle.std.specs.List.{AllWithin}
use Rattle.sqlite.specs.State.{HasCleanDisk, IsUnchanged, Survives}
use Rattle.sqlite.specs.Held.{state}
use Rattle.plan_migrations_remaking.specs.FirstSchema.{CanRemake}
use Rattle.plan_migrations.proofs.RowidLemmas.{HasRowids}
use Rattle.plan_migrations.proofs.rowids.check_rowids.Given as goal

abbrev pub invariant-loop-table : goal.invariant-loop-table
invariant-loop-table g l =
    let old = state g.S.Store l.fn.conn in
    let now = state g.S.Store l.conn in
    record {
      mode : l.conn.in_transaction ≡ false;
      survives : Survives old now (λ _. ⊥);
      same : HasCleanDisk now → IsUnchanged old now;
      checked : HasCleanDisk now → CanRemake old.now.schema → AllWithin (HasRowids old) l.tables 0 l.table-index;
    }
