use Rattle.std.proofs.Common.{◌≡◌, drop, IsTrue}
use Rattle.sqlite.specs.State.{HasCleanDisk, KeepsCommit, Survives}
use Rattle.sqlite.specs.Held.{state}
use Rattle.plan_tables_schema.specs.Rows.{IsPlan, tables_of}
use Rattle.plan_tables_schema.specs.Accepted.{IsSoundPlan}
use Rattle.plan_tables_schema.proofs.InTurn.{IsOnWay}
use Rattle.plan_tables_writing.specs.InTurn.{HoldsInTurn, made_in_turn}
use Rattle.plan_tables_writing.proofs.loops.write_each.Given as goal

abbrev pub invariant-loop-item : goal.invariant-loop-item
invariant-loop-item g l =
    let old = state g.S.Store l.fn.tx.conn.now in
    let now = state g.S.Store l.tx.conn.now in
    let fits = g.W.ForEach.fits l.what in
    let accepts = g.W.ForEach.accepts l.what in
    let makes = g.W.ForEach.makes l.what in
    record {
      same : l.tx.conn.ghost_name ≡ l.fn.tx.conn.ghost_name;
      kept : HasCleanDisk now → KeepsCommit old now;
      survives : Survives old now (λ _. ⊥);
      leaves : HasCleanDisk now → IsPlan old → IsTrue old.in_transaction
          → HoldsInTurn fits makes l.items (tables_of old.now.trees)
          → HoldsInTurn fits makes (drop l.item-index l.items) (tables_of now.now.trees)
          × IsOnWay old now (made_in_turn makes (drop l.item-index l.items))
          (made_in_turn makes l.items (tables_of old.now.trees));
      accepts : HasCleanDisk now → IsSoundPlan old → HoldsInTurn accepts makes l.items (tables_of old.now.trees)
          → IsSoundPlan now × (IsTrue old.is_open → IsTrue now.is_open)
          × HoldsInTurn accepts makes (drop l.item-index l.items) (tables_of now.now.trees)
          × (made_in_turn makes (drop l.item-index l.items) (tables_of now.now.trees)
          ≡ made_in_turn makes l.items (tables_of old.now.trees));
    }
