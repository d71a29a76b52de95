use Rattle.std.proofs.Common.{◌+◌, arith, drop, rules, subst, sym}
use Rattle.sqlite.specs.Held.{state}
use Rattle.sqlite.proofs.InsideLemmas.{keeps_then}
use Rattle.plan_tables_schema.specs.Rows.{Tables, tables_of}
use Rattle.plan_tables_schema.proofs.StopLemmas.{vain_since}
use Rattle.plan_tables_schema.proofs.StatementLemmas.{stands_done}
use Rattle.plan_tables_schema.proofs.InTurn.{fold_done, fold_on, stands_on, survives_both}
use Rattle.plan_tables_writing.specs.InTurn.{HoldsInTurn}
use Rattle.plan_tables_writing.proofs.TakingLemmas.{if_told}
use Rattle.plan_tables_writing.proofs.TurnLemmas.{next_holds}
use Rattle.plan_tables_writing.proofs.loops.write_each.Goals as goal

pub loop-item-preserved : goal.loop-item-preserved
loop-item-preserved g c =
    let old = state g.S.Store c.args.tx.now.conn.now in
    let mid = state g.S.Store c.loop-item.tx.conn.now in
    let new = state g.S.Store c.write.new.tx.conn.now in
    let items = c.args.items.now in
    let i = c.loop-item.item-index in
    let item = c.item-item.result in
    let fits = g.W.ForEach.fits c.args.what.now in
    let accepts = g.W.ForEach.accepts c.args.what.now in
    let makes = g.W.ForEach.makes c.args.what.now in
    record {
      same = search rules;
      kept = λ clean. keeps_then old mid new (c.loop-item.invariant.kept (omega
          (arith, c.write.ensures.survives.clean))) (c.write.ensures.kept clean);
      survives = survives_both old mid new c.loop-item.invariant.survives c.write.ensures.survives;
      leaves = λ clean plan mode fit.
          let before = c.loop-item.invariant.leaves (omega (arith, c.write.ensures.survives.clean)) plan mode fit in
          let next = next_holds fits makes items i item (tables_of mid.now.trees) (omega arith) c.item-item.is before.0 in
          let step = c.in_ok-write.ensures.ok clean before.1.0.plan before.1.0.mode next.0 in (
            subst (HoldsInTurn fits makes (drop (i + 1) items)) (sym step.rows_are) next.1,
            (
              stands_on old mid new _ before.1.0 step,
              fold_on (λ (now : Tables) x. makes x now) items i item (tables_of mid.now.trees)
                  (tables_of new.now.trees) _ (omega arith) c.item-item.is step.rows_are before.1.1,
            ),
          );
      accepts = λ clean sound take.
          let was = c.loop-item.invariant.accepts (omega (arith, c.write.ensures.survives.clean)) sound take in
          let next = next_holds accepts makes items i item (tables_of mid.now.trees) (omega arith) c.item-item.is was.2 in
          let step = c.in_ok-write.ensures.accepts.sound clean was.0 next.0 in (
            step.0,
            (λ o. step.1 (was.1 o)),
            subst (HoldsInTurn accepts makes (drop (i + 1) items)) (sym step.2) next.1,
            fold_on (λ (now : Tables) x. makes x now) items i item (tables_of mid.now.trees) (tables_of new.now.trees) _
                (omega arith) c.item-item.is step.2 was.3,
          );
    }

pub returns-in_err-write : goal.returns-in_err-write
returns-in_err-write g c =
    let old = state g.S.Store c.args.tx.now.conn.now in
    let mid = state g.S.Store c.loop-item.tx.conn.now in
    let new = state g.S.Store c.write.new.tx.conn.now in
    record {
      same_reference = search rules;
      ok = search rules;
      kept = search rules;
      survives = search rules;
      accepts = record {
        fails = λ clean sound take.
            let way = c.loop-item.invariant.survives in
            let was = c.loop-item.invariant.accepts (omega (arith, c.write.ensures.survives.clean)) sound take in
            let next = next_holds (g.W.ForEach.accepts c.args.what.now) (g.W.ForEach.makes c.args.what.now)
            c.args.items.now c.loop-item.item-index c.item-item.result (tables_of mid.now.trees) (omega arith)
            c.item-item.is was.2 in
            if_told c.from_residual.result old new _ c.from_residual.ensures.1 (vain_since old mid new _ way.counts was.1
            way.limit (c.in_err-write.ensures.accepts.fails clean was.0 next.0));
        sound = search rules;
      };
    }

pub returns : goal.returns
returns g c =
    let makes = g.W.ForEach.makes c.args.what.now in
    record {
      same_reference = c.loop-item.invariant.same;
      ok = λ clean plan mode fit.
          let way = (c.loop-item.invariant.leaves clean plan mode fit).1 in
          stands_done _ _ _ way.0 (fold_done (λ (now : Tables) x. makes x now) c.args.items.now c.loop-item.item-index _ _
          (omega arith) way.1);
      kept = c.loop-item.invariant.kept;
      survives = c.loop-item.invariant.survives;
      accepts = record {
        fails = λ clean sound take. tt;
        sound = λ clean sound take.
            let was = c.loop-item.invariant.accepts clean sound take in (
              was.0,
              was.1,
              fold_done (λ (now : Tables) x. makes x now) c.args.items.now c.loop-item.item-index _ _ (omega arith) was.3,
            );
      };
    }
