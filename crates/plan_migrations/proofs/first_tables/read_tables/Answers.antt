use Rattle.std.proofs.Common.{arith, inl, subst, sym}
use Rattle.std.specs.List.{All}
use Rattle.std.proofs.lemmas.List.Elements.{All-push}
use Rattle.std.proofs.lemmas.Result.{err_from_is_err_and}
use Rattle.sqlite.specs.Held.{state}
use Rattle.sqlite.proofs.Callers.{unchanged_then}
use Rattle.sqlite.proofs.StateLemmas.{survives_then}
use Rattle.plan_tables_schema.specs.declared.tables.Table.TheVariants.{Meta}
use Rattle.plan_migrations_remaking.specs.Remaking.{AreAllFirst, tables_in}
use Rattle.plan_migrations_remaking.specs.Types.{AreFirst}
use Rattle.plan_migrations_remaking.specs.declared.rows.FirstRows.{FirstRows}
use Rattle.std.specs.Prelude.{◌≡◌, ◌+◌, List, take}
use Rattle.sqlite.specs.State.{IsUnchanged}
use Rattle.plan_migrations.specs.Migrating.{AreShown}
use Rattle.plan_migrations.proofs.ReadLemmas.{read_on, read_stops, tables_more}
use Rattle.plan_migrations.proofs.first_tables.read_tables.Goals as goal

pub returns-in_err-read-clause-unread : goal.returns-in_err-read-clause-unread
returns-in_err-read-clause-unread g c clean =
    let old = state g.S.Store c.args.conn.now in
    let mid = state g.S.Store c.loop-table.conn in
    let new = state g.S.Store c.read_table.new.conn in
    let had = c.loop-table.invariant.told (omega (arith, c.read_table.ensures.crash.clean, clean)) in
    let p = err_from_is_err_and c.from_residual.result c.from_residual.ensures.1 in
    rw (p.1, p.2) (read_stops old mid new had.0 c.loop-table.invariant.survives.counts
    c.loop-table.invariant.survives.limit _ c.in_err-read.field-0.0 (c.in_err-read.ensures.unread clean))

pub loop-table-preserved : goal.loop-table-preserved
loop-table-preserved g c =
    let old = state g.S.Store c.args.conn.now in
    let mid = state g.S.Store c.loop-table.conn in
    let new = state g.S.Store c.read_table.new.conn in
    let read = c.in_ok-read.read in
    record {
      mode = c.read_table.ensures.mode;
      survives = survives_then old mid new _ _ (λ _. ⊥) (λ _ _ none. none) (λ _ _ none. none)
          c.loop-table.invariant.survives c.read_table.ensures.crash;
      whole = subst (λ l. tables_in l ≡ take (c.loop-table.table-index + 1) c.args.tables.now)
          (sym c.in-Ok.ensures.items)
          (tables_more c.loop-table.reads.items read c.args.tables.now c.loop-table.table-index Meta c.loop-table-test.true
          c.loop-table.invariant.whole c.in_ok-read.ensures.named);
      typed = subst AreAllFirst (sym c.in-Ok.ensures.items)
          (All-push (λ (it : FirstRows). AreFirst it.table it.rows.items) c.loop-table.reads.items read
          c.loop-table.invariant.typed c.in_ok-read.ensures.typed);
      told = λ clean.
          let had = c.loop-table.invariant.told (omega (arith, c.read_table.ensures.crash.clean, clean)) in
          subst (λ (l : List FirstRows). IsUnchanged old new × All (AreShown old new) l) (sym c.in-Ok.ensures.items)
          (read_on old mid new c.loop-table.reads.items read had.0 (c.in_ok-read.ensures.same clean) had.1
          (c.in_ok-read.ensures.shown clean));
    }

pub returns-in-Err-clause-unread : goal.returns-in-Err-clause-unread
returns-in-Err-clause-unread g c clean =
    let old = state g.S.Store c.args.conn.now in
    let mid = state g.S.Store c.loop-table.conn in
    let new = state g.S.Store c.read_table.new.conn in
    let had = c.loop-table.invariant.told (omega (arith, c.read_table.ensures.crash.clean, clean)) in
    inl (unchanged_then old mid new had.0 (c.in_ok-read.ensures.same clean))
