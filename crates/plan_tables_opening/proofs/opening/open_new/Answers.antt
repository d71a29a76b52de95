use Rattle.std.proofs.Common.{subst, sym}
use Rattle.sqlite.specs.Held.{state}
use Rattle.plan_tables_schema.specs.Rows.{tables_of}
use Rattle.plan_store.specs.Contents.{content_of}
use Rattle.plan_tables_opening.specs.Opened.{IsUnmade}
use Rattle.plan_tables_opening.proofs.OpenedLemmas.{first_told, makes_first, unmade_by}
use Rattle.plan_tables_opening.proofs.opening.open_new.Goals as goal

pub returns-in-Ok-clause-opened : goal.returns-in-Ok-clause-opened
returns-in-Ok-clause-opened g c clean =
    let made = c.in-Ok.ensures.done clean c.requires.room in
    record {
      is_open = c.in-Ok.ensures.stays_open clean;
      plan = made.plan;
      settled = sym (c.in-Ok.ensures.committed clean);
      content = first_told (tables_of (state g.S.Store c.make_first.new.conn).now.trees) (content_of c.new.result)
          made.rows_are c.new.ensures;
    }

pub returns-in-Ok-clause-beside : goal.returns-in-Ok-clause-beside
returns-in-Ok-clause-beside g c clean = (c.in-Ok.ensures.done clean c.requires.room).beside

pub returns-in-Ok-clause-survives : goal.returns-in-Ok-clause-survives
returns-in-Ok-clause-survives g c =
    makes_first (state g.S.Store c.args.conn.now) (state g.S.Store c.make_first.new.conn) c.requires.room
    c.make_first.ensures.crash

pub returns-in-Err-clause-survives : goal.returns-in-Err-clause-survives
returns-in-Err-clause-survives g c =
    makes_first (state g.S.Store c.args.conn.now) (state g.S.Store c.make_first.new.conn) c.requires.room
    c.make_first.ensures.crash

pub returns-in-Err-clause-unmade : goal.returns-in-Err-clause-unmade
returns-in-Err-clause-unmade g c clean =
    let old = state g.S.Store c.args.conn.now in
    let new = state g.S.Store c.make_first.new.conn in
    let kept = c.in-Err.ensures.kept clean c.requires.room in
    subst (IsUnmade old new) (sym c.fault_for.ensures.value) (unmade_by old new c.in-Err.error
    (record { now = λ up. (kept up).0; committed = λ up. (kept up).1 }) (c.in-Err.ensures.fails clean c.requires.room))
