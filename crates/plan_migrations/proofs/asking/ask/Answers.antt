use Rattle.std.proofs.Common.{◌∙◌, ap, sym}
use Rattle.std.specs.Prelude.{not}
use Rattle.sqlite.specs.Held.{state}
use Rattle.sqlite.specs.State.{HasCleanDisk, IsUnchanged}
use Rattle.plan_tables_opening.proofs.QueryLemmas.{commits_none, failed_by_device, refused_same, shown_same}
use Rattle.plan_tables_opening.proofs.KeptLemmas.{kept_if_same}
use Rattle.plan_migrations.proofs.AskLemmas.{kept_by, third}
use Rattle.plan_migrations.proofs.asking.ask.Goals as goal

pub returns-in-Ok-clause-same : goal.returns-in-Ok-clause-same
returns-in-Ok-clause-same g c clean =
    shown_same c.args.text.now c.requires.reading (state g.S.Store c.args.conn.now) (state g.S.Store c.query_all.new.self)
    c.in-Ok.rows.items (c.in-Ok.ensures.ok clean)

pub returns-in-Ok-clause-kept : goal.returns-in-Ok-clause-kept
returns-in-Ok-clause-kept g c clean =
    let old = state g.S.Store c.args.conn.now in
    let new = state g.S.Store c.query_all.new.self in
    kept_if_same old new
    (shown_same c.args.text.now c.requires.reading old new c.in-Ok.rows.items (c.in-Ok.ensures.ok clean))

pub returns-in-Ok-clause-crash : goal.returns-in-Ok-clause-crash
returns-in-Ok-clause-crash g c =
    commits_none c.args.text.now c.requires.reading (state g.S.Store c.args.conn.now) (state g.S.Store
    c.query_all.new.self) c.query_all.ensures.survives

pub returns-in-Memory-clause-kept : goal.returns-in-Memory-clause-kept
returns-in-Memory-clause-kept g c clean =
    kept_by c.args.text.now c.requires.reading (state g.S.Store c.args.conn.now) (state g.S.Store c.query_all.new.self)
    c.in-Err.error (c.is_autocommit-settled.ensures.settled (c.is_autocommit-settled.ensures.value
    ∙ ap not c.requires.mode)) (c.in-Err.ensures.err clean)

pub returns-in-Memory-clause-crash : goal.returns-in-Memory-clause-crash
returns-in-Memory-clause-crash g c =
    commits_none c.args.text.now c.requires.reading (state g.S.Store c.args.conn.now) (state g.S.Store
    c.query_all.new.self) c.query_all.ensures.survives

pub returns-in-Device-clause-failed : goal.returns-in-Device-clause-failed
returns-in-Device-clause-failed g c clean =
    failed_by_device c.args.text.now c.requires.reading (state g.S.Store c.args.conn.now) (state g.S.Store
    c.query_all.new.self) c.in-Err.error (c.in-Err.ensures.err clean) (sym c.fault_for.ensures.value ∙ c.in-Device.is)

pub returns-in-Device-clause-kept : goal.returns-in-Device-clause-kept
returns-in-Device-clause-kept g c clean =
    kept_by c.args.text.now c.requires.reading (state g.S.Store c.args.conn.now) (state g.S.Store c.query_all.new.self)
    c.in-Err.error (c.is_autocommit-settled.ensures.settled (c.is_autocommit-settled.ensures.value
    ∙ ap not c.requires.mode)) (c.in-Err.ensures.err clean)

pub returns-in-Device-clause-crash : goal.returns-in-Device-clause-crash
returns-in-Device-clause-crash g c =
    commits_none c.args.text.now c.requires.reading (state g.S.Store c.args.conn.now) (state g.S.Store
    c.query_all.new.self) c.query_all.ensures.survives

pub returns-in_default : goal.returns-in_default
returns-in_default g c =
    let old = state g.S.Store c.args.conn.now in
    let new = state g.S.Store c.query_all.new.self in
    let other = sym c.fault_for.ensures.value
    ∙ third c.fault_for.result c.fault_for.ensures.cases c.in_default.not-Memory c.in_default.not-Device in
    let same : HasCleanDisk new → IsUnchanged old new = λ clean. refused_same c.args.text.now c.requires.reading old new
    c.in-Err.error (c.in-Err.ensures.err clean) other in
    record {
      shown = λ clean. tt;
      refused = λ clean _. (c.in-Err.error, c.in-Err.ensures.err clean, other);
      failed = λ clean. tt;
      same = same;
      kept = λ clean. kept_if_same old new (same clean);
      mode = c.in-Err.ensures.mode c.requires.mode;
      crash = commits_none c.args.text.now c.requires.reading old new c.query_all.ensures.survives;
    }
