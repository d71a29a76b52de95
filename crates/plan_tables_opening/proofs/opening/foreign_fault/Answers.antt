use Rattle.std.proofs.Common.{◌≡◌, ◌⊎◌, sym, subst}
use Rattle.sqlite.specs.Held.{state}
use Rattle.plan_tables_opening.specs.Foreign.{IsForeign}
use Rattle.plan_tables_opening.specs.declared.faults.OpenFault.{OpenFault}
use Rattle.plan_tables_opening.specs.declared.faults.OpenFault.TheVariants.{Device, Memory, Unopened}
use Rattle.plan_tables_opening.proofs.ForeignLemmas.{commits_none, foreign_by}
use Rattle.plan_tables_opening.proofs.opening.foreign_fault.Goals as goal

pub returns-clause-told : goal.returns-clause-told
returns-clause-told g c clean =
    let old = state g.S.Store c.args.conn.now in
    let new = state g.S.Store c.query_all.new.self in
    let is = c.fault_for.ensures.value in
    subst (IsForeign old new) (sym is) (foreign_by old new c.in-Err.error (rw c.version_text.ensures at (c.in-Err.ensures.err clean))
    (subst (λ (f : OpenFault). (f ≡ Memory) ⊎ ((f ≡ Device) ⊎ (f ≡ Unopened))) is c.fault_for.ensures.cases))

pub returns-then-is_known-clause-survives : goal.returns-then-is_known-clause-survives
returns-then-is_known-clause-survives g c =
    commits_none (state g.S.Store c.args.conn.now) (state g.S.Store c.query_all.new.self)
    (rw c.version_text.ensures at c.query_all.ensures.survives)

pub returns-in-Ok-clause-survives : goal.returns-in-Ok-clause-survives
returns-in-Ok-clause-survives g c =
    commits_none (state g.S.Store c.args.conn.now) (state g.S.Store c.query_all.new.self)
    (rw c.version_text.ensures at c.query_all.ensures.survives)

pub returns-clause-survives : goal.returns-clause-survives
returns-clause-survives g c =
    commits_none (state g.S.Store c.args.conn.now) (state g.S.Store c.query_all.new.self)
    (rw c.version_text.ensures at c.query_all.ensures.survives)
