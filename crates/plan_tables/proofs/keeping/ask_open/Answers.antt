use Rattle.std.proofs.Common.{◌∙◌, [], Some, ap, sym}
use Rattle.sqlite.specs.Held.{state}
use Rattle.plan_tables.proofs.CauseLemmas.{asked_memory, asked_open, asked_puts, asked_shut}
use Rattle.plan_tables.proofs.keeping.ask_open.Goals as goal

pub returns-in-Some-clause-unknown : goal.returns-in-Some-clause-unknown
returns-in-Some-clause-unknown g c clean is =
    asked_memory (state g.S.Store c.args.conn.now) (state g.S.Store c.prepare.new.self) _ c.in-Err.error
    (c.in-Err.ensures.err clean []) (sym c.fault_in.ensures ∙ c.in-Some.is ∙ ap Some is)

pub returns-in-Some-clause-shut : goal.returns-in-Some-clause-shut
returns-in-Some-clause-shut g c clean is =
    asked_shut (state g.S.Store c.args.conn.now) (state g.S.Store c.prepare.new.self) _ c.in-Err.error
    (c.in-Err.ensures.err clean []) (sym c.fault_in.ensures ∙ c.in-Some.is ∙ ap Some is)

pub returns-in-None-clause-open : goal.returns-in-None-clause-open
returns-in-None-clause-open g c clean =
    asked_open (state g.S.Store c.args.conn.now) (state g.S.Store c.prepare.new.self) _ c.in-Err.error
    (c.in-Err.ensures.err clean []) (sym c.fault_in.ensures ∙ c.in-None.is)

pub returns-in-Some-clause-stays : goal.returns-in-Some-clause-stays
returns-in-Some-clause-stays g c clean =
    asked_puts (state g.S.Store c.args.conn.now) (state g.S.Store c.prepare.new.self) _ c.in-Err.error
    (c.in-Err.ensures.err clean [])

pub returns-in-None-clause-stays : goal.returns-in-None-clause-stays
returns-in-None-clause-stays g c clean =
    asked_puts (state g.S.Store c.args.conn.now) (state g.S.Store c.prepare.new.self) _ c.in-Err.error
    (c.in-Err.ensures.err clean [])
