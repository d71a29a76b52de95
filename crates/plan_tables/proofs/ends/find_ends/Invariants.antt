use Rattle.std.proofs.Common.{Ok, take}
use Rattle.plan_tables_queries.specs.Finding.{FindsFact}
use Rattle.plan_tables.proofs.EndLemmas.{Found}
use Rattle.plan_tables.proofs.ends.find_ends.Given as goal

-- the application's rows, and those under the serials so far
abbrev pub invariant-loop-serial : goal.invariant-loop-serial
invariant-loop-serial g l = FindsFact {T = Unit {0}} g.S.Store l.fn.conn l.conn (Ok tt)
    (λ c _. Found l.app l.initial.found.items (take l.serial-index l.serial-items) l.found.items c)
