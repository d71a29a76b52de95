use Rattle.std.proofs.Common.{◌≡◌, ◌∷◌, Ok, take}
use Rattle.plan_tables_queries.specs.Finding.{FindsFact}
use Rattle.plan_tables.specs.Gone.{of_arrivals}
use Rattle.plan_tables.proofs.gone.find_deletions.Given as goal

-- the deletions of the arrivals so far
abbrev pub invariant-loop-arrival : goal.invariant-loop-arrival
invariant-loop-arrival g l = FindsFact {T = Unit {0}} g.S.Store l.fn.conn l.conn (Ok tt)
    (λ c _. l.found.items ≡ of_arrivals c.sets.deletions (l.first ∷ take l.arrival-index l.rest))
