use Rattle.std.proofs.Common.{◌≡◌, ◌++◌, List, Ok, length}
use Rattle.plan_tables_writing.proofs.ManyLemmas.{PutsEach}
use Rattle.plan_tables_writing.proofs.many.put_many.Given as goal

-- a row for each of some was inserted, and the others are left
abbrev pub invariant-loop-rest : goal.invariant-loop-rest
invariant-loop-rest g l = (done : List g.row.R.Denot) × (l.facts ≡ done ++ l.rest)
    × PutsEach g.S.Store l.table g.R.Fact.values {T = Unit {0}} done l.fn.tx l.tx (Ok tt)

abbrev pub decreases-loop-rest : goal.decreases-loop-rest
decreases-loop-rest g l = length l.rest
