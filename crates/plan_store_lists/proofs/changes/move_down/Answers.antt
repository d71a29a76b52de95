use Rattle.std.proofs.Common.{rules}
use Rattle.plan_store_lists.proofs.MoveLemmas.{rest_down, stays_down}
use Rattle.plan_store_lists.proofs.changes.move_down.Goals as goal

pub returns-then-to-from-clause-rest : goal.returns-then-to-from-clause-rest
returns-then-to-from-clause-rest g c = rest_down c.args.list.now.items c.copy_within.new.self.items c.args.from
    c.args.count c.args.to (search rules) (search rules) c.copy_within.ensures.items

pub returns-else-to-from-clause-moved : goal.returns-else-to-from-clause-moved
returns-else-to-from-clause-moved g c = stays_down c.args.list.now.items c.args.list.now.items c.args.from c.args.count
    c.args.to (search rules) (search rules)
