use Rattle.daily_planning.proofs.NewEndLemmas.{no_day_after, none_of}
use Rattle.daily_planning.proofs.new_ends.day_after_work.Goals as goal

pub returns-in-Some-clause-none : goal.returns-in-Some-clause-none
returns-in-Some-clause-none c =
    none_of c.next.result c.next.ensures.valid (λ past.
    no_day_after c.args.all.now c.args.from c.args.n c.in-Some.day c.in_ok-index.index
    c.in_ok-index.ensures c.in-Some.ensures.some past)
