use Rattle.plan_tables.proofs.answers.lists_rise.Goals as goal

pub returns-in-All : goal.returns-in-All
returns-in-All c old rising = rw c.in-All.is c.rise.ensures

pub returns-in-One : goal.returns-in-One
returns-in-One c old rising = rw c.in-One.is (c.list_rises.ensures old rising)
