use Rattle.daily_planning.proofs.new_ends.new_day.Goals as goal

pub returns-in-WorkDays-clause-none : goal.returns-in-WorkDays-clause-none
returns-in-WorkDays-clause-none c = rw c.in-WorkDays.is c.day_after_work.ensures.none
