use Rattle.plan_tables_definitions.proofs.calendars.list_week_entry.Goals as goal

pub returns-then-place-lt7-clause-refused : goal.returns-then-place-lt7-clause-refused
returns-then-place-lt7-clause-refused c d name sound told within = c.list_weekday.ensures.refused d name told within
