use Rattle.std.proofs.Common.{subst, sym}
use Rattle.plan_tables_content.specs.Content.{IsTold}
use Rattle.plan_tables_content.specs.Facts.{IsCalendarRow}
use Rattle.plan_tables_definitions.specs.Gathering.{Alike}
use Rattle.plan_tables_definitions.proofs.TellLemmas.{calendar_told}
use Rattle.plan_tables_definitions.proofs.calendars.CalendarDraftDraft.finish.Goals as goal

pub returns-clause-made : goal.returns-clause-made
returns-clause-made c = subst
    (λ l. Alike (IsCalendarRow c.args._name.now l) (IsCalendarRow c.args._name.now c.args.self.now.calendar))
    (sym c.in_ok-copied.ensures) (λ v. (λ is. is, λ is. is))

pub returns-clause-told : goal.returns-clause-told
returns-clause-told c v is = subst IsTold (sym c.in_ok-copied.ensures)
    (calendar_told c.args._name.now c.args.self.now.calendar v c.args.self.now.week is)
