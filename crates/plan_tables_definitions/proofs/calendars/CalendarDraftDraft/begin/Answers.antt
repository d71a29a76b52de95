use Rattle.std.proofs.Common.{subst}
use Rattle.plan_tables_content.specs.Facts.{IsCalendarRow}
use Rattle.plan_tables_definitions.proofs.DraftLemmas.{no_entry}
use Rattle.plan_tables_definitions.proofs.calendars.CalendarDraftDraft.begin.Goals as goal

pub returns : goal.returns
returns c name v is = no_entry name v (subst (λ l. IsCalendarRow name l v) c.new.ensures is)
