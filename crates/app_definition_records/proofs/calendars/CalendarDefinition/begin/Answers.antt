use Rattle.std.proofs.Common.{◌∙◌, sym, refl, []}
use Rattle.std.proofs.lemmas.Bool.{false≢true}
use Rattle.app_definition_records.specs.Calendars.{IsCalendarOf}
use Rattle.app_definition_records.proofs.CalendarLemmas.{IsCalendarOf-none}
use Rattle.app_definition_records.proofs.calendars.CalendarDefinition.begin.Goals as goal

pub returns-then-branch : goal.returns-then-branch
returns-then-branch c =
    let start : IsCalendarOf c.new-calendar.result [] = rw c.new-calendar.ensures IsCalendarOf-none in
    let joined = c.in_ok-add_entry.ensures [] start in
    record {
      fits = (λ some. joined.fits.0 c.if-branch.true, λ fits. refl);
      made = joined.made c.if-branch.true;
    }

pub returns-else-branch : goal.returns-else-branch
returns-else-branch c =
    let start : IsCalendarOf c.new-calendar.result [] = rw c.new-calendar.ensures IsCalendarOf-none in
    let joined = c.in_ok-add_entry.ensures [] start in
    record {
      fits = (λ none. absurd (false≢true none), λ fits. sym c.if-branch.false ∙ joined.fits.1 fits);
      made = tt;
    }
