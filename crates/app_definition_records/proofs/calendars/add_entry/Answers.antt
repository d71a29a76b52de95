use Rattle.std.proofs.Common.{◌∙◌, sym, refl, ap, true, false}
use Rattle.std.specs.Prelude.{is_some}
use Rattle.std.proofs.lemmas.Bool.{false≢true}
use Rattle.csv.specs.Records.{fields_of}
use Rattle.jiff_core.specs.Weekday.{monday_zero}
use Rattle.app_definition_records.specs.Fields.{field}
use Rattle.app_definition_records.specs.Calendars.{IsWeekdayText, IsStatusText, status_of}
use Rattle.work_calendars.specs.Spelling.{SpellsDay}
use Rattle.app_definition_records.proofs.CalendarLemmas.{date-more, date-taken, weekday-more, weekday-taken}
use Rattle.app_definition_records.proofs.calendars.add_entry.Goals as goal
use Rattle.app_definition_records.specs.declared.columns.TheConstants.{CALENDAR_ENTRY, CALENDAR_STATUS}

pub returns-in-Some-weekday_of : goal.returns-in-Some-weekday_of
returns-in-Some-weekday_of c = λ before of.
    let about : IsWeekdayText (field (fields_of c.args.row.now) CALENDAR_ENTRY)
    (monday_zero c.in-Some-weekday_of.weekday) =
    rw (← c.field_at-entry.ensures) c.in-Some-weekday_of.ensures.value in
    let status : IsStatusText (field (fields_of c.args.row.now) CALENDAR_STATUS) =
    rw (← c.field_at.ensures) (c.in-Some.ensures.valid.0 refl) in
    record {
      fits = weekday-taken c.args.calendar.now before (fields_of c.args.row.now)
          (monday_zero c.in-Some-weekday_of.weekday) true false about status of
          (sym c.if-is_some.false ∙ c.is_some.ensures ∙ ap is_some c.weekday_status.ensures) refl;
      made = λ yes. rw c.set_weekday.ensures (weekday-more c.args.calendar.now before (fields_of c.args.row.now)
          (monday_zero c.in-Some-weekday_of.weekday) c.in-Some.status about
          (c.in-Some.ensures.value ∙ ap status_of c.field_at.ensures) of);
    }

pub returns-then-is_some-2 : goal.returns-then-is_some-2
returns-then-is_some-2 c = λ before of.
    let about : SpellsDay (field (fields_of c.args.row.now) CALENDAR_ENTRY) c.in-Some-day_of.day =
    rw (← c.field_at-entry.ensures) c.in-Some-day_of.ensures.value in
    let status : IsStatusText (field (fields_of c.args.row.now) CALENDAR_STATUS) =
    rw (← c.field_at.ensures) (c.in-Some.ensures.valid.0 refl) in
    record {
      fits = date-taken c.args.calendar.now before (fields_of c.args.row.now) c.in-Some-day_of.day false true about
          status of (sym c.if-is_some-2.true ∙ c.is_some-2.ensures ∙ ap is_some c.date_status.ensures) refl;
      made = λ no. absurd (false≢true no);
    }

pub returns : goal.returns
returns c = λ before of.
    let about : SpellsDay (field (fields_of c.args.row.now) CALENDAR_ENTRY) c.in-Some-day_of.day =
    rw (← c.field_at-entry.ensures) c.in-Some-day_of.ensures.value in
    let status : IsStatusText (field (fields_of c.args.row.now) CALENDAR_STATUS) =
    rw (← c.field_at.ensures) (c.in-Some.ensures.valid.0 refl) in
    record {
      fits = date-taken c.args.calendar.now before (fields_of c.args.row.now) c.in-Some-day_of.day true false about
          status of (sym c.if-is_some-2.false ∙ c.is_some-2.ensures ∙ ap is_some c.date_status.ensures) refl;
      made = λ yes. rw c.in_ok-set_date.ensures.ok (date-more c.args.calendar.now before
          (fields_of c.args.row.now) c.in-Some-day_of.day c.in-Some.status about
          (c.in-Some.ensures.value ∙ ap status_of c.field_at.ensures) of);
    }
