use Rattle.std.proofs.Common.{◌∙◌, inl, inr, sym}
use Rattle.app_definition_soundness.proofs.CalendarRecords.{calendar_given, calendar_value}
use Rattle.app_definition_soundness.proofs.DateLemmas.{date_listed, listed_date, listed_days}
use Rattle.app_definition_soundness.proofs.calendars.CalendarGiven.is_given.Goals as goal

pub returns : goal.returns
returns c =
    let name = c.args.name.now in
    let calendar = c.args.self.now in
    let dates = c.in_ok-dates.dates.items in
    let lent = c.deref.ensures.value in
    let are = c.in_ok-dates.ensures.all in (
      (λ yes.
          let is = c.is_calendar.ensures.0 yes in
          calendar_given calendar name c.dates.ensures.week
          (listed_days calendar dates are c.in_ok-dates.ensures.in_range)
          (record {
            named = is.0;
            some = elim is.1 [
              | inl weekday ↦ inl weekday
              | inr some ↦ inr (date_listed calendar dates are (λ none. some (lent ∙ none)))
            ];
          })),
      λ given.
          let value = calendar_value calendar name given in
          c.is_calendar.ensures.1 (
            value.named,
            elim value.some [
              | inl weekday ↦ inl weekday
              | inr date ↦ inr (λ none. listed_date calendar dates are date (sym lent ∙ none))
            ],
          ),
    )
