use Rattle.std.proofs.Common.{◌∙◌, sym, refl}
use Rattle.std.proofs.lemmas.Bool.{false≢true}
use Rattle.csv.specs.Records.{fields_of}
use Rattle.work_calendars.specs.Spelling.{SpellsDay}
use Rattle.app_definition_records.specs.Fields.{field, SpellsOptionalDay}
use Rattle.app_definition_records.proofs.PeriodLemmas.{entry-ends}
use Rattle.app_definition_records.proofs.periods.entry_of.Goals as goal
use Rattle.app_definition_records.specs.declared.columns.TheConstants.{PERIOD_ORIGIN, PERIOD_LENGTH}

pub returns-then-ends_from-clause-valid : goal.returns-then-ends_from-clause-valid
returns-then-ends_from-clause-valid c =
    let origin : SpellsDay (field (fields_of c.args.row.now) PERIOD_ORIGIN) c.in_ok-origin.origin =
    rw (← c.field_at.ensures) c.in_ok-origin.ensures.value in
    let end : SpellsOptionalDay (field (fields_of c.args.row.now) PERIOD_LENGTH) c.in_ok-end.end =
    rw (← c.field_at-2.ensures) c.in_ok-end.ensures.value in (
      λ some. ((c.in_ok-origin.origin, c.in_ok-end.end), (origin, end, c.ends_from.ensures.0 c.if-ends_from.true)),
      λ has. refl,
    )

pub returns-else-ends_from-clause-valid : goal.returns-else-ends_from-clause-valid
returns-else-ends_from-clause-valid c =
    let origin : SpellsDay (field (fields_of c.args.row.now) PERIOD_ORIGIN) c.in_ok-origin.origin =
    rw (← c.field_at.ensures) c.in_ok-origin.ensures.value in
    let end : SpellsOptionalDay (field (fields_of c.args.row.now) PERIOD_LENGTH) c.in_ok-end.end =
    rw (← c.field_at-2.ensures) c.in_ok-end.ensures.value in (
      λ none. absurd (false≢true none),
      λ has. sym c.if-ends_from.false
          ∙ c.ends_from.ensures.1
          (entry-ends (fields_of c.args.row.now) c.in_ok-origin.origin c.in_ok-end.end origin end has.0 has.1),
    )
