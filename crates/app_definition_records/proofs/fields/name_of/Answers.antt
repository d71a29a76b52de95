use Rattle.std.proofs.lemmas.Bool.{false≢true}
use Rattle.work_calendars.proofs.NameFacts.{IsUtf8-name}
use Rattle.app_definition_records.proofs.fields.name_of.Goals as goal

pub returns-in_err-text_of-clause-valid : goal.returns-in_err-text_of-clause-valid
returns-in_err-text_of-clause-valid c =
    rw c.from_residual.ensures (
      λ none. absurd (false≢true none),
      λ named. absurd (false≢true (c.in_err-text_of.ensures.text.1 (IsUtf8-name 16 c.args.bytes.now named))),
    )
