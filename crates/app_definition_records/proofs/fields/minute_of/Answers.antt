use Rattle.std.proofs.lemmas.Bool.{false≢true}
use Rattle.app_definition_records.proofs.FieldLemmas.{IsUtf8-minute}
use Rattle.app_definition_records.proofs.fields.minute_of.Goals as goal

pub returns-in_err-text_of-clause-valid : goal.returns-in_err-text_of-clause-valid
returns-in_err-text_of-clause-valid c =
    rw c.from_residual.ensures (
      λ none. absurd (false≢true none),
      λ spelled. absurd (false≢true (c.in_err-text_of.ensures.text.1
          (IsUtf8-minute c.args.bytes.now spelled.0 spelled.1))),
    )
