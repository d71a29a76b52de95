use Rattle.std.proofs.Common.{ap, sym, ◌∙◌}
use Rattle.std.specs.Prelude.{is_some}
use Rattle.std.proofs.lemmas.Bool.{false≢true}
use Rattle.app_definitions.proofs.OptionLemmas.{IsName-default}
use Rattle.app_definitions.proofs.options.Options.new.Goals as goal

pub unreachable-requires : goal.unreachable-requires
unreachable-requires c = false≢true (sym (ap is_some c.in-None.is) ∙ c.from_text.ensures.valid.1 IsName-default)
