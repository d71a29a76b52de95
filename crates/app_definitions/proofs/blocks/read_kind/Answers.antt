use Rattle.app_definition_records.proofs.ByNameLemmas.{AreGivenBy-none}
use Rattle.app_definitions.proofs.blocks.read_kind.Goals as goal

pub collect_records-requires-clause-starts : goal.collect_records-requires-clause-starts
collect_records-requires-clause-starts g c =
    AreGivenBy-none g.D.Definition.IsMadeOf c.new-definitions.result c.new-definitions.ensures
