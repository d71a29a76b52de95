use Rattle.plan_tables_definitions.proofs.DraftLemmas.{application_read}
use Rattle.plan_tables_definitions.proofs.applications.ApplicationDraftDraft.finish.Goals as goal

pub returns-clause-found : goal.returns-clause-found
returns-clause-found c d such alike = application_read c.args._name.now d c.args.self.now.application alike
