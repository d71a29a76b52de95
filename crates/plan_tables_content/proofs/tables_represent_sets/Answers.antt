use Rattle.plan_tables_content.proofs.SetLemmas.{all_tell_sets}
use Rattle.plan_tables_content.proofs.tables_represent_sets.Goals as goal

pub returns : goal.returns
returns c = all_tell_sets
