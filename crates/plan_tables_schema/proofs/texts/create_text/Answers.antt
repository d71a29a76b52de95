use Rattle.std.proofs.Common.{refl}
use Rattle.plan_tables_schema.proofs.texts.create_text.Goals as goal

pub returns-in-Meta : goal.returns-in-Meta
returns-in-Meta c = rw c.in-Meta.is refl
