use Rattle.std.proofs.Common.{◌∙◌, refl, sym}
use Rattle.plan_tables.proofs.LookLemmas.{read_lent}
use Rattle.plan_tables.proofs.table_store.TableStorePlanStore.job.Goals as goal

pub returns-in-Some : goal.returns-in-Some
returns-in-Some g c =
    ((refl, λ _. tt, read_lent _ _ _ _ _ _ (λ right. sym c.in-Some.is ∙ right) c.in_ok-look_up.ensures), tt)
