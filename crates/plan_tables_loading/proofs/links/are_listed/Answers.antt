use Rattle.std.proofs.Common.{rules}
use Rattle.std.specs.List.{Contains}
use Rattle.std.proofs.lemmas.Iterator.{YieldsList-from_slice, cases_from_all}
use Rattle.plan_tables_loading.proofs.LinkLemmas.{all_listed}
use Rattle.plan_tables_loading.proofs.links.are_listed.Goals as goal

pub returns : goal.returns
returns c = all_listed c.args.lists.now c.args.links.now c.all.result (cases_from_all _ _ _ (Contains c.args.lists.now)
    (λ x. Contains c.args.lists.now x → ⊥) c.all.ensures.ran (YieldsList-from_slice c.args.links.now cc)
    (λ x q k. search rules) (λ x q k. search rules))
