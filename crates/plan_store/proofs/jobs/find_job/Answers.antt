use Rattle.std.proofs.Common.{rules}
use Rattle.std.specs.FinMap.{nat_cmp-IsAntisymmetric}
use Rattle.std.proofs.lemmas.Cmp.{nat_cmp_total}
use Rattle.std.proofs.lemmas.List.Sorted.{answers_always}
use Rattle.plan_store_lists.proofs.KeyLemmas.{found, missed}
use Rattle.plan_store.proofs.JobLemmas.{number_of}
use Rattle.plan_store.proofs.jobs.find_job.Goals as goal

pub returns-clause-taken : goal.returns-clause-taken
returns-clause-taken c =
    let is = c.binary_search_by_key.ensures in
    found nat_cmp_total nat_cmp-IsAntisymmetric number_of c.args.jobs.now c.args.number c.binary_search_by_key.result
    is.bound (is.position number_of (answers_always _ _ _ (λ f a r q called. search rules)))

pub returns-clause-free : goal.returns-clause-free
returns-clause-free c numbered =
    let is = c.binary_search_by_key.ensures in
    missed nat_cmp_total nat_cmp-IsAntisymmetric number_of c.args.jobs.now c.args.number c.binary_search_by_key.result
    is.bound (is.position number_of (answers_always _ _ _ (λ f a r q called. search rules))) numbered
