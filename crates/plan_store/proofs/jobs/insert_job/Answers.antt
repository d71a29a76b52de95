use Rattle.std.proofs.Common.{◌≡◌, ◌∙◌, rules, true}
use Rattle.std.specs.List.{insert}
use Rattle.std.specs.Result.{is_ok}
use Rattle.std.specs.FinMap.{nat_cmp-IsAntisymmetric}
use Rattle.std.proofs.lemmas.Bool.{cond-true}
use Rattle.std.proofs.lemmas.Cmp.{nat_cmp_total}
use Rattle.plan_store_lists.proofs.KeyLemmas.{has_at}
use Rattle.plan_store_lists.proofs.EditLemmas.{insert_contains, insert_keyed}
use Rattle.plan_store.proofs.JobLemmas.{look_kept, number_of, one_jobs}
use Rattle.plan_store_lists.proofs.LookLemmas.{look_none}
use Rattle.plan_store.proofs.jobs.insert_job.Goals as goal

pub returns-in-Ok-clause-kept : goal.returns-in-Ok-clause-kept
returns-in-Ok-clause-kept c =
    let jobs = c.args.jobs.now.items in
    let taken = rw c.deref.ensures.value at c.in-Ok.ensures.taken in
    let has = has_at nat_cmp_total nat_cmp-IsAntisymmetric number_of jobs c.args.job.number c.in-Ok._at taken.0
    taken.1 in
    absurd (look_none number_of jobs c.args.job.number c.requires.new has.0 has.1 has.2)

pub returns-in-Err-clause-numbered : goal.returns-in-Err-clause-numbered
returns-in-Err-clause-numbered c =
    let jobs = c.args.jobs.now.items in
    let free = (rw c.deref.ensures.value at c.in-Err.ensures.free) c.requires.numbered in
    let done : is_ok c.insert.result ≡ true = search rules in
    let inserted : c.insert.new.self.items ≡ insert jobs c.in-Err.at c.args.job = c.insert.ensures.items
    ∙ cond-true _ _ _ done in
    rw inserted (insert_keyed nat_cmp_total nat_cmp-IsAntisymmetric number_of jobs c.requires.numbered c.args.job
    c.in-Err.at free.0 free.1)

pub returns-in-Err-clause-kept : goal.returns-in-Err-clause-kept
returns-in-Err-clause-kept c =
    let jobs = c.args.jobs.now.items in
    let done : is_ok c.insert.result ≡ true = search rules in
    let inserted : c.insert.new.self.items ≡ insert jobs c.in-Err.at c.args.job = c.insert.ensures.items
    ∙ cond-true _ _ _ done in
    rw inserted (look_kept jobs (insert jobs c.in-Err.at c.args.job) c.args.job (one_jobs jobs c.requires.numbered)
    (insert_contains nat_cmp_total nat_cmp-IsAntisymmetric number_of jobs c.in-Err.at c.args.job) c.requires.new)
