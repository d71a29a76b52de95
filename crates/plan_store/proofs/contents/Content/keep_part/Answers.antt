use Rattle.std.proofs.Common.{◌≡◌, List, ap, subst}
use Rattle.std.specs.Prelude.{OnErr, OnOk}
use Rattle.planner_machine.specs.Content.{Content}
use Rattle.planner_machine.specs.declared.job.Job.{Job}
use Rattle.plan_store_lists.specs.Rows.{look_up}
use Rattle.plan_store.specs.Contents.{content_of}
use Rattle.plan_store.specs.Parts.{followed_alone}
use Rattle.plan_store.specs.Room.{no_jobs, with_job_set}
use Rattle.plan_store.proofs.PartLemmas.{kept_jobs, kept_part}
use Rattle.plan_store.proofs.contents.Content.keep_part.Goals as goal

-- the content without its jobs
less : goal.After-keep_followed → Content
less c = with_job_set (look_up (λ (job : Job). job.number) c.new.result.items) (content_of c.args.self.now)

less_is : (c : goal.After-keep_followed) → less c ≡ with_job_set no_jobs (content_of c.args.self.now)
unfolding less
less_is c = ap (λ (jobs : List Job). with_job_set (look_up (λ (job : Job). job.number) jobs)
    (content_of c.args.self.now)) c.new.ensures.items

pub returns-clause-part : goal.returns-clause-part
unfolding less
returns-clause-part c =
    kept_part c.keep_followed.result (content_of c.args.self.now) (less c) (content_of c.keep_followed.new.self)
    (less_is c) c.keep_followed.ensures.ok c.keep_followed.ensures.err

pub returns-clause-ok : goal.returns-clause-ok
unfolding less
returns-clause-ok c = subst (λ (k : Content). OnOk c.keep_followed.result
    (content_of c.keep_followed.new.self ≡ followed_alone k)) (less_is c) c.keep_followed.ensures.ok

pub returns-clause-err : goal.returns-clause-err
unfolding less
returns-clause-err c = subst (λ (k : Content). OnErr c.keep_followed.result
    (content_of c.keep_followed.new.self ≡ k)) (less_is c) c.keep_followed.ensures.err

pub returns-clause-jobs : goal.returns-clause-jobs
unfolding less
returns-clause-jobs c =
    kept_jobs c.keep_followed.result (content_of c.args.self.now) (less c) (content_of c.keep_followed.new.self)
    (less_is c) c.keep_followed.ensures.ok c.keep_followed.ensures.err
