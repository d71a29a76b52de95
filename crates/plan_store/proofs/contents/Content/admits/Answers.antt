use Rattle.plan_store.proofs.FittingLemmas.{last_test, refused}
use Rattle.plan_store.proofs.contents.Content.admits.Goals as goal

pub returns-then-not-takes_job : goal.returns-then-not-takes_job
returns-then-not-takes_job c = refused c.takes_job.result c.takes_job.ensures c.if-not-takes_job.true
    (λ fits. fits.job)

pub returns-then-not-branch : goal.returns-then-not-branch
returns-then-not-branch c = refused c.in_ok-fits_set.field-0 c.in_ok-fits_set.ensures c.if-not-branch.true
    (λ fits. fits.ltp)

pub returns-then-not-branch-2 : goal.returns-then-not-branch-2
returns-then-not-branch-2 c = refused c.in_ok-fits_set-2.field-0 c.in_ok-fits_set-2.ensures c.if-not-branch-2.true
    (λ fits. fits.cp)

pub returns-then-not-branch-3 : goal.returns-then-not-branch-3
returns-then-not-branch-3 c = refused c.in_ok-fits_set-3.field-0 c.in_ok-fits_set-3.ensures c.if-not-branch-3.true
    (λ fits. fits.history)

pub returns : goal.returns
returns c =
    last_test c.fits_set-4.result
    (λ fits. record {
      ltp = c.in_ok-fits_set.ensures.0 c.if-not-branch.false;
      cp = c.in_ok-fits_set-2.ensures.0 c.if-not-branch-2.false;
      history = c.in_ok-fits_set-3.ensures.0 c.if-not-branch-3.false;
      deletions = fits;
      job = c.takes_job.ensures.0 c.if-not-takes_job.false;
    }) (λ fits. fits.deletions)
    c.fits_set-4.ensures
