use Rattle.std.proofs.Common.{◌↔◌, ◌∙◌, ℕ, List, sym}
use Rattle.std.specs.Prelude.{IsTrue}
use Rattle.std.proofs.lemmas.Bool.{false≢true}
use Rattle.std.proofs.lemmas.Result.{IfOk-weaker}
use Rattle.external_dependencies.specs.Loop.{OnLoop}
use Rattle.plan_store_soundness.proofs.rows.has_sound_rows.Goals as goal

pub returns-then-not-has_bounds : goal.returns-then-not-has_bounds
returns-then-not-has_bounds c = (
  (λ yes. absurd (false≢true yes)),
  λ sound.
      absurd (false≢true (sym c.if-not-has_bounds.true ∙ c.has_bounds.ensures.1 sound.bounds)),
)

pub returns-then-not-has_kept_jobs : goal.returns-then-not-has_kept_jobs
returns-then-not-has_kept_jobs c = (
  (λ yes. absurd (false≢true yes)),
  λ sound.
      absurd (false≢true (sym c.if-not-has_kept_jobs.true ∙ c.has_kept_jobs.ensures.1 sound.jobs)),
)

pub returns-then-not-numbered : goal.returns-then-not-numbered
returns-then-not-numbered c = (
  (λ yes. absurd (false≢true yes)),
  λ sound.
      absurd (false≢true (sym c.if-not-numbered.true ∙ c.in_ok-numbered.ensures.1 sound.serials)),
)

pub returns-then-not-has_sizes : goal.returns-then-not-has_sizes
returns-then-not-has_sizes c = (
  (λ yes. absurd (false≢true yes)),
  λ sound.
      absurd (false≢true (sym c.if-not-has_sizes.true ∙ (c.has_sizes.ensures sound.serials).1 sound.sizes)),
)

pub returns-then-not-own_keys : goal.returns-then-not-own_keys
returns-then-not-own_keys c = (
  (λ yes. absurd (false≢true yes)),
  λ sound.
      absurd (false≢true (sym c.if-not-own_keys.true ∙ (c.in_ok-own_keys.ensures sound.serials).1 sound.keys)),
)

pub returns-then-not-arrivals : goal.returns-then-not-arrivals
returns-then-not-arrivals c = (
  (λ yes. absurd (false≢true yes)),
  λ sound.
      absurd (false≢true (sym c.if-not-arrivals.true ∙ (c.in_ok-arrivals.ensures sound.serials).1 sound.arrivals)),
)

pub returns : goal.returns
returns c =
    let numbered = c.in_ok-numbered.ensures.0 c.if-not-numbered.false in
    let links = c.args.content.now.in_force.items in
    IfOk-weaker c.has_no_loop.result (λ b. IsTrue b ↔ ((app : List ℕ) → OnLoop links app → ⊥)) _
    (λ b tells. (
      (λ yes. record {
        bounds = c.has_bounds.ensures.0 c.if-not-has_bounds.false;
        serials = numbered;
        keys = (c.in_ok-own_keys.ensures numbered).0 c.if-not-own_keys.false;
        arrivals = (c.in_ok-arrivals.ensures numbered).0 c.if-not-arrivals.false;
        sizes = (c.has_sizes.ensures numbered).0 c.if-not-has_sizes.false;
        lists = tells.0 yes;
        jobs = c.has_kept_jobs.ensures.0 c.if-not-has_kept_jobs.false;
      }),
      λ sound. tells.1 sound.lists,
    )) c.has_no_loop.ensures
