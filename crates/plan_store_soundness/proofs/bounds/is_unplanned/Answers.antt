use Rattle.plan_store_soundness.proofs.SizeLemmas.{bare_from, bare_to}
use Rattle.plan_store_soundness.proofs.bounds.is_unplanned.Goals as goal

pub returns : goal.returns
returns c = (
  λ yes. bare_to c.args.content.now (c.is_bare.ensures.0 yes),
  λ none. c.is_bare.ensures.1 (bare_from c.args.content.now none),
)
