use Rattle.std.proofs.Common.{◌↔◌}
use Rattle.std.specs.Prelude.{IsTrue}
use Rattle.std.proofs.lemmas.Result.{IfOk-weaker}
use Rattle.plan_store_soundness.specs.Closed.{HaveNoRing}
use Rattle.plan_store_soundness.proofs.pairs.are_fitting.Goals as goal

pub returns : goal.returns
returns c =
    IfOk-weaker c.have_no_ring.result (λ b. IsTrue b ↔ HaveNoRing c.args.table.now c.args.pairs.now) _
    (λ b tells. (
      (λ yes. record {
        fit = c.all_fit.ensures.0 c.if-not-all_fit.false;
        slots = c.in_ok-own_slots.ensures.0 c.if-not-own_slots.false;
        ring = tells.0 yes;
      }),
      λ fitting. tells.1 fitting.ring,
    )) c.have_no_ring.ensures
