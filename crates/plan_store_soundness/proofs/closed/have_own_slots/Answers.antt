use Rattle.std.proofs.Common.{◌≡◌, ◌≢◌, ◌↔◌, ◌∙◌, Option, subst, sym}
use Rattle.std.specs.Prelude.{IsTrue}
use Rattle.std.specs.List.{AllPairs, filter_map}
use Rattle.std.proofs.lemmas.Result.{IfOk-weaker}
use Rattle.external_dependencies.specs.declared.pairs.Pair.{Pair}
use Rattle.plan_store_soundness.specs.Closed.{slot_at}
use Rattle.plan_store_soundness.specs.declared.closed.Slot.{Slot}
use Rattle.plan_store_soundness.proofs.ClosedLemmas.{differ_from_own, own_from_differ}
use Rattle.plan_store_soundness.proofs.closed.have_own_slots.Goals as goal

pub returns : goal.returns
returns c =
    let taken : Pair → Option Slot = slot_at c.args.table.now in
    let pairs = c.args.pairs.now in
    let slots : c.deref.result.now ≡ filter_map taken pairs = c.deref.ensures.value ∙ c.in_ok-slots.ensures in
    IfOk-weaker c.slots_differ.result (λ b. IsTrue b ↔ AllPairs (λ x y. x ≢ y) c.deref.result.now) _
    (λ b tells. (
      (λ yes. own_from_differ taken pairs (subst (AllPairs (λ (x y : Slot). x ≢ y)) slots (tells.0 yes))),
      λ own. tells.1 (subst (AllPairs (λ (x y : Slot). x ≢ y)) (sym slots) (differ_from_own taken pairs own)),
    )) c.slots_differ.ensures
