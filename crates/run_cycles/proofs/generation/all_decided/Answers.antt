use Rattle.std.proofs.Common.{◌+◌, List, ap, sym, subst, ◌∙◌}
use Rattle.std.specs.Prelude.{unwrap_or}
use Rattle.run_cycles.specs.declared.named.Named.{Named}
use Rattle.run_cycles.specs.Naming.{IsDecidedBefore}
use Rattle.run_cycles.specs.Occurrence.{ListsInOrder}
use Rattle.run_cycles.proofs.DecidedLemmas.{decided_grows, decided_stays}
use Rattle.run_cycles.proofs.generation.all_decided.Goals as goal
use Rattle.run_cycles.proofs.generation.all_decided.Goals.{in-Some+in_ok-push, in_default}

pub loop-place-preserved : goal.loop-place-preserved
loop-place-preserved c =
    let xs = c.args.namings.now in
    let n = c.loop-place.place in
    let P : List Named → Type 0 = λ l. ListsInOrder (IsDecidedBefore xs (n + 1)) l in
    elim c.match-decided.branch [
      | in-Some+in_ok-push w ↦ subst P (sym (ap (λ v. v.items) w.list-is ∙ w.in_ok-push.ensures.items))
          (decided_grows xs c.requires.order n c.loop-place.list.items w.in-Some.named w.in-Some.ensures.found
          (λ x at. ap (λ o. unwrap_or o x) (w.in-Some.ensures.only x at)) c.loop-place.invariant)
      | in_default w ↦ subst P (sym (ap (λ v. v.items) w.list-is))
          (decided_stays xs c.requires.order n c.loop-place.list.items
          (λ x at. w.in_default.not-Some x (c.decided.ensures.only x at)) c.loop-place.invariant)
    ]
