use Rattle.std.proofs.Common.{ℤ, List, length, to_z, of_z, get_or, pos, ap, arith}
use mir.Syntax.{w16}
use Rattle.run_cycles.proofs.AddLemmas.{read}
use Rattle.run_cycles.proofs.ReachLemmas.{kept_all, kept_more, kept_none}
use Rattle.run_cycles.proofs.jump.offsets_within.Goals as goal

pub loop-offset-init : goal.loop-offset-init
loop-offset-init c = (
  kept_none c.args.reach c.args.offsets.now c.in_ok-kept.kept.items c.in_ok-kept.ensures.items,
  (let none = ap (λ (l : List ℤ). length l) c.in_ok-kept.ensures.items in omega arith),
)

pub loop-offset-preserved : goal.loop-offset-preserved
loop-offset-preserved c =
    let offsets = c.args.offsets.now in
    let n = c.loop-offset.offset-index in
    let k : ℤ = to_z w16 (of_z w16 (get_or offsets n (pos 0))) in (
      kept_more c.args.reach offsets n k c.loop-offset-test.true
          (read offsets n c.requires c.loop-offset-test.true)
          c.loop-offset.kept.items c.push_within.new.kept.items
          c.loop-offset.invariant.0 c.in_ok-push_within.ensures.kept,
      omega (arith, c.loop-offset.invariant.1, c.in_ok-push_within.ensures.few),
    )

pub returns-clause-kept : goal.returns-clause-kept
returns-clause-kept c =
    kept_all c.args.reach c.args.offsets.now c.loop-offset.offset-index
    c.loop-offset-test.false c.loop-offset.kept.items c.loop-offset.invariant.0
