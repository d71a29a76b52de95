use Rattle.std.specs.List.{AllWithin}
use Rattle.planner_machine.specs.Sound.{IsLink}
use Rattle.plan_store_soundness.proofs.ranges.are_links.Given as goal

abbrev pub invariant-loop-link : goal.invariant-loop-link
invariant-loop-link l = AllWithin IsLink l.links 0 l.link-index
