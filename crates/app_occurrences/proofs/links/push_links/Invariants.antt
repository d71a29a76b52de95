use Rattle.std.proofs.Common.{◌≡◌, ◌++◌, take, map}
use Rattle.app_definition_records.specs.declared.predecessors.Predecessor.{Predecessor}
use Rattle.app_occurrences.proofs.links.push_links.Given as goal

abbrev pub invariant-loop-predecessor : goal.invariant-loop-predecessor
invariant-loop-predecessor l = l.links.items ≡ l.initial.links.items
    ++ map (λ (predecessor : Predecessor). (l.app, predecessor)) (take l.predecessor-index l.listed)
