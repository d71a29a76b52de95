use Rattle.std.specs.List.{AllWithin}
use Rattle.work_calendars.specs.Name.{IsName}
use Rattle.app_definition_soundness.proofs.names.all_named.Given as goal

abbrev pub invariant-loop-predecessor : goal.invariant-loop-predecessor
invariant-loop-predecessor l = AllWithin (λ p. IsName p.name) l.listed 0 l.predecessor-index
