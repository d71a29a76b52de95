use Rattle.std.specs.Prelude.{IfSome}
use Rattle.std.specs.List.{AllWithin}
use Rattle.work_calendars.specs.Within.{IsWithinHours}
use Rattle.app_definition_soundness.proofs.names.all_limits.Given as goal

abbrev pub invariant-loop-predecessor : goal.invariant-loop-predecessor
invariant-loop-predecessor l = AllWithin (λ p. IfSome p.within IsWithinHours) l.listed 0 l.predecessor-index
