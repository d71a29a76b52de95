use Rattle.std.proofs.Common.{◌∙◌}
use Rattle.work_calendars.proofs.NameFacts.{held-cmp}
use Rattle.work_calendars.proofs.names.NameWithinOrd.cmp.Goals as goal

pub returns : goal.returns
returns g c = rw (← c.self.view_is, ← c.other.view_is) (c.cmp.ensures ∙ held-cmp _ _ _ c.self.invariant c.other.invariant)
