use Rattle.work_calendars.proofs.NameFacts.{IsUtf8-name}
use Rattle.work_calendars.proofs.names.NameWithin.as_str.Goals as goal

pub unreachable-requires : goal.unreachable-requires
unreachable-requires g c = c.in-Err.ensures.cases.0 (IsUtf8-name _ _ c.as_bytes.ensures.named)
