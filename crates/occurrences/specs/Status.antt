-- Statuses of the current plan.
use Rattle.std.specs.Prelude.{ℕ, Option, Some, None, List, [], ◌∷◌, unwrap_or}
use Rattle.std.specs.Str.{byte}
use Rattle.occurrences.specs.declared.status.Status.{Status}
use Rattle.occurrences.specs.declared.status.Status.TheVariants.{W, S, E, C, D}
use Rattle.occurrences.specs.declared.status.Action.{Action}
use Rattle.occurrences.specs.declared.status.Action.TheVariants.{Start, Complete, Fail, Reset, Delete}

-- the table of status changes: the status that an action leads to, where the status allows it
abbrev pub changed_status : Status → Action → Option Status
changed_status W Start = Some S
changed_status S Complete = Some C
changed_status E Complete = Some C
changed_status S Fail = Some E
changed_status E Reset = Some W
changed_status W Delete = Some D
changed_status E Delete = Some D
changed_status _ _ = None

-- the letter that lists and tables show for a status
abbrev pub status_letter : Status → ℕ
status_letter W = byte "W"
status_letter S = byte "S"
status_letter E = byte "E"
status_letter C = byte "C"
status_letter D = byte "D"

-- the status after some actions were tried in turn: one that the status doesn't allow leaves it
abbrev pub status_after : Status → List Action → Status
status_after s [] = s
status_after s (a ∷ tried) = status_after (unwrap_or (changed_status s a) s) tried
