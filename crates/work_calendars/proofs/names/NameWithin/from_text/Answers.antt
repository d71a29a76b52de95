use Rattle.std.proofs.Common.{refl, ◌∙◌}
use Rattle.work_calendars.proofs.NameFacts.{name-copied}
use Rattle.work_calendars.proofs.names.NameWithin.from_text.Goals as goal

pub invariant_of-result : goal.invariant_of-result
invariant_of-result g c =
    let named = c.is_name.ensures.0 c.if-not-is_name.false in
    let copied = name-copied _ _ _ _ named c.copy_from_slice.ensures.after refl in
    copied.holds

pub returns-clause-value : goal.returns-clause-value
returns-clause-value g c =
    let named = c.is_name.ensures.0 c.if-not-is_name.false in
    let copied = name-copied _ _ _ _ named c.copy_from_slice.ensures.after refl in
    copied.text ∙ c.as_bytes-text.ensures.value
