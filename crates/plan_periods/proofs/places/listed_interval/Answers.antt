use Rattle.std.proofs.Common.{arith, sym, get_or, ap, ◌∙◌, ◌+◌, ◌-◌, ◌<◌, length, Some}
use Rattle.std.proofs.lemmas.List.{get_or_default}
use Rattle.plan_periods.proofs.ListedLemmas.{listed_to_next, no_end, some_day}
use Rattle.plan_periods.proofs.places.listed_interval.Goals as goal

pub returns : goal.returns
returns c =
    let entries = c.args.entries.now in
    let place = c.args.place in
    let first = c.index-entries-place.result in
    let end = c.index-entries-place-2.result in
    let next = c.index-entries-place-3.result in
    let is_next : place + 1 < length entries = omega (arith, c.requires.within, c.if-place-entries.false) in
    listed_to_next entries place (get_or entries place first) (get_or entries (place + 1) next) _ is_next
    (get_or_default entries place first _ c.requires.within)
    (ap (λ e. e.1) (get_or_default entries place first end c.requires.within) ∙ no_end _ (sym c.if-is_some.ensures))
    (get_or_default entries (place + 1) next _ is_next)
    (some_day c.from_number.result _ c.from_number.ensures.valid c.from_number.ensures.value (
      omega (arith, c.number.ensures.in_range, c.if-prove.false, c.number-2.ensures.value, c.number-3.ensures.value),
      omega (arith, c.number-3.ensures.in_range),
    )
    ∙ ap (λ k. Some (k - 1)) c.number-3.ensures.value)
