use Rattle.std.proofs.Common.{◌≡◌, ◌∙◌, sym, subst}
use Rattle.app_occurrences.specs.CalendarIndex.{IsIndexOf}
use Rattle.app_occurrences.proofs.CalendarIndexLemmas.{same_dates, same_weekdays, serves}
use Rattle.app_occurrences.proofs.calendar_index.CalendarIndex.is_of.Goals as goal

pub returns-then-eq : goal.returns-then-eq
returns-then-eq c holds =
    let kept = c.self.inside in
    let weekdays : kept.weekdays ≡ c.args.weekdays.now = same_weekdays _ _ c.eq.result c.eq.ensures c.if-eq.true in
    let dates : c.as_slice.result.now ≡ c.args.dates.now = same_dates _ _ c.eq-then-eq.result c.eq-then-eq.ensures holds
    in
    subst (IsIndexOf c.args.weekdays.now c.args.dates.now) c.self.view_is
    (serves kept.weekdays c.args.weekdays.now kept.dates.items c.args.dates.now kept.index weekdays
    (sym c.as_slice.ensures.value ∙ dates) c.self.invariant)
