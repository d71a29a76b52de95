use Rattle.std.proofs.Common.{◌≡◌, ◌∙◌, ◌++◌, ◌∷◌, [], append_assoc, ap, sym, subst}
use Rattle.std.specs.FinMap as map
use Rattle.std.specs.List.{All}
use Rattle.std.specs.Map.Iter.{deref_pair}
use Rattle.std.proofs.lemmas.Map.Iter.{rest_more}
use Rattle.std.proofs.lemmas.List.Elements.{All-push}
use Rattle.work_calendars.specs.Day.{IsDay}
use Rattle.work_calendars.proofs.calendars.Calendar.dates.Goals as goal

pub loop-day-preserved : goal.loop-day-preserved
loop-day-preserved c =
    let old = c.loop-day.dates.items in
    let rest = c.next.new.self in
    let left = rest_more deref_pair c.loop-day.day-iterator rest c.next.result (
      c.in-Some.day,
      c.in-Some.status,
    ) c.in-Some.is
    c.next.ensures.steps in
    let pushed : c.push.new.self.items ≡ old ++ (c.in-Some.day.now, c.in-Some.status.now) ∷ [] =
    c.in_ok-push.ensures.items in
    record {
      all = ap (λ l. map.from_entries l) (ap (λ l. l ++ rest) pushed ∙ append_assoc old _ rest ∙
          ap (λ l. old ++ l) (sym left)) ∙
          c.loop-day.invariant.all;
      in_range = subst (All (λ entry. IsDay entry.0)) (sym pushed)
          (All-push (λ entry. IsDay entry.0) old (c.in-Some.day.now, c.in-Some.status.now)
          c.loop-day.invariant.in_range (subst IsDay c.number-number.ensures.value c.number-number.ensures.in_range));
    }
