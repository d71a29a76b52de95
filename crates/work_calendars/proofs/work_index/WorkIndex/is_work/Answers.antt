use Rattle.std.proofs.Common.{◌≡◌, ◌<◌, ◌-◌, length, false, ◌∙◌, sym, ap, arith}
use Rattle.std.proofs.lemmas.List.{get_or_default}
use Rattle.std.specs.List.{slice_index_or}
use Rattle.work_calendars.specs.Day.{first_day}
use Rattle.work_calendars.proofs.WorkIndexFacts.{is_work_in-at}
use Rattle.work_calendars.proofs.work_index.WorkIndex.is_work.Goals as goal

pub returns : goal.returns
returns c =
    let statuses = c.self.inside.statuses.items in
    let len = c.self.invariant.statuses_len in
    let within : c.place.result < length statuses = omega arith in
    let at : c.place.result ≡ c.args.day - first_day = omega arith in
    rw (← c.self.view_is) (c.index.ensures ∙ get_or_default statuses _ _ false within ∙
    ap (λ i. slice_index_or statuses i false) at ∙ sym (is_work_in-at statuses c.args.day c.place.ensures.in_range))
