use Rattle.std.proofs.Common.{◌≡◌, ℕ, Some, rules, subst}
use Rattle.std.specs.FinMap as map
use Rattle.work_calendars.specs.WorkIndex.{is_work_in}
use Rattle.app_occurrences.specs.NamedOccurrences.{work_in}
use Rattle.app_occurrences.proofs.named.named_occurrences.Goals as goal

pub named_by_index-requires-clause-index : goal.named_by_index-requires-clause-index
named_by_index-requires-clause-index c =
    let all = c.args.all.now in
    let name = c.calendar_name-name.result in
    let index = c.unwrap-index.result.now in
    let there : map.get c.hold.new.self name ≡ Some index = search rules in
    subst (λ n. (d : ℕ) → is_work_in index d ≡ work_in all n d) c.calendar_name-name.ensures
    (c.in_ok-hold.ensures.indexes name index there)
