use Rattle.std.proofs.Common.{◌≡◌, ◌≤◌, ◌∙◌, List, ℕ, ap, arith, length, rules}
use Rattle.std.specs.Fmt.{decimal}
use Rattle.std.proofs.lemmas.Fmt.{length-decimal-le}
use Rattle.plan_listings.proofs.links.append_within.Goals as goal

pub append_right-requires : goal.append_right-requires
append_right-requires g c =
    let hours = c.hours.result in
    let range = c.hours.ensures.in_range in
    let few : length (decimal hours) ≤ 4 = length-decimal-le 4 hours (omega arith) (omega (arith, range.1))
    (omega (arith, range.1)) in
    let is : length c.as_bytes.result.now ≡ length (decimal hours) =
    ap (λ (l : List ℕ). length l) (c.as_bytes.ensures.value ∙ c.format.ensures.text) in
    let short : length c.as_bytes.result.now ≤ 4 = omega (arith, few, is) in
    search rules
