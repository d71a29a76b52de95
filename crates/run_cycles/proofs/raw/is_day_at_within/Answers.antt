use Rattle.std.proofs.Common.{Option, ℕ, ℤ, Some, subst, option_map, ◌+◌, ◌≡◌, to_z, of_z}
use Rattle.std.proofs.lemmas.Int.{to_z-of_z}
use mir.Syntax.{w16}
use Rattle.run_cycles.specs.Searches.{IsPlaceAt}
use Rattle.run_cycles.specs.Offset.{offset_of}
use Rattle.run_cycles.proofs.PlaceLemmas.{none_within}
use Rattle.run_cycles.proofs.raw.is_day_at_within.Goals as goal

pub returns-in-None : goal.returns-in-None
returns-in-None c =
    let Only : ℤ → ℕ → Option ℕ → Type 0 = λ k first end. (x : ℕ) →
    IsPlaceAt (offset_of k) first end x → c.place_at.result ≡ Some x in
    let k : ℤ = to_z w16 (of_z w16 c.args.offset) in
    let only : Only c.args.offset c.args.interval.first (option_map (λ l. l + 1) c.args.interval.last) =
    subst (λ z. Only z c.args.interval.first (option_map (λ l. l + 1) c.args.interval.last))
    (to_z-of_z w16 c.args.offset c.ranges.offset)
    (subst (λ first. Only k first (option_map (λ l. l + 1) c.args.interval.last)) c.number.ensures.value
    (subst (Only k c.number.result) c.end_of.ensures c.place_at.ensures.only)) in
    ((λ t. absurd cc), λ h. absurd (none_within _ _ _ _ _ c.place_at.result c.in-None.is only h))
