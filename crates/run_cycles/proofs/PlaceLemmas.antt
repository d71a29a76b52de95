-- Days at offsets, as numbers before an end.
use Rattle.std.proofs.Common.{◌≡◌, ℕ, ◌+◌, ◌<◌, ◌≤◌, ◌↔◌, Option, Some, None, IfSome, option_map, sym}
use Rattle.std.proofs.Common.{◌∙◌, arith}
use Rattle.run_cycles.specs.Offset.{Offset, FromFirst, FromLast}
use Rattle.run_cycles.specs.RawDay.{IsDayAt}
use Rattle.run_cycles.specs.Searches.{IsDayAtWithin, IsPlaceAt}

below_end : (x : ℕ) (last : Option ℕ) → IfSome last (λ l. x ≤ l) ↔ IfSome (option_map (λ l. l + 1) last) (λ e. x < e)
below_end x None = ((λ h. tt), λ h. tt)
below_end x (Some last) = ((λ h. omega (arith, h)), λ h. omega (arith, h))

-- the day at an offset is the number there before the end of the interval
pub place_is_day : (k : Offset) (first : ℕ) (last : Option ℕ) (x : ℕ) →
    IsPlaceAt k first (option_map (λ l. l + 1) last) x ↔ IsDayAt k first last x
place_is_day (FromFirst k) first last x =
    ((λ h. (h.0, h.1, (below_end x last).1 h.2)), λ h. (h.0, h.1, (below_end x last).0 h.2))
place_is_day (FromLast k) first None x = ((λ h. absurd h), λ h. absurd h)
place_is_day (FromLast k) first (Some last) x = ((λ h. (h.0, h.1, h.2)), λ h. (h.0, h.1, h.2))

none_some : {X : Type 0} (x : X) → ¬ (None ≡ Some x)
none_some x e = cc

module _ (k : Offset) (first low high : ℕ) (last : Option ℕ) where
  -- no number at the offset, so no day
  pub none_within : (o : Option ℕ) → o ≡ None → ((x : ℕ) → IsPlaceAt k first (option_map (λ l. l + 1) last) x →
      o ≡ Some x) → ¬ (IsDayAtWithin low high k first last)
  none_within o none only h = none_some h.0 (sym none ∙ only h.0 ((place_is_day k first last h.0).1 h.4))
