-- The map that contracts see of the listed dates, beside the tree that holds them.
use Rattle.std.proofs.Common.{◌≡◌, sym, ap, ◌∙◌, refl, ℕ, true, cond, List, [], ◌∷◌, Some, arith}
use Rattle.std.specs.Ordering.{nat_cmp, eq_by_cmp, is_eq}
use Rattle.std.specs.Cmp.{nat_cmp_total, eq_by_cmp_equiv}
use Rattle.std.specs.Map.{lookup}
use Rattle.std.specs.BTreeMap.{is_at}
use Rattle.std.specs.FinMap as map
use Rattle.std.specs.FinMap.{find, nat_cmp-IsAntisymmetric, same_map, get-from_entries, get-insert}
use Rattle.std.proofs.lemmas.Bool.Decides.{nat_tests}
use Rattle.work_calendars.specs.Day.{IsDay, is_day}

module _ {X : Type 0} where
  lookup-find : (q : ℕ) (es : List (ℕ × X)) → lookup (is_at (nat_cmp q)) es ≡ find nat_cmp q es
  lookup-find q [] = refl
  lookup-find q (e ∷ es) = ap (cond (is_eq (nat_cmp q e.0)) (Some e.1)) (lookup-find q es)

  pub lookup-listed : (q : ℕ) (es : List (ℕ × X)) → lookup (is_at (nat_cmp q)) es ≡ map.get (map.from_entries {R =
      nat_cmp} es) q
  lookup-listed q es = lookup-find q es ∙ sym (get-from_entries nat_cmp_total es q)

  pub listed_after_insert : (es fs : List (ℕ × X)) (k : ℕ) (v : X) →
      ((q : ℕ) → lookup (is_at (nat_cmp q)) fs ≡ cond (is_at (nat_cmp k) q) (Some v) (lookup (is_at (nat_cmp q)) es)) →
      map.from_entries {R = nat_cmp} fs ≡ map.insert (map.from_entries es) k v
  listed_after_insert es fs k v h =
      same_map nat_cmp_total nat_cmp-IsAntisymmetric _ _ (λ q.
      sym (lookup-listed q fs) ∙ h q
      ∙ ap (λ b. cond b (Some v) (lookup (is_at (nat_cmp q)) es)) ((eq_by_cmp_equiv nat_cmp_total).symm k q)
      ∙ ap (cond (eq_by_cmp nat_cmp q k) (Some v)) (lookup-listed q es)
      ∙ sym (get-insert nat_cmp_total (map.from_entries es) k v q))

pub is_day-in_range : (d : ℕ) → IsDay d → is_day d ≡ true
is_day-in_range d h = grind (arith, nat_tests)
