-- Periods in the order in which they came, seen as a finite map.
use Rattle.std.proofs.Common.{◌≡◌, ℕ, Bool, true, false, cond, List, [], ◌∷◌, Some, None, All, map, ap, sym, ◌∙◌, refl}
use Rattle.std.specs.Ordering.{nat_cmp, eq_by_cmp}
use Rattle.std.specs.Map.{lookup, remove_entry}
use Rattle.std.specs.Cmp.Lexicographic.{pointwise, slice_cmp, nat_list_cmp_total, texts_ties}
use Rattle.std.specs.Prelude.{nat_eq}
use Rattle.std.specs.FinMap.{find, get, insert, remove, from_entries, get-insert, get-remove, get-from_entries}
use Rattle.std.specs.FinMap.{same_map, nat_cmp-IsAntisymmetric, slice_cmp-IsAntisymmetric}
use Rattle.std.specs.Cmp.{eq_by_cmp_equiv}
use Rattle.std.proofs.lemmas.List.Elements.{All-cons, All-head, All-tail}
use Rattle.indexmap.specs.IndexMap.{insert_entry}

module _ {X : Type 0} where
  pub find-lookup : (q : List ℕ) (es : List (List ℕ × X)) → lookup
      (pointwise nat_eq q) es ≡ find (slice_cmp nat_cmp) q es
  find-lookup q [] = refl
  find-lookup q (e ∷ es) = ap (λ b. cond b (Some e.1) (lookup (pointwise nat_eq q) es)) (texts_ties q e.0) ∙
      ap (λ o. cond (eq_by_cmp (slice_cmp nat_cmp) q e.0) (Some e.1) o) (find-lookup q es)

  -- what the map has at a name is what a look-up among the entries gives
  pub get-lookup : (q : List ℕ) (es : List (List ℕ × X)) → lookup
      (pointwise nat_eq q) es ≡ get (from_entries {R = slice_cmp nat_cmp} es) q
  get-lookup q es = find-lookup q es ∙ sym (get-from_entries nat_list_cmp_total es q)

  -- entries that answer like others but for v at k are the map with v put at k
  pub from_entries-put : (es fs : List (List ℕ × X)) (k : List ℕ) (v : X) →
      ((q : List ℕ) → lookup (pointwise nat_eq q) fs ≡ cond (pointwise nat_eq k q)
      (Some v) (lookup (pointwise nat_eq q) es)) → from_entries {R =
      slice_cmp nat_cmp} fs ≡ insert (from_entries {R = slice_cmp nat_cmp} es) k v
  from_entries-put es fs k v says =
      same_map nat_list_cmp_total (slice_cmp-IsAntisymmetric nat_cmp-IsAntisymmetric) _ _
      (λ q. sym (get-lookup q fs) ∙ says q
      ∙ ap (λ b. cond b (Some v) (lookup (pointwise nat_eq q) es)) (texts_ties k q ∙
      (eq_by_cmp_equiv nat_list_cmp_total).symm k q)
      ∙ ap (λ o. cond (eq_by_cmp (slice_cmp nat_cmp) q k) (Some v) o) (get-lookup q es)
      ∙ sym (get-insert nat_list_cmp_total (from_entries es) k v q))

  -- entries that answer like others but for nothing at k are the map without k
  pub from_entries-without : (es fs : List (List ℕ × X)) (k : List ℕ) →
      ((q : List ℕ) → lookup (pointwise nat_eq q) fs ≡ cond (pointwise nat_eq k q) None
      (lookup (pointwise nat_eq q) es)) → from_entries {R = slice_cmp nat_cmp} fs ≡ remove (from_entries {R =
      slice_cmp nat_cmp} es) k
  from_entries-without es fs k says =
      same_map nat_list_cmp_total (slice_cmp-IsAntisymmetric nat_cmp-IsAntisymmetric) _ _
      (λ q. sym (get-lookup q fs) ∙ says q
      ∙ ap (λ b. cond b None (lookup (pointwise nat_eq q) es)) (texts_ties k q ∙
      (eq_by_cmp_equiv nat_list_cmp_total).symm k q)
      ∙ ap (λ o. cond (eq_by_cmp (slice_cmp nat_cmp) q k) None o) (get-lookup q es)
      ∙ sym (get-remove nat_list_cmp_total (from_entries es) k q))

  module _ (P : X → Type 0) where
    -- values that all have P, and one more that has it
    pub All-insert_entry : (es : List (List ℕ × X)) (k : List ℕ) (v : X) →
        P v → All P (map (λ e. e.1) es) → All P (map (λ e. e.1) (insert_entry (pointwise nat_eq) es k v))
    All-insert_entry [] k v h all = All-cons P v [] h all
    All-insert_entry (e ∷ es) k v h all =
        elim (pointwise nat_eq k e.0) as (λ b. All P (map (λ e. e.1)
        (cond b ((e.0, v) ∷ es) (e ∷ insert_entry (pointwise nat_eq) es k v)))) [
          | true ↦ All-cons P v (map (λ e. e.1) es) h (All-tail P e.1 (map (λ e. e.1) es) all)
          | false ↦ All-cons P e.1 (map (λ e. e.1) (insert_entry (pointwise nat_eq) es k v))
              (All-head P e.1 (map (λ e. e.1) es) all) (All-insert_entry es k v h
              (All-tail P e.1 (map (λ e. e.1) es) all))
        ]

    -- values that all have P, without one
    pub All-remove_entry : (test : List ℕ → Bool) (es : List (List ℕ × X)) →
        All P (map (λ e. e.1) es) → All P (map (λ e. e.1) (remove_entry test es))
    All-remove_entry test [] all = all
    All-remove_entry test (e ∷ es) all =
        elim (test e.0) as (λ b. All P (map (λ e. e.1) (cond b es (e ∷ remove_entry test es)))) [
          | true ↦ All-tail P e.1 (map (λ e. e.1) es) all
          | false ↦ All-cons P e.1 (map (λ e. e.1) (remove_entry test es))
              (All-head P e.1 (map (λ e. e.1) es) all) (All-remove_entry test es
              (All-tail P e.1 (map (λ e. e.1) es) all))
        ]
