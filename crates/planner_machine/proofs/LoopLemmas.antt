-- Where no application is the least that something holds of, it holds of none that stands in a list; and so no list
-- in force that is not refused for a loop has one.
use Rattle.std.proofs.Common.{◌≡◌, ℕ, zero, suc, ◌+◌, ◌-◌, ◌⊎◌, List, [], ◌∷◌, length, get_or, refl, sym, ap, subst}
use Rattle.std.proofs.Common.{◌∙◌, inl, inr, arith}
use Rattle.std.specs.Prelude.{Contains, map}
use Rattle.std.proofs.lemmas.Bool.{cases_lt}
use Rattle.std.proofs.lemmas.List.{get_or-map, length-map}
use Rattle.std.specs.Cmp.{tied_itself}
use Rattle.std.specs.Cmp.Lexicographic.{nat_list_cmp_total, slice_cmp}
use Rattle.std.specs.Ordering.{nat_cmp, ordering_reverse}
use Rattle.std.specs.declared.cmp.Ordering.{Ordering}
use Rattle.std.specs.declared.cmp.Ordering.TheVariants.{Less, Equal, Greater}
use Rattle.external_dependencies.specs.Link.{Lists}
use Rattle.external_dependencies.specs.Loop.{IsRing, OnLoop}
use Rattle.external_dependencies.specs.declared.links.Link.{Link}
use Rattle.planner_machine.specs.Plans.{IsLeastApp}

turned : (o : Ordering) → Greater ≡ ordering_reverse o → o ≡ Less
turned Less is = refl
turned Equal is = cc
turned Greater is = cc

abbrev app_cmp : List ℕ → List ℕ → Ordering
app_cmp = slice_cmp nat_cmp

below : (x y : List ℕ) → app_cmp x y ≡ Greater → app_cmp y x ≡ Less
below x y more = turned (app_cmp y x) (sym more ∙ nat_list_cmp_total.antisymm x y)

above : (x y : List ℕ) → app_cmp y x ≡ Less → app_cmp x y ≡ Greater
above x y less = nat_list_cmp_total.antisymm x y ∙ ap ordering_reverse less

further : (x y w : List ℕ) → app_cmp x y ≡ Greater → app_cmp y w ≡ Greater → app_cmp x w ≡ Greater
further x y w first second = above x w (nat_list_cmp_total.trans w y x (below y w second) (below x y first))

not_below_itself : (x y : List ℕ) → x ≡ y → app_cmp x y ≡ Greater → ⊥
not_below_itself x y same more =
    let tied = tied_itself nat_list_cmp_total x in
    let apart : Equal ≡ Greater = sym tied ∙ ap (app_cmp x) same ∙ more in cc

first_or_rest : (x : List ℕ) (xs : List (List ℕ)) (z : List ℕ) → Contains (x ∷ xs) z → (x ≡ z) ⊎ Contains xs z
first_or_rest x xs z (zero, lt, is) = inl is
first_or_rest x xs z (suc k, lt, is) = inr (k, omega arith, is)

module _ (P : List ℕ → Type 0) (none : (app : List ℕ) → IsLeastApp P app → ⊥) where
  -- one more name in the list
  step : (n : List ℕ) (ns : List (List ℕ)) (x : List ℕ)
      → ((y : List ℕ) → P y → app_cmp x y ≡ Greater → Contains (n ∷ ns) y)
      → ((z : List ℕ) → P z → ((y : List ℕ) → P y → app_cmp z y ≡ Greater → Contains ns y) → ⊥) → P x → ⊥
  step n ns x all rest px = none x (px, λ y py more. at y py more)
    where
      first_gone : P n → app_cmp x n ≡ Greater → ⊥
      first_gone pn lower = rest n pn (λ v pv more. elim (first_or_rest n ns v (all v pv (further x n v lower more))) [
        | inl same ↦ absurd (not_below_itself n v same more)
        | inr there ↦ there
      ])

      at : (y : List ℕ) → P y → app_cmp x y ≡ Greater → ⊥
      at y py more = rest y py (λ w pw lower. elim (first_or_rest n ns w (all w pw (further x y w more lower))) [
        | inl same ↦ absurd (first_gone (subst P (sym same) pw)
            (further x y n more (subst (λ z. app_cmp y z ≡ Greater) (sym same) lower)))
        | inr there ↦ there
      ])

  -- if all of which it holds below x stand in the list, it doesn't hold of x
  no_least : (ns : List (List ℕ)) (x : List ℕ) → P x → ((y : List ℕ) → P y → app_cmp x y ≡ Greater → Contains ns y) → ⊥
  no_least [] x px all = none x (px, λ y py more. let (k, lt, is) = all y py more in omega (arith, lt))
  no_least (n ∷ ns) x px all = step n ns x all (λ z pz rest. no_least ns z pz rest) px

-- an application on a loop has a list
has_list : (links : List Link) (app predecessor : List ℕ) → Lists links app predecessor
    → Contains (map (λ (l : Link). l.app) links) app
has_list links app predecessor (within, (k, lt, is)) = (
  k,
  omega (arith, length-map links (λ (l : Link). l.app)),
  get_or-map (λ (l : Link). l.app) links k (record { app = app; predecessor = predecessor; within = within }) app lt
      ∙ ap (λ (l : Link). l.app) is,
)

pub on_loop_listed : (links : List Link) (app : List ℕ) → OnLoop links app → (predecessor : List ℕ)
    × Lists links app predecessor
on_loop_listed links app (ring, is, at) = by_place ring is at
  where
    by_place : (ring : List (List ℕ)) → IsRing (Lists links) ring → Contains ring app → (predecessor : List ℕ)
        × Lists links app predecessor
    by_place ring is (k, lt, at) = elim (cases_lt (k + 1) (length ring)) [
      | inl inside ↦ (
        get_or ring (k + 1) app,
        subst (λ x. Lists links x (get_or ring (k + 1) app)) at (is.next k app inside),
      )
      | inr last ↦
          let same : length ring - 1 ≡ k = omega arith in (
            get_or ring 0 app,
            subst (λ x. Lists links x (get_or ring 0 app)) (ap (λ n. get_or ring n app) same
                ∙ at) (is.closes app),
          )
    ]

pub no_loop_from : (links : List Link) → ((app : List ℕ) → IsLeastApp (OnLoop links) app → ⊥) → (app : List ℕ)
    → OnLoop links app → ⊥
no_loop_from links none app on = no_least (OnLoop links) none (map (λ (l : Link). l.app) links) app on
    (λ y on' more. let (predecessor, listed) = on_loop_listed links y on' in has_list links y predecessor listed)
