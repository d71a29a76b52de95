-- What tells the lists that differ, and what is among applications and links in rising order.
use Rattle.std.proofs.Common.{◌≡◌, ◌≢◌, ◌↔◌, ◌⊎◌, ℕ, List, [], ◌∷◌, ◌++◌, length, get_or, refl}
use Rattle.std.proofs.Common.{sym, subst, inl, inr, ◌∙◌, Ordering, Result, Ok, Err}
use Rattle.std.specs.declared.cmp.Ordering.TheVariants.{Less, Equal, Greater}
use Rattle.std.specs.Bool.{IsTrue}
use Rattle.std.specs.Cmp.{IsTotalOrder}
use Rattle.std.specs.Cmp.Lexicographic.{slice_cmp}
use Rattle.std.specs.FinMap.{IsAntisymmetric}
use Rattle.std.specs.List.{Contains}
use Rattle.std.specs.List.Sorted.{IsBinarySearchResult, IsSearchInRange}
use Rattle.std.specs.Ordering.{nat_cmp}
use Rattle.std.specs.Result.{is_ok}
use Rattle.std.proofs.lemmas.Bool.{false≢true}
use Rattle.std.proofs.lemmas.List.Elements.{Contains-push_cases}
use Rattle.std.proofs.lemmas.Cmp.{nat_list_cmp_total, tied_itself}
use Rattle.external_dependencies.specs.Rising.{IsRising}
use Rattle.external_dependencies.specs.declared.links.Link.{Link}
use Rattle.external_dependencies.proofs.OrderLemmas.{name_ties}
use Rattle.plan_store_lists.proofs.KeyLemmas.{missed, missed_all}
use Rattle.external_dependencies.specs.Touch.{HasSameList}
use Rattle.plan_store_pairs.proofs.ListLemmas.{first_or_later, further, here, none}

-- a search in a rising list tells whether it has the item
pub search_tells : {X : Type 0} {cmp : X → X → Ordering} → IsTotalOrder cmp → IsAntisymmetric cmp → (xs : List X)
    → IsRising cmp xs → (x : X) (r : Result ℕ ℕ) → IsSearchInRange r (length xs)
    → IsBinarySearchResult (λ y. cmp y x) xs r → IsTrue (is_ok r) ↔ Contains xs x
search_tells total ties xs rising x (Ok at) range is =
    ((λ _. (at, range, ties (get_or xs at x) x (is x))), λ _. refl)
search_tells {X} total ties xs rising x (Err at) range is = (
  (λ no. absurd (false≢true no)),
  λ there.
      let past = missed total ties (λ (y : X). y) xs x (Err at) range is rising in
      absurd (missed_all total ties (λ (y : X). y) xs x at past.1 x there refl),
)

pub same_or_not : (a b : List ℕ) → (a ≡ b) ⊎ (a ≢ b)
same_or_not a b = elim (slice_cmp nat_cmp a b) as (λ o. slice_cmp nat_cmp a b ≡ o → (a ≡ b) ⊎ (a ≢ b)) [
  | Less ↦ λ is. inr (λ same. apart a b is (subst (λ x. slice_cmp nat_cmp a x ≡ Equal) same (tied_itself nat_list_cmp_total a)))
  | Equal ↦ λ is. inl (name_ties a b is)
  | Greater ↦ λ is. inr (λ same. apart' a b is (subst (λ x. slice_cmp nat_cmp a x ≡ Equal) same (tied_itself nat_list_cmp_total a)))
] refl
  where
    apart : (a b : List ℕ) → slice_cmp nat_cmp a b ≡ Less → slice_cmp nat_cmp a b ≡ Equal → ⊥
    apart a b less equal = let no : Less ≡ Equal = sym less ∙ equal in cc

    apart' : (a b : List ℕ) → slice_cmp nat_cmp a b ≡ Greater → slice_cmp nat_cmp a b ≡ Equal → ⊥
    apart' a b greater equal = let no : Greater ≡ Equal = sym greater ∙ equal in cc

-- an application is among these, or is not
among_or_not : (apps : List (List ℕ)) (app : List ℕ) → Contains apps app ⊎ (Contains apps app → ⊥)
among_or_not [] app = inr (none app)
among_or_not (first ∷ apps) app = elim (same_or_not first app) [
  | inl same ↦ inl (subst (Contains (first ∷ apps)) same (here first apps))
  | inr other ↦ elim (among_or_not apps app) [
    | inl there ↦ inl (further first app apps there)
    | inr never ↦ inr (λ there. elim (first_or_later first app apps there) [
      | inl same ↦ other same
      | inr later ↦ never later
    ])
  ]
]

-- where a link of the one lists is among the other, or its application is named, and the other way round, a list is the
-- same among both, or is named
pub lists_told : (was links : List Link) (apps : List (List ℕ))
    → ((link : Link) → Contains was link → Contains links link ⊎ Contains apps link.app)
    → ((link : Link) → Contains links link → Contains was link ⊎ Contains apps link.app)
    → (app : List ℕ) → HasSameList was links app ⊎ Contains apps app
lists_told was links apps on back app = elim (among_or_not apps app) [
  | inl named ↦ inr named
  | inr never ↦ inl (λ predecessor within. (
    (λ there. elim (on (record { app = app; predecessor = predecessor; within = within }) there) [
      | inl stays ↦ stays
      | inr named ↦ absurd (never named)
    ]),
    λ there. elim (back (record { app = app; predecessor = predecessor; within = within }) there) [
      | inl stood ↦ stood
      | inr named ↦ absurd (never named)
    ],
  ))
]

-- of each item so far something is said, and of one more
pub each_more : {X : Type 0} (P P' : X → Type 0) (xs : List X) (y : X) → ((x : X) → Contains xs x → P x)
    → ((x : X) → P x → P' x) → P' y → (x : X) → Contains (xs ++ y ∷ []) x → P' x
each_more P P' xs y so_far wider last x there = elim (Contains-push_cases xs y x there) [
  | inl old ↦ wider x (so_far x old)
  | inr same ↦ subst P' same last
]
