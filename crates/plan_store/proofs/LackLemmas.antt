-- Predecessors of an application's rows that are lacking.
use Rattle.std.proofs.Common.{◌≡◌, ◌⊎◌, ◌∙◌, ℕ, Bool, true, false, List, [], ◌∷◌, ◌++◌}
use Rattle.std.proofs.Common.{refl, ap, ap₂, subst, inl, inr, Some, None, Option}
use Rattle.std.specs.List.{Contains}
use Rattle.std.specs.List.Sorted.{IsPermutation}
use Rattle.std.proofs.lemmas.List.Elements.{Contains-append_left, Contains-push, Contains-push_cases}
use Rattle.std.proofs.lemmas.List.Sorted.{Contains-permutation, IsPermutation-sym}
use Rattle.occurrences.specs.declared.row.Row.{Row}
use Rattle.external_dependencies.specs.declared.pairs.Pair.{Pair}
use Rattle.planner_machine.specs.Content.{Sets}
use Rattle.plan_store_lists.proofs.KeyLemmas.{nothing}
use Rattle.plan_store.specs.AppPairs.{AreLacking, HasAppPairs, IsLacking, lacks_end}
use Rattle.plan_store.specs.Listed.{row_at}
use Rattle.plan_store.proofs.ShownLemmas.{app_tests, tests_app}

module _ (app : List ℕ) (s : Sets) where
  lacks_so : (a b : Option Row) → lacks_end app a b ≡ true
      → ((row : Row) × (a ≡ Some row) × (row.key.app ≡ app)) × (b ≡ None)
  lacks_so (Some row) None is = ((row, refl, tests_app (Some app) row is), refl)
  lacks_so (Some row) (Some other) is = cc
  lacks_so None b is = cc

  so_lacks : (a b : Option Row) (row : Row) → a ≡ Some row → row.key.app ≡ app → b ≡ None → lacks_end app a b ≡ true
  so_lacks a b row at of none = ap₂ (lacks_end app) at none ∙ app_tests (Some app) row of

  pub lacks_none : AreLacking app s [] []
  lacks_none serial = (λ there. absurd (nothing serial there), λ is. absurd (nothing is.pair is.among))

  module _ (pairs : List Pair) (one : Pair) (serials : List ℕ) (so_far : AreLacking app s pairs serials) where
    abbrev lacks_one : Bool
    lacks_one = lacks_end app (row_at s one.successor) (row_at s one.predecessor)

    more : (serial : ℕ) → IsLacking app s pairs serial → IsLacking app s (pairs ++ one ∷ []) serial
    more serial is = record {
      pair = is.pair;
      among = Contains-append_left pairs (one ∷ []) is.pair is.among;
      predecessor = is.predecessor;
      successor = is.successor;
      stands = is.stands;
      of_app = is.of_app;
      lacks = is.lacks;
    }

    fewer : (serial : ℕ) (is : IsLacking app s (pairs ++ one ∷ []) serial) → IsLacking app s pairs serial
        ⊎ ((one.predecessor ≡ serial) × (lacks_one ≡ true))
    fewer serial is = elim (Contains-push_cases pairs one is.pair is.among) [
      | inl before ↦ inl (record {
        pair = is.pair;
        among = before;
        predecessor = is.predecessor;
        successor = is.successor;
        stands = is.stands;
        of_app = is.of_app;
        lacks = is.lacks;
      })
      | inr this ↦ inr (
        ap (λ (p : Pair). p.predecessor) this ∙ is.predecessor,
        ap (λ (p : Pair).
            lacks_end app (row_at s p.successor) (row_at s p.predecessor)) this
            ∙ so_lacks (row_at s is.pair.successor) (row_at s is.pair.predecessor) is.successor is.stands is.of_app is.lacks,
      )
    ]

    -- of one pair more
    pub lacks_more : lacks_one ≡ true → AreLacking app s (pairs ++ one ∷ []) (serials ++ one.predecessor ∷ [])
    lacks_more lacking serial = (
      λ there. elim (Contains-push_cases serials one.predecessor serial there) [
        | inl before ↦ more serial ((so_far serial).0 before)
        | inr this ↦
            let ((row, at, of), none) = lacks_so (row_at s one.successor) (row_at s one.predecessor) lacking in
            record {
              pair = one;
              among = Contains-push pairs one;
              predecessor = this;
              successor = row;
              stands = at;
              of_app = of;
              lacks = none;
            }
      ],
      λ is. elim (fewer serial is) [
        | inl before ↦ Contains-append_left serials (one.predecessor ∷ []) serial ((so_far serial).1 before)
        | inr this ↦ subst (Contains (serials ++ one.predecessor ∷ [])) this.0 (Contains-push serials one.predecessor)
      ],
    )

    -- of one that lacks nothing
    pub lacks_other : lacks_one ≡ false → AreLacking app s (pairs ++ one ∷ []) serials
    lacks_other known serial = (
      λ there. more serial ((so_far serial).0 there),
      λ is. elim (fewer serial is) [
        | inl before ↦ (so_far serial).1 before
        | inr this ↦ let lacking = this.1 in let never : ⊥ = cc in absurd never
      ],
    )

  -- of the application's pairs as of all
  pub lacks_found : (pairs found : List Pair) (serials sorted : List ℕ) → HasAppPairs app s pairs found
      → AreLacking app s found serials → IsPermutation serials sorted → AreLacking app s pairs sorted
  lacks_found pairs found serials sorted has are same serial = (
    λ there.
        let is = (are serial).0 (Contains-permutation sorted serials serial (IsPermutation-sym serials sorted same) there)
        in
        record {
          pair = is.pair;
          among = has.only is.pair is.among;
          predecessor = is.predecessor;
          successor = is.successor;
          stands = is.stands;
          of_app = is.of_app;
          lacks = is.lacks;
        },
    λ is. Contains-permutation serials sorted serial same ((are serial).1 (record {
      pair = is.pair;
      among = has.each is.pair is.successor is.among is.stands is.of_app;
      predecessor = is.predecessor;
      successor = is.successor;
      stands = is.stands;
      of_app = is.of_app;
      lacks = is.lacks;
    })),
  )
