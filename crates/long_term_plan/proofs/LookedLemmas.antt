-- The rows of the applications that a statement looks at: of no others any goes or changes; and the rows of some
-- applications, one application after another.
use Rattle.std.proofs.Common.{◌≡◌, ◌⊎◌, ℕ, Bool, true, false, List, [], ◌∷◌, ◌++◌, filter, refl, sym, ap, subst, ◌∙◌}
use Rattle.std.proofs.Common.{inl, inr, Option, Some}
use Rattle.std.specs.Prelude.{◌&&◌, is_none, option_map, if◌then◌else◌}
use Rattle.std.specs.List.{Contains, filter_map}
use Rattle.std.specs.Ordering.{on}
use Rattle.std.proofs.lemmas.Cmp.{on_total}
use Rattle.std.proofs.lemmas.List.Elements.{Contains-append_cases, Contains-append_left, Contains-append_right}
use Rattle.std.proofs.lemmas.List.Elements.{Contains-push, Contains-push_cases}
use Rattle.std.proofs.lemmas.List.Kept.{AllPairs-filter}
use Rattle.std.specs.declared.cmp.Ordering.TheVariants.{Less}
use Rattle.occurrences.specs.declared.key.Key.{Key}
use Rattle.occurrences.specs.declared.row.Row.{Row}
use Rattle.external_dependencies.specs.Arrival.{arrival_cmp}
use Rattle.external_dependencies.specs.Nearest.{arrival_of}
use Rattle.external_dependencies.proofs.LexLemmas.{arrival_total}
use Rattle.external_dependencies.proofs.RisingLemmas.{rising_unique}
use Rattle.planner_machine.specs.declared.content.Draft.{Draft}
use Rattle.planner_machine.specs.Content.{Sets}
use Rattle.planner_machine.specs.Modify.{draft_with, is_generated, looks_at, stamped}
use Rattle.plan_store_lists.specs.Rows.{of_row}
use Rattle.plan_store.specs.Views.{IsAny, ListsSet}
use Rattle.plan_store.proofs.ViewLemmas.{once_from_rows}
use Rattle.plan_store_pairs.proofs.ListLemmas.{filter_has, filter_keeps, none}
use Rattle.long_term_plan.specs.Modifying.{AreChanged, AreOf, Looks, looks, outcome}
use Rattle.long_term_plan.proofs.ChangedLemmas.{looks_tests}
use Rattle.long_term_plan.proofs.ModifyingLemmas.{stays_self}
use Rattle.long_term_plan.proofs.PartingLemmas.{mapped_all, mapped_has}

and_false : (b : Bool) → (b && false) ≡ false
and_false true = refl
and_false false = refl

module _ (s : Sets) (only : Option (List ℕ)) (named : List Draft) where
  abbrev f : Row → Option Row
  f = outcome only named

  abbrev goes : Row → Bool
  goes row = is_none (f row)

  -- a row that the statement does not look at stays as it is
  stays_so : (row : Row) → looks only row.key.app ≡ false → f row ≡ Some row
  stays_so row other =
      let no : looks_at (looks only) row ≡ false =
      ap (λ b. is_generated row.origin && b) other ∙ and_false (is_generated row.origin) in
      ap (λ b. if b then option_map (λ draft. stamped draft row) (draft_with row.key named) else Some row) no

  module _ (rows : List Row) (lists : ListsSet of_row s.ltp IsAny rows) (looked : List Row)
      (own : ListsSet of_row s.ltp (λ row. Looks only row.key.app) looked) where
    to_rows : (row : Row) → Contains looked row → Contains rows row
    to_rows row there = (lists.exactly row).1 (((own.exactly row).0 there).0, tt)

    looked_or_so : (row : Row) → Contains rows row → Contains looked row ⊎ (f row ≡ Some row)
    looked_or_so row there =
        elim (looks only row.key.app) as (λ b. looks only row.key.app ≡ b → Contains looked row ⊎ (f row ≡ Some row)) [
          | true ↦ λ is. inl ((own.exactly row).1 (((lists.exactly row).0 there).0, (looks_tests only row.key.app).0 is))
          | false ↦ λ is. inr (stays_so row is)
        ] refl

    goes_looked : (row : Row) → Contains rows row → goes row ≡ true → Contains looked row
    goes_looked row there passes = elim (looked_or_so row there) [
      | inl at ↦ at
      | inr so ↦ let no : false ≡ true = sym (ap is_none so) ∙ passes in absurd (never no)
    ]
      where
        never : false ≡ true → ⊥
        never wrong = cc

    pub gone_same : filter (λ row. is_none (f row)) looked ≡ filter (λ row. is_none (f row)) rows
    gone_same = rising_unique (on arrival_of arrival_cmp) (on_total arrival_of arrival_total)
        (filter goes looked) (filter goes rows)
        (AllPairs-filter (λ (x y : Row). arrival_cmp (arrival_of x) (arrival_of y) ≡ Less) goes looked own.rows.keyed)
        (AllPairs-filter (λ (x y : Row). arrival_cmp (arrival_of x) (arrival_of y) ≡ Less) goes rows lists.rows.keyed)
        (λ row. (
          (λ there. let both = filter_has goes looked row there in
              filter_keeps goes rows row (to_rows row both.0) both.1),
          λ there. let both = filter_has goes rows row there in
              filter_keeps goes looked row (goes_looked row both.0 both.1) both.1,
        ))

    pub changed_same : (changed : List Row) → AreChanged f looked changed → AreChanged f rows changed
    changed_same changed is = record {
      from = λ x there. let (row, at, becomes, other) = is.from x there in (row, to_rows row at, becomes, other);
      all = λ row x there becomes. elim (looked_or_so row there) [
        | inl at ↦ is.all row x at becomes
        | inr so ↦ let same : Some row ≡ Some x = sym so ∙ becomes in inr (one row x same)
      ];
      once = λ _ keeps. is.once (once_from_rows of_row looked own.rows) keeps;
    }
      where
        one : (row x : Row) → Some row ≡ Some x → x ≡ row
        one row x same = cc

  -- ---- the rows that stay, one application after another

  module _ (rows : List Row) (lists : ListsSet of_row s.ltp IsAny rows) where
    pub none_of : (kept : List Row) → kept ≡ [] → AreOf [] (filter_map f rows) kept
    none_of kept is row = (
      (λ there. absurd (none row (subst (λ l. Contains l row) is there))),
      λ both. absurd (none row.key.app both.1),
    )

    module _ (apps : List (List ℕ)) (kept : List Row) (so_far : AreOf apps (filter_map f rows) kept) (app : List ℕ)
        (part : List Row) (own : ListsSet of_row s.ltp (λ row. row.key.app ≡ app) part) where
      forward : (x : Row) → Contains (kept ++ filter_map f part) x
          → Contains (filter_map f rows) x × Contains (apps ++ app ∷ []) x.key.app
      forward x there = elim (Contains-append_cases kept (filter_map f part) x there) [
        | inl old ↦
            let both = (so_far x).0 old in
            (both.0, Contains-append_left apps (app ∷ []) x.key.app both.1)
        | inr new ↦
            let (row, at, becomes) = mapped_has f part x new in
            let stands = (own.exactly row).0 at in
            let key : x.key ≡ row.key = (stays_self only named row x becomes).1 in
            let same : app ≡ x.key.app = sym stands.1 ∙ ap (λ (k : Key). k.app) (sym key) in (
              mapped_all f rows row x ((lists.exactly row).1 (stands.0, tt)) becomes,
              subst (Contains (apps ++ app ∷ [])) same (Contains-push apps app),
            )
      ]

      backward : (x : Row) → Contains (filter_map f rows) x × Contains (apps ++ app ∷ []) x.key.app
          → Contains (kept ++ filter_map f part) x
      backward x (there, in_apps) = elim (Contains-push_cases apps app x.key.app in_apps) [
        | inl old ↦ Contains-append_left kept (filter_map f part) x ((so_far x).1 (there, old))
        | inr same ↦
            let (row, at, becomes) = mapped_has f rows x there in
            let key : x.key ≡ row.key = (stays_self only named row x becomes).1 in
            let of_app : row.key.app ≡ app = ap (λ (k : Key). k.app) (sym key) ∙ sym same in
            let in_part = (own.exactly row).1 (((lists.exactly row).0 at).0, of_app) in
            Contains-append_right kept (filter_map f part) x (mapped_all f part row x in_part becomes)
      ]

      pub one_more_of : AreOf (apps ++ app ∷ []) (filter_map f rows) (kept ++ filter_map f part)
      one_more_of x = (forward x, backward x)

-- with all that is made
pub with_made_of : (apps : List (List ℕ)) (stay kept put : List Row) → AreOf apps stay kept
    → ((row : Row) → Contains put row → Contains apps row.key.app) → AreOf apps (stay ++ put) (kept ++ put)
with_made_of apps stay kept put are of_made row = (
  (λ there. elim (Contains-append_cases kept put row there) [
    | inl old ↦ let both = (are row).0 old in (Contains-append_left stay put row both.0, both.1)
    | inr new ↦ (Contains-append_right stay put row new, of_made row new)
  ]),
  λ both. elim (Contains-append_cases stay put row both.0) [
    | inl old ↦ Contains-append_left kept put row ((are row).1 (old, both.1))
    | inr new ↦ Contains-append_right kept put row new
  ],
)
