-- The pairs of one application.
use Rattle.std.proofs.Common.{◌≡◌, ◌↔◌, ◌∙◌, ℕ, ◌<◌, Bool, true, false, List, [], ◌∷◌, ◌++◌, length, get_or}
use Rattle.std.proofs.Common.{refl, sym, ap, ap₂, subst, inl, inr, arith, Some, None, Option}
use Rattle.std.specs.Prelude.{MatchOption, nat_eq}
use Rattle.std.specs.Cmp.Lexicographic.{bytes_decides, pointwise}
use Rattle.std.specs.FinMap.{nat_cmp-IsAntisymmetric}
use Rattle.std.specs.List.{Contains, HoldsAt}
use Rattle.std.specs.List.Sorted.{IsNonDecreasingBy, IsPartitionPoint}
use Rattle.std.specs.Ordering.{nat_cmp, ordering_index}
use Rattle.std.specs.declared.cmp.Ordering.TheVariants.{Less, Equal, Greater}
use Rattle.std.proofs.lemmas.Cmp.{nat_cmp_total}
use Rattle.std.proofs.lemmas.List.Elements.{Contains-append_cases, Contains-append_left, Contains-append_right}
use Rattle.std.proofs.lemmas.List.Elements.{Contains-get_or, Contains-push_cases}
use Rattle.std.proofs.lemmas.List.Sorted.{searchable_from_sorted}
use Rattle.occurrences.specs.declared.place.CurrentRow.{CurrentRow}
use Rattle.occurrences.specs.declared.place.Deletion.{Deletion}
use Rattle.occurrences.specs.declared.row.Row.{Row}
use Rattle.external_dependencies.specs.Pair.{pair_cmp}
use Rattle.external_dependencies.specs.Rising.{IsRising}
use Rattle.external_dependencies.specs.declared.pairs.Pair.{Pair}
use Rattle.planner_machine.specs.Content.{Content, Sets}
use Rattle.planner_machine.specs.Moves.{or_else}
use Rattle.planner_machine.specs.Shown.{ListsPairs}
use Rattle.planner_machine.specs.Sound.{AreNumbered}
use Rattle.plan_store_lists.specs.Rows.{OneEach, look_up, of_current, of_deletion, of_row}
use Rattle.plan_store_lists.proofs.KeyLemmas.{contains_first, contains_later, missed_all, nothing}
use Rattle.plan_store_lists.proofs.LookLemmas.{look_at, look_lacks, look_some}
use Rattle.plan_store.specs.AppPairs.{AddsPairs, AreBySerials, HasAppPairs, HasEnds, with_others}
use Rattle.plan_store.specs.Listed.{is_of_app, link_at, link_of, links_at, row_at, row_in, with_link}
use Rattle.plan_store.specs.Parts.{Rest, with_rest}
use Rattle.plan_store.specs.Views.{row_serial}
use Rattle.plan_store.proofs.ShownLemmas.{lists_some, tests_app}

-- what is found of a serial is what the set has under it
pub found_at : {X : Type 0} (row_of : X → Row) (xs : List X) → OneEach (λ x. (row_of x).serial) xs → (serial : ℕ)
    (o : Option X) → MatchOption o ((x : X) → Contains xs x → (row_of x).serial ≡ serial → ⊥)
    (λ x. Contains xs x × ((row_of x).serial ≡ serial)) → o ≡ look_up (λ x. (row_of x).serial) xs serial
found_at row_of xs one serial None lacks = sym (look_lacks (λ x. (row_of x).serial) xs serial lacks)
found_at row_of xs one serial (Some x) is = sym (look_at (λ x. (row_of x).serial) xs one x serial is.0 is.1)

-- what a search for a serial finds
module _ (rows : List Row) (are : AreBySerials rows) (serial : ℕ) where
  pub among_taken : (number : ℕ) → number ≡ serial → (i : ℕ) (row : Row) → i < length rows
      → HoldsAt (λ (r : Row). nat_cmp r.serial number ≡ Equal) rows i
      → Some (get_or rows i row) ≡ look_up row_serial rows serial
  among_taken number is i row lt tie =
      let found = get_or rows i row in
      let same : found.serial ≡ serial = nat_cmp-IsAntisymmetric found.serial number (tie row) ∙ is in
      sym (look_at row_serial rows are.one_each found serial (Contains-get_or rows i row lt) same)

  pub among_missed : (i : ℕ) → (IsNonDecreasingBy (λ (r : Row). ordering_index (nat_cmp r.serial serial)) rows
      → IsPartitionPoint (λ (r : Row). nat_cmp r.serial serial ≡ Less)
      (λ (r : Row). nat_cmp r.serial serial ≡ Greater) rows i) → None ≡ look_up row_serial rows serial
  among_missed i point =
      let lacks = missed_all nat_cmp_total nat_cmp-IsAntisymmetric row_serial rows serial i
      (point (searchable_from_sorted nat_cmp_total row_serial rows serial are.rising)) in
      sym (look_lacks row_serial rows serial lacks)

-- ---- pairs that are added

pub apps_apart : (a b : List ℕ) → pointwise nat_eq a b ≡ false → a ≡ b → ⊥
apps_apart a b other same =
    let yes : pointwise nat_eq a b ≡ true = (bytes_decides a b).1 same in
    let nothing_left : ⊥ = cc in
    nothing_left

module _ {X : Type 0} (row_of : X → Row) (app : List ℕ) (pairs : List Pair) where
  -- of no rows
  pub adds_begin : (old : List Pair) → AddsPairs row_of app pairs [] old old
  adds_begin old = record {
    stay = λ pair there. there;
    come = λ pair there. inl there;
    found = λ x pair there of_app among same. absurd (nothing x there);
  }

  module _ (rows : List X) (x : X) (old mid : List Pair) (adds : AddsPairs row_of app pairs rows old mid) where
    -- of one row more
    pub adds_row : (own : List Pair) → ((pair : Pair) → Contains own pair
        ↔ (Contains pairs pair × (pair.successor ≡ (row_of x).serial)))
        → AddsPairs row_of app pairs (rows ++ x ∷ []) old (mid ++ own)
    adds_row own all = record {
      stay = λ pair there. Contains-append_left mid own pair (adds.stay pair there);
      come = λ pair there. elim (Contains-append_cases mid own pair there) [
        | inl before ↦ adds.come pair before
        | inr new ↦ inr ((all pair).0 new).0
      ];
      found = λ y pair there of_app among same. elim (Contains-push_cases rows x y there) [
        | inl before ↦ Contains-append_left mid own pair (adds.found y pair before of_app among same)
        | inr this ↦ Contains-append_right mid own pair
            ((all pair).1 (among, same ∙ ap (λ z. (row_of z).serial) (sym this)))
      ];
    }

    -- of one that is of another application
    pub adds_other : ((row_of x).key.app ≡ app → ⊥) → AddsPairs row_of app pairs (rows ++ x ∷ []) old mid
    adds_other other = record {
      stay = adds.stay;
      come = adds.come;
      found = λ y pair there of_app among same. elim (Contains-push_cases rows x y there) [
        | inl before ↦ adds.found y pair before of_app among same
        | inr this ↦ absurd (other (ap (λ z. (row_of z).key.app) this ∙ of_app))
      ];
    }

-- the rows of an application in a set are among those of its list
pub part_has : {X : Type 0} (row_of : X → Row) (xs part : List X) (app : List ℕ)
    → ((x : X) → Contains part x ↔ (Contains xs x × ((row_of x).key.app ≡ app))) → (n : ℕ) (x : X)
    → look_up (λ x. (row_of x).serial) xs n ≡ Some x → (row_of x).key.app ≡ app
    → Contains part x × ((row_of x).serial ≡ n)
part_has row_of xs part app all n x at of_app =
    let there = look_some (λ x. (row_of x).serial) xs n x at in
    ((all x).1 (there.0, of_app), there.1)

-- the pairs of five lists
module _ (app : List ℕ) (s : Sets) (others : List Row) (pairs : List Pair) (ltp : List Row) (cp : List CurrentRow)
    (history : List Row) (deletions : List Deletion)
    (has_ltp : (n : ℕ) (x : Row) → s.ltp n ≡ Some x → x.key.app ≡ app → Contains ltp x × (x.serial ≡ n))
    (has_cp : (n : ℕ) (x : CurrentRow) → s.cp n ≡ Some x → x.row.key.app ≡ app → Contains cp x
    × (x.row.serial ≡ n))
    (has_history : (n : ℕ) (x : Row) → s.history n ≡ Some x → x.key.app ≡ app → Contains history x × (x.serial ≡ n))
    (has_deletions : (n : ℕ) (x : Deletion) → s.deletions n ≡ Some x → x.row.key.app ≡ app → Contains deletions x
    × (x.row.serial ≡ n))
    (one two three four five : List Pair) (first : AddsPairs of_row app pairs ltp [] one)
    (second : AddsPairs of_current app pairs cp one two) (third : AddsPairs of_row app pairs history two three)
    (fourth : AddsPairs of_deletion app pairs deletions three four)
    (fifth : AddsPairs of_row app pairs others four five) where
  come : (pair : Pair) → Contains five pair → Contains pairs pair
  come pair in_five = elim (fifth.come pair in_five) [
    | inr is ↦ is
    | inl in_four ↦ elim (fourth.come pair in_four) [
      | inr is ↦ is
      | inl in_three ↦ elim (third.come pair in_three) [
        | inr is ↦ is
        | inl in_two ↦ elim (second.come pair in_two) [
          | inr is ↦ is
          | inl in_one ↦ elim (first.come pair in_one) [
            | inr is ↦ is
            | inl none ↦ absurd (nothing pair none)
          ]
        ]
      ]
    ]
  ]

  module _ (pair : Pair) (row : Row) (among : Contains pairs pair) (of_app : row.key.app ≡ app) where
    abbrev serial : ℕ
    serial = pair.successor

    by_set : (a : Option Row) (b : Option CurrentRow) (h o : Option Row) (d : Option Deletion) → s.ltp serial ≡ a
        → s.cp serial ≡ b → s.history serial ≡ h → look_up row_serial others serial ≡ o → s.deletions serial ≡ d
        → row_in a b (or_else h o) d ≡ Some row → Contains five pair
    by_set (Some x) b h o d at_ltp at_cp at_history at_others at_deletions is =
        let this : x ≡ row = cc in
        let there = has_ltp serial x at_ltp (ap (λ (r : Row). r.key.app) this ∙ of_app) in
        fifth.stay pair (fourth.stay pair (third.stay pair (second.stay pair
        (first.found x pair there.0 (ap (λ (r : Row). r.key.app) this ∙ of_app) among (sym there.1)))))
    by_set None (Some x) h o d at_ltp at_cp at_history at_others at_deletions is =
        let this : x.row ≡ row = cc in
        let there = has_cp serial x at_cp (ap (λ (r : Row). r.key.app) this ∙ of_app) in
        fifth.stay pair (fourth.stay pair (third.stay pair
        (second.found x pair there.0 (ap (λ (r : Row). r.key.app) this ∙ of_app) among (sym there.1))))
    by_set None None (Some x) o d at_ltp at_cp at_history at_others at_deletions is =
        let this : x ≡ row = cc in
        let there = has_history serial x at_history (ap (λ (r : Row). r.key.app) this ∙ of_app) in
        fifth.stay pair (fourth.stay pair
        (third.found x pair there.0 (ap (λ (r : Row). r.key.app) this ∙ of_app) among (sym there.1)))
    by_set None None None (Some x) d at_ltp at_cp at_history at_others at_deletions is =
        let this : x ≡ row = cc in
        let there = look_some row_serial others serial x at_others in
        fifth.found x pair there.0 (ap (λ (r : Row). r.key.app) this ∙ of_app) among (sym there.1)
    by_set None None None None (Some x) at_ltp at_cp at_history at_others at_deletions is =
        let this : x.row ≡ row = cc in
        let there = has_deletions serial x at_deletions (ap (λ (r : Row). r.key.app) this ∙ of_app) in
        fifth.stay pair
        (fourth.found x pair there.0 (ap (λ (r : Row). r.key.app) this ∙ of_app) among (sym there.1))
    by_set None None None None None at_ltp at_cp at_history at_others at_deletions is = cc

  pub has_app_pairs : (found : List Pair) → ((pair : Pair) → Contains found pair ↔ Contains five pair)
      → HasAppPairs app (with_others others s) pairs found
  has_app_pairs found same = record {
    only = λ pair there. come pair ((same pair).0 there);
    each = λ pair row among is of_app. (same pair).1 (by_set pair row among of_app (s.ltp pair.successor)
        (s.cp pair.successor) (s.history pair.successor) (look_up row_serial others pair.successor)
        (s.deletions pair.successor) refl refl refl refl refl is);
  }

-- ---- what they show

module _ (app : List ℕ) (rest : Rest) (others : List Row) (c : Content) (has : HasEnds app rest others c) where
  abbrev whole : Content
  whole = with_rest rest c

  abbrev seen : Sets
  seen = with_others others c.sets

  link_other : (row : Row) (o : Option Row) → is_of_app (Some app) row ≡ false → link_of (Some app) (Some row) o ≡ None
  link_other row None is = refl
  link_other row (Some other) is = rw is refl

  -- a pair whose successor is of another application, or nowhere
  link_lacks : (pair : Pair) (a : Option Row) → row_at whole.sets pair.successor ≡ a
      → ((row : Row) → a ≡ Some row → is_of_app (Some app) row ≡ false) → link_at seen (Some app) pair ≡ None
  link_lacks pair a is none = elim (row_at seen pair.successor) as (λ o. row_at seen pair.successor ≡ o
      → link_of (Some app) o (row_at seen pair.predecessor) ≡ None) [
        | None ↦ λ _. refl
        | Some row ↦ λ e. link_other row (row_at seen pair.predecessor)
            (none row (sym is ∙ has.only pair.successor row e))
      ] refl

  link_same : (pair : Pair) → Contains c.pairs pair → link_at seen (Some app) pair
      ≡ link_at whole.sets (Some app) pair
  link_same pair there = by_row (row_at whole.sets pair.successor) refl
    where
      by_test : (row : Row) → row_at whole.sets pair.successor ≡ Some row → (t : Bool)
          → is_of_app (Some app) row ≡ t → link_at seen (Some app) pair
          ≡ link_of (Some app) (Some row) (row_at whole.sets pair.predecessor)
      by_test row is true e =
          let of_app = tests_app (Some app) row e in
          ap₂ (link_of (Some app)) (has.successors pair row there is of_app) (has.predecessors pair row there is of_app)
      by_test row is false e =
          link_lacks pair (Some row) is (λ r same. let this : row ≡ r = cc in
          subst (λ (x : Row). is_of_app (Some app) x ≡ false) this e)
          ∙ sym (link_other row (row_at whole.sets pair.predecessor) e)

      by_row : (o : Option Row) → row_at whole.sets pair.successor ≡ o → link_at seen (Some app) pair
          ≡ link_of (Some app) o (row_at whole.sets pair.predecessor)
      by_row None is = link_lacks pair None is (λ r none. cc)
      by_row (Some row) is = by_test row is (is_of_app (Some app) row) refl

  links_same : (pairs : List Pair) → ((pair : Pair) → Contains pairs pair → Contains c.pairs pair)
      → links_at seen (Some app) pairs ≡ links_at whole.sets (Some app) pairs
  links_same [] among = refl
  links_same (pair ∷ pairs) among = ap₂ with_link (link_same pair (among pair (contains_first pair pairs)))
      (links_same pairs (λ other there. among other (contains_later pair other pairs there)))

  pub lists_found : AreNumbered whole.sets → (found : List Pair) → IsRising pair_cmp found
      → HasAppPairs app seen c.pairs found → ListsPairs (Some app) whole (links_at seen (Some app) found)
  lists_found numbered found rises pairs = subst (ListsPairs (Some app) whole) (sym (links_same found pairs.only))
      (lists_some whole (Some app) numbered found rises pairs.only
      (λ pair row there is of_app. pairs.each pair row there (has.successors pair row there is of_app) of_app))

-- ---- lists that have all of their sets

module _ (c : Content) where
  or_nothing : (o : Option Row) → or_else o None ≡ o
  or_nothing None = refl
  or_nothing (Some row) = refl

  none_more : (serial : ℕ) → row_at (with_others [] c.sets) serial ≡ row_at c.sets serial
  none_more serial = ap (λ h. row_in (c.sets.ltp serial) (c.sets.cp serial) h (c.sets.deletions serial))
      (or_nothing (c.sets.history serial))

  pub has_own_ends : (app : List ℕ) (rest : Rest) → with_rest rest c ≡ c → HasEnds app rest [] c
  has_own_ends app rest is = record {
    ordered = record {
      rising = λ k d low high. absurd (omega arith);
      one_each = λ x y at_x at_y same. absurd (nothing x at_x);
    };
    only = λ serial row at. at_whole serial ∙ sym (none_more serial) ∙ at;
    successors = λ pair row there at of_app. none_more pair.successor ∙ sym (at_whole pair.successor) ∙ at;
    predecessors = λ pair row there at of_app. none_more pair.predecessor ∙ sym (at_whole pair.predecessor);
  }
    where
      at_whole : (serial : ℕ) → row_at (with_rest rest c).sets serial ≡ row_at c.sets serial
      at_whole serial = ap (λ (x : Content). row_at x.sets serial) is
