-- Which of two comes first, in the orders of names, keys, links, pairs and rows.
use Rattle.std.proofs.Common.{◌≡◌, ◌≢◌, ◌⊎◌, ℕ, ◌<◌, List, refl, sym, ap, ◌∙◌, inl, inr, arith}
use Rattle.std.proofs.Common.{Ordering, Less, Equal, Greater, get_or}
use Rattle.std.specs.Cmp.{IsTotalOrder, nat_cmp_total, on_total, ranks, then_total, tied_itself}
use Rattle.std.specs.Cmp.Lexicographic.{slice_cmp, nat_list_cmp_total}
use Rattle.std.specs.Ordering.{MatchOrdering, nat_cmp, ordering_reverse}
use Rattle.std.specs.List.{AllPairs, Contains}
use Rattle.std.proofs.lemmas.Bool.{cases_order}
use Rattle.std.proofs.lemmas.List.{get_or_default}
use Rattle.occurrences.specs.Key.{KeyBefore, key_cmp}
use Rattle.occurrences.specs.Order.{Ranks}
use Rattle.occurrences.specs.Row.{RowBefore}
use Rattle.occurrences.specs.declared.key.Key.{Key}
use Rattle.occurrences.specs.declared.row.Row.{Row}
use Rattle.occurrences.proofs.KeyLemmas.{key_cmp_total, key_ranks}
use Rattle.occurrences.proofs.OrderLemmas.{answer_means, then_equal}
use Rattle.external_dependencies.specs.Link.{HaveSameNames, link_cmp}
use Rattle.external_dependencies.specs.Pair.{pair_cmp}
use Rattle.external_dependencies.specs.declared.links.Link.{Link}
use Rattle.external_dependencies.specs.declared.pairs.Pair.{Pair}
use Rattle.external_dependencies.proofs.OrderLemmas.{link_ties, name_ties}
use Rattle.planner_answers.proofs.Finite.{Decided, decided_lt}
use Rattle.planner_answers.proofs.Ordered.{Ranked}

-- by a comparison that tells which comes first
pub ranked_by : {K : Type 0} (cmp : K → K → Ordering) (Before : K → K → Type 0) → Ranks cmp Before → (a b : K)
    → Ranked Before a b
ranked_by {K} cmp Before r a b = by_answer (cmp a b) (r a b)
  where
    by_answer : (o : Ordering) → MatchOrdering o (Before a b) (a ≡ b) (Before b a) → Ranked Before a b
    by_answer Less h = inl h
    by_answer Equal h = inr (inl h)
    by_answer Greater h = inr (inr h)

-- by a total order: the lesser comes first
pub ranked_less : {K : Type 0} (cmp : K → K → Ordering) → IsTotalOrder cmp → (a b : K) → (cmp a b ≡ Equal → a ≡ b)
    → Ranked (λ x y. cmp x y ≡ Less) a b
ranked_less {K} cmp total a b exact = by_answer (cmp a b) refl
  where
    by_answer : (o : Ordering) → cmp a b ≡ o → Ranked (λ x y. cmp x y ≡ Less) a b
    by_answer Less is = inl is
    by_answer Equal is = inr (inl (exact is))
    by_answer Greater is = inr (inr (total.antisymm b a ∙ ap ordering_reverse is))

pub key_ranked : (a b : Key) → Ranked KeyBefore a b
key_ranked = ranked_by key_cmp KeyBefore key_ranks

pub decided_key : (a b : Key) → Decided (a ≡ b)
decided_key a b = by_answer (key_cmp a b) refl
  where
    means : (o : Ordering) → key_cmp a b ≡ o → MatchOrdering o (KeyBefore a b) (a ≡ b) (KeyBefore b a)
    means o is = answer_means key_cmp KeyBefore key_ranks a b o is

    tied : a ≡ b → key_cmp a b ≡ Equal
    tied same = ap (key_cmp a) (sym same) ∙ tied_itself key_cmp_total a

    by_answer : (o : Ordering) → key_cmp a b ≡ o → Decided (a ≡ b)
    by_answer Less is = inr (λ same. let e = tied same in cc)
    by_answer Equal is = inl (means Equal is)
    by_answer Greater is = inr (λ same. let e = tied same in cc)

-- rows by key, then by serial
pub row_cases : (a b : Row) → RowBefore a b ⊎ (((a.key ≡ b.key) × (a.serial ≡ b.serial)) ⊎ RowBefore b a)
row_cases a b = elim (key_ranked a.key b.key) [
  | inl before ↦ inl (inl before)
  | inr (inl keys) ↦ elim (decided_lt a.serial b.serial) [
    | inl less ↦ inl (inr (keys, less))
    | inr not_less ↦ elim (decided_lt b.serial a.serial) [
      | inl more ↦ inr (inr (inr (sym keys, more)))
      | inr not_more ↦ inr (inl (keys, omega arith))
    ]
  ]
  | inr (inr after) ↦ inr (inr (inl after))
]

pub pair_total : IsTotalOrder pair_cmp
pair_total = then_total (on_total (λ (p : Pair). p.successor) nat_cmp_total)
    (on_total (λ (p : Pair). p.predecessor) nat_cmp_total)

number_ties : (x y : ℕ) → nat_cmp x y ≡ Equal → x ≡ y
number_ties x y is = answer_means nat_cmp (λ a b. a < b) ranks x y Equal is

pair_ties : (a b : Pair) → pair_cmp a b ≡ Equal → a ≡ b
pair_ties a b is =
    let both = then_equal (nat_cmp a.successor b.successor) _ is in
    let first = number_ties a.successor b.successor both.0 in
    let second = number_ties a.predecessor b.predecessor both.1 in
    λ i. record { successor = first i; predecessor = second i }

pub pair_ranked : (a b : Pair) → Ranked (λ x y. pair_cmp x y ≡ Less) a b
pair_ranked a b = ranked_less pair_cmp pair_total a b (pair_ties a b)

pub link_total : IsTotalOrder link_cmp
link_total = then_total (on_total (λ (l : Link). l.app) nat_list_cmp_total)
    (on_total (λ (l : Link). l.predecessor) nat_list_cmp_total)

pub link_ranked : (a b : Link) → (HaveSameNames a b → a ≡ b) → Ranked (λ x y. link_cmp x y ≡ Less) a b
link_ranked a b same = ranked_less link_cmp link_total a b (λ is. same (link_ties a b is))

-- names, of which none is the greater
pub name_at_most : (a b : List ℕ) → (slice_cmp nat_cmp a b ≢ Greater) ⊎ (slice_cmp nat_cmp b a ≢ Greater)
name_at_most a b = by_answer (slice_cmp nat_cmp a b) refl
  where
    by_answer : (o : Ordering) → slice_cmp nat_cmp a b ≡ o
        → (slice_cmp nat_cmp a b ≢ Greater) ⊎ (slice_cmp nat_cmp b a ≢ Greater)
    by_answer Less is = inl (λ h. cc)
    by_answer Equal is = inl (λ h. cc)
    by_answer Greater is = inr (λ h. let e : slice_cmp nat_cmp b a ≡ Less = nat_list_cmp_total.antisymm b a
        ∙ ap ordering_reverse is in cc)

-- what differs in its name is told by it
pub one_of_name : {X : Type 0} (name_of : X → List ℕ) (xs : List X)
    → AllPairs (λ x y. name_of x ≢ name_of y) xs → (x y : X) → Contains xs x → Contains xs y
    → name_of x ≡ name_of y → x ≡ y
one_of_name name_of xs own x y (i, lt_i, at_i) (j, lt_j, at_j) same = elim (cases_order i j) [
  | inl one ↦ sym at_i ∙ ap (λ n. get_or xs n x) one ∙ get_or_default xs j x y lt_j ∙ at_j
  | inr (inl below) ↦ absurd (own i j x below lt_j
      (ap name_of at_i ∙ same ∙ ap name_of (sym (get_or_default xs j x y lt_j ∙ at_j))))
  | inr (inr above) ↦ absurd (own j i y above lt_i
      (ap name_of at_j ∙ sym same ∙ ap name_of (sym (get_or_default xs i y x lt_i ∙ at_i))))
]

-- by name in byte order
pub name_ranked : {X : Type 0} (name_of : X → List ℕ) (x y : X) → (name_of x ≡ name_of y → x ≡ y)
    → Ranked (λ a b. slice_cmp nat_cmp (name_of a) (name_of b) ≡ Less) x y
name_ranked name_of x y same =
    elim (ranked_less (slice_cmp nat_cmp) nat_list_cmp_total (name_of x) (name_of y)
    (λ tie. name_ties (name_of x) (name_of y) tie)) [
      | inl less ↦ inl less
      | inr (inl names) ↦ inr (inl (same names))
      | inr (inr more) ↦ inr (inr more)
    ]
