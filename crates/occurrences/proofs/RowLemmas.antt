-- The order of rows.
use Rattle.std.proofs.Common.{◌≡◌, ◌≢◌, ◌<◌, refl, sym, ◌∙◌, ap, subst, inl, inr, arith}
use Rattle.std.specs.Cmp.{IsTotalOrder, ranks, tied_itself, then_total, on_total, nat_cmp_total}
use Rattle.std.specs.Cmp.Lexicographic.{slice_cmp, nat_list_cmp_total, options_total}
use Rattle.std.specs.declared.cmp.Ordering.{Ordering}
use Rattle.std.specs.declared.cmp.Ordering.TheVariants.{Less, Equal, Greater}
use Rattle.std.specs.Ordering.{nat_cmp, MatchOrdering, ordering_then}
use Rattle.occurrences.specs.declared.row.Origin.{Origin}
use Rattle.occurrences.specs.declared.row.Origin.TheVariants.{Added, Generated}
use Rattle.occurrences.specs.declared.row.Row.{Row}
use Rattle.occurrences.specs.Key.{ByteBefore, KeyBefore, key_cmp}
use Rattle.occurrences.specs.Order.{IsStrictOrder}
use Rattle.occurrences.specs.Row.{RowBefore, run_cycle_of, row_cmp, origin_cmp}
use Rattle.occurrences.proofs.OrderLemmas.{answer_means, nat_less, then_equal}
use Rattle.occurrences.proofs.KeyLemmas.{byte_ranks, key_cmp_total, key_equal, key_less, key_ranks, key_strict}

pub origin_cmp_total : IsTotalOrder origin_cmp
origin_cmp_total = on_total run_cycle_of (options_total nat_list_cmp_total)

pub row_cmp_total : IsTotalOrder row_cmp
row_cmp_total =
    then_total (on_total (λ r. r.key) key_cmp_total)
    (then_total (on_total (λ r. r.serial) nat_cmp_total)
    (then_total (on_total (λ r. r.deadline) nat_cmp_total) (on_total (λ r. r.origin) origin_cmp_total)))

rest_cmp : Row → Row → Ordering
rest_cmp a b = ordering_then (nat_cmp a.deadline b.deadline) (origin_cmp a.origin b.origin)

row_step : (a b : Row) → (a.serial ≡ b.serial → ⊥) → (o p q : Ordering)
    → MatchOrdering o (KeyBefore a.key b.key) (a.key ≡ b.key) (KeyBefore b.key a.key)
    → MatchOrdering p (a.serial < b.serial) (a.serial ≡ b.serial) (b.serial < a.serial)
    → MatchOrdering (ordering_then o (ordering_then p q)) (RowBefore a b) ⊥ (RowBefore b a)
row_step a b n Less p q h k = inl h
row_step a b n Greater p q h k = inl h
row_step a b n Equal Less q h k = inr (h, k)
row_step a b n Equal Equal q h k = absurd (n k)
row_step a b n Equal Greater q h k = inr (sym h, k)

-- rows of two serials: the comparison answers which comes first
pub row_ranks : (a b : Row) → a.serial ≢ b.serial → MatchOrdering (row_cmp a b) (RowBefore a b) ⊥ (RowBefore b a)
unfolding rest_cmp
row_ranks a b n =
    row_step a b n (key_cmp a.key b.key) (nat_cmp a.serial b.serial) (rest_cmp a b) (key_ranks a.key b.key)
    (ranks a.serial b.serial)

pub row_strict : IsStrictOrder RowBefore
row_strict = record { irreflexive = itself; transitive = onward }
  where
    itself : (a : Row) → RowBefore a a → ⊥
    itself a h = elim h [ inl k ↦ key_strict.irreflexive a.key k | inr p ↦ omega arith ]

    onward : (a b c : Row) → RowBefore a b → RowBefore b c → RowBefore a c
    onward a b c h k = elim h [
      | inl x ↦ elim k [
        | inl y ↦ inl (key_strict.transitive a.key b.key c.key x y)
        | inr q ↦ inl
            (subst (λ u. KeyBefore a.key u) q.0 x)
      ]
      | inr p ↦ elim k [
        | inl y ↦ inl (subst (λ u. KeyBefore u c.key) (sym p.0) y)
        | inr q ↦ inr
            (p.0 ∙ q.0, omega arith)
      ]
    ]

-- a row that comes before another compares as less, also where the two have one serial
pub row_less : (a b : Row) → RowBefore a b → row_cmp a b ≡ Less
unfolding rest_cmp
row_less a b h = elim h [
  | inl k ↦ ap (λ o. ordering_then o (ordering_then (nat_cmp a.serial b.serial) (rest_cmp a b)))
      (key_less a.key b.key k)
  | inr p ↦
      ap (λ o. ordering_then o (ordering_then (nat_cmp a.serial b.serial) (rest_cmp a b)))
      (ap (λ k. key_cmp a.key k) (sym p.0) ∙ tied_itself key_cmp_total a.key)
      ∙ ap (λ o. ordering_then o (rest_cmp a b)) (nat_less a.serial b.serial p.1)
]

-- what compares as equal is one value
origin_equal : (a b : Origin) → origin_cmp a b ≡ Equal → a ≡ b
origin_equal (Generated x) (Generated y) e =
    ap Generated (answer_means (slice_cmp nat_cmp) ByteBefore byte_ranks x y Equal e)
origin_equal (Generated x) Added e = absurd cc
origin_equal Added (Generated y) e = absurd cc
origin_equal Added Added e = refl

pub row_equal : (a b : Row) → row_cmp a b ≡ Equal → a ≡ b
row_equal a b e =
    let one = then_equal (key_cmp a.key b.key) _ e in
    let two = then_equal (nat_cmp a.serial b.serial) _ one.1 in
    let three = then_equal (nat_cmp a.deadline b.deadline) _ two.1 in
    let key = key_equal a.key b.key one.0 in
    let serial = answer_means nat_cmp (λ x y. x < y) ranks a.serial b.serial Equal two.0 in
    let deadline = answer_means nat_cmp (λ x y. x < y) ranks a.deadline b.deadline Equal three.0 in
    let origin = origin_equal a.origin b.origin three.1 in
    λ i. record { key = key i; serial = serial i; deadline = deadline i; origin = origin i }
