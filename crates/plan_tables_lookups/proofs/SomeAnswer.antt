-- There is an answer to each question.
use Rattle.std.proofs.Common.{◌≡◌, ◌+◌, Bool, true, false, cond, List, [], ◌∷◌, get_or, take, length, refl, arith}
use Rattle.std.proofs.Common.{zero, suc, ◌<◌, ℕ}
use Rattle.std.specs.Cmp.{IsStrictWeakOrder}
use Rattle.std.specs.List.{AllPairs}
use Rattle.std.specs.List.Sorted.{IsPermutation}
use Rattle.std.specs.Ordering.{is_lt}
use Rattle.std.proofs.lemmas.List.Elements.{All-cons}
use Rattle.std.proofs.lemmas.List.Kept.{AllPairs-cons}
use Rattle.std.proofs.lemmas.List.Sorted.{All-permutation, IsPermutation-cons, IsPermutation-middle}
use Rattle.std.proofs.lemmas.List.Sorted.{IsPermutation-refl, IsPermutation-trans, ranks_by}
use Rattle.sqlite.specs.Order.{Row}
use Rattle.sqlite_sql.proofs.QueryLemmas.{key_cmp_total}
use Rattle.plan_tables_lookups.specs.Question.{Answers, Question, asked_for, order_cmp, order_keys, order_values}
use Rattle.plan_tables_schema.specs.Rows.{Tables}

module _ {X : Type 0} (lt : X → X → Bool) (order : IsStrictWeakOrder lt) where
  -- the second does not belong before the first
  abbrev Follows : X → X → Type 0
  Follows a b = lt b a ≡ false

  none : AllPairs Follows []
  none i j d low within = absurd (omega (arith, within))

  first : (y : X) (ys : List X) → AllPairs Follows (y ∷ ys) → (k : ℕ) (d : X) → k < length ys
      → Follows y (get_or ys k d)
  first y ys up k d within = up zero (suc k) d (omega arith) (omega (arith, within))

  others : (y : X) (ys : List X) → AllPairs Follows (y ∷ ys) → AllPairs Follows ys
  others y ys up i j d low within = up (suc i) (suc j) d (omega (arith, low)) (omega (arith, within))

  put : (x : X) (ys : List X) → AllPairs Follows ys
      → (zs : List X) × IsPermutation (x ∷ ys) zs × AllPairs Follows zs
  put x [] up = (
    x ∷ [],
    IsPermutation-refl (x ∷ []),
    AllPairs-cons Follows x [] (λ k d within. absurd (omega (arith, within))) none,
  )
  put x (y ∷ ys) up = go (lt y x) refl (put x ys (others y ys up))
    where
      go : (b : Bool) → lt y x ≡ b → (zs : List X) × IsPermutation (x ∷ ys) zs × AllPairs Follows zs
          → (zs : List X) × IsPermutation (x ∷ y ∷ ys) zs × AllPairs Follows zs
      go true e (zs, same, rest) = (
        y ∷ zs,
        IsPermutation-trans (x ∷ y ∷ ys) (y ∷ x ∷ ys) (y ∷ zs) (IsPermutation-middle (x ∷ []) y ys)
            (IsPermutation-cons y (x ∷ ys) zs same),
        AllPairs-cons Follows y zs (All-permutation (Follows y) (x ∷ ys) zs same
            (All-cons (Follows y) x ys (order.one_way y x e) (first y ys up))) rest,
      )
      go false e _ = (
        x ∷ y ∷ ys,
        IsPermutation-refl (x ∷ y ∷ ys),
        AllPairs-cons Follows x (y ∷ ys) (All-cons (Follows x) y ys e (λ k d within.
            order.chain (get_or ys k d) y x (first y ys up k d within) e)) up,
      )

  in_order : (xs : List X) → (ys : List X) × IsPermutation xs ys × AllPairs Follows ys
  in_order [] = ([], IsPermutation-refl [], none)
  in_order (x ∷ xs) =
      let (ys, same, up) = in_order xs in
      let (zs, moved, rest) = put x ys up in
      (zs, IsPermutation-trans (x ∷ xs) (x ∷ ys) zs (IsPermutation-cons x xs ys same) moved, rest)

pub some_answer : (q : Question) (asked : Row) (all : Tables) → (rows : List Row) × Answers q asked all rows
some_answer q asked all =
    let (ordered, same, up) = in_order (λ a b. is_lt (order_cmp q a b))
    (ranks_by (key_cmp_total (order_keys q) 0) (order_values q)) (asked_for q asked all) in (
      cond q.is_one (take 1 ordered) ordered,
      record {
        ordered = ordered;
        same = same;
        sorted = λ k d low within. up k (k + 1) d (omega arith) within;
        is = refl;
      },
    )
