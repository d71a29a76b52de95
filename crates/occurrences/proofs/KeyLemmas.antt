-- Byte order, and the order of keys.
use Rattle.std.proofs.Common.{◌≡◌, ◌≢◌, ℕ, ◌<◌, List, [], ◌∷◌, ◌++◌, Bool, true, false, refl, sym, ◌∙◌, ap, subst}
use Rattle.std.proofs.Common.{inl, inr}
use Rattle.std.specs.Cmp.{IsTotalOrder, Equal-is, ranks, tied_itself, then_total, on_total, nat_cmp_total}
use Rattle.std.specs.Cmp.Lexicographic.{slice_cmp, nat_list_cmp_total}
use Rattle.std.specs.declared.cmp.Ordering.{Ordering}
use Rattle.std.specs.declared.cmp.Ordering.TheVariants.{Less, Equal, Greater}
use Rattle.std.specs.Ordering.{nat_cmp, MatchOrdering, ordering_then}
use Rattle.occurrences.specs.declared.key.Key.{Key}
use Rattle.occurrences.specs.Key.{IsLessAtOnce, ByteBefore, KeyBefore, key_cmp, key_eq}
use Rattle.occurrences.specs.Order.{IsStrictOrder, Ranks}
use Rattle.occurrences.proofs.OrderLemmas.{answer_means, ranked_strict, nat_less}

-- byte order is that of the comparison of lists of bytes
front_less : (front left right : List ℕ) → IsLessAtOnce left right
    → slice_cmp nat_cmp (front ++ left) (front ++ right) ≡ Less
front_less [] [] [] h = absurd h
front_less [] [] (y ∷ ys) h = refl
front_less [] (x ∷ xs) [] h = absurd h
front_less [] (x ∷ xs) (y ∷ ys) h = ap (λ o. ordering_then o (slice_cmp nat_cmp xs ys)) (nat_less x y h)
front_less (z ∷ zs) left right h =
    ap (λ o. ordering_then o (slice_cmp nat_cmp (zs ++ left) (zs ++ right))) (tied_itself nat_cmp_total z)
    ∙ front_less zs left right h

pub byte_less : (xs ys : List ℕ) → ByteBefore xs ys → slice_cmp nat_cmp xs ys ≡ Less
byte_less xs ys b = rw (b.first, b.second) (front_less b.common b.left b.right b.less)

before_on : (z : ℕ) (xs ys : List ℕ) → ByteBefore xs ys → ByteBefore (z ∷ xs) (z ∷ ys)
before_on z xs ys b =
    record {
      common = z ∷ b.common;
      left = b.left;
      right = b.right;
      first = ap (λ l. z ∷ l) b.first;
      second = ap (λ l. z ∷ l) b.second;
      less = b.less;
    }

before_at_once : (xs ys : List ℕ) → IsLessAtOnce xs ys → ByteBefore xs ys
before_at_once xs ys h = record { common = []; left = xs; right = ys; first = refl; second = refl; less = h }

step : (x y : ℕ) (xs ys : List ℕ) (o p : Ordering) → MatchOrdering o (x < y) (x ≡ y) (y < x)
    → MatchOrdering p (ByteBefore xs ys) (xs ≡ ys) (ByteBefore ys xs)
    → MatchOrdering (ordering_then o p) (ByteBefore (x ∷ xs) (y ∷ ys)) (x ∷ xs ≡ y ∷ ys) (ByteBefore (y ∷ ys) (x ∷ xs))
step x y xs ys Less p h k = before_at_once (x ∷ xs) (y ∷ ys) h
step x y xs ys Greater p h k = before_at_once (y ∷ ys) (x ∷ xs) h
step x y xs ys Equal Less h k = subst (λ z. ByteBefore (x ∷ xs) (z ∷ ys)) h (before_on x xs ys k)
step x y xs ys Equal Equal h k = cc
step x y xs ys Equal Greater h k = subst (λ z. ByteBefore (z ∷ ys) (x ∷ xs)) h (before_on x ys xs k)

pub byte_ranks : Ranks (slice_cmp nat_cmp) ByteBefore
byte_ranks [] [] = refl
byte_ranks [] (y ∷ ys) = before_at_once [] (y ∷ ys) tt
byte_ranks (x ∷ xs) [] = before_at_once [] (x ∷ xs) tt
byte_ranks (x ∷ xs) (y ∷ ys) = step x y xs ys (nat_cmp x y) (slice_cmp nat_cmp xs ys) (ranks x y) (byte_ranks xs ys)

-- the order of keys
pub key_cmp_total : IsTotalOrder key_cmp
key_cmp_total = then_total (on_total (λ k. k.ia) nat_cmp_total) (on_total (λ k. k.app) nat_list_cmp_total)

key_step : (a b : Key) (o p : Ordering) → MatchOrdering o (a.ia < b.ia) (a.ia ≡ b.ia) (b.ia < a.ia)
    → MatchOrdering p (ByteBefore a.app b.app) (a.app ≡ b.app) (ByteBefore b.app a.app)
    → MatchOrdering (ordering_then o p) (KeyBefore a b) (a ≡ b) (KeyBefore b a)
key_step a b Less p h k = inl h
key_step a b Greater p h k = inl h
key_step a b Equal Less h k = inr (h, k)
key_step a b Equal Equal h k = λ i. record { ia = h i; app = k i }
key_step a b Equal Greater h k = inr (sym h, k)

pub key_ranks : Ranks key_cmp KeyBefore
key_ranks a b = key_step a b (nat_cmp a.ia b.ia) (slice_cmp nat_cmp a.app b.app) (ranks a.ia b.ia)
    (byte_ranks a.app b.app)

pub key_less : (a b : Key) → KeyBefore a b → key_cmp a b ≡ Less
key_less a b h = elim h [
  | inl early ↦ ap (λ o. ordering_then o (slice_cmp nat_cmp a.app b.app)) (nat_less a.ia b.ia early)
  | inr pair ↦
      ap (λ o. ordering_then o (slice_cmp nat_cmp a.app b.app))
      (ap (λ n. nat_cmp a.ia n) (sym pair.0) ∙ tied_itself nat_cmp_total a.ia)
      ∙ byte_less a.app b.app pair.1
]

pub key_strict : IsStrictOrder KeyBefore
key_strict = ranked_strict key_cmp KeyBefore key_cmp_total key_ranks key_less

pub key_equal : (a b : Key) → key_cmp a b ≡ Equal → a ≡ b
key_equal a b e = answer_means key_cmp KeyBefore key_ranks a b Equal e

-- keys test as equal where they are equal, and nowhere else
pub same_key : (a b : Key) → key_eq a b ≡ true → a ≡ b
same_key a b is = key_equal a b ((Equal-is (key_cmp a b)).0 is)

pub key_same : (a b : Key) → a ≡ b → key_eq a b ≡ true
key_same a b same = (Equal-is (key_cmp a b)).1 (ap (key_cmp a) (sym same) ∙ tied_itself key_cmp_total a)

pub other_key : (a b : Key) → key_eq a b ≡ false → a ≢ b
other_key a b is same = let yes : key_eq a b ≡ true = key_same a b same in cc

pub key_other : (a b : Key) → a ≢ b → key_eq a b ≡ false
key_other a b differ = by_test (key_eq a b) refl
  where
    by_test : (t : Bool) → key_eq a b ≡ t → key_eq a b ≡ false
    by_test true is = absurd (differ (same_key a b is))
    by_test false is = is
