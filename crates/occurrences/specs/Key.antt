-- Keys of occurrences, and their order.
use Rattle.std.specs.Prelude.{◌≡◌, ℕ, ◌<◌, ◌⊎◌, Bool, List, [], ◌∷◌, ◌++◌}
use Rattle.std.specs.Cmp.Lexicographic.{slice_cmp}
use Rattle.std.specs.declared.cmp.Ordering.{Ordering}
use Rattle.std.specs.Ordering.{nat_cmp, on, then_cmp, is_eq}
use Rattle.occurrences.specs.declared.key.Key.{Key}

-- the first list has ended where the second goes on, or begins with the lesser byte
abbrev pub IsLessAtOnce : List ℕ → List ℕ → Type 0
IsLessAtOnce [] [] = ⊥
IsLessAtOnce [] (y ∷ ys) = Unit {0}
IsLessAtOnce (x ∷ xs) [] = ⊥
IsLessAtOnce (x ∷ xs) (y ∷ ys) = x < y

-- byte order: after what the two begin with in common, the first has ended or has the lesser byte
pub record ByteBefore (xs ys : List ℕ) : Type 0 where
  pub common : List ℕ
  pub left : List ℕ
  pub right : List ℕ
  pub first : xs ≡ common ++ left
  pub second : ys ≡ common ++ right
  pub less : IsLessAtOnce left right

-- the first key comes before the second: it arrives earlier, or at the same moment with its application
-- before in byte order
abbrev pub KeyBefore : Key → Key → Type 0
KeyBefore a b = (a.ia < b.ia) ⊎ ((a.ia ≡ b.ia) × ByteBefore a.app b.app)

-- how two keys compare: by input arrival, then by application in byte order
abbrev pub key_cmp : Key → Key → Ordering
key_cmp = then_cmp (on (λ k. k.ia) nat_cmp) (on (λ k. k.app) (slice_cmp nat_cmp))

-- whether two keys are equal
abbrev pub key_eq : Key → Key → Bool
key_eq a b = is_eq (key_cmp a b)
