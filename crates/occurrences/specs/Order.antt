-- What it means that a comparison is an order.
use Rattle.std.specs.Prelude.{◌≡◌}
use Rattle.std.specs.declared.cmp.Ordering.{Ordering}
use Rattle.std.specs.Ordering.{MatchOrdering}

-- what comes before what: nothing comes before itself, and the relation is transitive
pub record IsStrictOrder {K : Type 0} (Before : K → K → Type 0) : Type 0 where
  pub irreflexive : (a : K) → Before a a → ⊥
  pub transitive : (a b c : K) → Before a b → Before b c → Before a c

-- a comparison answers what comes first, and `Equal` at one value alone
abbrev pub Ranks : {K : Type 0} → (K → K → Ordering) → (K → K → Type 0) → Type 0
Ranks {K} cmp Before = (a b : K) → MatchOrdering (cmp a b) (Before a b) (a ≡ b) (Before b a)
