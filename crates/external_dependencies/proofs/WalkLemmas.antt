-- Walks, one after another, and what a walk cannot leave.
use Rattle.std.proofs.Common.{◌≢◌, List, [], ◌∷◌, ◌++◌}
use Rattle.external_dependencies.specs.Walk.{IsWalk, Reaches}

module _ {V : Type 0} (E : V → V → Type 0) where
  -- a walk goes on where another ends
  pub walk-append : (u v w : V) (xs ys : List V) → IsWalk E u xs v → IsWalk E v ys w → IsWalk E u (xs ++ v ∷ ys) w
  walk-append u v w [] ys before after = (before, after)
  walk-append u v w (x ∷ xs) ys before after = (before.0, walk-append x v w xs ys before.1 after)

  -- so what is reached reaches on
  pub reaches-trans : (u v w : V) → Reaches E u v → Reaches E v w → Reaches E u w
  reaches-trans u v w (xs, before) (ys, after) = (xs ++ v ∷ ys, walk-append u v w xs ys before after)

  -- one step reaches
  pub reaches-step : (u v : V) → E u v → u ≢ v → Reaches E u v
  reaches-step u v edge differ = ([], (edge, differ))
