-- Lemmas on the rows that a list prints.
use Rattle.std.proofs.Common.{◌≡◌, ℕ, List, [], ◌∷◌, ◌++◌, sym, ap, ◌∙◌, append_assoc, append-nil}
use Rattle.std.specs.Prelude.{flat_map}
use Rattle.run_cycles.specs.declared.named.Named.{Named}
use Rattle.plan_listings.specs.Days.{IsDaysLine}
use Rattle.planner_cli.specs.Replies.{ended}
use Rattle.planner_cli.specs.Rows.{AreDaysLines}

-- one more row
pub rows_more : (xs : List Named) (rows : List (List ℕ)) (x : Named) (row : List ℕ) → AreDaysLines xs rows
    → IsDaysLine x row → AreDaysLines (xs ++ x ∷ []) (rows ++ row ∷ [])
rows_more [] [] x row h one = (one, tt)
rows_more [] (r ∷ rows) x row h one = absurd h
rows_more (y ∷ xs) [] x row h one = absurd h
rows_more (y ∷ xs) (r ∷ rows) x row h one = (h.0, rows_more xs rows x row h.1 one)

-- what one more row prints
pub flat_map_more : (rows : List (List ℕ)) (row : List ℕ)
    → flat_map ended (rows ++ row ∷ []) ≡ flat_map ended rows ++ ended row
flat_map_more [] row = append-nil (ended row)
flat_map_more (r ∷ rows) row = ap (λ l. ended r ++ l) (flat_map_more rows row)
    ∙ sym (append_assoc (ended r) (flat_map ended rows) (ended row))
