-- Statements for one item after another.
use Rattle.std.specs.Prelude.{List, [], ◌∷◌, fold, ⊤}
use Rattle.plan_tables_schema.specs.Rows.{Tables}

-- that holds of each, of the tables as they are when its turn comes
abbrev pub HoldsInTurn : {X : Type 0} → (X → Tables → Type 0) → (X → Tables → Tables) → List X → Tables → Type 0
HoldsInTurn P makes [] all = ⊤
HoldsInTurn P makes (x ∷ xs) all = P x all × HoldsInTurn P makes xs (makes x all)

-- what they make of the tables
abbrev pub made_in_turn : {X : Type 0} → (X → Tables → Tables) → List X → Tables → Tables
made_in_turn makes xs all = fold (λ (now : Tables) x. makes x now) all xs
