-- Lemmas on lists of lines.
use Rattle.std.proofs.Common.{◌≡◌, ℕ, List, [], ◌∷◌, ◌++◌, sym, ap, ◌∙◌, append_assoc, append-nil}
use Rattle.std.specs.Prelude.{IfOk, Result, Ok, Err, flat_map}
use Rattle.plan_listings.specs.Line.{AreLinesOf, ended}

-- one more line
pub lines_more : {X : Type 0} (Is : X → List ℕ → Type 0) (xs : List X) (lines : List (List ℕ)) (x : X) (line : List ℕ)
    → AreLinesOf Is xs lines → Is x line → AreLinesOf Is (xs ++ x ∷ []) (lines ++ line ∷ [])
lines_more Is [] [] x line h one = (one, tt)
lines_more Is [] (r ∷ rows) x line h one = absurd h
lines_more Is (y ∷ xs) [] x line h one = absurd h
lines_more Is (y ∷ xs) (r ∷ rows) x line h one = (h.0, lines_more Is xs rows x line h.1 one)

-- what one more line prints
pub print_more : (lines : List (List ℕ)) (line : List ℕ) → flat_map ended (lines ++ line ∷ []) ≡ flat_map ended lines
    ++ ended line
print_more [] line = append-nil (ended line)
print_more (r ∷ rows) line = ap (λ l. ended r ++ l) (print_more rows line)
    ∙ sym (append_assoc (ended r) (flat_map ended rows) (ended line))

-- what follows of the value of a result
pub ok_map : {T E : Type 0} (r : Result T E) (P Q : T → Type 0) → ((x : T) → P x → Q x) → IfOk r P → IfOk r Q
ok_map (Ok x) P Q f h = f x h
ok_map (Err e) P Q f h = tt
