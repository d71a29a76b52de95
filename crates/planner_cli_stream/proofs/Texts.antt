-- No two values have the same text.
use Rattle.std.proofs.Common.{◌≡◌, ◌∙◌, List, Option, Some, find, sym, ap}
use Rattle.std.specs.Str.{bytes_eq}
use Rattle.planner_cli_stream.specs.Grammar.{Text}

abbrev value_by : {A : Type 0} → (A → Text) → List A → Text → Option A
value_by text all t = find (λ x. bytes_eq (text x) t) all

-- its text finds the value, in a list of all values
abbrev pub IsFound : {A : Type 0} → (A → Text) → List A → A → Type 0
IsFound text all x = value_by text all (text x) ≡ Some x

-- if that is so of each value, none has the text of another
pub same_text : {A : Type 0} (text : A → Text) (all : List A) → ((x : A) → IsFound text all x) → (x y : A)
    → text x ≡ text y → x ≡ y
same_text text all found x y e =
    let same : Some x ≡ Some y = sym (found x) ∙ ap (value_by text all) e ∙ found y in cc
