-- The grammar again, by how the words of each use are written.
use Rattle.std.specs.Prelude.{◌≡◌, ◌≢◌, ◌⊎◌, ◌==◌, true, false, List, [], ◌∷◌, ◌++◌, Some, codes}
use Rattle.std.specs.List.{list_any}
use Rattle.planner_cli_stream.specs.Grammar.{Layout, Text, Use, is_complete, is_distinct, is_option}

-- no hyphen in front
abbrev pub IsPlain : Text → Type 0
IsPlain [] = Unit {0}
IsPlain (x ∷ xs) = x ≢ 45

-- the name of an option, with no `=` (61) in it
abbrev pub NamesOption : Layout → Text → Type 0
NamesOption l name = (is_option l name ≡ true) × (list_any (λ b. b == 61) name ≡ false)

-- the words are those of one use and then the rest: the plain word, `--name value` or `--name=value`
abbrev pub Writes : Layout → Use → List Text → List Text → Type 0
Writes l u words rest = ((l.word ≡ Some u.0) × IsPlain u.1 × (words ≡ u.1 ∷ rest))
    ⊎ ((NamesOption l u.0 × (u.0 ≢ []) × IsPlain u.1 × (words ≡ (codes "--" ++ u.0) ∷ u.1 ∷ rest))
    ⊎ (NamesOption l u.0 × (words ≡ (codes "--" ++ (u.0 ++ (codes "=" ++ u.1))) ∷ rest)))

-- the words are those of the uses, one after another
abbrev pub WritesAll : Layout → List Use → List Text → Type 0
WritesAll l [] words = words ≡ []
WritesAll l (u ∷ us) words = (rest : List Text) × Writes l u words rest × WritesAll l us rest

-- and nothing is used twice, and what has to be there is there
pub record IsReading (l : Layout) (words : List Text) (us : List Use) : Type 0 where
  pub written : WritesAll l us words
  pub distinct : is_distinct us ≡ true
  pub complete : is_complete l us ≡ true
