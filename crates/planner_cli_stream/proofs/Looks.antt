-- What the lexer of `clap` makes of a word of each look.
use Rattle.std.proofs.Common.{◌≡◌, ◌∙◌, ◌==◌, Bool, true, false, refl, sym, ap, subst, arith, zero, suc, true≢false, ℕ}
use Rattle.std.proofs.Common.{[], ◌∷◌, Option, Some, None, inl, inr, ◌⊎◌}
use Rattle.std.specs.Str.{bytes_eq}
use Rattle.std.specs.List.{list_any}
use Rattle.clap.specs.Lexer.{long_of, short_of}
use Rattle.planner_cli_stream.specs.Grammar.{Look, Text, alone, dash_look, joined, long_look, look_of, plain, stray}
use Rattle.std.proofs.lemmas.Bool.{eq-eqb, eqb-true}
use Rattle.clap.proofs.CutLemmas.{Lacks, before_first-Lacks}
use Rattle.planner_cli_stream.proofs.Uses.{bool_cases, neither}

-- the word is no `--`, and `clap` cuts it as said
pub record Cuts (word : Text) (long : Option (Text × Option Text)) : Type 0 where
  pub not_dashes : bytes_eq word (45 ∷ 45 ∷ []) ≡ false
  pub long_is : long_of word ≡ long

abbrev pub IsRead : Text → Look → Type 0
IsRead word plain = Cuts word None × (short_of word ≡ None)
IsRead word (alone name) = Cuts word (Some (name, None))
IsRead word (joined name value) = Cuts word (Some (name, Some value))
IsRead word stray = Unit {0}

pub lacks : (xs : Text) → list_any (λ b. b == 61) xs ≡ false → Lacks 61 xs
lacks [] e i lt = absurd (omega arith)
lacks (x ∷ xs) e zero lt = λ h. true≢false (sym (eq-eqb x 61 h) ∙ (neither (x == 61) (list_any (λ b. b == 61) xs) e).0)
lacks (x ∷ xs) e (suc i) lt = lacks xs (neither (x == 61) (list_any (λ b. b == 61) xs) e).1 i (omega arith)

long_read : (x : ℕ) (xs : Text) → IsRead (45 ∷ 45 ∷ x ∷ xs) (long_look (x ∷ xs))
long_read x xs = go (list_any (λ b. b == 61) (x ∷ xs)) refl
  where
    go : (b : Bool) → list_any (λ b. b == 61) (x ∷ xs) ≡ b → IsRead (45 ∷ 45 ∷ x ∷ xs) (long_look (x ∷ xs))
    go true e = rw e (record { not_dashes = refl; long_is = rw e refl })
    go false e =
        rw e
        (record {
          not_dashes = refl;
          long_is = rw e (ap (λ t. Some (t, None)) (before_first-Lacks 61 (x ∷ xs) (lacks (x ∷ xs) e)));
        })

dash_read : (xs : Text) → IsRead (45 ∷ xs) (dash_look xs)
dash_read [] = tt
dash_read (x ∷ xs) = go (bool_cases (x == 45))
  where
    at : (ys : Text) → IsRead (45 ∷ 45 ∷ ys) (long_look ys)
    at [] = tt
    at (y ∷ ys) = long_read y ys

    go : (x == 45 ≡ true) ⊎ (x == 45 ≡ false) → IsRead (45 ∷ x ∷ xs) (dash_look (x ∷ xs))
    go (inl e) = rw e (subst (λ y. IsRead (45 ∷ y ∷ xs) (long_look xs)) (sym (eqb-true x 45 e)) (at xs))
    go (inr e) = rw e tt

pub reads : (word : Text) → IsRead word (look_of word)
reads [] = (record { not_dashes = refl; long_is = refl }, refl)
reads (x ∷ xs) = go (bool_cases (x == 45))
  where
    go : (x == 45 ≡ true) ⊎ (x == 45 ≡ false) → IsRead (x ∷ xs) (look_of (x ∷ xs))
    go (inl e) = rw e (subst (λ y. IsRead (y ∷ xs) (dash_look xs)) (sym (eqb-true x 45 e)) (dash_read xs))
    go (inr e) = rw e (record { not_dashes = rw e refl; long_is = rw e refl }, rw e refl)
