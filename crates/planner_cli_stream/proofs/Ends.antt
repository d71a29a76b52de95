-- The checks at the end of the words.
use Rattle.std.proofs.Common.{◌≡◌, ◌∙◌, ◌&&◌, ◌||◌, Bool, cond, true, false, not, refl, ap, ap₂, List, [], ◌∷◌, ◌++◌}
use Rattle.std.proofs.Common.{Option, Some, None, map, option_map}
use Rattle.std.specs.List.{fold, list_all, list_any}
use Rattle.clap.specs.Faults.{check_fault, defaults_fault}
use Rattle.clap.specs.Kinds.{Kinds, or_else}
use Rattle.clap.specs.Takes.{is_given}
use Rattle.clap.specs.Walk.{Row, Rule, with_default, has_row}
use Rattle.planner_cli_stream.specs.Grammar.{Choice, Layout, Text, Use, is_complete, is_used}
use Rattle.planner_cli_stream.proofs.Rules.{option_built, rules_built, shape_with, word_built, words_built}
use Rattle.clap.specs.Simple.{Shape}
use Rattle.clap.specs.declared.error.kind.ErrorKind.TheVariants.{MissingRequiredArgument}
use Rattle.planner_cli_stream.proofs.Rows.{clean, ending, given-rows_for, held_at, rows_for}

same_either : {X : Type 0} (b : Bool) (x : X) → cond b x x ≡ x
same_either true x = refl
same_either false x = refl

fold_options : (os : List Choice) (rows : List Row) → fold with_default rows (map option_built os) ≡ rows
fold_options [] rows = refl
fold_options (o ∷ os) rows =
    ap (λ (rs : List Row). fold with_default rs (map option_built os)) (same_either (has_row o.0 rows) rows)
    ∙ fold_options os rows

pub fold_all : (l : Layout) (rows : List Row) → fold with_default rows (rules_built l) ≡ rows
fold_all l rows = go l.word
  where
    go : (word : Option Text) → fold with_default rows (words_built word ++ map option_built l.options) ≡ rows
    go None = fold_options l.options rows
    go (Some w) =
        ap (λ (rs : List Row). fold with_default rs (map option_built l.options)) (same_either (has_row w rows) rows)
        ∙ fold_options l.options rows

or_true : (b : Bool) → (b || true) ≡ true
or_true true = refl
or_true false = refl

defaults_options : (os : List Choice) (rows : List Row) → defaults_fault rows (map option_built os) ≡ []
unfolding defaults_fault
defaults_options [] rows = refl
defaults_options (o ∷ os) rows =
    rw (or_true (has_row o.0 rows)) (defaults_options os (with_default rows (option_built o)))

pub defaults_all : (l : Layout) (rows : List Row) → defaults_fault rows (rules_built l) ≡ []
unfolding defaults_fault
defaults_all l rows = go l.word
  where
    go : (word : Option Text) → defaults_fault rows (words_built word ++ map option_built l.options) ≡ []
    go None = defaults_options l.options rows
    go (Some w) = rw (or_true (has_row w rows)) (defaults_options l.options (with_default rows (word_built w)))

de_morgan : (r g y : Bool) → ((r && not g) || not y) ≡ not ((not r || g) && y)
de_morgan true true y = refl
de_morgan true false y = refl
de_morgan false g y = refl

abbrev is_missing : List Use → Rule → Bool
is_missing us a = a.required && not (is_given a.id (rows_for us))

missing_options : (os : List Choice) (us : List Use)
    → list_any (is_missing us) (map option_built os) ≡ not (list_all (λ (o : Choice). not o.1 || is_used o.0 us) os)
missing_options [] us = refl
missing_options (o ∷ os) us =
    ap₂ (λ g m. (o.1 && not g) || m) (given-rows_for us o.0) (missing_options os us)
    ∙ de_morgan o.1 (is_used o.0 us) (list_all (λ (o : Choice). not o.1 || is_used o.0 us) os)

missing_all : (l : Layout) (us : List Use) → list_any (is_missing us) (rules_built l) ≡ not (is_complete l us)
missing_all l us = go l.word
  where
    go : (word : Option Text)
        → list_any (is_missing us) (words_built word ++ map option_built l.options)
        ≡ not (is_complete (record { options = l.options; word = word }) us)
    go None = missing_options l.options us
    go (Some w) =
        ap₂ (λ g m. not g || m) (given-rows_for us w) (missing_options l.options us)
        ∙ de_morgan true (is_used w us) (list_all (λ (o : Choice). not o.1 || is_used o.0 us) l.options)

-- the end, where nothing is pending
pub ends : (l : Layout) (us : List Use)
    → ending (rules_built l) (held_at us None) ≡ option_map rows_for (cond (is_complete l us) (Some us) None)
ends l us =
    ap
    (λ (k : Kinds). cond (clean (or_else k (check_fault s (fold with_default (rows_for us) c) false)))
    (Some (fold with_default (rows_for us) c)) None)
    (defaults_all l (rows_for us))
    ∙ ap (λ (rs : List Row). cond (clean (check_fault s rs false)) (Some rs) None) (fold_all l (rows_for us))
    ∙ ap (λ (b : Bool). cond (clean (cond b (MissingRequiredArgument ∷ []) [])) (Some (rows_for us)) None)
    (missing_all l us)
    ∙ go (is_complete l us)
  where
    c : List Rule
    c = rules_built l

    s : Shape
    s = shape_with (rules_built l)

    go : (b : Bool)
        → cond (clean (cond (not b) (MissingRequiredArgument ∷ []) [])) (Some (rows_for us)) None
        ≡ option_map rows_for (cond b (Some us) None)
    go true = refl
    go false = refl
