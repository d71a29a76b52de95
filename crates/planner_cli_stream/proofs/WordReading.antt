-- What `clap` says of the words is what the grammar says.
use Rattle.std.proofs.Common.{inl, inr, ◌⊎◌, Bool, List, None, Option, Some, [], ap, cond, false, is_some, refl, sym}
use Rattle.std.proofs.Common.{true, true≢false, ◌||◌, ◌∙◌, ◌∷◌, ◌≡◌, option_map, unwrap_or, slice_get}
use Rattle.std.specs.List.{fold, list_any}
use Rattle.std.specs.Option.{option_and_then}
use Rattle.std.specs.Str.{bytes_eq}
use Rattle.clap.specs.Faults.{built_fault, entered_fault, fault_of, level_fault, turn_fault, walk_fault}
use Rattle.clap.specs.Kinds.{IsAmong, Kinds, or_else}
use Rattle.clap.specs.Simple.{App, entered, matches_of, names_of}
use Rattle.clap.specs.Walk.{Row, Rule, Walk, finished, first_of, nothing_held, rows_after, walk_from, walked}
use Rattle.clap.specs.declared.error.kind.ErrorKind.{ErrorKind}
use Rattle.planner_cli_stream.specs.Command.{app_for}
use Rattle.planner_cli_stream.specs.Grammar.{Layout, Look, Text, Use, accepted, alone, before_rest, first_use, is_option}
use Rattle.planner_cli_stream.specs.Grammar.{is_stray, is_stray_look, joined, look_of, plain, reading_of, stray, uses_of}
use Rattle.planner_cli_stream.specs.Grammar.{value_in, value_use, word_use}
use Rattle.planner_cli_stream.specs.WordValues.{all_have_values, has_value, uses_in}
use Rattle.planner_cli_stream.proofs.Rules.{app_built, built_is, rules_built, shape_with}
use Rattle.planner_cli_stream.proofs.Rows.{clean, ending_fault, rows_for}
use Rattle.planner_cli_stream.proofs.Steps.{walks}
use Rattle.planner_cli_stream.proofs.Turns.{outcome}
use Rattle.planner_cli_stream.proofs.Uses.{bool_cases, both}

-- ---- the walk as `clap` states it

joins : {A : Type 0} (t r e : Kinds) (x : Option A) (y : A) → (cond (clean (or_else r e)) (Some y) None ≡ x)
    → cond (clean (or_else (or_else t r) e)) (Some y) None ≡ cond (clean t) x None
joins [] r e x y h = h
joins (k ∷ ks) r e x y h = refl

abbrev last_walk : List Rule → Walk → List Text → Walk
last_walk c w words = fold (walked c []) w words

outcome_is : (c : List Rule) (words : List Text) (w : Walk)
    → cond
    (clean
    (or_else (walk_fault (shape_with c) [] w words) (ending_fault (shape_with c) (last_walk c w words).held)))
    (Some (finished c (last_walk c w words).held)) None
    ≡ outcome c w words
unfolding outcome walk_fault
outcome_is c [] w = refl
outcome_is c (word ∷ words) w =
    joins (turn_fault (shape_with c) [] w word) (walk_fault (shape_with c) [] (walked c [] w word) words) _ _ _
    (outcome_is c words (walked c [] w word))

-- the rows, where no kind of error may come
abbrev rows_or_none : App → List Text → Option (List Row)
rows_or_none a words =
    cond (clean (built_fault a nothing_held words)) (Some (rows_after a.top.rules (names_of a) words)) None

at_top : (c : List Rule) (words : List Text)
    → rows_or_none (app_built c) words ≡ outcome c (walk_from nothing_held) words
at_top c words = go (last_walk c (walk_from nothing_held) words).stopped ∙ outcome_is c words (walk_from nothing_held)
  where
    go : (stop : Option (Text × List Text))
        → cond (clean
        (level_fault (shape_with c) [] nothing_held words
        (Rattle.std.specs.Option.is_some (entered (app_built c) stop)) (entered_fault (app_built c) stop)))
        (Some (finished c (last_walk c (walk_from nothing_held) words).held)) None
        ≡ cond (clean
        (or_else (walk_fault (shape_with c) [] (walk_from nothing_held) words)
        (ending_fault (shape_with c) (last_walk c (walk_from nothing_held) words).held)))
        (Some (finished c (last_walk c (walk_from nothing_held) words).held)) None
    go None = refl
    go (Some p) = refl

module _ (l : Layout) (words : List Text) (none : list_any is_stray words ≡ false) where
  reads_so : cond (clean (fault_of (app_for l) words)) (Some (matches_of (app_for l) words)) None
      ≡ option_map rows_for (reading_of l words)
  reads_so =
      ap (λ (a : App). rows_or_none a words) (built_is l) ∙ at_top (rules_built l) words
      ∙ walks l words none None [] false tt refl (λ e. absurd (true≢false (sym e)))

  -- a parse that succeeds gives the rows of the uses
  pub reads_ok : fault_of (app_for l) words ≡ []
      → (us : List Use) × (reading_of l words ≡ Some us) × (matches_of (app_for l) words ≡ rows_for us)
  reads_ok e =
      go (reading_of l words) refl
      (ap (λ k. cond (clean k) (Some (matches_of (app_for l) words)) None) (sym e) ∙ reads_so)
    where
      go : (r : Option (List Use)) → reading_of l words ≡ r
          → Some (matches_of (app_for l) words) ≡ option_map rows_for r
          → (us : List Use) × (reading_of l words ≡ Some us) × (matches_of (app_for l) words ≡ rows_for us)
      go None is h = cc
      go (Some us) is h = (us, is, cc)

  -- a parse that fails is of words that are not in the grammar
  pub reads_err : (k : ErrorKind) → IsAmong k (fault_of (app_for l) words) → reading_of l words ≡ None
  reads_err k among = go (fault_of (app_for l) words) refl among
    where
      none_of : (r : Option (List Use)) → None ≡ option_map rows_for r → r ≡ None
      none_of None h = refl
      none_of (Some us) h = cc

      go : (ks : Kinds) → fault_of (app_for l) words ≡ ks → IsAmong k ks → reading_of l words ≡ None
      go [] is h = absurd h
      go (x ∷ xs) is h =
          none_of (reading_of l words)
          (ap (λ kinds. cond (clean kinds) (Some (matches_of (app_for l) words)) None) (sym is) ∙ reads_so)

-- ---- words that are refused before

either_none : {A : Type 0} (b : Bool) (r : Option A) → r ≡ None → cond b r None ≡ None
either_none true r h = h
either_none false r h = refl

word_none : (w : Option Text) (word : Text) (r : Option (List Use)) → r ≡ None → word_use w word r ≡ None
word_none None word r h = refl
word_none (Some name) word r h = ap (before_rest name word) h

first_none : (l : Layout) (k : Look) (word : Text) (words : List Text)
    → (is_stray_look k || list_any is_stray words) ≡ true
    → ((waits : Option Text) → list_any is_stray words ≡ true → uses_of l waits words ≡ None)
    → first_use l k word (λ waits. uses_of l waits words) ≡ None
first_none l plain word words e rest = word_none l.word word _ (rest None e)
first_none l (alone name) word words e rest = either_none (is_option l name) _ (rest (Some name) e)
first_none l (joined name v) word words e rest =
    either_none (is_option l name) _ (ap (before_rest name v) (rest None e))
first_none l stray word words e rest = refl

value_none : (l : Layout) (k : Look) (name word : Text) (words : List Text)
    → (is_stray_look k || list_any is_stray words) ≡ true
    → ((waits : Option Text) → list_any is_stray words ≡ true → uses_of l waits words ≡ None)
    → value_use k name word (λ waits. uses_of l waits words) ≡ None
value_none l plain name word words e rest = ap (before_rest name word) (rest None e)
value_none l (alone other) name word words e rest = refl
value_none l (joined other v) name word words e rest = refl
value_none l stray name word words e rest = refl

stray_none : (l : Layout) (words : List Text) (waits : Option Text) → list_any is_stray words ≡ true
    → uses_of l waits words ≡ None
unfolding uses_of
stray_none l [] waits e = absurd (true≢false (sym e))
stray_none l (word ∷ words) None e = first_none l (look_of word) word words e (λ waits h. stray_none l words waits h)
stray_none l (word ∷ words) (Some name) e =
    value_none l (look_of word) name word words e (λ waits h. stray_none l words waits h)

-- words with a stray one are not in the grammar
pub stray_refused : (l : Layout) (words : List Text) → list_any is_stray words ≡ true → reading_of l words ≡ None
stray_refused l words e = ap (λ r. option_and_then (accepted l) r) (stray_none l words None e)

-- ---- the uses that rows stand for

pub uses_in-rows_for : (us : List Use) → uses_in (rows_for us) ≡ us
uses_in-rows_for [] = refl
uses_in-rows_for (u ∷ us) = ap (λ xs. u ∷ xs) (uses_in-rows_for us)

pub all_have_values-rows_for : (us : List Use) → all_have_values (rows_for us) ≡ true
all_have_values-rows_for [] = refl
all_have_values-rows_for (u ∷ us) = all_have_values-rows_for us

-- the first value of a name, where each row has one
pub value_in-uses_in : (rows : List Row) (name : Text) → all_have_values rows ≡ true
    → value_in (uses_in rows) name ≡ first_of name rows
value_in-uses_in [] name e = refl
value_in-uses_in (r ∷ rows) name e =
    let h = both (has_value r) (all_have_values rows) e in
    go (bool_cases (bytes_eq r.id name)) h.0 (value_in-uses_in rows name h.1)
  where
    there : (o : Option Text) → is_some o ≡ true → Some (unwrap_or o []) ≡ o
    there None h = cc
    there (Some v) h = refl

    go : (bytes_eq r.id name ≡ true) ⊎ (bytes_eq r.id name ≡ false) → has_value r ≡ true
        → value_in (uses_in rows) name ≡ first_of name rows
        → value_in (uses_in (r ∷ rows)) name ≡ first_of name (r ∷ rows)
    go (inl t) h rest = rw t (there (slice_get r.values 0) h)
    go (inr f) h rest = rw f rest
