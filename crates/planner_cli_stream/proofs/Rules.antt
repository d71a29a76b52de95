-- The arguments of the built command, and how they are found.
use Rattle.std.proofs.Common.{◌≡◌, ◌∙◌, ◌||◌, ◌<◌, Bor, ◌+◌, Bool, cond, true, false, refl, sym, ap, ℕ, List, [], ◌∷◌}
use Rattle.std.proofs.Common.{◌++◌, Option, Some, None, map, take, length, append_assoc, true≢false, inl, inr, ◌⊎◌}
use Rattle.std.proofs.Common.{codes, add-one}
use Rattle.std.specs.List.{list_all, list_any, slice_index_or}
use Rattle.std.specs.Str.{bytes_eq}
use Rattle.std.proofs.lemmas.List.{map-append}
use Rattle.std.proofs.Math.Seq.{take-suc}
use Rattle.clap.specs.Faults.{is_simple_and_free}
use Rattle.clap.specs.Walk.{Rule, arg_by_id, arg_by_index, arg_by_long, is_early_multiple}
use Rattle.clap.specs.Simple.{App, Shape, built, is_simple, filled_from, new_rule, new_shape, with_rule}
use Rattle.clap.specs.declared.builder.action.ArgAction.TheVariants.{Set}
use Rattle.clap.specs.declared.builder.value_parser.ValueParser.TheVariants as vp
use Rattle.planner_cli_stream.specs.Grammar.{Choice, Layout, Text, is_option}
use Rattle.planner_cli_stream.specs.Command.{app_for, app_with, option_rule, word_rules}
use Rattle.planner_cli_stream.specs.Form.{choice, texts}
use Rattle.planner_cli_stream.proofs.Uses.{bool_cases, both, neither, same_text, eq_self, when_true}

-- an argument that takes one value, once
abbrev pub set_rule : Text → Option Text → Option ℕ → Bool → Rule
set_rule name long index required = record (new_rule name) {
  long = long;
  index = index;
  action = Some Set;
  range = Some (record { start_inclusive = 1; end_inclusive = 1 });
  parser = Some vp.String;
  required = required;
}

abbrev pub option_built : Choice → Rule
option_built o = set_rule o.0 (Some o.0) None o.1

abbrev pub word_built : Text → Rule
word_built name = set_rule name None (Some 1) true

abbrev pub words_built : Option Text → List Rule
words_built None = []
words_built (Some name) = word_built name ∷ []

abbrev pub rules_built : Layout → List Rule
rules_built l = words_built l.word ++ map option_built l.options

abbrev pub shape_with : List Rule → Shape
shape_with c = record (new_shape (codes "statement")) {
  rules = c;
  no_binary_name = true;
  disable_help_flag = true;
  disable_help_subcommand = true;
  is_built = true;
}

abbrev pub app_built : List Rule → App
app_built c = record { top = shape_with c; subs = [] }

-- ---- building

filled_options : (i : ℕ) (os : List Choice) → filled_from i (map option_rule os) ≡ map option_built os
filled_options i [] = refl
filled_options i (o ∷ os) = ap (λ rs. option_built o ∷ rs) (filled_options i os)

filled_all : (word : Option Text) (os : List Choice)
    → filled_from 1 (word_rules word ++ map option_rule os) ≡ words_built word ++ map option_built os
filled_all None os = filled_options 1 os
filled_all (Some name) os = ap (λ rs. word_built name ∷ rs) (filled_options 2 os)

pub built_is : (l : Layout) → built (app_for l) ≡ app_built (rules_built l)
built_is l = ap app_built (filled_all l.word l.options)

simple_options : (os : List Choice) → list_all (λ (a : Rule). a.is_simple) (map option_rule os) ≡ true
simple_options [] = refl
simple_options (o ∷ os) = simple_options os

built_simple : (os : List Choice) → list_all (λ (a : Rule). a.is_simple) (map option_built os) ≡ true
built_simple [] = refl
built_simple (o ∷ os) = built_simple os

built_free : (os : List Choice) → list_all (λ (a : Rule). a.is_free) (map option_built os) ≡ true
built_free [] = refl
built_free (o ∷ os) = built_free os

none_early : (n : ℕ) (os : List Choice) → list_any (is_early_multiple n) (map option_built os) ≡ false
none_early n [] = refl
none_early n (o ∷ os) = none_early n os

pub simple_and_free : (l : Layout) → is_simple_and_free (app_for l) ≡ true
simple_and_free l = go l.word
  where
    go : (word : Option Text) → is_simple_and_free (app_with word l.options) ≡ true
    go None =
        simp (
          simple_options l.options,
          filled_options 1 l.options,
          built_simple l.options,
          none_early,
          built_free l.options,
        )
    go (Some name) =
        simp (
          simple_options l.options,
          filled_options 2 l.options,
          built_simple l.options,
          none_early,
          built_free l.options,
        )

pub simple : (l : Layout) → is_simple (app_for l) ≡ true
simple l = (both _ _ (simple_and_free l)).0

-- ---- one more option

rules_more : (word : Option Text) (os : List Choice) (o : Choice)
    → (word_rules word ++ map option_rule os) ++ option_rule o ∷ [] ≡ word_rules word ++ map option_rule (os ++ o ∷ [])
rules_more word os o =
    append_assoc (word_rules word) (map option_rule os) (option_rule o ∷ [])
    ∙ ap (λ rs. word_rules word ++ rs) (sym (map-append option_rule os (o ∷ [])))

pub app_next : (word : Option Text) (os more : List Choice) (o : Choice) → os ++ o ∷ [] ≡ more
    → with_rule (app_with word os) (option_rule o) ≡ app_with word more
app_next word os more o is =
    ap (λ (rs : List Rule). record (app_with word []) {
      top = record (new_shape (codes "statement")) { rules = rs; no_binary_name = true; disable_help_flag = true };
    })
    (rules_more word os o ∙ ap (λ xs. word_rules word ++ map option_rule xs) is)

pub choices_next : (b : Bool) (items : List (Bor Text)) (i : ℕ) (d : Bor Text) → i < length items
    → map (choice b) (texts (take i items)) ++ choice b (slice_index_or items i d).now ∷ []
    ≡ map (choice b) (texts (take (i + 1) items))
choices_next b items i d lt =
    let x = slice_index_or items i d in
    let next : take (i + 1) items ≡ take i items ++ x ∷ [] = rw add-one (take-suc items i d lt) in
    sym (ap (λ ys. map (choice b) (texts ys)) next
    ∙ ap (map (choice b)) (map-append (λ (s : Bor Text). s.now) (take i items) (x ∷ []))
    ∙ map-append (choice b) (texts (take i items)) (x.now ∷ []))

-- ---- looking up

-- what was found is an argument of this name
pub record IsSet (name : Text) (found : Option Rule) : Type 0 where
  pub long : Option Text
  pub index : Option ℕ
  pub required : Bool
  pub is : found ≡ Some (set_rule name long index required)

options_known : (os : List Choice) (name : Text) → list_any (λ (o : Choice). bytes_eq o.0 name) os ≡ true
    → IsSet name (arg_by_long (map option_built os) name)
options_known [] name e = absurd (true≢false (sym e))
options_known (o ∷ os) name e = go (bool_cases (bytes_eq o.0 name)) (λ h. options_known os name h)
  where
    go : (bytes_eq o.0 name ≡ true) ⊎ (bytes_eq o.0 name ≡ false)
        → (list_any (λ (o : Choice). bytes_eq o.0 name) os ≡ true → IsSet name (arg_by_long (map option_built os) name))
        → IsSet name (arg_by_long (map option_built (o ∷ os)) name)
    go (inl t) rest = record {
      long = Some o.0;
      index = None;
      required = o.1;
      is = rw t (ap (λ (x : Text). Some (set_rule x (Some o.0) None o.1)) (same_text o.0 name t));
    }
    go (inr f) rest = rw f (rest (sym (ap (λ b. b || list_any (λ (o : Choice). bytes_eq o.0 name) os) f) ∙ e))

options_unknown : (os : List Choice) (name : Text) → list_any (λ (o : Choice). bytes_eq o.0 name) os ≡ false
    → arg_by_long (map option_built os) name ≡ None
options_unknown [] name e = refl
options_unknown (o ∷ os) name e =
    let q = neither (bytes_eq o.0 name) (list_any (λ (o : Choice). bytes_eq o.0 name) os) e in
    rw q.0 (options_unknown os name q.1)

options_by_id : (os : List Choice) (name : Text) → list_any (λ (o : Choice). bytes_eq o.0 name) os ≡ true
    → IsSet name (arg_by_id (map option_built os) name)
options_by_id [] name e = absurd (true≢false (sym e))
options_by_id (o ∷ os) name e = go (bool_cases (bytes_eq o.0 name)) (λ h. options_by_id os name h)
  where
    go : (bytes_eq o.0 name ≡ true) ⊎ (bytes_eq o.0 name ≡ false)
        → (list_any (λ (o : Choice). bytes_eq o.0 name) os ≡ true → IsSet name (arg_by_id (map option_built os) name))
        → IsSet name (arg_by_id (map option_built (o ∷ os)) name)
    go (inl t) rest = record {
      long = Some o.0;
      index = None;
      required = o.1;
      is = rw t (ap (λ (x : Text). Some (set_rule x (Some o.0) None o.1)) (same_text o.0 name t));
    }
    go (inr f) rest = rw f (rest (sym (ap (λ b. b || list_any (λ (o : Choice). bytes_eq o.0 name) os) f) ∙ e))

options_no_index : (os : List Choice) (n : ℕ) → arg_by_index (map option_built os) n ≡ None
options_no_index [] n = refl
options_no_index (o ∷ os) n = options_no_index os n

-- what a walk has to know of the arguments
pub record Knows (l : Layout) (c : List Rule) : Type 0 where
  pub known : (name : Text) → is_option l name ≡ true → IsSet name (arg_by_long c name)
  pub unknown : (name : Text) → is_option l name ≡ false → arg_by_long c name ≡ None
  pub by_id : (name : Text) → is_option l name ≡ true → IsSet name (arg_by_id c name)
  pub word_by_id : (name : Text) → l.word ≡ Some name → IsSet name (arg_by_id c name)
  pub word_first : (name : Text) → l.word ≡ Some name → IsSet name (arg_by_index c 1)
  pub no_word : l.word ≡ None → arg_by_index c 1 ≡ None
  pub word_once : arg_by_index c 2 ≡ None

word_or : (w name : Text) (found : Option Rule) → IsSet name found
    → IsSet name (cond (bytes_eq w name) (Some (word_built w)) found)
word_or w name found rest = go (bool_cases (bytes_eq w name))
  where
    go : (bytes_eq w name ≡ true) ⊎ (bytes_eq w name ≡ false)
        → IsSet name (cond (bytes_eq w name) (Some (word_built w)) found)
    go (inl t) =
        rw t
        (record {
          long = None;
          index = Some 1;
          required = true;
          is = ap (λ (x : Text). Some (word_built x)) (same_text w name t);
        })
    go (inr f) = rw f rest

here : (w name : Text) (found : Option Rule) → w ≡ name
    → IsSet name (cond (bytes_eq w name) (Some (word_built w)) found)
here w name found same = record {
  long = None;
  index = Some 1;
  required = true;
  is =
      when_true _ (Some (word_built w)) found (ap (λ (x : Text). bytes_eq x name) same ∙ eq_self name)
      ∙ ap (λ (x : Text). Some (word_built x)) same;
}

pub knows : (l : Layout) → Knows l (rules_built l)
knows l = go l.word
  where
    go : (word : Option Text)
        → Knows (record { options = l.options; word = word }) (words_built word ++ map option_built l.options)
    go None = record {
      known = λ name e. options_known l.options name e;
      unknown = λ name e. options_unknown l.options name e;
      by_id = λ name e. options_by_id l.options name e;
      word_by_id = λ name e. cc;
      word_first = λ name e. cc;
      no_word = λ e. options_no_index l.options 1;
      word_once = options_no_index l.options 2;
    }
    go (Some w) = record {
      known = λ name e. options_known l.options name e;
      unknown = λ name e. options_unknown l.options name e;
      by_id = λ name e. word_or w name _ (options_by_id l.options name e);
      word_by_id = λ name e. let same : w ≡ name = cc in here w name _ same;
      word_first = λ name e.
          let same : w ≡ name = cc in
          record { long = None; index = Some 1; required = true; is = ap (λ (x : Text). Some (word_built x)) same };
      no_word = λ e. cc;
      word_once = options_no_index l.options 2;
    }
