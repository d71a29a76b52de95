-- The rows that stand for uses, and one more use.
use Rattle.std.proofs.Common.{◌≡◌, ◌∙◌, ◌||◌, Bool, cond, true, false, not, refl, sym, ap, ℕ, List, [], ◌∷◌, ◌++◌}
use Rattle.std.proofs.Common.{Option, Some, None, map, inl, inr, ◌⊎◌}
use Rattle.std.specs.List.{fold}
use Rattle.std.specs.Str.{bytes_eq}
use Rattle.std.proofs.lemmas.List.{map-append}
use Rattle.clap.specs.Faults.{check_fault, defaults_fault, settle_fault, use_fault}
use Rattle.clap.specs.Kinds.{Kinds, or_else}
use Rattle.clap.specs.Takes.{is_given}
use Rattle.clap.specs.Walk.{Held, Row, Rule, arg_by_id, at_row, has_row, more_values, settled, finished}
use Rattle.clap.specs.Walk.{with_default, used, with_values}
use Rattle.clap.specs.declared.builder.value_parser.Reading.TheVariants.{AsWritten}
use Rattle.clap.specs.declared.parser.matches.ValueSource.TheVariants.{CommandLine}
use Rattle.planner_cli_stream.specs.Grammar.{Text, Use, is_used}
use Rattle.clap.specs.Simple.{Shape}
use Rattle.planner_cli_stream.proofs.Rules.{IsSet, set_rule, shape_with}
use Rattle.planner_cli_stream.proofs.Uses.{bool_cases, neither}

-- no kind is in the list
abbrev pub clean : Kinds → Bool
clean [] = true
clean (k ∷ ks) = false

abbrev pub row_for : Use → Row
row_for u = record { id = u.0; values = u.1 ∷ []; count = None; source = Some CommandLine; reading = AsWritten }

abbrev pub rows_for : List Use → List Row
rows_for us = map row_for us

pub has_row-rows_for : (us : List Use) (name : Text) → has_row name (rows_for us) ≡ is_used name us
has_row-rows_for [] name = refl
has_row-rows_for (u ∷ us) name = ap (λ b. bytes_eq u.0 name || b) (has_row-rows_for us name)

pub given-rows_for : (us : List Use) (name : Text) → is_given name (rows_for us) ≡ is_used name us
given-rows_for [] name = refl
given-rows_for (u ∷ us) name = go (bool_cases (bytes_eq u.0 name)) (given-rows_for us name)
  where
    go : (bytes_eq u.0 name ≡ true) ⊎ (bytes_eq u.0 name ≡ false) → is_given name (rows_for us) ≡ is_used name us
        → is_given name (rows_for (u ∷ us)) ≡ is_used name (u ∷ us)
    go (inl t) rest = rw t refl
    go (inr f) rest = rw f rest

at_no_row : (us : List Use) (name : Text) (change : Row → List Row) (missing : List Row) → is_used name us ≡ false
    → at_row name change missing (rows_for us) ≡ rows_for us ++ missing
at_no_row [] name change missing e = refl
at_no_row (u ∷ us) name change missing e =
    let q = neither (bytes_eq u.0 name) (is_used name us) e in
    rw q.0 (ap (λ rs. row_for u ∷ rs) (at_no_row us name change missing q.1))

append_none : {X : Type 0} (xs : List X) → xs ++ [] ≡ xs
append_none [] = refl
append_none (x ∷ xs) = ap (λ ys. x ∷ ys) (append_none xs)

-- a first use of a name puts its row at the end
pub used_first : (us : List Use) (name value : Text) (long : Option Text) (index : Option ℕ) (required : Bool)
    → is_used name us ≡ false
    → used (set_rule name long index required) (value ∷ []) (rows_for us) ≡ rows_for (us ++ (name, value) ∷ [])
used_first us name value long index required e =
    ap (λ rs. with_values name AsWritten CommandLine (value ∷ []) rs)
    (at_no_row us name (λ _. []) [] e ∙ append_none (rows_for us))
    ∙ at_no_row us name (more_values CommandLine (value ∷ [])) _ e ∙ sym (map-append row_for us ((name, value) ∷ []))

-- a use fails where the name has a row
pub use_clean : (us : List Use) (name value : Text) (long : Option Text) (index : Option ℕ) (required : Bool)
    → clean (use_fault false (set_rule name long index required) (value ∷ []) (rows_for us)) ≡ not (is_used name us)
use_clean us name value long index required = go (bool_cases (is_used name us))
  where
    go : (is_used name us ≡ true) ⊎ (is_used name us ≡ false)
        → clean (use_fault false (set_rule name long index required) (value ∷ []) (rows_for us)) ≡ not (is_used name us)
    go (inl t) = rw (has_row-rows_for us name ∙ t, t) refl
    go (inr f) = rw (has_row-rows_for us name ∙ f, f) refl

-- what is held before a word
abbrev pub held_at : List Use → Option (Text × List Text) → Held
held_at us p = record { rows = rows_for us; pending = p; skip = 0 }

pub settle_clean : (c : List Rule) (us : List Use) (name value : Text) → IsSet name (arg_by_id c name)
    → clean (settle_fault c false (held_at us (Some (name, value ∷ [])))) ≡ not (is_used name us)
settle_clean c us name value s = rw s.is (use_clean us name value s.long s.index s.required)

pub settled_first : (c : List Rule) (us : List Use) (name value : Text) → IsSet name (arg_by_id c name)
    → is_used name us ≡ false
    → settled c (held_at us (Some (name, value ∷ []))) ≡ held_at (us ++ (name, value) ∷ []) None
settled_first c us name value s e =
    rw s.is (ap (λ rs. record (held_at [] None) { rows = rs }) (used_first us name value s.long s.index s.required e))

-- a use with no value fails
pub settle_none : (c : List Rule) (us : List Use) (name : Text) → IsSet name (arg_by_id c name)
    → clean (settle_fault c false (held_at us (Some (name, [])))) ≡ false
settle_none c us name s = rw s.is refl

-- ---- the end of the words

abbrev pub checks_fault : Shape → List Row → Kinds
checks_fault s rows = or_else (defaults_fault rows s.rules) (check_fault s (fold with_default rows s.rules) false)

abbrev pub ending_fault : Shape → Held → Kinds
ending_fault s h = or_else (settle_fault s.rules false h) (checks_fault s (settled s.rules h).rows)

-- the rows at the end, where nothing fails
abbrev pub ending : List Rule → Held → Option (List Row)
ending c h = cond (clean (ending_fault (shape_with c) h)) (Some (finished c h)) None
