-- What a walk of `clap` makes of one word.
use Rattle.std.proofs.Common.{◌≡◌, ◌∙◌, ◌&&◌, Bool, cond, true, false, refl, sym, ap, ℕ, ◌+◌, min, List, [], ◌∷◌}
use Rattle.std.proofs.Common.{Option, Some, None, inl, inr, ◌⊎◌}
use Rattle.std.specs.Option.{option_map_or}
use Rattle.clap.specs.Lexer.{long_of, short_of, usize_max}
use Rattle.clap.specs.Faults.{bundle_fault, long_fault, settle_fault, step_fault, turn_fault, use_fault}
use Rattle.clap.specs.Faults.{positional_fault, stray_fault, flag_word_fault, other_fault}
use Rattle.clap.specs.Kinds.{Kinds, or_else}
use Rattle.clap.specs.Walk.{Held, Row, Rule, Step, Waiting, Walk, after_flag, after_step, arg_by_index, arg_by_long}
use Rattle.clap.specs.Walk.{idle, is_pending, pushed, short_or_plain, used, long_met, long_or_other, option, plain_word}
use Rattle.clap.specs.Walk.{settled, subcommand_met, subcommand_or_other, to_positional, walked}
use Rattle.planner_cli_stream.specs.Grammar.{Text}
use Rattle.planner_cli_stream.proofs.Looks.{Cuts}
use Rattle.planner_cli_stream.proofs.Rules.{IsSet, set_rule, shape_with}
use Rattle.planner_cli_stream.proofs.Rows.{checks_fault, clean, ending}

abbrev pub walk_in : Held → Waiting → ℕ → Walk
walk_in h waiting n = record { held = h; waiting = waiting; position = n; is_trailing = false; stopped = None }

-- the rows after the words, where nothing fails
unfoldable pub outcome : List Rule → Walk → List Text → Option (List Row)
outcome c w [] = ending c w.held
outcome c w (word ∷ words) =
    cond (clean (turn_fault (shape_with c) [] w word)) (outcome c (walked c [] w word) words) None

no_sub : (waiting : Waiting) (word : Text) → subcommand_met [] waiting word ≡ None
no_sub idle word = refl
no_sub _ word = refl

-- one turn, by what the word fails with and what it is
abbrev pub turned : List Rule → Held → Waiting → ℕ → Text → List Text → Kinds → Held × Step → Option (List Row)
turned c h waiting n word words fault m =
    cond (clean (or_else fault (step_fault (shape_with c) n m.0 m.1)))
    (outcome c (after_step c word (walk_in h waiting n) m.0 m.1) words) None

module _ (c : List Rule) (h : Held) (waiting : Waiting) (n : ℕ) (word : Text) (words : List Text) where
  turn_is : outcome c (walk_in h waiting n) (word ∷ words)
      ≡ turned c h waiting n word words (other_fault (shape_with c) None word h)
      (subcommand_or_other c None waiting n word h)
  unfolding outcome walked
  turn_is =
      ap
      (λ o. turned c h waiting n word words (other_fault (shape_with c) o word h)
      (subcommand_or_other c o waiting n word h))
      (no_sub waiting word)

  -- a word that begins with `--`
  abbrev pub long_turn : Option Text → Option Rule → Option (List Row)
  long_turn v found =
      turned c h waiting n word words (long_fault c false found v h)
      (after_flag c waiting word (long_met c found v h).0 (long_met c found v h).1)

  pub turn_long : (name : Text) (v : Option Text) → Cuts word (Some (name, v))
      → outcome c (walk_in h waiting n) (word ∷ words) ≡ long_turn v (arg_by_long c name)
  turn_long name v cuts =
      turn_is
      ∙ ap
      (λ b. turned c h waiting n word words (cond b [] (flag_word_fault c false (long_of word) word h))
      (cond b (h, Step.trailing n) (long_or_other c waiting word (long_of word) h)))
      cuts.not_dashes
      ∙ ap (λ o. turned c h waiting n word words (flag_word_fault c false o word h) (long_or_other c waiting word o h))
      cuts.long_is

  -- a word with no hyphen in front
  pub turn_plain : Cuts word None → short_of word ≡ None
      → outcome c (walk_in h waiting n) (word ∷ words)
      ≡ turned c h waiting n word words [] (plain_word c waiting word h)
  turn_plain cuts short =
      turn_is
      ∙ ap
      (λ b. turned c h waiting n word words (cond b [] (flag_word_fault c false (long_of word) word h))
      (cond b (h, Step.trailing n) (long_or_other c waiting word (long_of word) h)))
      cuts.not_dashes
      ∙ ap (λ o. turned c h waiting n word words (flag_word_fault c false o word h) (long_or_other c waiting word o h))
      cuts.long_is
      ∙ ap
      (λ o. turned c h waiting n word words (option_map_or (λ flags. bundle_fault c false flags h) o [])
      (short_or_plain c waiting word o h))
      short

  go_or : {A : Type 0} (k : Kinds) (x : Option A) → cond (clean (or_else k [])) x None ≡ cond (clean k) x None
  go_or [] x = refl
  go_or (k ∷ ks) x = refl

  pub long_waits : (name : Text) (long : Option Text) (index : Option ℕ) (required : Bool)
      → long_turn None (Some (set_rule name long index required))
      ≡ cond (clean (settle_fault c false h))
      (outcome c (walk_in (record (settled c h) { pending = Some (name, []) }) (option name) n) words) None
  long_waits name long index required = go_or (settle_fault c false h) _

  pub long_takes : (name v : Text) (long : Option Text) (index : Option ℕ) (required : Bool)
      → long_turn (Some v) (Some (set_rule name long index required))
      ≡ cond (clean
      (or_else (settle_fault c false h)
      (use_fault false (set_rule name long index required) (v ∷ []) (settled c h).rows)))
      (outcome c
      (walk_in
      (record h { rows = used (set_rule name long index required) (v ∷ []) (settled c h).rows; pending = None })
      idle n)
      words) None
  long_takes name v long index required =
      go_or
      (or_else (settle_fault c false h)
      (use_fault false (set_rule name long index required) (v ∷ []) (settled c h).rows))
      _

  -- a word that goes to the plain word's argument, if there is one
  abbrev pub word_turn : Option Rule → Option (List Row)
  word_turn found =
      cond (clean (option_map_or (λ a. positional_fault c false a h) found (stray_fault (shape_with c))))
      (outcome c (to_positional c found word (walk_in h idle n) h) words) None

  pub word_takes : (name : Text) (long : Option Text) (index : Option ℕ) (required : Bool)
      → word_turn (Some (set_rule name long index required))
      ≡ cond (clean (settle_fault c false h))
      (outcome c (walk_in (record (settled c h) { pending = Some (name, word ∷ []) }) idle (min (n + 1) usize_max))
      words)
      None
  word_takes name long index required = go (is_pending (set_rule name long index required) h.pending)
    where
      go : (b : Bool)
          → cond (clean (cond (b && false) [] (settle_fault c false h)))
          (outcome c (walk_in (pushed name word (cond (b && false) h (settled c h))) idle (min (n + 1) usize_max))
          words) None
          ≡ cond (clean (settle_fault c false h))
          (outcome c
          (walk_in (record (settled c h) { pending = Some (name, word ∷ []) }) idle (min (n + 1) usize_max))
          words)
          None
      go true = refl
      go false = refl

-- the search found nothing, or an argument that takes one value
abbrev pub IsFound : Option Rule → Type 0
IsFound found = (found ≡ None) ⊎ ((name : Text) × IsSet name found)

-- the word is read, and what it names is known
abbrev pub IsKnown : List Rule → ℕ → Text → Type 0
IsKnown c n word = (Cuts word None × (short_of word ≡ None) × IsFound (arg_by_index c n))
    ⊎ ((name : Text) × (v : Option Text) × Cuts word (Some (name, v)) × IsFound (arg_by_long c name))

pub split_or : {A : Type 0} (k m : Kinds) (x : Option A)
    → cond (clean (or_else k m)) x None ≡ cond (clean k) (cond (clean m) x None) None
split_or [] m x = refl
split_or (k ∷ ks) m x = refl

same_either : {X : Type 0} (b : Bool) (x : X) → x ≡ cond b x x
same_either true x = refl
same_either false x = refl

-- what is pending may be used before the next word, as after it
defers_word : (c : List Rule) (h : Held) (n : ℕ) (word : Text) (words : List Text) (found : Option Rule) → IsFound found
    → word_turn c h idle n word words found
    ≡ cond (clean (settle_fault c false h)) (word_turn c (settled c h) idle n word words found) None
defers_word c h n word words found (inl none) = rw none (same_either (clean (settle_fault c false h)) None)
defers_word c h n word words found (inr s) =
    let a = s.1 in
    rw a.is (word_takes c h idle n word words s.0 a.long a.index a.required
    ∙ ap (λ x. cond (clean (settle_fault c false h)) x None)
    (sym (word_takes c (settled c h) idle n word words s.0 a.long a.index a.required)))

defers_long : (c : List Rule) (h : Held) (n : ℕ) (word : Text) (words : List Text) (v : Option Text)
    (found : Option Rule)
    → IsFound found
    → long_turn c h idle n word words v found
    ≡ cond (clean (settle_fault c false h)) (long_turn c (settled c h) idle n word words v found) None
defers_long c h n word words v found (inl none) = rw none (same_either (clean (settle_fault c false h)) None)
defers_long c h n word words None found (inr s) =
    let a = s.1 in
    rw a.is (long_waits c h idle n word words s.0 a.long a.index a.required
    ∙ ap (λ x. cond (clean (settle_fault c false h)) x None)
    (sym (long_waits c (settled c h) idle n word words s.0 a.long a.index a.required)))
defers_long c h n word words (Some v) found (inr s) =
    let a = s.1 in
    rw a.is (long_takes c h idle n word words s.0 v a.long a.index a.required
    ∙ split_or (settle_fault c false h)
    (use_fault false (set_rule s.0 a.long a.index a.required) (v ∷ []) (settled c h).rows) _
    ∙ ap (λ x. cond (clean (settle_fault c false h)) x None)
    (sym (long_takes c (settled c h) idle n word words s.0 v a.long a.index a.required)))

pub defers : (c : List Rule) (h : Held) (n : ℕ) (word : Text) (words : List Text) → IsKnown c n word
    → outcome c (walk_in h idle n) (word ∷ words)
    ≡ cond (clean (settle_fault c false h)) (outcome c (walk_in (settled c h) idle n) (word ∷ words)) None
defers c h n word words (inl p) =
    turn_plain c h idle n word words p.0 p.1 ∙ defers_word c h n word words (arg_by_index c n) p.2
    ∙ ap (λ x. cond (clean (settle_fault c false h)) x None)
    (sym (turn_plain c (settled c h) idle n word words p.0 p.1))
defers c h n word words (inr p) =
    turn_long c h idle n word words p.0 p.1 p.2 ∙ defers_long c h n word words p.1 (arg_by_long c p.0) p.3
    ∙ ap (λ x. cond (clean (settle_fault c false h)) x None)
    (sym (turn_long c (settled c h) idle n word words p.0 p.1 p.2))

pub defers_end : (c : List Rule) (h : Held) (n : ℕ)
    → outcome c (walk_in h idle n) []
    ≡ cond (clean (settle_fault c false h)) (outcome c (walk_in (settled c h) idle n) []) None
unfolding outcome
defers_end c h n = split_or (settle_fault c false h) (checks_fault (shape_with c) (settled c h).rows) _
