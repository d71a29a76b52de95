-- A walk of `clap` gives what the grammar gives.
use Rattle.std.proofs.Common.{◌≡◌, ◌∙◌, ◌&&◌, ◌||◌, Bool, cond, true, false, not, refl, sym, ap, ℕ, List, [], ◌∷◌, ◌++◌}
use Rattle.std.proofs.Common.{Option, Some, None, option_map, true≢false, inl, inr, ◌⊎◌, append-nil, nat_lt}
use Rattle.std.specs.List.{list_any}
use Rattle.std.specs.Option.{option_and_then}
use Rattle.std.specs.Str.{bytes_eq}
use Rattle.clap.specs.Lexer.{short_of}
use Rattle.clap.specs.Faults.{settle_fault}
use Rattle.clap.specs.Walk.{Held, Row, Rule, Step, Walk, arg_by_id, arg_by_index, arg_by_long, idle, option}
use Rattle.clap.specs.Walk.{option_word, settled, used}
use Rattle.planner_cli_stream.specs.Grammar.{Layout, Look, Text, Use, accepted, alone, before_rest, first_use, is_complete}
use Rattle.planner_cli_stream.specs.Grammar.{is_distinct, is_option, is_stray, is_stray_look, is_used, joined, look_of}
use Rattle.planner_cli_stream.specs.Grammar.{plain, stray, uses_of, value_use, word_use}
use Rattle.planner_cli_stream.proofs.Ends.{ends}
use Rattle.planner_cli_stream.proofs.Looks.{Cuts, IsRead, reads}
use Rattle.planner_cli_stream.proofs.Rules.{IsSet, knows, rules_built, set_rule}
use Rattle.planner_cli_stream.proofs.Rows.{clean, held_at, rows_for, settle_clean, settle_none, settled_first, use_clean}
use Rattle.planner_cli_stream.proofs.Rows.{used_first}
use Rattle.planner_cli_stream.proofs.Turns.{IsFound, IsKnown, defers, defers_end, long_takes, long_turn, long_waits}
use Rattle.planner_cli_stream.proofs.Turns.{outcome, split_or, turn_long, turn_plain, turned, walk_in, word_takes}
use Rattle.planner_cli_stream.proofs.Turns.{word_turn}
use Rattle.planner_cli_stream.proofs.Uses.{bool_cases, distinct_more, eq_self, is_used-middle, neither, refused_use}
use Rattle.planner_cli_stream.proofs.Uses.{taken_use, when_true, when_false}

-- the place of the next plain word, by whether there was one
abbrev pub position : Bool → ℕ
position false = 1
position true = 2

module _ (l : Layout) where
  abbrev c : List Rule
  c = rules_built l

  -- what the grammar makes of the words after the uses us
  abbrev pub read_on : List Use → Option (List Use) → Option (List Row)
  read_on us r = option_map rows_for (option_and_then (λ more. accepted l (us ++ more)) r)

  -- where there was a plain word, it is used
  abbrev pub Consumed : List Use → Bool → Type 0
  Consumed us b = b ≡ true → (name : Text) → l.word ≡ Some name → is_used name us ≡ true

  long_found : (name : Text) → IsFound (arg_by_long c name)
  long_found name = go (bool_cases (is_option l name))
    where
      go : (is_option l name ≡ true) ⊎ (is_option l name ≡ false) → IsFound (arg_by_long c name)
      go (inl t) = inr (name, (knows l).known name t)
      go (inr f) = inl ((knows l).unknown name f)

  index_found : (b : Bool) → IsFound (arg_by_index c (position b))
  index_found true = inl (knows l).word_once
  index_found false = go l.word refl
    where
      go : (word : Option Text) → l.word ≡ word → IsFound (arg_by_index c 1)
      go None e = inl ((knows l).no_word e)
      go (Some name) e = inr (name, (knows l).word_first name e)

  known_word : (b : Bool) (word : Text) → is_stray word ≡ false → IsKnown c (position b) word
  known_word b word e = go (look_of word) (reads word) e
    where
      go : (k : Look) → IsRead word k → is_stray_look k ≡ false → IsKnown c (position b) word
      go plain r h = inl (r.0, r.1, index_found b)
      go (alone name) r h = inr (name, None, r, long_found name)
      go (joined name v) r h = inr (name, Some v, r, long_found name)
      go stray r h = absurd (true≢false h)

  -- a value that is pending counts as used, where its name was not
  late : (us : List Use) (name v : Text) (b : Bool) (words : List Text) → IsSet name (arg_by_id c name)
      → list_any is_stray words ≡ false
      → outcome c (walk_in (held_at us (Some (name, v ∷ []))) idle (position b)) words
      ≡ cond (is_used name us) None (outcome c (walk_in (held_at (us ++ (name, v) ∷ []) None) idle (position b)) words)
  late us name v b words s none =
      deferred words none
      ∙ ap (λ a. cond a (outcome c (walk_in (settled c h) idle (position b)) words) None) (settle_clean c us name v s)
      ∙ go (bool_cases (is_used name us))
    where
      h : Held
      h = held_at us (Some (name, v ∷ []))

      deferred : (ws : List Text) → list_any is_stray ws ≡ false
          → outcome c (walk_in h idle (position b)) ws
          ≡ cond (clean (settle_fault c false h)) (outcome c (walk_in (settled c h) idle (position b)) ws) None
      deferred [] e = defers_end c h (position b)
      deferred (x ∷ xs) e =
          defers c h (position b) x xs (known_word b x (neither (is_stray x) (list_any is_stray xs) e).0)

      go : (is_used name us ≡ true) ⊎ (is_used name us ≡ false)
          → cond (not (is_used name us)) (outcome c (walk_in (settled c h) idle (position b)) words) None
          ≡ cond (is_used name us) None
          (outcome c (walk_in (held_at (us ++ (name, v) ∷ []) None) idle (position b)) words)
      go (inl t) = rw t refl
      go (inr f) =
          rw f (ap (λ (x : Held). outcome c (walk_in x idle (position b)) words) (settled_first c us name v s f))

  abbrev pub walk_for : List Use → Option Text → Bool → Walk
  walk_for us None b = walk_in (held_at us None) idle (position b)
  walk_for us (Some name) b = walk_in (held_at us (Some (name, []))) (option name) (position b)

  abbrev pub Waits : Option Text → Type 0
  Waits None = Unit {0}
  Waits (Some name) = is_option l name ≡ true

  -- the claim, of the words after
  abbrev pub Claim : List Text → Type 0
  Claim words = (waits : Option Text) (us : List Use) (b : Bool) → Waits waits → is_distinct us ≡ true → Consumed us b
      → outcome c (walk_for us waits b) words ≡ read_on us (uses_of l waits words)

  next_use : (us : List Use) (name v : Text) (b : Bool) (words : List Text) → Claim words → is_distinct us ≡ true
      → Consumed (us ++ (name, v) ∷ []) b
      → cond (is_used name us) None (outcome c (walk_in (held_at (us ++ (name, v) ∷ []) None) idle (position b)) words)
      ≡ read_on us (before_rest name v (uses_of l None words))
  next_use us name v b words rest d taken = go (bool_cases (is_used name us))
    where
      go : (is_used name us ≡ true) ⊎ (is_used name us ≡ false)
          → cond (is_used name us) None
          (outcome c (walk_in (held_at (us ++ (name, v) ∷ []) None) idle (position b)) words)
          ≡ read_on us (before_rest name v (uses_of l None words))
      go (inl t) = rw t (sym (ap (option_map rows_for) (refused_use l us name v (uses_of l None words) t)))
      go (inr f) =
          rw f
          (rest None (us ++ (name, v) ∷ []) b tt (distinct_more us name v d f) taken
          ∙ sym (ap (option_map rows_for) (taken_use l us name v (uses_of l None words))))

  used_more : (us : List Use) (u : Use) (name : Text) → is_used name us ≡ true → is_used name (us ++ u ∷ []) ≡ true
  used_more [] u name e = absurd (true≢false (sym e))
  used_more (x ∷ us) u name e = go (bytes_eq x.0 name) e (λ h. used_more us u name h)
    where
      go : (b : Bool) → (b || is_used name us) ≡ true → (is_used name us ≡ true → is_used name (us ++ u ∷ []) ≡ true)
          → (b || is_used name (us ++ u ∷ [])) ≡ true
      go true h rest = refl
      go false h rest = rest h

  taken_more : (us : List Use) (u : Use) (b : Bool) → Consumed us b → Consumed (us ++ u ∷ []) b
  taken_more us u b taken t name e = used_more us u name (taken t name e)

  -- ---- a word where an option may stand

  module _ (word : Text) (words : List Text) (us : List Use) (b : Bool) (rest : Claim words) (d : is_distinct us ≡ true)
      (taken : Consumed us b) (none : list_any is_stray words ≡ false) where
    h : Held
    h = held_at us None

    first_alone : (name : Text) → Cuts word (Some (name, None))
        → outcome c (walk_in (held_at us None) idle (position b)) (word ∷ words)
        ≡ read_on us (cond (is_option l name) (uses_of l (Some name) words) None)
    first_alone name cuts =
        turn_long c (held_at us None) idle (position b) word words name None cuts ∙ go (bool_cases (is_option l name))
      where
        go : (is_option l name ≡ true) ⊎ (is_option l name ≡ false)
            → long_turn c (held_at us None) idle (position b) word words None (arg_by_long c name)
            ≡ read_on us (cond (is_option l name) (uses_of l (Some name) words) None)
        go (inl t) =
            let s = (knows l).known name t in
            ap (long_turn c (held_at us None) idle (position b) word words None) s.is
            ∙ long_waits c (held_at us None) idle (position b) word words name s.long s.index s.required
            ∙ rest (Some name) us b t d taken
            ∙ ap (read_on us) (sym (when_true _ (uses_of l (Some name) words) None t))
        go (inr f) =
            ap (long_turn c (held_at us None) idle (position b) word words None) ((knows l).unknown name f)
            ∙ ap (read_on us) (sym (when_false _ (uses_of l (Some name) words) None f))

    first_joined : (name v : Text) → Cuts word (Some (name, Some v))
        → outcome c (walk_in (held_at us None) idle (position b)) (word ∷ words)
        ≡ read_on us (cond (is_option l name) (before_rest name v (uses_of l None words)) None)
    first_joined name v cuts =
        turn_long c (held_at us None) idle (position b) word words name (Some v) cuts
        ∙ go (bool_cases (is_option l name))
      where
        unused : (s : IsSet name (arg_by_long c name)) → (is_used name us ≡ true) ⊎ (is_used name us ≡ false)
            → cond (not (is_used name us))
            (outcome c
            (walk_in
            (record
            (held_at us None) {
              rows =
                  used (set_rule name s.long s.index s.required) (v ∷ []) (rows_for us);
            })
            idle (position b))
            words)
            None
            ≡ cond (is_used name us) None
            (outcome c (walk_in (held_at (us ++ (name, v) ∷ []) None) idle (position b)) words)
        unused s (inl t) = rw t refl
        unused s (inr f) =
            rw f
            (ap
            (λ (rs : List Row). outcome c (walk_in (record (held_at us None) { rows = rs }) idle (position b))
            words)
            (used_first us name v s.long s.index s.required f))

        go : (is_option l name ≡ true) ⊎ (is_option l name ≡ false)
            → long_turn c (held_at us None) idle (position b) word words (Some v) (arg_by_long c name)
            ≡ read_on us (cond (is_option l name) (before_rest name v (uses_of l None words)) None)
        go (inl t) =
            let s = (knows l).known name t in
            ap (long_turn c (held_at us None) idle (position b) word words (Some v)) s.is
            ∙ long_takes c (held_at us None) idle (position b) word words name v s.long s.index s.required
            ∙ ap (λ a. cond a
            (outcome c
            (walk_in
            (record
            (held_at us None) {
              rows =
                  used (set_rule name s.long s.index s.required) (v ∷ []) (rows_for us);
            })
            idle (position b))
            words)
            None)
            (use_clean us name v s.long s.index s.required)
            ∙ unused s (bool_cases (is_used name us))
            ∙ next_use us name v b words rest d (taken_more us (name, v) b taken)
            ∙ ap (read_on us) (sym (when_true _ (before_rest name v (uses_of l None words)) None t))
        go (inr f) =
            ap (long_turn c (held_at us None) idle (position b) word words (Some v)) ((knows l).unknown name f)
            ∙ ap (read_on us) (sym (when_false _ (before_rest name v (uses_of l None words)) None f))

    first_plain : Cuts word None → short_of word ≡ None
        → outcome c (walk_in (held_at us None) idle (position b)) (word ∷ words)
        ≡ read_on us (word_use l.word word (uses_of l None words))
    first_plain cuts short =
        turn_plain c (held_at us None) idle (position b) word words cuts short ∙ go b taken l.word refl
      where
        go : (b : Bool) → Consumed us b → (w : Option Text) → l.word ≡ w
            → word_turn c (held_at us None) idle (position b) word words (arg_by_index c (position b))
            ≡ read_on us (word_use w word (uses_of l None words))
        go true had None e = ap (word_turn c (held_at us None) idle 2 word words) (knows l).word_once
        go true had (Some name) e =
            ap (word_turn c (held_at us None) idle 2 word words) (knows l).word_once
            ∙ sym (ap (option_map rows_for) (refused_use l us name word (uses_of l None words) (had refl name e)))
        go false had None e = ap (word_turn c (held_at us None) idle 1 word words) ((knows l).no_word e)
        go false had (Some name) e =
            let s = (knows l).word_first name e in
            ap (word_turn c (held_at us None) idle 1 word words) s.is
            ∙ word_takes c (held_at us None) idle 1 word words name s.long s.index s.required
            ∙ late us name word true words ((knows l).word_by_id name e) none
            ∙ next_use us name word true words rest d (λ t other is. here other (some_same is e))
          where
            some_same : {x y : Text} → l.word ≡ Some x → l.word ≡ Some y → y ≡ x
            some_same p q = cc

            here : (other : Text) → name ≡ other → is_used other (us ++ (name, word) ∷ []) ≡ true
            here other same =
                ap (λ (x : Text). is_used x (us ++ (name, word) ∷ [])) (sym same) ∙ is_used-middle us name word []

    pub first_step : (k : Look) → IsRead word k → is_stray_look k ≡ false
        → outcome c (walk_in (held_at us None) idle (position b)) (word ∷ words)
        ≡ read_on us (first_use l k word (λ waits. uses_of l waits words))
    first_step plain r e = first_plain r.0 r.1
    first_step (alone name) r e = first_alone name r
    first_step (joined name v) r e = first_joined name v r
    first_step stray r e = absurd (true≢false e)

    -- ---- a word that has to be a value

    module _ (name : Text) (is : is_option l name ≡ true) where
      value_plain : Cuts word None → short_of word ≡ None
          → outcome c (walk_in (held_at us (Some (name, []))) (option name) (position b)) (word ∷ words)
          ≡ read_on us (before_rest name word (uses_of l None words))
      value_plain cuts short =
          turn_plain c (held_at us (Some (name, []))) (option name) (position b) word words cuts short
          ∙ ap
          (λ found. turned c (held_at us (Some (name, []))) (option name) (position b) word words []
          (by_rule found))
          s.is
          ∙ ap (λ a. turned c (held_at us (Some (name, []))) (option name) (position b) word words []
          (held_at us (Some (name, word ∷ [])), Step.next (cond (nat_lt (cond a 1 0) 1) (option name) idle)))
          (eq_self name)
          ∙ late us name word b words s none
          ∙ next_use us name word b words rest d (taken_more us (name, word) b taken)
        where
          s : IsSet name (arg_by_id c name)
          s = (knows l).by_id name is

          by_rule : Option Rule → Held × Step
          by_rule found = (
            (option_word found name word (held_at us (Some (name, [])))).0,
            Step.next (option_word found name word (held_at us (Some (name, [])))).1,
          )

      value_long : (other : Text) (v : Option Text) → Cuts word (Some (other, v))
          → outcome c (walk_in (held_at us (Some (name, []))) (option name) (position b)) (word ∷ words) ≡ None
      value_long other v cuts =
          turn_long c (held_at us (Some (name, []))) (option name) (position b) word words other v cuts
          ∙ go v (long_found other)
        where
          fails : clean (settle_fault c false (held_at us (Some (name, [])))) ≡ false
          fails = settle_none c us name ((knows l).by_id name is)

          go : (v : Option Text) → IsFound (arg_by_long c other)
              → long_turn c (held_at us (Some (name, []))) (option name) (position b) word words v (arg_by_long c other)
              ≡ None
          go v (inl n) = ap (long_turn c (held_at us (Some (name, []))) (option name) (position b) word words v) n
          go None (inr s) =
              ap (long_turn c (held_at us (Some (name, []))) (option name) (position b) word words None) s.1.is
              ∙ long_waits c (held_at us (Some (name, []))) (option name) (position b) word words s.0 s.1.long s.1.index
              s.1.required
              ∙ when_false _ _ None fails
          go (Some v) (inr s) =
              ap (long_turn c (held_at us (Some (name, []))) (option name) (position b) word words (Some v)) s.1.is
              ∙ long_takes c (held_at us (Some (name, []))) (option name) (position b) word words s.0 v s.1.long
              s.1.index s.1.required
              ∙ split_or (settle_fault c false (held_at us (Some (name, [])))) _ _ ∙ when_false _ _ None fails

      pub value_step : (k : Look) → IsRead word k → is_stray_look k ≡ false
          → outcome c (walk_in (held_at us (Some (name, []))) (option name) (position b)) (word ∷ words)
          ≡ read_on us (value_use k name word (λ waits. uses_of l waits words))
      value_step plain r e = value_plain r.0 r.1
      value_step (alone other) r e = value_long other None r
      value_step (joined other v) r e = value_long other (Some v) r
      value_step stray r e = absurd (true≢false e)

  -- ---- all the words

  ends_idle : (us : List Use) (b : Bool) → is_distinct us ≡ true
      → outcome c (walk_for us None b) [] ≡ read_on us (Some [])
  unfolding outcome
  ends_idle us b d =
      ends l us ∙ ap (λ a. option_map rows_for (cond (a && is_complete l us) (Some us) None)) (sym d)
      ∙ ap (λ xs. option_map rows_for (accepted l xs)) (sym (append-nil us))

  ends_waiting : (us : List Use) (name : Text) (b : Bool) → is_option l name ≡ true
      → outcome c (walk_for us (Some name) b) [] ≡ None
  unfolding outcome
  ends_waiting us name b is =
      split_or (settle_fault c false (held_at us (Some (name, [])))) _ _
      ∙ when_false _ _ None (settle_none c us name ((knows l).by_id name is))

  pub walks : (words : List Text) → list_any is_stray words ≡ false → Claim words
  unfolding uses_of
  walks [] none None us b wait d taken = ends_idle us b d
  walks [] none (Some name) us b wait d taken = ends_waiting us name b wait
  walks (word ∷ words) none None us b wait d taken =
      let q = neither (is_stray word) (list_any is_stray words) none in
      first_step word words us b (walks words q.1) d taken q.1 (look_of word) (reads word) q.0
  walks (word ∷ words) none (Some name) us b wait d taken =
      let q = neither (is_stray word) (list_any is_stray words) none in
      value_step word words us b (walks words q.1) d taken q.1 name wait (look_of word) (reads word) q.0
