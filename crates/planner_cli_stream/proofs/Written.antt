-- What the grammar reads is what is written.
use Rattle.std.proofs.Common.{◌≡◌, ◌≢◌, ◌∙◌, ◌⊎◌, ◌==◌, ◌&&◌, ◌↔◌, inl, inr, Bool, cond, true, false, true≢false, refl}
use Rattle.std.proofs.Common.{sym, ap, ap₂, subst, ℕ, List, [], ◌∷◌, ◌++◌, Option, Some, None}
use Rattle.std.specs.List.{after_first, before_first, list_any}
use Rattle.std.specs.Option.{option_and_then}
use Rattle.std.proofs.lemmas.Bool.{eq-eqb, eqb-true}
use Rattle.clap.proofs.CutLemmas.{after_first-at, before_first-at, list_any-at}
use Rattle.planner_cli_stream.specs.Grammar.{Layout, Look, Text, Use, accepted, alone, before_rest, dash_look, first_use}
use Rattle.planner_cli_stream.specs.Grammar.{is_complete, is_distinct, is_option, joined, long_look, look_of, plain}
use Rattle.planner_cli_stream.specs.Grammar.{reading_of, stray, uses_of, value_use, word_use}
use Rattle.planner_cli_stream.specs.Written.{IsPlain, IsReading, Writes, WritesAll}
use Rattle.planner_cli_stream.proofs.Looks.{lacks}
use Rattle.planner_cli_stream.proofs.Uses.{bool_cases, both, when_false, when_true}

abbrev is_equals : ℕ → Bool
is_equals b = b == 61

-- ---- one word

cut : (xs : Text) → list_any is_equals xs ≡ true
    → (a : Text) × (b : Text) × (list_any is_equals a ≡ false) × (xs ≡ a ++ 61 ∷ b)
cut [] e = absurd (true≢false (sym e))
cut (x ∷ xs) e = go (bool_cases (is_equals x)) (λ h. cut xs h)
  where
    go : (is_equals x ≡ true) ⊎ (is_equals x ≡ false)
        → (list_any is_equals xs ≡ true → (a : Text) × (b : Text) × (list_any is_equals a ≡ false) × (xs ≡ a ++ 61 ∷ b))
        → (a : Text) × (b : Text) × (list_any is_equals a ≡ false) × (x ∷ xs ≡ a ++ 61 ∷ b)
    go (inl t) rest = ([], xs, refl, ap (λ y. y ∷ xs) (eqb-true x 61 t))
    go (inr f) rest =
        let r = rest (rw f at e) in
        (x ∷ r.0, r.1, rw f r.2, ap (λ ys. x ∷ ys) r.3)

-- how a word of a look is written
abbrev IsWritten : Look → Text → Type 0
IsWritten plain word = IsPlain word
IsWritten (alone name) word = (list_any is_equals name ≡ false) × (name ≢ []) × (word ≡ 45 ∷ 45 ∷ name)
IsWritten (joined name v) word = (list_any is_equals name ≡ false) × (word ≡ 45 ∷ 45 ∷ (name ++ 61 ∷ v))
IsWritten stray word = Unit {0}

long_written : (x : ℕ) (xs : Text) → IsWritten (long_look (x ∷ xs)) (45 ∷ 45 ∷ x ∷ xs)
long_written x xs = go (bool_cases (list_any is_equals (x ∷ xs)))
  where
    go : (list_any is_equals (x ∷ xs) ≡ true) ⊎ (list_any is_equals (x ∷ xs) ≡ false)
        → IsWritten (long_look (x ∷ xs)) (45 ∷ 45 ∷ x ∷ xs)
    go (inl t) =
        let p = cut (x ∷ xs) t in
        let first : before_first is_equals (x ∷ xs) ≡ p.0 =
        ap (before_first is_equals) p.3 ∙ before_first-at 61 p.0 p.1 (lacks p.0 p.2) in
        let second : after_first is_equals (x ∷ xs) ≡ p.1 =
        ap (after_first is_equals) p.3 ∙ after_first-at 61 p.0 p.1 (lacks p.0 p.2) in
        rw t (
          ap (list_any is_equals) first ∙ p.2,
          ap (λ ys. 45 ∷ 45 ∷ ys) (p.3 ∙ sym (ap₂ (λ a b. a ++ 61 ∷ b) first second)),
        )
    go (inr f) = rw f (f, (λ e. cc), refl)

pub written : (word : Text) → IsWritten (look_of word) word
written [] = tt
written (x ∷ xs) = go (bool_cases (x == 45))
  where
    long : (ys : Text) → IsWritten (long_look ys) (45 ∷ 45 ∷ ys)
    long [] = tt
    long (y ∷ ys) = long_written y ys

    dash : (ys : Text) → IsWritten (dash_look ys) (45 ∷ ys)
    dash [] = tt
    dash (y ∷ ys) = then_dash (bool_cases (y == 45))
      where
        then_dash : (y == 45 ≡ true) ⊎ (y == 45 ≡ false) → IsWritten (dash_look (y ∷ ys)) (45 ∷ y ∷ ys)
        then_dash (inl t) = rw t (subst (λ z. IsWritten (long_look ys) (45 ∷ z ∷ ys)) (sym (eqb-true y 45 t)) (long ys))
        then_dash (inr f) = rw f tt

    go : (x == 45 ≡ true) ⊎ (x == 45 ≡ false) → IsWritten (look_of (x ∷ xs)) (x ∷ xs)
    go (inl t) = rw t (subst (λ z. IsWritten (dash_look xs) (z ∷ xs)) (sym (eqb-true x 45 t)) (dash xs))
    go (inr f) = rw f (λ e. true≢false (sym (eq-eqb x 45 e) ∙ f))

look-plain : (word : Text) → IsPlain word → look_of word ≡ plain
look-plain [] h = refl
look-plain (x ∷ xs) h = go (bool_cases (x == 45))
  where
    go : (x == 45 ≡ true) ⊎ (x == 45 ≡ false) → look_of (x ∷ xs) ≡ plain
    go (inl t) = absurd (h (eqb-true x 45 t))
    go (inr f) = rw f refl

look-alone : (name : Text) → list_any is_equals name ≡ false → name ≢ [] → look_of (45 ∷ 45 ∷ name) ≡ alone name
look-alone [] e ne = absurd (ne refl)
look-alone (x ∷ xs) e ne = when_false _ _ (alone (x ∷ xs)) e

look-joined : (name v : Text) → list_any is_equals name ≡ false → look_of (45 ∷ 45 ∷ (name ++ 61 ∷ v)) ≡ joined name v
look-joined [] v e = ap₂ joined (before_first-at 61 [] v (lacks [] e)) (after_first-at 61 [] v (lacks [] e))
look-joined (x ∷ xs) v e =
    when_true _ _ _ (list_any-at 61 (x ∷ xs) v)
    ∙ ap₂ joined (before_first-at 61 (x ∷ xs) v (lacks (x ∷ xs) e)) (after_first-at 61 (x ∷ xs) v (lacks (x ∷ xs) e))

-- ---- all the words

module _ (l : Layout) where
  -- what is left to read, where an option waits
  abbrev From : Option Text → List Text → List Use → Type 0
  From None words us = WritesAll l us words
  From (Some name) words us =
      (v : Text) × (rest : List Text) × (more : List Use) × (words ≡ v ∷ rest) × (us ≡ (name, v) ∷ more) × IsPlain v
      × WritesAll l more rest

  abbrev Claim : List Text → Type 0
  Claim words = (waits : Option Text) (us : List Use) → uses_of l waits words ≡ Some us → From waits words us

  -- a use in front
  front : (name v : Text) (r : Option (List Use)) (us : List Use) → before_rest name v r ≡ Some us
      → (more : List Use) × (r ≡ Some more) × (us ≡ (name, v) ∷ more)
  front name v None us e = cc
  front name v (Some more) us e = (more, refl, cc)

  first : (k : Look) (word : Text) (words : List Text) (us : List Use) → IsWritten k word → Claim words
      → first_use l k word (λ waits. uses_of l waits words) ≡ Some us → WritesAll l us (word ∷ words)
  first plain word words us w rest e = go l.word refl e
    where
      go : (o : Option Text) → l.word ≡ o → word_use o word (uses_of l None words) ≡ Some us
          → WritesAll l us (word ∷ words)
      go None is h = cc
      go (Some name) is h =
          let p = front name word (uses_of l None words) us h in
          subst (λ (x : List Use). WritesAll l x (word ∷ words)) (sym p.2) (words, inl (is, w, refl), rest None p.0 p.1)
  first (alone name) word words us w rest e = go (bool_cases (is_option l name))
    where
      go : (is_option l name ≡ true) ⊎ (is_option l name ≡ false) → WritesAll l us (word ∷ words)
      go (inr f) = let no : None ≡ Some us = sym (when_false _ (uses_of l (Some name) words) None f) ∙ e in cc
      go (inl t) =
          let q = rest (Some name) us (sym (when_true _ (uses_of l (Some name) words) None t) ∙ e) in
          subst (λ (x : List Use). WritesAll l x (word ∷ words)) (sym q.4)
          (q.1, inr (inl ((t, w.0), w.1, q.5, ap₂ (λ a b. a ∷ b) w.2 q.3)), q.6)
  first (joined name v) word words us w rest e = go (bool_cases (is_option l name))
    where
      go : (is_option l name ≡ true) ⊎ (is_option l name ≡ false) → WritesAll l us (word ∷ words)
      go (inr f) =
          let no : None ≡ Some us = sym (when_false _ (before_rest name v (uses_of l None words)) None f) ∙ e in cc
      go (inl t) =
          let p =
          front name v (uses_of l None words) us
          (sym (when_true _ (before_rest name v (uses_of l None words)) None t) ∙ e) in
          subst (λ (x : List Use). WritesAll l x (word ∷ words)) (sym p.2)
          (words, inr (inr ((t, w.0), ap (λ a. a ∷ words) w.1)), rest None p.0 p.1)
  first stray word words us w rest e = cc

  value : (k : Look) (name word : Text) (words : List Text) (us : List Use) → IsWritten k word → Claim words
      → value_use k name word (λ waits. uses_of l waits words) ≡ Some us
      → From (Some name) (word ∷ words) us
  value plain name word words us w rest e =
      let p = front name word (uses_of l None words) us e in
      (word, words, p.0, refl, p.2, w, rest None p.0 p.1)
  value (alone other) name word words us w rest e = cc
  value (joined other v) name word words us w rest e = cc
  value stray name word words us w rest e = cc

  pub writes : (words : List Text) → Claim words
  unfolding uses_of
  writes [] None us e = let none : us ≡ [] = cc in subst (λ (x : List Use). WritesAll l x []) (sym none) refl
  writes [] (Some name) us e = cc
  writes (word ∷ words) None us e = first (look_of word) word words us (written word) (writes words) e
  writes (word ∷ words) (Some name) us e = value (look_of word) name word words us (written word) (writes words) e

  one : (u : Use) (us : List Use) (words rest : List Text) → uses_of l None rest ≡ Some us → Writes l u words rest
      → uses_of l None words ≡ Some (u ∷ us)
  unfolding uses_of
  one u us words rest e (inl w) =
      ap (uses_of l None) w.2 ∙ ap (λ k. first_use l k u.1 (λ waits. uses_of l waits rest)) (look-plain u.1 w.1)
      ∙ ap (λ o. word_use o u.1 (uses_of l None rest)) w.0 ∙ ap (before_rest u.0 u.1) e
  one u us words rest e (inr (inl w)) =
      ap (uses_of l None) w.3
      ∙ ap (λ k. first_use l k (45 ∷ 45 ∷ u.0) (λ waits. uses_of l waits (u.1 ∷ rest))) (look-alone u.0 w.0.1 w.1)
      ∙ when_true _ (uses_of l (Some u.0) (u.1 ∷ rest)) None w.0.0
      ∙ ap (λ k. value_use k u.0 u.1 (λ waits. uses_of l waits rest)) (look-plain u.1 w.2) ∙ ap (before_rest u.0 u.1) e
  one u us words rest e (inr (inr w)) =
      ap (uses_of l None) w.1
      ∙ ap (λ k. first_use l k (45 ∷ 45 ∷ (u.0 ++ 61 ∷ u.1)) (λ waits. uses_of l waits rest))
      (look-joined u.0 u.1 w.0.1)
      ∙ when_true _ (before_rest u.0 u.1 (uses_of l None rest)) None w.0.0 ∙ ap (before_rest u.0 u.1) e

  reads_all : (us : List Use) (words : List Text) → WritesAll l us words → uses_of l None words ≡ Some us
  unfolding uses_of
  reads_all [] words h = ap (uses_of l None) h
  reads_all (u ∷ us) words h = one u us words h.0 (reads_all us h.0 h.2) h.1

  is_reading : (words : List Text) (us : List Use) (r : Option (List Use)) → uses_of l None words ≡ r
      → option_and_then (accepted l) r ≡ Some us → IsReading l words us
  is_reading words us None is e = cc
  is_reading words us (Some xs) is e = go (bool_cases (is_distinct xs && is_complete l xs))
    where
      go : ((is_distinct xs && is_complete l xs) ≡ true) ⊎ ((is_distinct xs && is_complete l xs) ≡ false)
          → IsReading l words us
      go (inr f) = let no : None ≡ Some us = sym (when_false _ (Some xs) None f) ∙ e in cc
      go (inl t) =
          let found : Some xs ≡ Some us = sym (when_true _ (Some xs) None t) ∙ e in
          let same : xs ≡ us = cc in
          let p = both _ _ t in
          subst (λ (x : List Use). IsReading l words x) same
          (record { written = writes words None xs is; distinct = p.0; complete = p.1 })

  -- what the grammar reads is what is written, and each such text is read
  pub reading_is : (words : List Text) (us : List Use) → (reading_of l words ≡ Some us) ↔ IsReading l words us
  reading_is words us = (
    λ e. is_reading words us (uses_of l None words) refl e,
    λ h. ap (option_and_then (accepted l)) (reads_all us words h.written)
        ∙ ap₂ (λ a b. cond (a && b) (Some us) None) h.distinct h.complete,
  )
