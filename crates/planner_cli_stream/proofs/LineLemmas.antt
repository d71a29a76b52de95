-- How the first word of a line comes off its front.
use Rattle.std.proofs.Common.{◌≡◌, ◌≢◌, ◌∙◌, ◌+◌, ◌-◌, ℕ, Bool, true, false, not, refl, sym, ap, List, [], ◌∷◌, take}
use Rattle.std.proofs.Common.{drop, one-add, inl, inr, ◌⊎◌, filter, length, arith}
use Rattle.std.specs.List.{onto_first, prefix_len, slice_split}
use Rattle.std.proofs.lemmas.List.{take_rest}
use Rattle.planner_cli_stream.specs.Grammar.{Text}
use Rattle.planner_cli_stream.specs.Line.{has_bytes, is_blank, words_of}
use Rattle.planner_cli_stream.proofs.Uses.{bool_cases}

module _ (p : ℕ → Bool) where
  abbrev words : Text → List Text
  words t = filter has_bytes (slice_split p t)

  abbrev other : ℕ → Bool
  other x = not (p x)

  -- what parts words, in front, parts nothing
  pub drop_front : (t : Text) → words t ≡ words (drop (prefix_len p t) t)
  drop_front [] = refl
  drop_front (x ∷ xs) = go (bool_cases (p x)) (drop_front xs)
    where
      go : (p x ≡ true) ⊎ (p x ≡ false) → words xs ≡ words (drop (prefix_len p xs) xs)
          → words (x ∷ xs) ≡ words (drop (prefix_len p (x ∷ xs)) (x ∷ xs))
      go (inl t) rest = rw (t, one-add) rest
      go (inr f) rest = rw f (rw f refl)

  -- after it a word begins, if anything is left
  abbrev Begins : Text → Type 0
  Begins t = (t ≡ []) ⊎ ((x : ℕ) × (xs : Text) × (t ≡ x ∷ xs) × (p x ≡ false))

  pub begins : (t : Text) → Begins (drop (prefix_len p t) t)
  begins [] = inl refl
  begins (x ∷ xs) = go (bool_cases (p x)) (begins xs)
    where
      go : (p x ≡ true) ⊎ (p x ≡ false) → Begins (drop (prefix_len p xs) xs)
          → Begins (drop (prefix_len p (x ∷ xs)) (x ∷ xs))
      go (inl t) rest = rw (t, one-add) rest
      go (inr f) rest = rw f (inr (x, xs, refl, f))

  -- the first piece, and the words after it
  record Cut (t : Text) (n : ℕ) : Type 0 where
    parts : List Text
    pieces : slice_split p t ≡ take n t ∷ parts
    rest : filter has_bytes parts ≡ words (drop n t)

  cut : (t : Text) → Cut t (prefix_len other t)
  cut [] = record { parts = []; pieces = refl; rest = refl }
  cut (x ∷ xs) = go (bool_cases (p x)) (cut xs)
    where
      go : (p x ≡ true) ⊎ (p x ≡ false) → Cut xs (prefix_len other xs) → Cut (x ∷ xs) (prefix_len other (x ∷ xs))
      go (inl t) c = record { parts = slice_split p xs; pieces = rw t refl; rest = rw t (rw t refl) }
      go (inr f) c =
          record {
            parts = c.parts;
            pieces = rw (f, one-add) (ap (onto_first x) c.pieces);
            rest = rw (f, one-add) c.rest;
          }

  none_left : (t : Text) → Begins t → prefix_len other t ≡ 0 → words t ≡ []
  none_left t (inl e) z = ap words e
  none_left t (inr b) z =
      let n : prefix_len other (b.0 ∷ b.1) ≡ 0 = sym (ap (prefix_len other) b.2) ∙ z in
      absurd (some (prefix_len other b.1) (rw b.3 at n))
    where
      some : (m : ℕ) → 1 + m ≡ 0 → ⊥
      some m e = omega arith

  one_off : (t : Text) → prefix_len other t ≢ 0
      → words t ≡ take (prefix_len other t) t ∷ words (drop (prefix_len other t) t)
  one_off t ne =
      ap (filter has_bytes) (cut t).pieces ∙ keeps t ne (cut t).parts
      ∙ ap (λ ws. take (prefix_len other t) t ∷ ws) (cut t).rest
    where
      keeps : (t : Text) → prefix_len other t ≢ 0 → (parts : List Text)
          → filter has_bytes (take (prefix_len other t) t ∷ parts)
          ≡ take (prefix_len other t) t ∷ filter has_bytes parts
      keeps [] ne parts = absurd (ne refl)
      keeps (x ∷ xs) ne parts = go (bool_cases (p x)) ne
        where
          go : (p x ≡ true) ⊎ (p x ≡ false) → prefix_len other (x ∷ xs) ≢ 0
              → filter has_bytes (take (prefix_len other (x ∷ xs)) (x ∷ xs) ∷ parts)
              ≡ take (prefix_len other (x ∷ xs)) (x ∷ xs) ∷ filter has_bytes parts
          go (inl t) n = absurd (n (rw t refl))
          go (inr f) n = rw (f, one-add) refl

-- the same, of the parts that the code takes

abbrev pub part_from : Text → ℕ → Text
part_from t k = take (length t - k) (drop k t)

pub no_word : (line : Text) (b n : ℕ) → b ≡ prefix_len is_blank line
    → n ≡ prefix_len (other is_blank) (part_from line b) → n ≡ 0 → words_of line ≡ []
no_word line b n is count zero_is =
    let text : part_from line b ≡ drop (prefix_len is_blank line) line = take_rest line b ∙ ap (λ k. drop k line) is in
    drop_front is_blank line
    ∙ none_left is_blank _ (begins is_blank line) (ap (prefix_len (other is_blank)) (sym text) ∙ sym count ∙ zero_is)

pub first_off : (line : Text) (b n : ℕ) → b ≡ prefix_len is_blank line
    → n ≡ prefix_len (other is_blank) (part_from line b) → n ≢ 0
    → words_of line ≡ take n (part_from line b) ∷ words_of (part_from (part_from line b) n)
first_off line b n is count some =
    let text : part_from line b ≡ drop (prefix_len is_blank line) line = take_rest line b ∙ ap (λ k. drop k line) is in
    drop_front is_blank line ∙ ap words_of (sym text)
    ∙ one_off is_blank (part_from line b) (λ e. some (count ∙ e))
    ∙ ap (λ k. take k (part_from line b) ∷ words_of (drop k (part_from line b))) (sym count)
    ∙ ap (λ t. take n (part_from line b) ∷ words_of t) (sym (take_rest (part_from line b) n))
