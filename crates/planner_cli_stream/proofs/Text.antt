-- Lemmas on the lines of a text, and on lines of which only the front is held.
use Rattle.std.proofs.Common.{◌≡◌, ◌≢◌, ℕ, zero, suc, ◌+◌, ◌-◌, ◌<◌, ◌≤◌, ◌⊎◌, inl, inr, List, [], ◌∷◌, length, take}
use Rattle.std.proofs.Common.{get_or, refl, sym, ap, subst, ◌∙◌, arith, lt-ltb, All, ne_eqb, eq-eqb, true≢false}
use Rattle.std.proofs.Common.{take_all, take-take, length-take-le}
use Rattle.std.specs.Prelude.{◌==◌, ◌&&◌, Bool, true, false, if◌then◌else◌, nat_lt, bytes_eq, nat_eq, ◌||◌, is_none}
use Rattle.std.specs.Prelude.{codes}
use Rattle.std.specs.List.{onto_first, list_all}
use Rattle.std.proofs.lemmas.List.Elements.{All-nil, All-cons}
use Rattle.std.specs.Io.BufRead.{take_through, drop_through, strip_last, ends_with_byte}
use Rattle.planner_cli_stream.specs.Line.{is_line_byte}
use Rattle.planner_cli_stream.specs.Lines.{raw_lines, line_of, longest_line, opens_data, ends_data, kind_of, first_word}
use Rattle.planner_cli_stream.specs.Lines.{is_comment, is_define}
use Rattle.planner_cli_stream.specs.declared.line_kinds.LineKind.TheVariants.{Skipped, NoStatement, Statement}

-- the lines of a text after a byte that is no line feed
onto_first-lines : (x : ℕ) (ys : List ℕ)
    → (0 < length ys → raw_lines ys ≡ take_through 10 ys ∷ raw_lines (drop_through 10 ys))
    → onto_first x (raw_lines ys) ≡ (x ∷ take_through 10 ys) ∷ raw_lines (drop_through 10 ys)
unfolding raw_lines
onto_first-lines x [] h = refl
onto_first-lines x (y ∷ ys) h = ap (onto_first x) (h (omega arith))

-- the first line, as its first byte is a line feed or not
first_line_by : (x : ℕ) (xs : List ℕ) (b : Bool)
    → (0 < length xs → raw_lines xs ≡ take_through 10 xs ∷ raw_lines (drop_through 10 xs))
    → (if b then (x ∷ []) ∷ raw_lines xs else onto_first x (raw_lines xs))
    ≡ (if b then x ∷ [] else x ∷ take_through 10 xs) ∷ raw_lines (if b then xs else drop_through 10 xs)
first_line_by x xs true h = refl
first_line_by x xs false h = onto_first-lines x xs h

-- a text that has a byte is its first line, and the lines of the rest
pub raw_lines-first : (xs : List ℕ) → 0 < length xs → raw_lines xs ≡ take_through 10 xs ∷ raw_lines (drop_through 10 xs)
unfolding raw_lines
raw_lines-first [] some = absurd (omega arith)
raw_lines-first (x ∷ xs) some = first_line_by x xs (x == 10) (raw_lines-first xs)

-- a front of a line that is shorter than it has no line feed
pub no_feed : (n : ℕ) (xs : List ℕ) → n < length (take_through 10 xs) → All (λ x. x ≢ 10) (take n (take_through 10 xs))
no_feed zero xs h = All-nil (λ x. x ≢ 10)
no_feed (suc n) [] h = absurd (omega arith)
no_feed (suc n) (x ∷ xs) h = at (x == 10) refl (no_feed n xs) h
  where
    at : (b : Bool) → (x == 10) ≡ b
        → (n < length (take_through 10 xs) → All (λ y. y ≢ 10) (take n (take_through 10 xs)))
        → suc n < length (if b then x ∷ [] else x ∷ take_through 10 xs)
        → All (λ y. y ≢ 10) (take (suc n) (if b then x ∷ [] else x ∷ take_through 10 xs))
    at true is rest less = absurd (omega arith)
    at false is rest less =
        All-cons (λ y. y ≢ 10) x (take n (take_through 10 xs)) (λ e. true≢false (sym (eq-eqb x 10 e) ∙ is))
        (rest (omega arith))

-- a test that fails chooses the second
no_cut : (a b : Bool) (p q : List ℕ) → b ≡ false → (if a && b then p else q) ≡ q
no_cut true b p q e = ap (λ c. if c then p else q) e
no_cut false b p q e = refl

-- what ends with another byte loses none
pub strip_last-none : (byte : ℕ) (xs : List ℕ) → All (λ x. x ≢ byte) xs → strip_last byte xs ≡ xs
strip_last-none byte [] none = refl
strip_last-none byte (x ∷ xs) none =
    let last = none (length (x ∷ xs) - 1) 0 (omega arith) in
    no_cut (nat_lt 0 (length (x ∷ xs))) (get_or (x ∷ xs) (length (x ∷ xs) - 1) 0 == byte) _ _ (ne_eqb _ byte last)

-- a list without its last byte still has the front that it had
pub strip_last-front : (byte m : ℕ) (xs : List ℕ) → m < length xs
    → (m ≤ length (strip_last byte xs)) × (take m (strip_last byte xs) ≡ take m xs)
strip_last-front byte m xs more = at (ends_with_byte byte xs)
  where
    at : (b : Bool)
        → (m ≤ length (if b then take (length xs - 1) xs else xs))
        × (take m (if b then take (length xs - 1) xs else xs) ≡ take m xs)
    at true =
        (omega (arith, length-take-le (length xs - 1) xs (omega arith)), take-take m (length xs - 1) xs (omega arith))
    at false = (omega arith, refl)

pub le_or_lt : (n m : ℕ) → (n ≤ m) ⊎ (m < n)
le_or_lt zero m = inl (omega arith)
le_or_lt (suc n) zero = inr (omega arith)
le_or_lt (suc n) (suc m) = elim (le_or_lt n m) [ inl h ↦ inl (omega arith) | inr h ↦ inr (omega arith) ]

-- the front of a line that is held stands for the line, unless both are longer than m
pub record Holds (m : ℕ) (held line : List ℕ) : Type 0 where
  pub or_long : (held ≡ line) ⊎ ((m < length held) × (m < length line) × (take m held ≡ take m line))

pub holds_front : (m : ℕ) (xs : List ℕ)
    → Holds m (line_of (take (m + 2) (take_through 10 xs))) (line_of (take_through 10 xs))
unfolding line_of
holds_front m xs =
    let raw = take_through 10 xs in
    let front = take (m + 2) raw in
    elim (le_or_lt (length raw) (m + 2)) [
      | inl short ↦ record { or_long = inl (ap (λ l. strip_last 13 (strip_last 10 l)) (take_all (m + 2) raw short)) }
      | inr long ↦
          let whole : strip_last 10 front ≡ front = strip_last-none 10 front (no_feed (m + 2) xs long) in
          let size : length front ≡ m + 2 = length-take-le (m + 2) raw (omega arith) in
          let held = strip_last-front 13 (m + 1) front (omega arith) in
          let cut = strip_last-front 10 (m + 2) raw long in
          let line = strip_last-front 13 (m + 1) (strip_last 10 raw) (omega (arith, cut.0)) in
          let same : take m (strip_last 13 front) ≡ take m (strip_last 13 (strip_last 10 raw)) =
          (strip_last-front 13 m front (omega arith)).1 ∙ take-take m (m + 2) raw (omega arith)
          ∙ sym ((strip_last-front 13 m (strip_last 10 raw) (omega (arith, cut.0))).1
          ∙ (strip_last-front 10 m raw (omega arith)).1) in
          record {
            or_long = inr (
              subst (λ l. m < length (strip_last 13 l)) (sym whole) (omega (arith, held.0)),
              omega (arith, line.0),
              ap (λ l. take m (strip_last 13 l)) whole ∙ same,
            );
          }
    ]

-- more than m bytes are no text of m bytes
longer_differs : (m : ℕ) (xs ys : List ℕ) → length ys ≡ m → m < length xs → bytes_eq xs ys ≡ false
longer_differs m [] ys e h = absurd (omega arith)
longer_differs m (x ∷ xs) [] e h = refl
longer_differs zero (x ∷ xs) (y ∷ ys) e h = absurd (omega arith)
longer_differs (suc m) (x ∷ xs) (y ∷ ys) e h =
    ap (λ b. nat_eq x y && b) (longer_differs m xs ys (omega arith) (omega arith)) ∙ and_false (nat_eq x y)
  where
    and_false : (b : Bool) → (b && false) ≡ false
    and_false true = refl
    and_false false = refl

-- which data are ended by what is held
pub ends_data-held : (held line : List ℕ) → Holds 2 held line → ends_data held ≡ ends_data line
unfolding ends_data
ends_data-held held line h = elim h.or_long [
  | inl same ↦ ap (λ l. bytes_eq l (codes "/*")) same
  | inr long ↦ longer_differs 2 held (codes "/*") refl long.0 ∙ sym (longer_differs 2 line (codes "/*") refl long.1)
]

-- whether data follow what is held
pub opens_data-held : (held line : List ℕ) → Holds longest_line held line → opens_data held ≡ opens_data line
unfolding opens_data
opens_data-held held line h = elim h.or_long [
  | inl same ↦ ap (λ l. is_define (first_word (take longest_line l))) same
  | inr long ↦ ap (λ l. is_define (first_word l)) long.2
]

-- too long a line is no statement
too_long : (line : List ℕ) → longest_line < length line → kind_of line ≡ NoStatement
unfolding kind_of
too_long line long =
    ap
    (λ b. if b then NoStatement else
    (if is_comment line || is_none (first_word line) then Skipped else
    (if list_all is_line_byte line then Statement else NoStatement)))
    (lt-ltb _ _ long)

-- what a line is of which this is held
pub kind_of-held : (held line : List ℕ) → Holds longest_line held line → kind_of held ≡ kind_of line
kind_of-held held line h = elim h.or_long [
  | inl same ↦ ap kind_of same
  | inr long ↦ too_long held long.0 ∙ sym (too_long line long.1)
]

-- a statement's line is held whole
pub statement-held : (held line : List ℕ) → Holds longest_line held line → kind_of line ≡ Statement → held ≡ line
statement-held held line h is = elim h.or_long [
  | inl same ↦ same
  | inr long ↦ absurd (apart (sym is ∙ too_long line long.1))
]
  where
    apart : Statement ≡ NoStatement → ⊥
    apart e = cc
