-- Lemmas on fronts of lists: what a buffer with a limit holds.
use Rattle.std.proofs.Common.{◌≡◌, ℕ, zero, suc, ◌-◌, ◌<◌, ◌≤◌, List, [], ◌∷◌, ◌++◌, length, length-append, length-take}
use Rattle.std.proofs.Common.{max, take, refl, sym, ap, subst, ◌∙◌, arith, append_assoc, append-nil, take_all}
use Rattle.std.specs.Prelude.{Option, None, Some, IfSome, IsTrue, ◌↔◌, ◌==◌, Bool, true, false, if◌then◌else◌}
use Rattle.std.specs.Io.BufRead.{take_through, strip_last, ends_with_byte}
use Rattle.std.proofs.BufReadLemmas.{take_through_nonempty}
use Rattle.planner_cli_stream.specs.Buffers.{kept}

-- a list of no more than n elements is its own front
pub take_short : (n : ℕ) (xs : List ℕ) → length xs ≤ n → take n xs ≡ xs
take_short n xs h = take_all n xs h

-- the front of two parts
pub take_parts : (n : ℕ) (xs ys : List ℕ) → take n (xs ++ ys) ≡ take n xs ++ take (n - length (take n xs)) ys
take_parts zero xs ys = refl
take_parts (suc n) [] ys = let all : suc n ≡ suc n - 0 = omega arith in ap (λ k. take k ys) all
take_parts (suc n) (x ∷ xs) ys =
    let m = length (take n xs) in
    let less : n - m ≡ suc n - suc m = omega arith in
    ap (λ l. x ∷ l) (take_parts n xs ys ∙ ap (λ k. take n xs ++ take k ys) less)

-- bytes that come in two parts are kept as if they came at once
pub kept_parts : (limit : ℕ) (held xs ys : List ℕ) → kept limit (kept limit held xs) ys ≡ kept limit held (xs ++ ys)
kept_parts limit held xs ys =
    let n = limit - length held in
    let room : limit - length (held ++ take n xs) ≡ n - length (take n xs) =
    omega (arith, length-append held (take n xs)) in
    append_assoc held (take n xs) (take (limit - length (held ++ take n xs)) ys)
    ∙ ap (λ l. held ++ l) (ap (λ k. take n xs ++ take k ys) room ∙ sym (take_parts n xs ys))

-- what holds of a value that is there is weakened
pub if_some_weaken : {A : Type 0} (o : Option A) (P Q : A → Type 0) → ((x : A) → P x → Q x) → IfSome o P → IfSome o Q
if_some_weaken None P Q h p = tt
if_some_weaken (Some x) P Q h p = h x p

-- a buffer that had room for nothing more than it held
pub kept_none : (limit : ℕ) (held : List ℕ) → held ≡ kept limit held []
kept_none limit held = sym (ap (λ l. held ++ l) (take_short (limit - length held) [] (omega arith)) ∙ append-nil held)

-- a buffer after two parts, one after the other
pub kept_grown : (limit : ℕ) (held seen part mid new : List ℕ) → mid ≡ kept limit held seen → new ≡ kept limit mid part
    → new ≡ kept limit held (seen ++ part)
kept_grown limit held seen part mid new first second =
    second ∙ ap (λ l. kept limit l part) first ∙ kept_parts limit held seen part

-- where a text has a byte, its first line has one
pub some_through : (xs : List ℕ) → 0 < length xs → 0 < length (take_through 10 xs)
some_through [] some = some
some_through (x ∷ xs) some = at (x == 10)
  where
    at : (b : Bool) → 0 < length (if b then x ∷ [] else x ∷ take_through 10 xs)
    at true = omega arith
    at false = omega arith

-- a line was there exactly where some bytes of it were taken
pub some_taken : (known : Option (List ℕ)) (taken : List ℕ) (b : Bool) → (IsTrue b ↔ (0 < length taken))
    → IfSome known (λ xs. taken ≡ take_through 10 xs) → IfSome known (λ xs. IsTrue b ↔ (0 < length xs))
some_taken None taken b h e = tt
some_taken (Some xs) taken b h e = (
  λ yes. take_through_nonempty 10 xs (subst (λ l. 0 < length l) e (h.0 yes)),
  λ some. h.1 (subst (λ l. 0 < length l) (sym e) (some_through xs some)),
)

-- how much a buffer with a limit holds
pub kept_bound : (limit : ℕ) (held bs : List ℕ) → length (kept limit held bs) ≤ max limit (length held)
kept_bound limit held bs =
    omega (arith, length-append held (take (limit - length held) bs), length-take (limit - length held) bs)

-- a list without its last byte
pub strip_last_shorter : (byte : ℕ) (xs : List ℕ) → length (strip_last byte xs) ≤ length xs
strip_last_shorter byte xs = at (ends_with_byte byte xs)
  where
    at : (b : Bool) → length (if b then take (length xs - 1) xs else xs) ≤ length xs
    at true = omega (arith, length-take (length xs - 1) xs)
    at false = omega arith
