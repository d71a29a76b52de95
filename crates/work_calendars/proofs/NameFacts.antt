-- Names are ASCII, and how one is put into an array.
use Rattle.std.proofs.Common.{◌≡◌, ◌⊎◌, inl, inr, sym, ap, subst, ◌∙◌, ℕ, ◌-◌, ◌==◌, ◌<◌, ◌≤◌, List, [], ◌∷◌, ◌++◌}
use Rattle.std.proofs.Common.{take, drop, Less, Equal, Greater}
use Rattle.std.proofs.Common.{length, IsTrue, slice_index, arith, length-append, refl, zero, suc, cond, not, false, ◌+◌}
use Rattle.std.specs.Str.{IsUtf8}
use Rattle.std.specs.List.{All}
use Rattle.std.proofs.Math.ListN.{replicate, length-replicate}
use Rattle.std.proofs.Math.Seq.{take-append_seam}
use Rattle.std.proofs.lemmas.Str.{IsUtf8-from_ascii}
use Rattle.std.proofs.lemmas.List.{get_or_past, drop-replicate, length-take-le}
use Rattle.std.specs.Cmp.Lexicographic.{slice_cmp}
use Rattle.std.specs.Ordering.{nat_cmp, ordering_then}
use Rattle.std.specs.Cmp.{nat_cmp_is}
use Rattle.std.proofs.lemmas.Bool.Decides.{nat_tests}
use Rattle.std.proofs.lemmas.Bool.{cases_lt}
use Rattle.work_calendars.specs.Name.{is_name_byte, name_length, IsNameWithin, HoldsName}

ascii : (b : ℕ) → IsTrue (is_name_byte b) → b < 128
unfolding is_name_byte
ascii b h = grind (arith, nat_tests)

ascii_at : (name : List ℕ) → All (λ b. IsTrue (is_name_byte b)) name →
    (i : ℕ) → (i < length name) ⊎ (length name ≤ i) → slice_index name i < 128
ascii_at name all i (inl h) = ascii _ (all i 0 h)
ascii_at name all i (inr h) =
    let e : slice_index name i ≡ 0 = get_or_past name i 0 h in
    omega arith

pub IsUtf8-name : (longest : ℕ) (name : List ℕ) → IsNameWithin longest name → IsUtf8 name
IsUtf8-name longest name h =
    IsUtf8-from_ascii name (λ i. ascii_at name h.alphabet i (cases_lt i (length name)))

is_no_zero : (b : ℕ) → IsTrue (is_name_byte b) → (b == 0) ≡ false
unfolding is_name_byte
is_no_zero b h = grind (arith, nat_tests)

-- a name ends where the zeros behind it begin
name_length-padded : (name : List ℕ) (count : ℕ) → All (λ b. IsTrue (is_name_byte b)) name →
    name_length (name ++ replicate count 0) ≡ length name
name_length-padded [] zero h = refl
name_length-padded [] (suc count) h = refl
name_length-padded (b ∷ bs) count h =
    let rest : name_length (bs ++ replicate count 0) ≡ length bs
    = name_length-padded bs count (λ i d l. h (suc i) d (omega arith)) in
    ap (λ t. cond (not t) (1 + name_length (bs ++ replicate count 0)) 0) (is_no_zero b (h 0 0 (omega arith)))
    ∙ omega arith

held : (size : ℕ) (name : List ℕ) → IsNameWithin size name →
    HoldsName size (name ++ replicate (size - length name) 0) (length name)
held size name h =
    let first : take (length name) (name ++ replicate (size - length name) 0) ≡ name = take-append_seam name _ in
    let fits : length name ≤ size = h.fits in
    record {
      full = simp (length-append, length-replicate) (omega arith);
      padded = ap (λ s. s ++ replicate (size - length name) 0) (sym first);
      within = fits;
      named = subst (IsNameWithin size) (sym first) h;
    }

-- what an array of zeros holds that a name is copied into
pub record Copied (size : ℕ) (name bytes : List ℕ) : Type 0 where
  pub holds : HoldsName size bytes (name_length bytes)
  pub text : take (name_length bytes) bytes ≡ name

pub name-copied : (size : ℕ) (name copied zeros : List ℕ) →
    IsNameWithin size name → copied ≡ name → zeros ≡ replicate size 0 →
    Copied size name (copied ++ drop (length name) zeros)
name-copied size name copied zeros h e z =
    let same : name ++ replicate (size - length name) 0 ≡ copied ++ drop (length name) zeros
    = sym (ap (λ s. s ++ drop (length name) zeros) e ∙ ap (λ s. name ++ drop (length name) s) z ∙
    ap (λ s. name ++ s) (drop-replicate (length name) size 0)) in
    let ends : length name ≡ name_length (name ++ replicate (size - length name) 0)
    = sym (name_length-padded name (size - length name) h.alphabet) in
    subst (Copied size name) same (record {
      holds = subst (HoldsName size (name ++ replicate (size - length name) 0)) ends (held size name h);
      text = subst (λ n. take n (name ++ replicate (size - length name) 0) ≡ name) ends (take-append_seam name _);
    })

-- ---- arrays that hold names compare as the names

no_zero-pos : (b : ℕ) → (b == 0) ≡ false → 0 < b
no_zero-pos b h = grind (arith, nat_tests)

cmp-no_zero : (b : ℕ) → IsTrue (is_name_byte b) → (nat_cmp 0 b ≡ Less) × (nat_cmp b 0 ≡ Greater)
cmp-no_zero b h =
    let pos : 0 < b = no_zero-pos b (is_no_zero b h) in
    (sym (nat_cmp_is 0 b Less pos), sym (nat_cmp_is b 0 Greater pos))

zeros-cmp : (m n : ℕ) → m ≡ n → slice_cmp nat_cmp (replicate m 0) (replicate n 0) ≡ Equal
zeros-cmp zero zero e = refl
zeros-cmp zero (suc n) e = absurd (omega arith)
zeros-cmp (suc m) zero e = absurd (omega arith)
zeros-cmp (suc m) (suc n) e = zeros-cmp m n (omega arith)

padded-cmp : (xs ys : List ℕ) (m n : ℕ) → All (λ b. IsTrue (is_name_byte b)) xs →
    All (λ b. IsTrue (is_name_byte b)) ys → length xs + m ≡ length ys + n →
    slice_cmp nat_cmp (xs ++ replicate m 0) (ys ++ replicate n 0) ≡ slice_cmp nat_cmp xs ys
padded-cmp [] [] m n hx hy e = zeros-cmp m n (omega arith)
padded-cmp [] (y ∷ ys) zero n hx hy e = absurd (omega arith)
padded-cmp [] (y ∷ ys) (suc m) n hx hy e =
    ap (λ o. ordering_then o (slice_cmp nat_cmp (replicate m 0) (ys ++ replicate n 0)))
    (cmp-no_zero y (hy 0 0 (omega arith))).0
padded-cmp (x ∷ xs) [] m zero hx hy e = absurd (omega arith)
padded-cmp (x ∷ xs) [] m (suc n) hx hy e =
    ap (λ o. ordering_then o (slice_cmp nat_cmp (xs ++ replicate m 0) (replicate n 0)))
    (cmp-no_zero x (hx 0 0 (omega arith))).1
padded-cmp (x ∷ xs) (y ∷ ys) m n hx hy e =
    ap (ordering_then (nat_cmp x y))
    (padded-cmp xs ys m n (λ i d l. hx (suc i) d (omega arith)) (λ i d l. hy (suc i) d (omega arith)) (omega arith))

held-long : (size : ℕ) (bytes : List ℕ) → HoldsName size bytes (name_length bytes) →
    length (take (name_length bytes) bytes) + (size - name_length bytes) ≡ size
held-long size bytes h =
    let within : name_length bytes ≤ size = h.within in
    let full : length bytes ≡ size = h.full in
    let long : length (take (name_length bytes) bytes) ≡ name_length bytes
    = length-take-le (name_length bytes) bytes (omega arith) in
    omega arith

pub held-cmp : (size : ℕ) (xs ys : List ℕ) →
    HoldsName size xs (name_length xs) → HoldsName size ys (name_length ys) →
    slice_cmp nat_cmp xs ys ≡ slice_cmp nat_cmp (take (name_length xs) xs) (take (name_length ys) ys)
held-cmp size xs ys hx hy =
    ap (λ s. slice_cmp nat_cmp s ys) hx.padded
    ∙ ap (slice_cmp nat_cmp (take (name_length xs) xs ++ replicate (size - name_length xs) 0)) hy.padded
    ∙ padded-cmp (take (name_length xs) xs) (take (name_length ys) ys) (size - name_length xs)
    (size - name_length ys) hx.named.alphabet hy.named.alphabet
    (held-long size xs hx ∙ sym (held-long size ys hy))
