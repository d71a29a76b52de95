-- The texts of job numbers.
use Rattle.std.proofs.Common.{◌≡◌, ◌∙◌, ◌<◌, ◌≤◌, ◌^◌, ℕ, zero, suc, List, Some, Result, Ok, Err, length, get_or, sym}
use Rattle.std.proofs.Common.{ap, subst, arith}
use Rattle.std.specs.Fmt.{decimal}
use Rattle.std.specs.Int.{IsInRange}
use Rattle.std.specs.Result.{OkIff, result_ok}
use Rattle.std.specs.Str.Parse.{AllDigits, ParsesUnsigned, digits_value}
use Rattle.std.proofs.lemmas.Fmt.{decimal_digit, decimal_nonempty, decimal-digits_value, digits_decimal, first_decimal}
use Rattle.std.proofs.lemmas.Fmt.{parse-decimal}
use Rattle.std.proofs.lemmas.Str.Parse.{IsNumeralModel, digit_at, numerals_by_value, parse_plain, tells_digits}
use Rattle.planner_cli_stream.specs.JobNumber.{IsJobNumber}

own : IsNumeralModel (AllDigits 10) (digits_value 10)
own = numerals_by_value (AllDigits 10) tells_digits

-- no number has a text without a digit in front, or with the digit 0
pub first_digit : (text : List ℕ) (n : ℕ) → IsJobNumber n → text ≡ decimal n
    → (0 < length text) × (49 ≤ get_or text 0 0) × (get_or text 0 0 ≤ 57)
first_digit text n h e =
    let small : n < 2 ^ 64 = omega (arith, h) in
    let some : 0 < length (decimal n) = decimal_nonempty n small in
    let above : 48 < get_or (decimal n) 0 0 = first_decimal n h.0 small in
    let digit : IsInRange 48 57 (get_or (decimal n) 0 0) = digit_at (decimal n) 0 (digits_decimal own n small) some in
    let P : List ℕ → Type 0 = λ t. (0 < length t) × (49 ≤ get_or t 0 0) × (get_or t 0 0 ≤ 57) in
    subst P (sym e) (some, omega (arith, above), omega (arith, digit))

-- the text of a number is read as that number
pub read_number : {E : Type 0} (text : List ℕ) (n : ℕ) (r : Result ℕ E) → IsJobNumber n → text ≡ decimal n
    → ParsesUnsigned 32 10 text r → r ≡ Ok n
read_number text n r h e p = parse-decimal 32 n text r (omega (arith, h)) (omega (arith, h)) e p

-- what is read, where the first digit is not 0, is the number of the text
pub read_text : {E : Type 0} (text : List ℕ) (n : ℕ) (r : Result ℕ E) → 49 ≤ get_or text 0 0
    → ParsesUnsigned 32 10 text r → r ≡ Ok n → (text ≡ decimal n) × (0 < n)
read_text {E} text n r first p is =
    let q = parse_plain own 32 text r p (λ plus. omega (arith, plus, first)) in
    let at : OkIff {E = E} (Ok n) (AllDigits 10 text × (0 < length text) × (digits_value 10 text < 2 ^ 32))
    (digits_value 10 text) =
    subst
    (λ (x : Result ℕ E). OkIff x (AllDigits 10 text × (0 < length text) × (digits_value 10 text < 2 ^ 32))
    (digits_value 10 text))
    is q in
    let whole : decimal (digits_value 10 text) ≡ text =
    decimal-digits_value own text at.0.0 at.0.1 (λ zero. absurd (omega (arith, zero, first)))
    (omega (arith, at.0.2)) in
    let same : text ≡ decimal n = sym whole ∙ ap decimal (sym at.1) in
    (same, positive n (ap (λ t. get_or t 0 0) same))
  where
    positive : (m : ℕ) → get_or text 0 0 ≡ get_or (decimal m) 0 0 → 0 < m
    positive zero e =
        let z : get_or (decimal 0) 0 0 ≡ 48 = ap (λ t. get_or t 0 0) (decimal_digit 0 (omega arith)) in
        absurd (omega (arith, e, z, first))
    positive (suc m) e = omega arith

pub ok_of : {E : Type 0} (r : Result ℕ E) (n : ℕ) → result_ok r ≡ Some n → r ≡ Ok n
ok_of (Ok m) n e = let same : m ≡ n = cc in ap Ok same
ok_of (Err x) n e = cc
