-- Names of serials.
use Rattle.std.proofs.Common.{◌≡◌, ℕ, ◌+◌, ◌/◌, ◌%◌, ◌<◌, ◌≤◌, get_or, ap, arith}
use Rattle.std.specs.Prelude.{IsTrue, not}
use Rattle.std.specs.Char.{is_ascii_digit}
use Rattle.std.proofs.lemmas.Bool.Decides.{nat_tests}
use Rattle.std.proofs.lemmas.List.Elements.{All-from_recursion}
use Rattle.work_calendars.specs.Name.{IsName, is_name_byte}
use Rattle.plan_store_soundness.specs.Closed.{letter, node_name}

name_letter : (n : ℕ) → n < 26 → IsTrue (is_name_byte (65 + n))
unfolding is_name_byte
name_letter n below = grind (arith, nat_tests)

letter_named : (n : ℕ) → IsTrue (is_name_byte (letter n))
letter_named n = name_letter (n % 26) (omega arith)

start : (n : ℕ) → IsTrue (not (is_ascii_digit (letter n)))
start n = grind (arith, nat_tests)

last : (n : ℕ) → n ≤ 999999999 → IsTrue (is_name_byte (65 + n / 26 / 26 / 26 / 26 / 26 / 26))
last n within = name_letter (n / 26 / 26 / 26 / 26 / 26 / 26) (omega arith)

pub node_named : (n : ℕ) → n ≤ 999999999 → IsName (node_name n)
node_named n within = record {
  not_empty = omega arith;
  fits = omega arith;
  alphabet = All-from_recursion (λ b. IsTrue (is_name_byte b)) (node_name n) (
    letter_named n,
    (
      letter_named (n / 26),
      (
        letter_named (n / 26 / 26),
        (
          letter_named (n / 26 / 26 / 26),
          (
            letter_named (n / 26 / 26 / 26 / 26),
            (letter_named (n / 26 / 26 / 26 / 26 / 26), (last n within, tt)),
          ),
        ),
      ),
    ),
  );
  start = start n;
}

one_number : (a b : ℕ) → a / 26 ≡ b / 26 → letter a ≡ letter b → a ≡ b
one_number a b high low = omega arith

-- no two numbers have one name
pub own_name : (m n : ℕ) → node_name m ≡ node_name n → m ≡ n
own_name m n same =
    let at : (k : ℕ) → get_or (node_name m) k 0 ≡ get_or (node_name n) k 0 = λ k. ap (λ l. get_or l k 0) same in
    let last : 65 + m / 26 / 26 / 26 / 26 / 26 / 26 ≡ 65 + n / 26 / 26 / 26 / 26 / 26 / 26 = at 6 in
    let seventh : m / 26 / 26 / 26 / 26 / 26 / 26 ≡ n / 26 / 26 / 26 / 26 / 26 / 26 = cancel _ _ last in
    let sixth = one_number (m / 26 / 26 / 26 / 26 / 26) (n / 26 / 26 / 26 / 26 / 26) seventh (at 5) in
    let fifth = one_number (m / 26 / 26 / 26 / 26) (n / 26 / 26 / 26 / 26) sixth (at 4) in
    let fourth = one_number (m / 26 / 26 / 26) (n / 26 / 26 / 26) fifth (at 3) in
    let third = one_number (m / 26 / 26) (n / 26 / 26) fourth (at 2) in
    let second = one_number (m / 26) (n / 26) third (at 1) in
    one_number m n second (at 0)
  where
    cancel : (a b : ℕ) → 65 + a ≡ 65 + b → a ≡ b
    cancel a b same = omega arith
