-- Tests of the values of a row.
use Rattle.std.proofs.Common.{◌≡◌, ◌∙◌, ◌≤◌, ℕ, Bool, true, false, ◌&&◌, List, Some, refl, sym, ap, pos, is_eq, arith}
use Rattle.std.specs.Cmp.Lexicographic.{slice_cmp}
use Rattle.std.specs.Ordering.{int_cmp, is_ge, nat_cmp}
use Rattle.std.proofs.lemmas.Bool.Decides.{nat_tests}
use Rattle.sqlite.specs.declared.types.Value.TheVariants.{Text}
use Rattle.sqlite_sql.specs.Ops.{binary, from_truth, is_true}
use Rattle.sqlite_sql.specs.declared.ops.CompareOp.TheVariants.{Eq, Ge}
use Rattle.sqlite_value.proofs.OrderLemmas.{value_cmp-Int, value_cmp-Text}
use Rattle.plan_tables_lookups.specs.Finding.{natural}
use Rattle.plan_tables_lookups.specs.Question.{is_so}

decided : (b : Bool) → is_true (from_truth (Some b)) ≡ b
decided true = refl
decided false = refl

so_numbers : (a b : ℕ) → is_so Eq (natural a) (natural b) ≡ is_eq (int_cmp (pos a) (pos b))
unfolding binary
so_numbers a b = decided _ ∙ ap is_eq (value_cmp-Int (pos a) (pos b))

eq_from : (a b : ℕ) → is_eq (int_cmp (pos a) (pos b)) ≡ true → a ≡ b
eq_from a b h = grind (arith, nat_tests)

eq_itself : (a : ℕ) → is_eq (int_cmp (pos a) (pos a)) ≡ true
eq_itself a = grind (arith, nat_tests)

pub is_number : (a b : ℕ) → is_so Eq (natural a) (natural b) ≡ true → a ≡ b
is_number a b h = eq_from a b (sym (so_numbers a b) ∙ h)

pub number_is : (a : ℕ) → is_so Eq (natural a) (natural a) ≡ true
number_is a = so_numbers a a ∙ eq_itself a

so_late : (a b : ℕ) → is_so Ge (natural a) (natural b) ≡ is_ge (int_cmp (pos a) (pos b))
unfolding binary
so_late a b = decided _ ∙ ap is_ge (value_cmp-Int (pos a) (pos b))

ge_from : (a b : ℕ) → is_ge (int_cmp (pos a) (pos b)) ≡ true → b ≤ a
ge_from a b h = grind (arith, nat_tests)

ge_to : (a b : ℕ) → b ≤ a → is_ge (int_cmp (pos a) (pos b)) ≡ true
ge_to a b h = grind (arith, nat_tests)

pub is_late : (a b : ℕ) → is_so Ge (natural a) (natural b) ≡ true → b ≤ a
is_late a b h = ge_from a b (sym (so_late a b) ∙ h)

pub late_is : (a b : ℕ) → b ≤ a → is_so Ge (natural a) (natural b) ≡ true
late_is a b low = so_late a b ∙ ge_to a b low

pub so_texts : (a b : List ℕ) → is_so Eq (Text a) (Text b) ≡ is_eq (slice_cmp nat_cmp a b)
unfolding binary
so_texts a b = decided _ ∙ ap is_eq (value_cmp-Text a b)

-- ---- one test, and two

pub alone_of : (a : Bool) → (a && true) ≡ true → a ≡ true
alone_of true h = refl
alone_of false h = h

pub of_alone : (a : Bool) → a ≡ true → (a && true) ≡ true
of_alone true h = refl
of_alone false h = h

pub both_of : (a b : Bool) → (a && (b && true)) ≡ true → (a ≡ true) × (b ≡ true)
both_of true b h = (refl, alone_of b h)
both_of false b h = absurd (let e = h in cc)

pub of_both : (a b : Bool) → a ≡ true → b ≡ true → (a && (b && true)) ≡ true
of_both true b h k = of_alone b k
of_both false b h k = h
