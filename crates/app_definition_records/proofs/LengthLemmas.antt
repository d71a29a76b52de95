-- Records as long as the first one of their block, by the length that the reader expects.
use Rattle.std.proofs.Common.{◌≡◌, ◌∙◌, sym, subst, ℕ, [], ◌∷◌, ◌++◌, length, Option, None, Some}
use Rattle.std.specs.Prelude.{IfSome}
use Rattle.app_definition_records.specs.ByName.{IsAsLong}
use Rattle.app_definition_records.specs.Records.{Record, Records}

-- the reader expects nothing before the first record, and then the length of that one
abbrev pub Expects : Records → Option ℕ → Type 0
Expects [] expected = expected ≡ None
Expects (first ∷ rest) expected = expected ≡ Some (length first)

same_number : (a b : ℕ) → Some a ≡ Some b → a ≡ b
same_number a b is = cc

-- a record that the reader took is as long as the first
pub taken_long : (rows : Records) (row : Record) (old new : Option ℕ) → Expects rows old
    → IfSome old (λ e. new ≡ Some e) → new ≡ Some (length row) → IsAsLong rows row
taken_long [] row old new expects keeps is = tt
taken_long (first ∷ rest) row old new expects keeps is =
    let kept : new ≡ Some (length first) = subst (λ o. IfSome o (λ e. new ≡ Some e)) expects keeps in
    same_number (length row) (length first) (sym is ∙ kept)

pub expects_more : (rows : Records) (row : Record) (old new : Option ℕ) → Expects rows old
    → IfSome old (λ e. new ≡ Some e) → new ≡ Some (length row) → Expects (rows ++ row ∷ []) new
expects_more [] row old new expects keeps is = is
expects_more (first ∷ rest) row old new expects keeps is = subst (λ o. IfSome o (λ e. new ≡ Some e)) expects keeps

-- a record as long as the first has the length that is expected
pub expected_long : (rows : Records) (row : Record) (expected : Option ℕ) → Expects rows expected
    → IsAsLong rows row → IfSome expected (λ n. length row ≡ n)
expected_long [] row expected is long = subst (λ o. IfSome o (λ n. length row ≡ n)) (sym is) tt
expected_long (first ∷ rest) row expected is long = subst (λ o. IfSome o (λ n. length row ≡ n)) (sym is) long
