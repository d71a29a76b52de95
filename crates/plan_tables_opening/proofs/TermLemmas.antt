-- A term is what the node at its place stands for.
use Rattle.std.proofs.Common.{◌≡◌, ◌∙◌, ◌<◌, ◌-◌, ℕ, zero, suc, List, length, map, slice_index_or, refl, sym, ap, arith}
use Rattle.std.proofs.lemmas.List.{get_or-map}
use native.Mathlib.Numerals.{unary_clauses}
use Rattle.sqlite_schema.specs.Code.{op_term, term_to}
use Rattle.sqlite_schema.specs.declared.code.Op.{Op}
use Rattle.sqlite_schema.specs.declared.code.Op.TheVariants.{Literal}
use Rattle.sqlite_value.specs.declared.value.Value.TheVariants.{Null}

pub term_at : (ops : List Op) (depth place : ℕ) → 0 < depth → term_to ops depth place
    ≡ op_term (term_to ops (depth - 1)) (slice_index_or ops place (Literal Null))
term_at ops zero place deep = absurd (omega (arith, deep))
term_at ops (suc depth) place deep = simp unary_clauses refl

-- lists that are mapped to one list are mapped to the same at each place
pub same_at : {X : Type 0} (f g : ℕ → X) (xs ys : List ℕ) (i : ℕ) → i < length xs → i < length ys
    → map f xs ≡ map g ys → f (slice_index_or xs i 0) ≡ g (slice_index_or ys i 0)
same_at f g xs ys i in_xs in_ys same = sym (get_or-map f xs i 0 (f 0) in_xs)
    ∙ ap (λ all. slice_index_or all i (f 0)) same
    ∙ get_or-map g ys i 0 (f 0) in_ys

-- what two values say of one another, others say that are equal to these
pub said_of : {X A : Type 0} {a b x y : A} → (X → a ≡ b) × (a ≡ b → X) → x ≡ a → y ≡ b → (X → x ≡ y) × (x ≡ y → X)
said_of both p q = (λ yes. p ∙ both.0 yes ∙ sym q, λ same. both.1 (sym p ∙ same ∙ q))
