-- Keys of run cycles and of their offsets, as SQL compares them.
use Rattle.std.proofs.Common.{◌≡◌, Bool, true, false, cond, ◌||◌}
use Rattle.std.proofs.Common.{[], ◌∷◌}
use Rattle.std.proofs.Common.{Some, unwrap_or}
use Rattle.std.proofs.Common.{refl, sym, subst, ◌∙◌, Ordering, Less, Equal, Greater, is_eq}
use Rattle.std.proofs.lemmas.Bool.{or_parts, and_parts}
use Rattle.sqlite_schema.specs.Rules.{agree, declared_order, equal}
use Rattle.sqlite_sql.specs.Ops.{binary, from_truth, is_null, is_true}
use Rattle.sqlite_tied.proofs.RuleLemmas.{and_true}
use Rattle.sqlite_value.proofs.KeyLemmas.{collated_total}
use Rattle.sqlite_value.specs.Keys.{collated, first_key, joined, plain}
use Rattle.sqlite_value.specs.Order.{Row, column}
use Rattle.sqlite_value.specs.declared.keys.Collation.{Collation}
use Rattle.sqlite_value.specs.declared.keys.Collation.TheVariants.{Binary}
use Rattle.sqlite_value.specs.declared.keys.Order.{Order}
use Rattle.sqlite_value.specs.declared.value.Value.{Value}
use Rattle.sqlite_value.specs.declared.value.Value.TheVariants.{Null}
use Rattle.plan_tables_schema.specs.Rows.{matches}
use Rattle.plan_tables_schema.specs.Schema.{table}
use Rattle.plan_tables_schema.specs.declared.tables.Table.TheVariants.{Offset, RunCycle}

-- ---- equality of SQL goes from one to the next

pub compared_parts : (null test : Bool) → is_true (cond null Null (from_truth (Some test))) ≡ true
    → (null ≡ false) × (test ≡ true)
compared_parts true true h = absurd (let e : false ≡ true = h in cc)
compared_parts true false h = absurd (let e : false ≡ true = h in cc)
compared_parts false true h = (refl, refl)
compared_parts false false h = absurd (let e : false ≡ true = h in cc)

is_tied : (o : Ordering) → is_eq o ≡ true → o ≡ Equal
is_tied Less h = cc
is_tied Equal h = refl
is_tied Greater h = cc

equal_parts : (how : Collation) (a b : Value) → equal how a b ≡ true
    → (is_null a ≡ false) × (is_null b ≡ false) × (collated how a b ≡ Equal)
unfolding binary
equal_parts how a b h =
    let parts = compared_parts (is_null a || is_null b) (is_eq (collated how a b)) h in
    let nulls = or_parts _ _ parts.0 in
    (nulls.0, nulls.1, is_tied _ parts.1)

equal_from : (how : Collation) (a b : Value) → is_null a ≡ false → is_null b ≡ false → collated how a b ≡ Equal
    → equal how a b ≡ true
unfolding binary
equal_from how a b p q same = rw (p, q, same)

equal_chain : (how : Collation) (a b c : Value) → equal how a b ≡ true → equal how b c ≡ true → equal how a c ≡ true
equal_chain how a b c h k =
    let first = equal_parts how a b h in
    let second = equal_parts how b c k in
    equal_from how a c first.0 second.1 ((collated_total how).congr a b c first.2 ∙ second.2)

-- ---- the key of a run cycle

abbrev pub name_order : Order
name_order = unwrap_or (declared_order (table RunCycle) (1 ∷ 2 ∷ [])) plain

binary_names : (first_key name_order).collation ≡ Binary
unfolding first_key joined
binary_names = refl

pub child_matches : (key r o : Row) → matches RunCycle key o ≡ true
    → agree name_order (1 ∷ 2 ∷ []) r (1 ∷ 2 ∷ []) o ≡ true → matches Offset key r ≡ true
child_matches key r o has same =
    let names : equal Binary (column r 1) (column o 1) ≡ true =
    subst (λ how. equal how (column r 1) (column o 1) ≡ true) binary_names (and_parts _ _ same).0 in
    and_true _ ∙ equal_chain Binary (column r 1) (column o 1) (column key 0) names (sym (and_true _) ∙ has)
