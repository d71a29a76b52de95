-- What the texts of DELETE say.
use Rattle.std.proofs.Common.{◌≡◌, ℕ, ℤ, ◌^◌, List, [], ◌∷◌, refl, Some, nat_le, false, true, find, ◌==◌, subst, sym}
use Rattle.sqlite.specs.Order.{Row}
use Rattle.sqlite.specs.Term.{col}
use Rattle.sqlite.specs.declared.types.Value.TheVariants.{Int, Text}
use Rattle.sqlite_schema.specs.declared.schema.Schema.{Schema}
use Rattle.sqlite_resolve.specs.Compile.{first}
use Rattle.sqlite_tied.specs.Compute.{everything}
use Rattle.sqlite_typing.specs.Types.{accepts_program}
use Rattle.plan_tables_schema.specs.Schema.{table_at}
use Rattle.sqlite.specs.Kind.{Kind}
use Rattle.sqlite.specs.Kind.TheVariants as kind
use Rattle.plan_tables_schema.specs.Form.{key_kinds}
use Rattle.plan_tables_schema.specs.Forms.{form}
use Rattle.plan_tables_schema.specs.Accepted.{HasKinds, IsKeyOf}
use Rattle.plan_tables_schema.specs.Texts.{delete_sql}
use Rattle.plan_tables_schema.specs.Cells.{delete_tests}
use Rattle.plan_tables_schema.proofs.Steps.{plain_query}
use Rattle.plan_tables_schema.specs.declared.tables.Table.{Table}
use Rattle.plan_tables_schema.specs.declared.tables.Table.TheVariants.{Meta}
use Rattle.plan_tables_schema.specs.declared.tables.Table.TheVariants.{LinkInForce}
use Rattle.plan_tables_schema.specs.declared.tables.Table.TheVariants.{Dependency}
use Rattle.plan_tables_schema.proofs.Written.{IfRead}
use Rattle.plan_tables_schema.proofs.WrittenKeys.{SaysDelete, KeyIsCompared}

pub delete_says : (t : Table) → IfRead (first (delete_sql t)) (SaysDelete t)
unfolding everything
delete_says LinkInForce = record { whole = refl; parameters = refl; is = refl; target = refl; timeless = refl; test = refl; both = refl; one = record { is = refl; column_is = refl; parameter_is = refl }; two = record { is = refl; column_is = refl; parameter_is = refl } }
delete_says Dependency = record { whole = refl; parameters = refl; is = refl; target = refl; timeless = refl; test = refl; both = refl; one = record { is = refl; column_is = refl; parameter_is = refl }; two = record { is = refl; column_is = refl; parameter_is = refl } }
delete_says t = record { whole = refl; parameters = refl; is = refl; target = refl; timeless = refl; test = refl; equal = record { is = refl; column_is = refl; parameter_is = refl } }

pub key_is_compared : (tree : ℕ) (t : Table) → KeyIsCompared tree t
unfolding everything
key_is_compared tree LinkInForce = (record { k = 0; c = _; named = refl; has = refl; there = refl; collated = refl; kept = refl; bare = λ m. refl }, record { k = 1; c = _; named = refl; has = refl; there = refl; collated = refl; kept = refl; bare = λ m. refl })
key_is_compared tree Dependency = (record { k = 0; c = _; named = refl; has = refl; there = refl; collated = refl; kept = refl; bare = λ m. refl }, record { k = 1; c = _; named = refl; has = refl; there = refl; collated = refl; kept = refl; bare = λ m. refl })
key_is_compared tree t = record { k = 0; c = _; named = refl; has = refl; there = refl; collated = refl; kept = refl; bare = λ m. refl }

-- what is so of all values of these kinds is so of the key
abbrev IfKinds : List Kind → (Row → Type 0) → Type 0
IfKinds (kind.Integer ∷ []) P = (n : ℤ) → P (Int n ∷ [])
IfKinds (kind.Text ∷ []) P = (n : List ℕ) → P (Text n ∷ [])
IfKinds (kind.Text ∷ kind.Text ∷ []) P = (m n : List ℕ) → P (Text m ∷ Text n ∷ [])
IfKinds (kind.Integer ∷ kind.Integer ∷ []) P = (m n : ℤ) → P (Int m ∷ Int n ∷ [])
IfKinds _ P = ⊥

by_kinds : (ks : List Kind) (P : Row → Type 0) → IfKinds ks P → (key : Row) → HasKinds ks key → P key
by_kinds (kind.Integer ∷ []) P f key it = subst P (sym it.1) (f it.0)
by_kinds (kind.Text ∷ []) P f key it = subst P (sym it.1) (f it.0)
by_kinds (kind.Text ∷ kind.Text ∷ []) P f key it = subst P (sym it.2) (f it.0 it.1)
by_kinds (kind.Integer ∷ kind.Integer ∷ []) P f key it = subst P (sym it.2) (f it.0 it.1)
by_kinds _ P f key it = absurd f

abbrev pub Accepts : Schema → ℕ → Table → Row → Type 0
Accepts schema tree t key = accepts_program schema [] (plain_query tree (delete_tests t) (col 1 0 ∷ [])) key ≡ true

-- the types of the query fit, as it is written and with a key
pub delete_accepted : (schema : Schema) (tree : ℕ) (t : Table) → nat_le (2 ^ 31) tree ≡ false → find (λ o. o.tree == tree) schema.tables ≡ Some (table_at tree t) → Accepts schema tree t []
unfolding everything
delete_accepted schema tree Meta stored found = rw (stored, found) refl
delete_accepted schema tree t stored found = rw (stored, found) refl

accepts_any : (schema : Schema) (tree : ℕ) (t : Table) → nat_le (2 ^ 31) tree ≡ false → find (λ o. o.tree == tree) schema.tables ≡ Some (table_at tree t) → IfKinds (key_kinds (form t)) (Accepts schema tree t)
unfolding everything
accepts_any schema tree LinkInForce stored found = λ m n. rw (stored, found) refl
accepts_any schema tree Dependency stored found = λ m n. rw (stored, found) refl
accepts_any schema tree t stored found = λ n. rw (stored, found) refl

pub key_accepted : (schema : Schema) (tree : ℕ) (t : Table) → nat_le (2 ^ 31) tree ≡ false → find (λ o. o.tree == tree) schema.tables ≡ Some (table_at tree t) → (key : Row) → IsKeyOf t key → Accepts schema tree t key
key_accepted schema tree t stored found = by_kinds (key_kinds (form t)) (Accepts schema tree t) (accepts_any schema tree t stored found)
