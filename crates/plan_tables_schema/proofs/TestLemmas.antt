-- WHERE of a key, wherever the table stands.
use Rattle.std.proofs.Common.{◌≡◌, ◌==◌, cond, ℕ, zero, suc, ◌-◌, nat_lt, List, [], ◌∷◌, Ok, refl, Some, subst, false, true, Bool, slice_get}
use Rattle.sqlite_value.specs.declared.keys.Collation.TheVariants.{Binary}
use Rattle.sqlite_schema.specs.declared.schema.Schema.{Schema}
use Rattle.sqlite_schema.specs.declared.schema.Table.{Table}
use Rattle.sqlite_ast.specs.declared.Binary.TheVariants as binary
use Rattle.sqlite_ast.specs.declared.Expr.{Expr, out-Expr}
use Rattle.sqlite_ast.specs.declared.Expr.TheOpen.{Expr-F}
use Rattle.sqlite_draft.specs.declared.join.Step.TheVariants.{Inner}
use Rattle.sqlite_sql.specs.Term.{Term, col, op2}
use Rattle.sqlite_sql.specs.declared.ops.BinaryOp.TheVariants.{Compare, And}
use Rattle.sqlite_sql.specs.declared.ops.CompareOp.TheVariants.{Eq}
use Rattle.sqlite_resolve.specs.declared.compare.Affinity.TheVariants as affinity
use Rattle.sqlite_resolve.specs.declared.state.Carried.{Carried}
use Rattle.sqlite_resolve.specs.Lowering.{spend, begin, finish, nothing, chosen, max_budget, fresh}
use Rattle.sqlite_resolve.specs.Compare as compare
use Rattle.sqlite_resolve.specs.Scope as scope
use Rattle.sqlite_resolve.specs.Scope.{Context}
use Rattle.sqlite_resolve.specs.Expr as expr
use Rattle.sqlite_resolve.specs.Body as body
use Rattle.sqlite_resolve.specs.Write as write
use Rattle.sqlite_resolve.specs.Write.{simple}
use Rattle.plan_tables_schema.proofs.WrittenTests.{IsCompared, IsEqual, affinity_at, left, right, equals}
use Rattle.plan_tables_schema.proofs.ColumnLemmas as columns
use Rattle.plan_tables_schema.proofs.WrittenQueries.{only_bound, with_budget}

module _ (schema : Schema) (table : Table) (at : ℕ) (got : slice_get schema.tables at ≡ Some table) where
  abbrev cx : Context
  cx = record { schema = schema; levels = record { tables = only_bound table.name at; shown = [] } ∷ []; may_aggregate = false; may_alias = true }

  has_affinity : (p : ℕ) → compare.of_column cx 1 p ≡ affinity_at table p
  unfolding compare.of_column
  has_affinity zero = refl
  has_affinity (suc k) = rw got refl

  has_none : (m : ℕ) → compare.of_column cx 0 m ≡ affinity.None
  unfolding compare.of_column
  has_none m = go (m == 0)
    where
      go : (b : Bool) → cond b affinity.None affinity.None ≡ affinity.None
      go true = refl
      go false = refl

  lowers_parameter : (depth budget : ℕ) (last : Carried) (e : Expr) (n : ℕ) → out-Expr e ≡ Expr-F.Parameter n → nat_lt 1 budget ≡ true
      → expr.lower_to (suc depth) cx e (with_budget budget last) ≡ Ok (col 0 (n - 1), with_budget (budget - 1) nothing)
  unfolding expr.lower_to expr.node expr.opened expr.passes spend begin finish
  lowers_parameter depth budget last e n is enough = rw (enough, is) refl

  compares : (p m : ℕ) → compare.converted (affinity_at table p) affinity.None (col 1 p) ≡ col 1 p
      → compare.converted affinity.None (affinity_at table p) (col 0 m) ≡ col 0 m
      → compare.compared cx (Compare Eq Binary) (col 1 p) (col 0 m) ≡ equals p m
  unfolding compare.compared compare.affinity_of
  compares p m kept bare = rw (has_affinity p, has_none m, kept, bare) refl

  lowers_both : (depth budget : ℕ) (last first : Carried) (e a b : Expr) (n k p : ℕ)
      → out-Expr e ≡ Expr-F.Binary binary.Eq a b
      → nat_lt 1 budget ≡ true
      → expr.lower_to depth cx a (with_budget (budget - 1) nothing) ≡ Ok (col 1 p, with_budget (budget - 1 - 1) first)
      → expr.lower_to depth cx b (with_budget (budget - 1 - 1) first) ≡ Ok (col 0 n, with_budget (budget - 1 - 1 - 1) nothing)
      → chosen first nothing ≡ Binary
      → compare.compared cx (Compare Eq Binary) (col 1 p) (col 0 n) ≡ equals p n
      → expr.lower_to (suc depth) cx e (with_budget budget last) ≡ Ok (equals p n, with_budget (budget - 1 - 1 - 1) nothing)
  unfolding expr.lower_to expr.node expr.opened expr.passes expr.operation expr.both expr.combine expr.wanted_truth expr.tests_truth expr.tests_alias spend begin finish
  lowers_both depth budget last first e a b n k p is enough one two collated same = rw (enough, is, one, two, collated, same) refl

  lowers_equal : (depth budget : ℕ) (last : Carried) (e : Expr) (column : List ℕ) (n p : ℕ) → IsCompared table column p → IsEqual column n e
      → nat_lt 1 budget ≡ true → nat_lt 1 (budget - 1) ≡ true → nat_lt 1 (budget - 1 - 1) ≡ true
      → expr.lower_to (suc (suc depth)) cx e (with_budget budget last) ≡ Ok (equals p (n - 1), with_budget (budget - 1 - 1 - 1) nothing)
  lowers_equal depth budget last e column n p of is e0 e1 e2 =
      let one = columns.lowers_column schema table at got table.name [] false true column of.k of.c of.named of.has depth (budget - 1) nothing (left e) is.column_is e1 in
      lowers_both (suc depth) budget last (scope.declared table of.k of.c) e (left e) (right e) (n - 1) 0 p is.is e0
      (subst (λ q. expr.lower_to (suc depth) cx (left e) (with_budget (budget - 1) nothing) ≡ Ok (col 1 q, with_budget (budget - 1 - 1) (scope.declared table of.k of.c))) of.there one)
      (lowers_parameter depth (budget - 1 - 1) (scope.declared table of.k of.c) (right e) n is.parameter_is e2)
      of.collated (compares p (n - 1) of.kept (of.bare (n - 1)))

  lowers_and : (depth budget less least : ℕ) (last first second : Carried) (e a b : Expr) (x y : Term)
      → out-Expr e ≡ Expr-F.Binary binary.And a b
      → nat_lt 1 budget ≡ true
      → expr.lower_to depth cx a (with_budget (budget - 1) nothing) ≡ Ok (x, with_budget less first)
      → expr.lower_to depth cx b (with_budget less first) ≡ Ok (y, with_budget least second)
      → expr.lower_to (suc depth) cx e (with_budget budget last) ≡ Ok (op2 And x y, with_budget least nothing)
  unfolding expr.lower_to expr.node expr.opened expr.passes expr.operation expr.both expr.combine expr.wanted_truth expr.tests_truth expr.tests_alias spend begin finish
  lowers_and depth budget less least last first second e a b x y is enough one two = rw (enough, is, one, two) refl

  -- the rows of this test are deleted
  deletes : (e : Expr) (test : Term) (s : ℕ) → expr.lower cx e (fresh 2 max_budget) ≡ Ok (test, with_budget s nothing)
      → write.deleted schema at table (Some e) ≡ Ok (simple (Inner table.tree ∷ []) (Rattle.sqlite_resolve.specs.Terms.conjuncts test) (col 1 0 ∷ []))
  unfolding write.deleted write.picked body.tests
  deletes e test s lowered = rw lowered refl

  pub deletes_equal : (e : Expr) (column : List ℕ) (n p : ℕ) → IsCompared table column p → IsEqual column n e
      → write.deleted schema at table (Some e) ≡ Ok (simple (Inner table.tree ∷ []) (equals p (n - 1) ∷ []) (col 1 0 ∷ []))
  deletes_equal e column n p of is = deletes e (equals p (n - 1)) _ (lowers_equal 698 max_budget nothing e column n p of is refl refl refl)

  pub deletes_pair : (e : Expr) (first second : List ℕ) (m n p q : ℕ) → out-Expr e ≡ Expr-F.Binary binary.And (left e) (right e)
      → IsCompared table first p → IsEqual first m (left e) → IsCompared table second q → IsEqual second n (right e)
      → write.deleted schema at table (Some e) ≡ Ok (simple (Inner table.tree ∷ []) (equals p (m - 1) ∷ equals q (n - 1) ∷ []) (col 1 0 ∷ []))
  deletes_pair e first second m n p q is of one of' two =
      deletes e (op2 And (equals p (m - 1)) (equals q (n - 1))) 99993 (lowers_and 699 max_budget 99996 99993 nothing nothing nothing e (left e) (right e) _ _ is refl
      (lowers_equal 697 99999 nothing (left e) first m p of one refl refl refl) (lowers_equal 697 99996 nothing (right e) second n q of' two refl refl refl))
