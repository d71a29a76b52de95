-- WHERE of a question, wherever the table stands.
use Rattle.std.proofs.Common.{◌≡◌, ◌==◌, cond, ℕ, zero, suc, ◌+◌, ◌-◌, ◌<◌, nat_lt, List, [], ◌∷◌, map, Ok, refl}
use Rattle.std.proofs.Common.{Option, Some, None, subst, false, true, Bool, slice_get, arith, sym}
use Rattle.std.proofs.lemmas.Bool.{lt-ltb}
use Rattle.std.specs.List.{AllByRecursion}
use Rattle.sqlite.specs.declared.types.Value.TheVariants.{Text}
use Rattle.sqlite_ast.specs.declared.Binary.TheVariants as binary
use Rattle.sqlite_ast.specs.declared.Expr.{Expr, out-Expr}
use Rattle.sqlite_ast.specs.declared.Expr.TheOpen.{Expr-F}
use Rattle.sqlite_schema.specs.Names.{column_named, place_of}
use Rattle.sqlite_schema.specs.declared.schema.Column.{Column}
use Rattle.sqlite_schema.specs.declared.schema.Schema.{Schema}
use Rattle.sqlite_schema.specs.declared.schema.Table.{Table}
use Rattle.sqlite_sql.specs.Term.{Term, col, lit, op2}
use Rattle.sqlite_sql.specs.declared.ops.BinaryOp.TheVariants.{And, Compare}
use Rattle.sqlite_sql.specs.declared.ops.CompareOp.{CompareOp}
use Rattle.sqlite_sql.specs.declared.ops.CompareOp.TheVariants.{Eq}
use Rattle.sqlite_value.specs.declared.keys.Collation.TheVariants.{Binary}
use Rattle.sqlite_resolve.specs.Body as body
use Rattle.sqlite_resolve.specs.Compare as compare
use Rattle.sqlite_resolve.specs.Expr as expr
use Rattle.sqlite_resolve.specs.Lowering.{spend, begin, finish, nothing, chosen}
use Rattle.sqlite_resolve.specs.Terms.{conjuncts}
use Rattle.sqlite_resolve.specs.Scope as scope
use Rattle.sqlite_resolve.specs.Scope.{Context}
use Rattle.sqlite_resolve.specs.declared.compare.Affinity.TheVariants as affinity
use Rattle.sqlite_resolve.specs.declared.scope.Output.{Output}
use Rattle.sqlite_resolve.specs.declared.state.Carried.{Carried}
use Rattle.plan_tables_lookups.specs.Question.{Side, Test}
use Rattle.plan_tables_lookups.specs.Question.Side.{Given, Letters}
use Rattle.plan_tables_lookups.proofs.WrittenQuestions.{AreTests, IsSide, IsTest, written_how}
use Rattle.plan_tables_schema.proofs.ColumnLemmas as columns
use Rattle.plan_tables_schema.proofs.WrittenQueries.{only_bound, outer_level, with_budget}
use Rattle.plan_tables_schema.proofs.WrittenTests.{affinity_at, left, right}

abbrev pub side_term : Side → Term
side_term (Given n) = col 0 n
side_term (Letters s) = lit (Text s)

-- the column of the test is at this place of the rows, and both sides are compared as they stand
pub record IsTested (table : Table) (t : Test) (p : ℕ) : Type 0 where
  pub k : ℕ
  pub c : Column
  pub named : column_named table t.column ≡ Some k
  pub has : slice_get table.columns k ≡ Some c
  pub there : place_of table k ≡ p
  pub collated : chosen (scope.declared table k c) nothing ≡ Binary
  pub kept : compare.converted (affinity_at table p) affinity.None (col 1 p) ≡ col 1 p
  pub bare : compare.converted affinity.None (affinity_at table p) (side_term t.side) ≡ side_term t.side

abbrev pub compared : CompareOp → ℕ → Side → Term
compared how p side = op2 (Compare how Binary) (col 1 p) (side_term side)

module _ (schema : Schema) (table : Table) (at : ℕ) (got : slice_get schema.tables at ≡ Some table)
    (shown : List Output) where
  abbrev cx : Context
  cx = outer_level schema (record { tables = only_bound table.name at; shown = shown }) false

  has_affinity : (p : ℕ) → compare.of_column cx 1 p ≡ affinity_at table p
  unfolding compare.of_column
  has_affinity zero = refl
  has_affinity (suc k) = rw got refl

  has_none : (side : Side) → compare.affinity_of cx (side_term side) ≡ affinity.None
  unfolding compare.of_column compare.affinity_of
  has_none (Given n) = go (n == 0)
    where
      go : (b : Bool) → cond b affinity.None affinity.None ≡ affinity.None
      go true = refl
      go false = refl
  has_none (Letters s) = refl

  lowers_given : (depth budget : ℕ) (last : Carried) (e : Expr) (n : ℕ) → out-Expr e ≡ Expr-F.Parameter n
      → nat_lt 1 budget ≡ true
      → expr.lower_to (suc depth) cx e (with_budget budget last) ≡ Ok (col 0 (n - 1), with_budget (budget - 1) nothing)
  unfolding expr.lower_to expr.node expr.opened expr.passes spend begin finish
  lowers_given depth budget last e n is enough = rw (enough, is) refl

  lowers_letters : (depth budget : ℕ) (last : Carried) (e : Expr) (s : List ℕ) → out-Expr e ≡ Expr-F.Text s
      → nat_lt 1 budget ≡ true
      → expr.lower_to (suc depth) cx e (with_budget budget last) ≡ Ok (lit (Text s), with_budget (budget - 1) nothing)
  unfolding expr.lower_to expr.node expr.opened expr.passes spend begin finish
  lowers_letters depth budget last e s is enough = rw (enough, is) refl

  lowers_side : (depth budget : ℕ) (last : Carried) (e : Expr) (side : Side) → IsSide side e → nat_lt 1 budget ≡ true
      → expr.lower_to (suc depth) cx e (with_budget budget last) ≡ Ok (side_term side, with_budget (budget - 1) nothing)
  lowers_side depth budget last e (Given n) is enough =
      let same : n + 1 - 1 ≡ n = omega arith in
      subst (λ m. expr.lower_to (suc depth) cx e (with_budget budget last)
      ≡ Ok (col 0 m, with_budget (budget - 1) nothing)) same
      (lowers_given depth budget last e (n + 1) is enough)
  lowers_side depth budget last e (Letters s) is enough = lowers_letters depth budget last e s is enough

  compares : (how : CompareOp) (p : ℕ) (side : Side)
      → compare.converted (affinity_at table p) affinity.None (col 1 p) ≡ col 1 p
      → compare.converted affinity.None (affinity_at table p) (side_term side) ≡ side_term side
      → compare.compared cx (Compare how Binary) (col 1 p) (side_term side) ≡ compared how p side
  unfolding compare.compared compare.affinity_of
  compares how p side kept bare = rw (has_affinity p, has_none side, kept, bare) refl

  lowers_both : (how : CompareOp) (depth budget : ℕ) (last first : Carried) (e a b : Expr) (p : ℕ) (y : Term)
      → out-Expr e ≡ Expr-F.Binary (written_how how) a b
      → nat_lt 1 budget ≡ true
      → expr.lower_to depth cx a (with_budget (budget - 1) nothing) ≡ Ok (col 1 p, with_budget (budget - 1 - 1) first)
      → expr.lower_to depth cx b (with_budget (budget - 1 - 1) first) ≡ Ok (y, with_budget (budget - 1 - 1 - 1) nothing)
      → chosen first nothing ≡ Binary
      → compare.compared cx (Compare how Binary) (col 1 p) y ≡ op2 (Compare how Binary) (col 1 p) y
      → expr.lower_to (suc depth) cx e (with_budget budget last)
      ≡ Ok (op2 (Compare how Binary) (col 1 p) y, with_budget (budget - 1 - 1 - 1) nothing)
  unfolding
      expr.lower_to expr.node expr.opened expr.passes expr.operation expr.both expr.combine expr.wanted_truth
      expr.tests_truth expr.tests_alias spend begin finish
  lowers_both Eq depth budget last first e a b p y is enough one two collated same = rw
      (enough, is, one, two, collated, same) refl
  lowers_both how depth budget last first e a b p y is enough one two collated same = rw
      (enough, is, one, two, collated, same) refl

  pub lowers_test : (t : Test) (p depth budget : ℕ) (last : Carried) (e : Expr) → IsTested table t p → IsTest t e
      → 4 < budget
      → expr.lower_to (suc (suc depth)) cx e (with_budget budget last)
      ≡ Ok (compared t.how p t.side, with_budget (budget - 1 - 1 - 1) nothing)
  lowers_test t p depth budget last e of is few =
      let enough = lt-ltb 1 budget (omega (arith, few)) in
      let one = columns.lowers_column schema table at got table.name shown false true t.column of.k of.c of.named
      of.has depth (budget - 1) nothing (left e) is.1 (lt-ltb 1 (budget - 1) (omega (arith, few))) in
      lowers_both t.how (suc depth) budget last (scope.declared table of.k of.c) e (left e) (right e) p
      (side_term t.side) is.0 enough
      (subst (λ q. expr.lower_to (suc depth) cx (left e) (with_budget (budget - 1) nothing) ≡ Ok
      (col 1 q, with_budget (budget - 1 - 1) (scope.declared table of.k of.c))) of.there one)
      (lowers_side depth (budget - 1 - 1) (scope.declared table of.k of.c) (right e) t.side is.2
      (lt-ltb 1 (budget - 1 - 1) (omega (arith, few))))
      of.collated (compares t.how p t.side of.kept of.bare)

  pub lowers_and : (depth budget less least : ℕ) (last first second : Carried) (e a b : Expr) (x y : Term)
      → out-Expr e ≡ Expr-F.Binary binary.And a b
      → nat_lt 1 budget ≡ true
      → expr.lower_to depth cx a (with_budget (budget - 1) nothing) ≡ Ok (x, with_budget less first)
      → expr.lower_to depth cx b (with_budget less first) ≡ Ok (y, with_budget least second)
      → expr.lower_to (suc depth) cx e (with_budget budget last) ≡ Ok (op2 And x y, with_budget least nothing)
  unfolding
      expr.lower_to expr.node expr.opened expr.passes expr.operation expr.both expr.combine expr.wanted_truth
      expr.tests_truth expr.tests_alias spend begin finish
  lowers_and depth budget less least last first second e a b x y is enough one two = rw (enough, is, one, two) refl

  -- WHERE of one term
  tests_by : (e : Expr) (test : Term) (budget left_over : ℕ) (last then : Carried)
      → expr.lower cx e (with_budget budget last) ≡ Ok (test, with_budget left_over then)
      → body.tests expr.lower cx [] (Some e) (with_budget budget last) ≡ Ok (conjuncts test, with_budget left_over then)
  unfolding body.tests
  tests_by e test budget left_over last then lowered = rw lowered refl

  tests_none : (budget : ℕ) (last : Carried)
      → body.tests expr.lower cx [] None (with_budget budget last) ≡ Ok ([], with_budget budget last)
  unfolding body.tests
  tests_none budget last = refl

  -- the terms of the tests, each of which spends little
  abbrev pub Filters : List Test → (Test → ℕ) → Option Expr → ℕ → Carried → Type 0
  Filters ts places o budget last = (left_over : ℕ) × (then : Carried) × (budget < left_over + 8)
      × (body.tests expr.lower cx [] o (with_budget budget last)
      ≡ Ok (map (λ (t : Test). compared t.how (places t) t.side) ts, with_budget left_over then))

  pub filters : (ts : List Test) (places : Test → ℕ) → AllByRecursion (λ t. IsTested table t (places t)) ts
      → (o : Option Expr) → AreTests ts o → (budget : ℕ) (last : Carried) → 20 < budget
      → Filters ts places o budget last
  filters [] places of o is budget last few =
      subst (λ x. Filters [] places x budget last) (sym is) (budget, last, omega arith, tests_none budget last)
  filters (t ∷ []) places of o is budget last few =
      let one = lowers_test t (places t) 698 budget last _ of.0 is.1 (omega (arith, few)) in
      subst (λ x. Filters (t ∷ []) places x budget last) (sym is.0)
      (budget - 1 - 1 - 1, nothing, omega (arith, few), tests_by _ _ budget _ last nothing one)
  filters (t ∷ u ∷ []) places of o is budget last few =
      let one = lowers_test t (places t) 697 (budget - 1) nothing _ of.0 is.2 (omega (arith, few)) in
      let two = lowers_test u (places u) 697 (budget - 1 - 1 - 1 - 1) nothing _ of.1.0 is.3 (omega (arith, few)) in
      let both = lowers_and 699 budget (budget - 1 - 1 - 1 - 1)
      (budget - 1 - 1 - 1 - 1 - 1 - 1 - 1) last nothing nothing _ _ _ _ _ is.1
      (lt-ltb 1 budget (omega (arith, few))) one two in
      subst (λ x. Filters (t ∷ u ∷ []) places x budget last) (sym is.0)
      (budget - 1 - 1 - 1 - 1 - 1 - 1 - 1, nothing, omega (arith, few), tests_by _ _ budget _ last nothing both)
  filters (t ∷ u ∷ v ∷ vs) places of o is budget last few = absurd is
