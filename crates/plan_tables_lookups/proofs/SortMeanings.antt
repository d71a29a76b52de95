-- ORDER BY and LIMIT of a question, wherever the table stands.
use Rattle.std.proofs.Common.{◌≡◌, cond, ℕ, suc, ◌+◌, ◌-◌, ◌<◌, List, [], ◌∷◌, ◌++◌, length, map, Ok, refl, None}
use Rattle.std.proofs.Common.{Some, subst, false, true, Bool, slice_get, arith, append_assoc, append-nil, pos, negsuc}
use Rattle.std.proofs.lemmas.Bool.{lt-ltb}
use Rattle.std.specs.List.{AllByRecursion}
use Rattle.sqlite_ast.specs.declared.Expr.{Expr, out-Expr}
use Rattle.sqlite_ast.specs.declared.Expr.TheOpen.{Expr-F}
use Rattle.sqlite_ast.specs.declared.Sort.{Sort, out-Sort}
use Rattle.sqlite_schema.specs.Names.{column_named, place_of}
use Rattle.sqlite_schema.specs.declared.schema.Column.{Column}
use Rattle.sqlite_schema.specs.declared.schema.Schema.{Schema}
use Rattle.sqlite_schema.specs.declared.schema.Table.{Table}
use Rattle.sqlite_sql.specs.Term.{Term, col, lit}
use Rattle.sqlite_value.specs.declared.keys.Collation.TheVariants.{Binary}
use Rattle.sqlite_value.specs.declared.keys.Key.{Key}
use Rattle.sqlite.specs.declared.types.Value.TheVariants.{Int}
use Rattle.sqlite_resolve.specs.Expr as expr
use Rattle.sqlite_resolve.specs.Literal.{integer}
use Rattle.sqlite_resolve.specs.Lowering.{alone, begin, finish, spend}
use Rattle.sqlite_resolve.specs.Order as order
use Rattle.sqlite_resolve.specs.Scope as scope
use Rattle.sqlite_resolve.specs.Scope.{Context}
use Rattle.sqlite_resolve.specs.Select as select
use Rattle.sqlite_resolve.specs.declared.scope.Output.{Output}
use Rattle.sqlite_resolve.specs.declared.state.Carried.{Carried}
use Rattle.plan_tables_lookups.specs.Question.{By, key_of}
use Rattle.plan_tables_lookups.proofs.WrittenQuestions.{AreSorts, IsLimit, IsSort}
use Rattle.plan_tables_schema.proofs.ColumnLemmas as columns
use Rattle.plan_tables_schema.proofs.Written.{test_in}
use Rattle.plan_tables_schema.proofs.WrittenQueries.{only_bound, outer_level, with_budget}

-- the column of the order is at this place of the rows, and is compared as it stands; nothing that is shown is named so
pub record IsPlaced (table : Table) (shown : List Output) (b : By) (p : ℕ) : Type 0 where
  pub k : ℕ
  pub c : Column
  pub named : column_named table b.column ≡ Some k
  pub has : slice_get table.columns k ≡ Some c
  pub there : place_of table k ≡ p
  pub alone : alone (scope.declared table k c) ≡ Binary
  pub bare : scope.alias_of b.column shown ≡ None

abbrev pub sort_term : (By → ℕ) → By → Term × Key
sort_term places b = (col 1 (places b), key_of b)

module _ (schema : Schema) (table : Table) (at : ℕ) (got : slice_get schema.tables at ≡ Some table)
    (shown : List Output) where
  abbrev cx : Context
  cx = outer_level schema (record { tables = only_bound table.name at; shown = shown }) false

  sorts_by : (depth budget p : ℕ) (last then : Carried) (done : List (Term × Key)) (s : Sort) (b : By) → IsSort b s
      → scope.alias_of b.column shown ≡ None
      → expr.lower_to depth cx (out-Sort s).key (with_budget budget last) ≡ Ok (col 1 p, with_budget (budget - 1) then)
      → alone then ≡ Binary → order.sort (expr.lower_to depth) cx shown done s (with_budget budget last)
      ≡ Ok (done ++ (col 1 p, key_of b) ∷ [], with_budget (budget - 1) then)
  unfolding
      order.sort order.key order.collation_of order.placed order.peeled order.alias_in order.written_on
      order.is_numeral
  sorts_by depth budget p last then done s b is bare lowered collated =
      rw (is.0, is.0, bare, lowered, is.0, collated, is.1, is.2) refl

  sorts_one : (depth budget p : ℕ) (last : Carried) (done : List (Term × Key)) (s : Sort) (b : By) → IsSort b s
      → IsPlaced table shown b p → 1 < budget
      → (then : Carried) × (order.sort (expr.lower_to (suc depth)) cx shown done s (with_budget budget last)
      ≡ Ok (done ++ (col 1 p, key_of b) ∷ [], with_budget (budget - 1) then))
  sorts_one depth budget p last done s b is of few =
      let then = scope.declared table of.k of.c in
      let one = columns.lowers_column schema table at got table.name shown false true b.column of.k of.c of.named
      of.has depth budget last _ is.0 (lt-ltb 1 budget few) in
      let placed = subst (λ q. expr.lower_to (suc depth) cx (out-Sort s).key (with_budget budget last)
      ≡ Ok (col 1 q, with_budget (budget - 1) then)) of.there one in
      (then, sorts_by (suc depth) budget p last then done s b is of.bare placed of.alone)

  sorts_all : (depth : ℕ) (places : By → ℕ) (bs : List By) (ss : List Sort) → AreSorts bs ss
      → AllByRecursion (λ b. IsPlaced table shown b (places b)) bs
      → (budget : ℕ) (last : Carried) (done : List (Term × Key)) → length bs + 1 < budget
      → (then : Carried) × (order.sorts_from (expr.lower_to (suc depth)) cx shown done ss (with_budget budget last)
      ≡ Ok (done ++ map (sort_term places) bs, with_budget (budget - length bs) then))
  sorts_all depth places [] ss are of budget last done few =
      let e : budget - 0 ≡ budget = omega arith in
      (last, rw (are, append-nil, e) refl)
  sorts_all depth places (b ∷ bs) [] are of budget last done few = absurd are
  sorts_all depth places (b ∷ bs) (s ∷ ss) are of budget last done few =
      let one = sorts_one depth budget (places b) last done s b are.0 of.0 (omega (arith, few)) in
      let all = sorts_all depth places bs ss are.1 of.1 (budget - 1) one.0 (done ++ sort_term places b ∷ [])
      (omega (arith, few)) in
      let left : budget - 1 - length bs ≡ budget - suc (length bs) = omega arith in
      (all.0, rw (one.1, all.1, left, append_assoc) refl)

  pub sorts : (places : By → ℕ) (bs : List By) (ss : List Sort) → AreSorts bs ss
      → AllByRecursion (λ b. IsPlaced table shown b (places b)) bs
      → (budget : ℕ) (last : Carried) → length bs + 1 < budget
      → (then : Carried) × (order.sorts expr.lower cx shown ss (with_budget budget last)
      ≡ Ok (map (sort_term places) bs, with_budget (budget - length bs) then))
  unfolding order.sorts
  sorts places bs ss are of budget last few = sorts_all 699 places bs ss are of budget last [] few

-- ---- LIMIT

abbrev pub limit_term : Bool → Term
limit_term is_one = lit (Int (cond is_one (pos 1) (negsuc 0)))

one_is : (schema : Schema) (e : Expr) → out-Expr e ≡ Expr-F.Integer (49 ∷ [])
    → select.constant schema e ≡ Ok (limit_term true)
unfolding
    select.constant select.stepless expr.lower_to expr.node expr.opened expr.passes spend begin finish integer
    Rattle.sqlite_resolve.specs.Literal.decimal
one_is schema e is = rw is refl

pub limits : (schema : Schema) (is_one : Bool) (o : _) → IsLimit is_one o
    → select.constant_or schema (lit (Int (negsuc 0))) o ≡ Ok (limit_term is_one)
unfolding select.constant_or
limits schema true o is = rw (is.0, one_is schema (test_in o) is.1) refl
limits schema false o is = rw is refl
