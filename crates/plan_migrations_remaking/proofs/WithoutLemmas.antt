-- Where tables of schema 1 are taken away, the others stand still, each perhaps at another place.
use Rattle.std.proofs.Common.{◌≡◌, ◌≢◌, ◌⊎◌, ◌||◌, ◌==◌, ◌∙◌, ◌+◌, ℕ, zero, suc, Bool, true, false, not, inl, inr}
use Rattle.std.proofs.Common.{List, [], ◌∷◌, filter, find, Option, Some, None, slice_get, refl, sym, ap, arith, true≢false}
use Rattle.std.specs.List.{AllByRecursion, list_any, position_from}
use Rattle.std.proofs.lemmas.Bool.{and_left, cases_Bool, ne_eqb, or_parts}
use Rattle.std.proofs.lemmas.List.Elements.{recursion_from_All}
use Rattle.sqlite.specs.Does.{is_acted_on}
use Rattle.sqlite.specs.Schema.{Schema}
use Rattle.sqlite.specs.Table.{Table as Described}
use Rattle.sqlite_catalog.specs.Change.{is_used, without_table}
use Rattle.sqlite_catalog.proofs.ListFacts.{filter_all, find_within}
use Rattle.sqlite_catalog.proofs.StepLemmas.{no_view, same_itself}
use Rattle.sqlite_rules.proofs.ListLemmas.{all_from, all_has}
use Rattle.sqlite_rules.specs.Lists.{Has}
use Rattle.sqlite_schema.specs.Names.{same_name, view_named}
use Rattle.sqlite_schema.specs.declared.schema.Keys.TheVariants.{Enforced}
use Rattle.sqlite_schema.specs.declared.schema.Reference.{Reference}
use Rattle.plan_tables_schema.specs.Places.{TableIsAt}
use Rattle.plan_tables_schema.specs.Schema.{IsAside, name, table_at, to_run_cycle}
use Rattle.plan_tables_schema.specs.declared.tables.Table.{Table}
use Rattle.plan_tables_schema.specs.declared.tables.Table.TheVariants.{LinkInForce, Offset, Predecessor, RunCycle}
use Rattle.plan_tables_schema.proofs.StopLemmas.{some_same}
use Rattle.plan_migrations_remaking.specs.FirstSchema.{CanRemake, HasFirstTables, changed, changed_schema, first_table_at, is_among}
use Rattle.plan_migrations_remaking.specs.FirstSchema.{without}

-- ---- of a list

kept_at : {X : Type 0} (p q : X → Bool) (xs : List X) (x : X) (from at : ℕ) → position_from p from xs ≡ Some (from + at)
    → slice_get xs at ≡ Some x → p x ≡ true → q x ≡ true
    → (k : ℕ) × ((start : ℕ) → position_from p start (filter q xs) ≡ Some (start + k)) × (slice_get (filter q xs) k ≡ Some x)
kept_at p q [] x from at placed got is kept = absurd (cc)
kept_at p q (y ∷ ys) x from zero placed got is kept =
    let same : y ≡ x = cc in (
      0,
      λ start. let e : start ≡ start + 0 = omega arith in rw (ap q same ∙ kept, ap p same ∙ is) (ap Some e),
      rw (ap q same ∙ kept) (ap Some same),
    )
kept_at p q (y ∷ ys) x from (suc at) placed got is kept = elim (cases_Bool (p y)) [
  | inl here ↦ let e : from ≡ from + suc at = same_of (rw here at placed) in absurd (omega (arith, e))
  | inr away ↦
      let e : from + suc at ≡ from + 1 + at = omega arith in
      let r = kept_at p q ys x (from + 1) at (rw away at placed ∙ ap Some e) got is kept in
      elim (cases_Bool (q y)) [
        | inl stays ↦ (
          suc r.0,
          λ start. let f : start + 1 + r.0 ≡ start + suc r.0 = omega arith in
              rw (stays, away) (r.1 (start + 1) ∙ ap Some f),
          rw stays r.2,
        )
        | inr goes ↦ (r.0, λ start. rw goes (r.1 start), rw goes r.2)
      ]
]
  where
    same_of : {a b : ℕ} → ◌≡◌ {A = Option ℕ} (Some a) (Some b) → a ≡ b
    same_of e = cc

-- what is left of a list was there, and passes
pub has_left : {X : Type 0} (q : X → Bool) (xs : List X) (x : X) → Has (filter q xs) x → Has xs x × (q x ≡ true)
has_left q [] x has = absurd has
has_left q (y ∷ ys) x has = elim (cases_Bool (q y)) [
  | inl stays ↦ elim (rw stays at has) [
    | inl same ↦ (inl same, ap q same ∙ stays)
    | inr more ↦ let r = has_left q ys x more in (inr r.0, r.1)
  ]
  | inr goes ↦ let r = has_left q ys x (rw goes at has) in (inr r.0, r.1)
]

pub all_left : {X : Type 0} (P : X → Type 0) (q : X → Bool) (xs : List X) → AllByRecursion P xs
    → AllByRecursion P (filter q xs)
all_left P q xs all = all_from P (filter q xs) (λ x has. all_has P xs x all (has_left q xs x has).0)

filter_both : {X : Type 0} (a b : X → Bool) (xs : List X) → filter (λ x. not (a x)) (filter (λ x. not (b x)) xs)
    ≡ filter (λ x. not (a x || b x)) xs
filter_both a b [] = refl
filter_both a b (x ∷ xs) = elim (cases_Bool (b x)) [
  | inl gone ↦ elim (cases_Bool (a x)) [
    | inl too ↦ rw (gone, too) (filter_both a b xs)
    | inr not_so ↦ rw (gone, not_so) (filter_both a b xs)
  ]
  | inr left ↦ elim (cases_Bool (a x)) [
    | inl gone ↦ rw (left, gone) (filter_both a b xs)
    | inr too ↦ rw (left, too) (ap (λ ys. x ∷ ys) (filter_both a b xs))
  ]
]

none_of : {X : Type 0} (p : X → Bool) (xs : List X) → AllByRecursion (λ x. p x ≡ false) xs → list_any p xs ≡ false
none_of p [] all = refl
none_of p (x ∷ xs) all = rw all.0 (none_of p xs all.1)

-- ---- of a schema

pub none_gone : (schema : Schema) (trees : Table → ℕ) → without trees [] schema ≡ schema
none_gone schema trees = λ i. record schema {
  tables = filter_all (λ _. true) schema.tables (λ x has. refl) i;
  indexes = filter_all (λ _. true) schema.indexes (λ x has. refl) i;
}

pub one_more_gone : (schema : Schema) (trees : Table → ℕ) (t : Table) (gone : List Table)
    → without_table (without trees gone schema) (trees t) ≡ without trees (t ∷ gone) schema
one_more_gone schema trees t gone = λ i. record schema {
  tables = filter_both (λ d. d.tree == trees t) (λ d. is_among trees gone d.tree) schema.tables i;
  indexes = filter_both (λ x. x.table == trees t) (λ x. is_among trees gone x.table) schema.indexes i;
}

not_so : (b : Bool) → not b ≡ false → b ≡ true
not_so true h = refl
not_so false h = absurd (cc)

pub stands_left : (schema : Schema) (trees : Table → ℕ) (gone : List Table) (table : Described) (at : ℕ)
    → TableIsAt schema table at → is_among trees gone table.tree ≡ false
    → (k : ℕ) × TableIsAt (without trees gone schema) table k
stands_left schema trees gone table at it other =
    let e : at ≡ 0 + at = omega arith in
    let r = kept_at (λ (d : Described). same_name d.name table.name) (λ (d : Described). not (is_among trees gone d.tree))
    schema.tables table 0 at (it.named ∙ ap Some e) it.got (same_itself table.name) (ap not other) in
    let f : 0 + r.0 ≡ r.0 = omega arith in (
      r.0,
      record {
        named = r.1 0 ∙ ap Some f;
        got = r.2;
        found = find_within (λ (d : Described). d.tree == table.tree) (λ (d : Described). not (is_among trees gone d.tree))
            schema.tables (λ x h away. ne_eqb x.tree table.tree (λ same. true≢false (sym (not_so (is_among trees gone
            x.tree) away) ∙ ap (is_among trees gone) same ∙ other))) ∙ it.found;
        stored = it.stored;
      },
    )

-- ---- of schema 1

module _ (schema : Schema) (has : HasFirstTables schema) where
  -- two tables have two trees
  trees_differ : (t u : Table) → same_name (name u) (name t) ≡ false → has.trees t ≢ has.trees u
  trees_differ t u other same =
      let one : first_table_at (has.trees t) t ≡ first_table_at (has.trees u) u = some_same (sym (has.stands t).found
      ∙ ap (λ n. find (λ (d : Described). d.tree == n) schema.tables) same ∙ (has.stands u).found) in
      true≢false (sym (same_itself (name t)) ∙ ap (λ (d : Described). same_name d.name (name t)) one ∙ other)

  pub not_among : (t : Table) (us : List Table) → list_any (λ u. same_name (name u) (name t)) us ≡ false
      → is_among has.trees us (has.trees t) ≡ false
  not_among t [] none = refl
  not_among t (u ∷ us) none =
      let both = or_parts (same_name (name u) (name t)) (list_any (λ u. same_name (name u) (name t)) us) none in
      rw (ne_eqb (has.trees t) (has.trees u) (trees_differ t u both.0)) (not_among t us both.1)

  module _ (t : Table) (gone : List Table) where
    -- it still stands where others are taken away
    pub still_there : list_any (λ u. same_name (name u) (name t)) gone ≡ false
        → (k : ℕ) × TableIsAt (without has.trees gone schema) (first_table_at (has.trees t) t) k
    still_there apart = stands_left schema has.trees gone (first_table_at (has.trees t) t) (has.at t) (has.stands t)
        (not_among t gone apart)

    -- and no table refers to it, unless it has the run cycles
    pub unacted : same_name (name t) (name RunCycle) ≡ false
        → is_acted_on (without has.trees gone schema) Enforced (first_table_at (has.trees t) t) ≡ false
    unacted other = none_of _ (without has.trees gone schema).tables (all_from _ (without has.trees gone schema).tables
        (λ d there.
        let was = has_left (λ (d : Described). not (is_among has.trees gone d.tree)) schema.tables d there in
        none_of _ d.references (all_from _ d.references (λ ref here. and_left _ _ (go d ref
        (all_has _ d.references ref (all_has _ schema.tables d has.refer was.0) here))))))
      where
        go : (d : Described) (ref : Reference) → IsAside ref ⊎ ((d ≡ table_at (has.trees Offset) Offset) × (ref ≡ to_run_cycle))
            → same_name (name t) ref.parent ≡ false
        go d ref (inl aside) = aside t
        go d ref (inr (is, own)) = ap (λ (r : Reference). same_name (name t) r.parent) own ∙ other

-- no view has their names
module _ (schema : Schema) (can : CanRemake schema) (gone : List Table) where
  abbrev left : Schema
  left = without can.has.trees changed schema

  unused : AllByRecursion (λ (d : Described). is_used left d.name ≡ false) changed_schema.tables
  unused = recursion_from_All (λ (d : Described). is_used left d.name ≡ false) changed_schema.tables can.free.unused.tables

  pub unviewed_predecessors : view_named (without can.has.trees gone schema) (name Predecessor) ≡ None
  unviewed_predecessors = no_view left (name Predecessor) unused.0

  pub unviewed_links : view_named (without can.has.trees gone schema) (name LinkInForce) ≡ None
  unviewed_links = no_view left (name LinkInForce) unused.1.0
