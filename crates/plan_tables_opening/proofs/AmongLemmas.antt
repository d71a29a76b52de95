-- The fourteen tables that stand in a schema, whatever schema they are made by.
use Rattle.std.proofs.Common.{◌≡◌, ◌⊎◌, ◌∙◌, ◌==◌, ◌<◌, ◌^◌, ℕ, Bool, true, false, inl, inr, List}
use Rattle.std.proofs.Common.{Option, Some, None, map, slice_get, refl, sym, ap, subst, arith}
use Rattle.std.specs.List.{All, AllByRecursion}
use Rattle.std.specs.Option.{option_and_then}
use Rattle.std.specs.Prelude.{MatchOption}
use Rattle.std.proofs.lemmas.Bool.{lt-leb}
use Rattle.std.proofs.lemmas.Bool.Decides.{nat_tests}
use Rattle.std.proofs.lemmas.List.Elements.{All-from_recursion, recursion_from_All}
use Rattle.sqlite_rules.proofs.ListLemmas.{all_from, all_has, has_got}
use Rattle.sqlite_rules.proofs.RuleLemmas.{same_table}
use Rattle.sqlite_rules.specs.Lists.{Has}
use Rattle.sqlite_schema.specs.Names.{table_named}
use Rattle.sqlite_schema.specs.declared.schema.Reference.{Reference}
use Rattle.sqlite_schema.specs.declared.schema.Schema.{Schema}
use Rattle.sqlite_schema.specs.declared.schema.Table.{Table as Described}
use Rattle.sqlite_trees.specs.Tree.{IsAscending}
use Rattle.plan_tables_schema.specs.Named.{first_named}
use Rattle.plan_tables_schema.specs.Places.{TableIsAt, TreesDiffer}
use Rattle.plan_tables_schema.specs.Schema.{IsAside, RefersAside, all_tables, name, table, table_at, to_run_cycle}
use Rattle.plan_tables_schema.specs.Free.{AreAside}
use Rattle.plan_tables_schema.proofs.EachLemmas.{all_each, asides_each, each, each_asides}
use Rattle.plan_tables_schema.proofs.FoundLemmas.{named_is, named_there, own_found}
use Rattle.plan_tables_schema.specs.declared.tables.Table.{Table}
use Rattle.plan_tables_schema.specs.declared.tables.Table.TheVariants.{Offset}
use Rattle.plan_tables_opening.specs.Alike.{IsAlike}
use Rattle.plan_tables_opening.specs.Standing.{IsThere, OffsetsRefer, StandAmong}

-- what each table is where they stand alone: it has its name, and the offsets are those of a plan
pub record Forms : Type 0 where
  pub form : Table → Described
  pub named : (t : Table) → (form t).name ≡ name t
  pub offsets : form Offset ≡ table Offset

-- the table as it stands in that tree
abbrev pub form_at : Forms → ℕ → Table → Described
form_at forms n t = record (forms.form t) { tree = n }

abbrev pub formed : Forms → List Described
formed forms = map forms.form all_tables

-- each stands in the schema, at some place and in some tree, and perhaps others, which refer to none of these
pub record AreThere (forms : Forms) (schema : Schema) : Type 0 where
  pub at : Table → ℕ
  pub trees : Table → ℕ
  pub stands : (t : Table) → TableIsAt schema (form_at forms (trees t) t) (at t)
  pub apart : IsAscending TreesDiffer schema.tables
  pub refer : RefersAside schema (trees Offset)

module _ (forms : Forms) where
  -- ---- they stand in a schema

  module _ (schema : Schema) where
    one_stands : (t : Table) → IsAscending TreesDiffer schema.tables → IsThere schema.tables (forms.form t)
        → (n : ℕ) × (at : ℕ) × TableIsAt schema (form_at forms n t) at
    unfolding IsThere
    one_stands t apart there =
        by_name (table_named schema (forms.form t).name) refl (first_named schema.tables (forms.form t).name)
        (named_is schema (forms.form t).name) there
      where
        by_name : (o : Option ℕ) → table_named schema (forms.form t).name ≡ o → (f : Option Described)
            → f ≡ option_and_then (slice_get schema.tables) o
            → MatchOption f ⊥ (λ found. IsAlike found (forms.form t) × (found.tree < 2 ^ 31))
            → (n : ℕ) × (at : ℕ) × TableIsAt schema (form_at forms n t) at
        by_name o named None is h = absurd h
        by_name None named (Some d) is h = absurd cc
        by_name (Some at) named (Some d) is h =
            let got : slice_get schema.tables at ≡ Some (form_at forms d.tree t) = sym is ∙ ap Some h.0 in (
              d.tree,
              at,
              record {
                named = named;
                got = got;
                found = own_found schema.tables (form_at forms d.tree t) apart (has_got schema.tables at _ got);
                stored = lt-leb (2 ^ 31) d.tree h.1;
              },
            )

    one_there : (t : Table) (at n : ℕ) → TableIsAt schema (form_at forms n t) at → IsThere schema.tables (forms.form t)
    unfolding IsThere
    one_there t at n stands = rw (named_there schema (form_at forms n t) at stands)
        (refl, grind (arith, nat_tests, stands.stored))

    -- the offsets, which alone refer to one of them
    module _ (at n : ℕ) (stands : TableIsAt schema (table_at n Offset) at) where
      refers_aside : IsAscending TreesDiffer schema.tables → OffsetsRefer schema.tables (formed forms)
          → RefersAside schema n
      unfolding OffsetsRefer
      refers_aside apart refer = by (first_named schema.tables (name Offset))
          (named_there schema (table_at n Offset) at stands) refer
        where
          Refers : Described → Reference → Type 0
          Refers child ref = IsAside ref ⊎ ((child ≡ table_at n Offset) × (ref ≡ to_run_cycle))

          InTreeOrAside : Described → Type 0
          InTreeOrAside child = (child.tree ≡ n) ⊎ AreAside (formed forms) child

          own : AllByRecursion (Refers (table_at n Offset)) (table_at n Offset).references
          own = (inr (refl, refl), tt)

          by : (f : Option Described) → f ≡ Some (table_at n Offset)
              → MatchOption f ⊥ (λ offsets. All (λ child. (child.tree ≡ offsets.tree) ⊎ AreAside (formed forms) child)
              schema.tables) → RefersAside schema n
          by None is h = absurd h
          by (Some d) is h =
              let same : d ≡ table_at n Offset = cc in
              let alone = recursion_from_All InTreeOrAside schema.tables (subst (λ (offsets : Described). All
              (λ (child : Described). (child.tree ≡ offsets.tree) ⊎ AreAside (formed forms) child) schema.tables)
              same h) in
              all_from (λ child. AllByRecursion (Refers child) child.references) schema.tables
              (λ child has. one child has (all_has InTreeOrAside schema.tables child alone has))
            where
              one : (child : Described) → Has schema.tables child → (child.tree ≡ n) ⊎ AreAside (formed forms) child
                  → AllByRecursion (Refers child) child.references
              one child has (inl in_tree) =
                  let it = same_table schema.tables child (table_at n Offset) apart has
                  (has_got schema.tables at _ stands.got) in_tree in
                  subst (λ (c : Described). AllByRecursion (Refers c) c.references) (sym it) own
              one child has (inr aside) = all_from _ child.references
                  (λ ref there. inl (all_has IsAside child.references ref (asides_each forms.form forms.named child aside) there))

      offsets_alone : RefersAside schema n → OffsetsRefer schema.tables (formed forms)
      unfolding OffsetsRefer
      offsets_alone refer = rw (named_there schema (table_at n Offset) at stands)
          (All-from_recursion _ schema.tables (all_from _ schema.tables
          (λ child has. go child (all_has _ schema.tables child refer has) (child.tree == n) refl)))
        where
          go : (child : Described)
              → AllByRecursion (λ ref. IsAside ref ⊎ ((child ≡ table_at n Offset) × (ref ≡ to_run_cycle)))
              child.references
              → (b : Bool) → (child.tree == n) ≡ b → (child.tree ≡ n) ⊎ AreAside (formed forms) child
          go child all true is = inl (grind (arith, nat_tests, is))
          go child all false is = inr (each_asides forms.form forms.named child (all_from IsAside child.references
              (λ ref has. aside ref (all_has _ child.references ref all has))))
            where
              aside : (ref : Reference) → IsAside ref ⊎ ((child ≡ table_at n Offset) × (ref ≡ to_run_cycle))
                  → IsAside ref
              aside ref (inl h) = h
              aside ref (inr h) = absurd (let same : child.tree ≡ n = ap (λ (d : Described). d.tree) h.0 in
                  grind (arith, nat_tests, is, same))

    -- the offsets stand as those of a plan
    offsets_there : (at n : ℕ) → TableIsAt schema (form_at forms n Offset) at → TableIsAt schema (table_at n Offset) at
    offsets_there at n stands =
        subst (λ (d : Described). TableIsAt schema (record d { tree = n }) at) forms.offsets stands

    pub are_there : StandAmong schema.tables (formed forms) → AreThere forms schema
    are_there h =
        let one : (t : Table) → (n : ℕ) × (at : ℕ) × TableIsAt schema (form_at forms n t) at =
        λ t. one_stands t h.apart (each forms.form (IsThere schema.tables) h.stand t) in
        record {
          at = λ t. (one t).1;
          trees = λ t. (one t).0;
          stands = λ t. (one t).2;
          apart = h.apart;
          refer = refers_aside (one Offset).1 (one Offset).0
              (offsets_there (one Offset).1 (one Offset).0 (one Offset).2) h.apart h.refer;
        }

    pub they_stand : AreThere forms schema → StandAmong schema.tables (formed forms)
    they_stand are = record {
      stand = all_each forms.form (IsThere schema.tables) (λ t. one_there t (are.at t) (are.trees t) (are.stands t));
      apart = are.apart;
      refer = offsets_alone (are.at Offset) (are.trees Offset)
          (offsets_there (are.at Offset) (are.trees Offset) (are.stands Offset)) are.refer;
    }
