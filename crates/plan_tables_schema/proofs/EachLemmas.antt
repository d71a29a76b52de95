-- What is so of each of the tables, whatever they are made of.
use Rattle.std.proofs.Common.{◌≡◌, ◌++◌, false, List, [], ◌∷◌, map, refl, sym, subst}
use Rattle.std.specs.List.{All, AllByRecursion}
use Rattle.std.proofs.lemmas.List.Elements.{All-from_recursion, recursion_from_All}
use Rattle.sqlite_rules.proofs.ListLemmas.{all_from, all_has}
use Rattle.sqlite_schema.specs.Names.{same_name}
use Rattle.sqlite_schema.specs.declared.schema.Reference.{Reference}
use Rattle.sqlite_schema.specs.declared.schema.Table.{Table as Described}
use Rattle.plan_tables_schema.specs.Free.{AreAside, IsAsideOf}
use Rattle.plan_tables_schema.specs.Made.{earlier, later}
use Rattle.plan_tables_schema.specs.Schema.{IsAside, all_tables, name}
use Rattle.plan_tables_schema.specs.declared.tables.Table.{Table}
use Rattle.plan_tables_schema.specs.declared.tables.Table.TheVariants.{Meta}

pub in_order : (t : Table) → earlier t ++ t ∷ later t ≡ all_tables
in_order Meta = refl
in_order t = refl

module _ {X : Type 0} (form : Table → X) (P : X → Type 0) where
  between : (us vs : List Table) (t : Table) → AllByRecursion P (map form (us ++ t ∷ vs)) → P (form t)
  between [] vs t h = h.0
  between (u ∷ us) vs t h = between us vs t h.1

  pub each : All P (map form all_tables) → (t : Table) → P (form t)
  each all t = between (earlier t) (later t) t (subst (λ ts. AllByRecursion P (map form ts)) (sym (in_order t))
      (recursion_from_All P (map form all_tables) all))

  all_formed : ((t : Table) → P (form t)) → (ts : List Table) → AllByRecursion P (map form ts)
  all_formed h [] = tt
  all_formed h (t ∷ ts) = (h t, all_formed h ts)

  pub all_each : ((t : Table) → P (form t)) → All P (map form all_tables)
  all_each h = All-from_recursion P (map form all_tables) (all_formed h all_tables)

-- ---- none is referred to, where they have the names of the tables

module _ (form : Table → Described) (named : (t : Table) → (form t).name ≡ name t) where
  aside_each : (ref : Reference) → IsAsideOf (map form all_tables) ref → IsAside ref
  aside_each ref aside t = subst (λ n. same_name n ref.parent ≡ false) (named t)
      (each form (λ d. same_name d.name ref.parent ≡ false) aside t)

  each_aside : (ref : Reference) → IsAside ref → IsAsideOf (map form all_tables) ref
  each_aside ref aside = all_each form (λ d. same_name d.name ref.parent ≡ false)
      (λ t. subst (λ n. same_name n ref.parent ≡ false) (sym (named t)) (aside t))

  pub asides_each : (child : Described) → AreAside (map form all_tables) child → AllByRecursion IsAside child.references
  asides_each child aside = all_from IsAside child.references (λ ref has. aside_each ref (all_has (IsAsideOf
      (map form all_tables)) child.references ref (recursion_from_All _ child.references aside) has))

  pub each_asides : (child : Described) → AllByRecursion IsAside child.references → AreAside (map form all_tables) child
  each_asides child aside = All-from_recursion (IsAsideOf (map form all_tables)) child.references
      (all_from _ child.references (λ ref has. each_aside ref (all_has IsAside child.references ref aside has)))
