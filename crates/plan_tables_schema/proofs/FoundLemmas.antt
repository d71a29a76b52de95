-- Tables that are found by their names or in their trees.
use Rattle.std.proofs.Common.{◌≡◌, ◌+◌, ◌==◌, ℕ, suc, Bool, true, false, inl, inr, List, [], ◌∷◌, refl, sym, ap, arith}
use Rattle.std.proofs.Common.{Option, Some, None, slice_get}
use Rattle.std.specs.List.{find, position_from}
use Rattle.std.specs.Option.{option_and_then}
use Rattle.std.proofs.lemmas.Bool.{eq-eqb, ne_eqb}
use Rattle.sqlite_rules.proofs.ListLemmas.{all_has}
use Rattle.sqlite_rules.specs.Lists.{Has}
use Rattle.sqlite_schema.specs.Names.{same_name, table_named}
use Rattle.sqlite_schema.specs.declared.schema.Schema.{Schema}
use Rattle.sqlite_schema.specs.declared.schema.Table.{Table as Described}
use Rattle.sqlite_trees.specs.Tree.{IsAscending}
use Rattle.plan_tables_schema.specs.Named.{first_named}
use Rattle.plan_tables_schema.specs.Places.{TableIsAt, TreesDiffer}

-- the element at the first place whose test passes is the first that passes it
module _ {X : Type 0} (p : X → Bool) where
  abbrev IsFirst : ℕ → List X → Option ℕ → Option X → Type 0
  IsFirst start xs None found = found ≡ None
  IsFirst start xs (Some at) found = (k : ℕ) × (at ≡ start + k) × (found ≡ slice_get xs k)

  first_from : (start : ℕ) (xs : List X) → IsFirst start xs (position_from p start xs) (find p xs)
  first_from start [] = refl
  first_from start (x ∷ xs) = go (p x) refl (first_from (start + 1) xs)
    where
      later : (o : Option ℕ) → IsFirst (start + 1) xs o (find p xs) → IsFirst start (x ∷ xs) o (find p xs)
      later None h = h
      later (Some at) h = (suc h.0, omega (arith, h.1), h.2)

      go : (b : Bool) → p x ≡ b → IsFirst (start + 1) xs (position_from p (start + 1) xs) (find p xs)
          → IsFirst start (x ∷ xs) (position_from p start (x ∷ xs)) (find p (x ∷ xs))
      go true is rest = rw is (0, omega arith, refl)
      go false is rest = rw is (later (position_from p (start + 1) xs) rest)

  first_is : (xs : List X) → find p xs ≡ option_and_then (slice_get xs) (position_from p 0 xs)
  first_is xs = go (position_from p 0 xs) (first_from 0 xs)
    where
      go : (o : Option ℕ) → IsFirst 0 xs o (find p xs) → find p xs ≡ option_and_then (slice_get xs) o
      go None h = h
      go (Some at) h = let same : at ≡ h.0 = omega (arith, h.1) in rw same h.2

-- a table is found by its name at the first place that has it
pub named_is : (schema : Schema) (wanted : List ℕ)
    → first_named schema.tables wanted ≡ option_and_then (slice_get schema.tables) (table_named schema wanted)
named_is schema wanted = first_is (λ (t : Described). same_name t.name wanted) schema.tables

-- one that stands there is the first of its name
pub named_there : (schema : Schema) (table : Described) (at : ℕ) → TableIsAt schema table at
    → first_named schema.tables table.name ≡ Some table
named_there schema table at it = rw (it.named, it.got) at (named_is schema table.name)

-- a table is the first in its tree
pub own_found : (xs : List Described) (d : Described) → IsAscending TreesDiffer xs → Has xs d
    → find (λ t. t.tree == d.tree) xs ≡ Some d
own_found [] d apart has = absurd has
own_found (y ∷ ys) d apart (inl same) =
    rw (eq-eqb y.tree d.tree (ap (λ (t : Described). t.tree) (sym same))) (ap Some (sym same))
own_found (y ∷ ys) d apart (inr has) =
    rw (ne_eqb y.tree d.tree (all_has (TreesDiffer y) ys d apart.0 has)) (own_found ys d apart.1 has)
