-- What holds of one item after another.
use Rattle.std.proofs.Common.{◌≡◌, ◌<◌, ◌+◌, ℕ, suc, List, [], ◌∷◌, length, drop, get_or, refl, subst, arith}
use Rattle.std.specs.List.{Contains}
use Rattle.sqlite.specs.Order.{Row as Values}
use Rattle.plan_tables_schema.specs.Rows.{IsAlone, Tables, with_cells, without_key}
use Rattle.plan_tables_schema.specs.Accepted.{AcceptsRow}
use Rattle.plan_tables_schema.specs.declared.tables.Table.{Table}
use Rattle.plan_tables_schema.proofs.InTurn.{cut}
use Rattle.plan_tables_writing.specs.InTurn.{HoldsInTurn}
use Rattle.plan_tables_writing.specs.Redefining.{AreAlone, name_key}
use Rattle.plan_tables_writing.specs.Accepted.{AcceptsEach}
use Rattle.plan_tables_writing.proofs.AloneLemmas.{alone_still}

module _ {X : Type 0} (P : X → Tables → Type 0) (makes : X → Tables → Tables) where
  -- of the next, and then of the rest
  pub next_holds : (items : List X) (i : ℕ) (item : X) (all : Tables) → i < length items → item ≡ get_or items i item
      → HoldsInTurn P makes (drop i items) all
      → P item all × HoldsInTurn P makes (drop (i + 1) items) (makes item all)
  next_holds items i item all low is h = subst (λ xs. HoldsInTurn P makes xs all) (cut items i item low is) h

  -- what holds of each whatever the tables are
  pub always : (items : List X) → ((x : X) → Contains items x → (all : Tables) → P x all) → (all : Tables)
      → HoldsInTurn P makes items all
  always [] holds all = tt
  always (x ∷ xs) holds all = (
    holds x (0, omega arith, refl) all,
    always xs (λ y has. let low = has.1 in holds y (suc has.0, omega (arith, low), has.2)) (makes x all),
  )

  pub both : (Q : X → Tables → Type 0) (items : List X) (all : Tables) → HoldsInTurn P makes items all
      → HoldsInTurn Q makes items all → HoldsInTurn (λ x all. P x all × Q x all) makes items all
  both Q [] all p q = tt
  both Q (x ∷ xs) all p q = ((p.0, q.0), both Q xs (makes x all) p.1 q.1)

pub rows_taken : {X : Type 0} (t : Table) (values_of : X → Values) (items : List X) (all : Tables)
    → AcceptsEach t values_of items all
    → HoldsInTurn (λ x. AcceptsRow t (values_of x)) (λ x. with_cells t (values_of x)) items all
rows_taken t values_of [] all h = tt
rows_taken t values_of (x ∷ xs) all h = (h.0, rows_taken t values_of xs (with_cells t (values_of x) all) h.1)

-- what goes alone at first does so in turn
pub go_alone : (t : Table) (names : List (List ℕ)) (all : Tables) → AreAlone t names all
    → HoldsInTurn (λ name. IsAlone t (name_key name)) (λ name. without_key t (name_key name)) names all
go_alone t [] all alone = tt
go_alone t (x ∷ xs) all alone = (
  alone x (0, omega arith, refl),
  go_alone t xs (without_key t (name_key x) all) (λ name has. let low = has.1 in
      alone_still t (name_key name) (name_key x) all (alone name (suc has.0, omega (arith, low), has.2))),
)
