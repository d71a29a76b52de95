-- Where plan_meta has no rows, it takes the first.
use Rattle.std.proofs.Common.{◌≡◌, ℕ, pos, [], ◌∷◌, refl, subst, sym, arith, codes}
use Rattle.std.specs.Float.{NotNan}
use Rattle.std.specs.Int.{bit_at}
use Rattle.std.proofs.lemmas.List.Elements.{All-from_recursion}
use Rattle.sqlite.specs.Effect.{Database}
use Rattle.sqlite.specs.Order.{Row}
use Rattle.sqlite.specs.State.{State}
use Rattle.sqlite.specs.declared.types.Value.TheVariants.{Null, Int, Text}
use Rattle.sqlite_schema.specs.Rules.{table_reals}
use Rattle.sqlite_trees.specs.View.{IsStorableRow}
use Rattle.sqlite_value.specs.Order.{number}
use Rattle.plan_tables_schema.specs.Made.{IsMadeWhole}
use Rattle.plan_tables_schema.specs.Rows.{no_rows, tables_of}
use Rattle.plan_tables_schema.specs.Schema.{table}
use Rattle.plan_tables_schema.specs.Accepted.{IsSoundPlan, AcceptsRow, new_row}
use Rattle.plan_tables_schema.specs.declared.tables.TheConstants.{SCHEMA_VERSION}
use Rattle.plan_tables_schema.specs.declared.tables.Table.TheVariants.{Meta}

-- the values of the row, where there is no plan
abbrev pub first_cells : Row
first_cells = Int (pos 1) ∷ Int (pos SCHEMA_VERSION) ∷ Int (pos 0) ∷ Int (pos 0) ∷ Int (pos 0) ∷ Int (pos 0)
    ∷ Int (pos 0) ∷ Text (codes "DEFAULT") ∷ Int (pos 504) ∷ []

-- as it is stored
abbrev first_row : Row
first_row = Int (pos 1) ∷ Null ∷ Int (pos SCHEMA_VERSION) ∷ Int (pos 0) ∷ Int (pos 0) ∷ Int (pos 0) ∷ Int (pos 0)
    ∷ Int (pos 0) ∷ Text (codes "DEFAULT") ∷ Int (pos 504) ∷ []

row_is : new_row Meta first_cells no_rows ≡ first_row
unfolding Rattle.sqlite_value.specs.Order.value_cmp Rattle.sqlite_sql.specs.Ops.unary lib.Ieee.is_nan lib.Ieee.lt
row_is = refl

storable : IsStorableRow (table_reals (table Meta)) first_row
unfolding lib.Ieee.is_nan lib.Ieee.lt
storable = (
  record {
    typed = λ c bit. absurd (no_bit c bit);
    columns = (omega arith, omega arith);
    numbers = All-from_recursion (λ v. NotNan (number v)) first_row
        (tt, (tt, (tt, (tt, (tt, (tt, (tt, (tt, (tt, (tt, tt))))))))));
    short = omega arith;
  },
  omega arith,
)
  where
    no_bit : (c : ℕ) → bit_at 0 c ≡ 1 → ⊥
    no_bit c bit = grind (arith)

pub first_row_fits : AcceptsRow Meta first_cells no_rows
unfolding
    Rattle.sqlite_value.specs.Order.value_cmp Rattle.sqlite_sql.specs.Ops.unary Rattle.sqlite_sql.specs.Ops.binary
    lib.Ieee.is_nan lib.Ieee.lt
first_row_fits = record {
  whole = refl;
  kinds = refl;
  typed = refl;
  present = refl;
  checked = refl;
  storable = subst (IsStorableRow (table_reals (table Meta))) (sym row_is) storable;
  entries = tt;
  numbered = refl;
  within = refl;
  fresh = refl;
  unique = tt;
  parents = tt;
}

-- so the tables that were just made take it
pub takes_first : (base : Database) (s : State) → IsMadeWhole base s → AcceptsRow Meta first_cells (tables_of s.now.trees)
takes_first base s is = subst (AcceptsRow Meta first_cells) (sym is.rows_are) first_row_fits

pub is_sound : (base : Database) (s : State) → IsMadeWhole base s → IsSoundPlan s
is_sound base s is = record { plan = is.plan; own = is.own; sound = λ _. is.sound; mode = is.mode }
