-- The tables in the order in which they are made.
use Rattle.std.proofs.Common.{◌≡◌, ◌+◌, ◌-◌, ◌<◌, ℕ, suc, zero, List, ◌∷◌, drop, take, get_or, Result, arith, refl, subst}
use Rattle.sqlite.specs.Effect.{Database}
use Rattle.sqlite.specs.State.{State}
use Rattle.sqlite.specs.Store.{Ghosts}
use Rattle.sqlite.specs.declared.error.Error.{Error}
use Rattle.sqlite.specs.declared.transaction.Transaction.{Transaction}
use Rattle.plan_tables_schema.specs.Made.{earlier, later, up_to}
use Rattle.plan_tables_schema.specs.Writes.{Turns}
use Rattle.plan_tables_schema.specs.Schema.{all_tables, place}
use Rattle.plan_tables_schema.specs.declared.tables.Table.{Table}
use Rattle.plan_tables_schema.specs.declared.tables.Table.TheVariants.{Meta}

pub up_to_is : (t : Table) → up_to t ≡ take (place t + 1) all_tables
up_to_is Meta = refl
up_to_is t = refl

pub from_it_is : (t : Table) → t ∷ later t ≡ drop (place t) all_tables
from_it_is Meta = refl
from_it_is t = refl

pub place_at : (i : ℕ) (t : Table) → i < 14 → place (get_or all_tables i t) ≡ i
place_at zero t low = refl
place_at (suc zero) t low = refl
place_at (suc (suc zero)) t low = refl
place_at (suc (suc (suc zero))) t low = refl
place_at (suc (suc (suc (suc zero)))) t low = refl
place_at (suc (suc (suc (suc (suc zero))))) t low = refl
place_at (suc (suc (suc (suc (suc (suc zero)))))) t low = refl
place_at (suc (suc (suc (suc (suc (suc (suc zero))))))) t low = refl
place_at (suc (suc (suc (suc (suc (suc (suc (suc zero)))))))) t low = refl
place_at (suc (suc (suc (suc (suc (suc (suc (suc (suc zero))))))))) t low = refl
place_at (suc (suc (suc (suc (suc (suc (suc (suc (suc (suc zero)))))))))) t low = refl
place_at (suc (suc (suc (suc (suc (suc (suc (suc (suc (suc (suc zero))))))))))) t low = refl
place_at (suc (suc (suc (suc (suc (suc (suc (suc (suc (suc (suc (suc zero)))))))))))) t low = refl
place_at (suc (suc (suc (suc (suc (suc (suc (suc (suc (suc (suc (suc (suc zero))))))))))))) t low = refl
place_at (suc (suc (suc (suc (suc (suc (suc (suc (suc (suc (suc (suc (suc (suc i)))))))))))))) t low = absurd (omega (arith, low))

-- what each table makes of a state, by its place
pub at_place : {S T : Type 0} {g : Ghosts S} {a b : Transaction S} {r : Result T Error}
    {F : Database → State → State → Error → Type 0} (At : List Table → Database → State → Type 0) (t : Table) (i : ℕ)
    → place t ≡ i → Turns g a b r (At (earlier t)) (At (up_to t)) F
    → Turns g a b r (At (take i all_tables)) (At (take (i + 1) all_tables)) F
at_place {g = g} {a = a} {b = b} {r = r} {F = F} At t i is turns =
    subst (λ n. Turns g a b r (At (take n all_tables)) (At (take (n + 1) all_tables)) F) is
    (subst (λ us. Turns g a b r (At (earlier t)) (At us) F) (up_to_is t) turns)

-- or of one after the other from the last on
pub from_place : {S T : Type 0} {g : Ghosts S} {a b : Transaction S} {r : Result T Error}
    {F : Database → State → State → Error → Type 0} (At : List Table → Database → State → Type 0) (t : Table) (i : ℕ)
    → i < 14 → place t ≡ 13 - i → Turns g a b r (At (later t)) (At (t ∷ later t)) F
    → Turns g a b r (At (drop (14 - i) all_tables)) (At (drop (14 - (i + 1)) all_tables)) F
from_place {g = g} {a = a} {b = b} {r = r} {F = F} At t i low is turns =
    let next : place t + 1 ≡ 14 - i = omega (arith, low, is) in
    let same : place t ≡ 14 - (i + 1) = omega (arith, low, is) in
    subst (λ n. Turns g a b r (At (drop n all_tables)) (At (drop (14 - (i + 1)) all_tables)) F) next
    (subst (λ n. Turns g a b r (At (later t)) (At (drop n all_tables)) F) same
    (subst (λ us. Turns g a b r (At (later t)) (At us) F) (from_it_is t) turns))
