-- Changes for which a database has room, and the schema that stays.
use Rattle.std.specs.Prelude.{◌≡◌, Err, IsTrue, Ok, Result}
use Rattle.sqlite.specs.State.{HasCleanDisk, State}
use Rattle.plan_store.specs.declared.changes.Change.{Change}
use Rattle.plan_store.specs.declared.stores.StoreFault.{StoreFault}
use Rattle.plan_store.specs.declared.stores.StoreFault.TheVariants.{Memory}
use Rattle.plan_tables_schema.specs.Rows.{tables_of}
use Rattle.plan_tables_schema.specs.Schema.{HasOnlyKeyIndexes}
use Rattle.plan_tables_constraints.specs.Accepted.{FindsRoom}

-- no index made by hand is of the tables of the database, and there is room in them for a change
abbrev pub HasRoomFor : State → Change → Type 0
HasRoomFor s change = HasOnlyKeyIndexes s.now.schema × FindsRoom change (tables_of s.now.trees)

-- a change that is made, or fails for lack of memory, keeps the schema, so there is still no index made by hand
abbrev pub KeepsSchema : {T : Type 0} → State → State → Result T StoreFault → Type 0
KeepsSchema old new (Ok _) = HasCleanDisk new → ∥ new.now.schema ≡ old.now.schema ∥₁
KeepsSchema old new (Err fault) =
    fault ≡ Memory → HasCleanDisk new → IsTrue new.is_open → ∥ new.now.schema ≡ old.now.schema ∥₁
