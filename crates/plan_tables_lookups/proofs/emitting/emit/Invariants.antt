use Rattle.std.proofs.Common.{◌≡◌, List, false}
use Rattle.sqlite.specs.Given.{HasGiven}
use Rattle.sqlite.specs.Held.{state}
use Rattle.sqlite.specs.Order.{Row as Values}
use Rattle.sqlite.specs.State.{HasCleanDisk, IsUnchanged, Survives}
use Rattle.sqlite.specs.Values.{bound}
use Rattle.plan_tables_lookups.specs.Emitting.{AcceptsAll}
use Rattle.plan_tables_lookups.specs.Looks.{look_sql}
use Rattle.plan_tables_schema.specs.Schema.{HasTables}
use Rattle.plan_tables_lookups.proofs.emitting.emit.Given as goal

abbrev pub invariant-rows : goal.invariant-rows
invariant-rows g l =
    let old = state g.S.Store l.fn.conn in
    let now = state g.S.Store l.rows.conn.now in
    (l.rows.conn.ghost_name ≡ l.initial.rows.conn.ghost_name) × Survives old now (λ _. HasTables old.now.schema → ⊥)
    × (l.fn.conn.in_transaction ≡ false → l.rows.conn.now.in_transaction ≡ false)
    × ((given : List Values) × AcceptsAll g.K.ValuesSink.accepts l.fn.sink given l.sink
    × (HasCleanDisk now → HasTables old.now.schema
    → HasGiven g.S.Store (look_sql l.fn.look) (bound l.fn.asked) l.rows.conn.now given × IsUnchanged old now))
