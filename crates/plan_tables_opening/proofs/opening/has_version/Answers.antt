use Rattle.std.proofs.Common.{map, subst, sym}
use Rattle.sqlite.specs.Held.{state}
use Rattle.plan_tables_schema.specs.Rows.{shown, tables_of}
use Rattle.plan_tables_schema.specs.declared.tables.Table.TheVariants.{Meta}
use Rattle.plan_tables_opening.specs.Held.{AreKnown}
use Rattle.plan_tables_loading.specs.Reading.{HasPlan}
use Rattle.plan_tables_opening.proofs.StoredLemmas.{still_known}
use Rattle.plan_tables_opening.proofs.opening.has_version.Goals as goal

pub returns-clause-told : goal.returns-clause-told
unfolding HasPlan
returns-clause-told g c clean plan =
    let rows = map (shown Meta) (tables_of (state g.S.Store c.args.conn.now).now.trees Meta) in
    let still = still_known rows c.in_ok-rows.rows.items (c.in_ok-rows.ensures.rows clean plan) in (
      (λ yes. still.0 (subst AreKnown c.deref.ensures.value (c.is_known.ensures.0 yes))),
      λ known. c.is_known.ensures.1 (subst AreKnown (sym c.deref.ensures.value) (still.1 known)),
    )
