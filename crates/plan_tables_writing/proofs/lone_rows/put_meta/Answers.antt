use Rattle.std.proofs.Common.{subst, sym}
use Rattle.std.specs.Prelude.{Option}
use Rattle.planner_machine.specs.declared.content.Bounds.{Bounds}
use Rattle.plan_tables_schema.specs.Rows.{AreOfKinds}
use Rattle.plan_tables_schema.specs.Accepted.{AcceptsRow}
use Rattle.plan_tables_schema.specs.declared.tables.Table.TheVariants.{Meta}
use Rattle.plan_tables_content.specs.Content.{meta_values}
use Rattle.plan_tables_writing.specs.Accepted.{WritesAccepted}
use Rattle.plan_tables_writing.specs.Writing.{with_meta}
use Rattle.plan_tables_writing.proofs.lone_rows.put_meta.Goals as goal

pub returns-in-None : goal.returns-in-None
returns-in-None g c =
    subst (λ (b : Option Bounds). WritesAccepted (λ _. AreOfKinds Meta
    (meta_values b c.args.issued c.args.options.now)) (AcceptsRow Meta (meta_values b c.args.issued
    c.args.options.now)) g.S.Store c.args.tx.now c.put_no_bounds.new.tx
    c.put_no_bounds.result (with_meta b c.args.issued c.args.options.now)) (sym c.in-None.is) c.put_no_bounds.ensures

pub returns-in-Some : goal.returns-in-Some
returns-in-Some g c =
    subst (λ (b : Option Bounds). WritesAccepted (λ _. AreOfKinds Meta
    (meta_values b c.args.issued c.args.options.now)) (AcceptsRow Meta (meta_values b c.args.issued
    c.args.options.now)) g.S.Store c.args.tx.now c.put_bounds.new.tx
    c.put_bounds.result (with_meta b c.args.issued c.args.options.now)) (sym c.in-Some.is) c.put_bounds.ensures
