use Rattle.std.proofs.Common.{Some, ap, ◌∙◌, subst, sym}
use Rattle.std.specs.Prelude.{codes}
use Rattle.std.proofs.lemmas.Result.{on_ok_weaker}
use Rattle.plan_periods.specs.declared.periods.Period.TheVariants.{Listed}
use Rattle.plan_tables_content.specs.Facts.{IsPeriodRow, entry_values}
use Rattle.plan_tables_definitions.specs.Adding.{Adds}
use Rattle.plan_tables_definitions.proofs.AddLemmas.{row_added}
use Rattle.plan_tables_definitions.proofs.PartLemmas.{listed_added}
use Rattle.plan_tables_definitions.proofs.periods.push_period.Goals as goal
use Rattle.plan_tables_definitions.proofs.periods.push_period.Goals.{in-All+in_ok-row-in-All, in-Work+in_ok-row-in-Work}

pub returns-in-Listed : goal.returns-in-Listed
returns-in-Listed c = on_ok_weaker c.push_listed.result
    (λ h. subst (λ p. Adds 2 (IsPeriodRow c.args.name.now p) c.args.rows.now.items c.push_listed.new.rows.items)
    (ap Listed c.as_slice.ensures ∙ sym c.in-Listed.is)
    (listed_added c.args.name.now c.as_slice.result.now c.args.rows.now.items c.push_listed.new.rows.items h))
    c.push_listed.ensures

pub returns : goal.returns
returns c = elim c.match-period.branch [
  | in-All+in_ok-row-in-All w ↦ subst (λ p. Adds 2 (IsPeriodRow c.args.name.now p) c.args.rows.now.items
      c.push.new.self.items) (sym w.in-All.is)
      (row_added 2 (entry_values c.args.name.now 0 (codes "A") w.in-All.origin (Some w.in-All.interval))
      c.match-period.row c.args.rows.now.items c.push.new.self.items (w.row-is ∙ w.in_ok-row-in-All.ensures)
      c.in_ok-push.ensures.items)
  | in-Work+in_ok-row-in-Work w ↦ subst (λ p. Adds 2 (IsPeriodRow c.args.name.now p) c.args.rows.now.items
      c.push.new.self.items) (sym w.in-Work.is)
      (row_added 2 (entry_values c.args.name.now 0 (codes "W") w.in-Work.origin (Some w.in-Work.interval))
      c.match-period.row c.args.rows.now.items c.push.new.self.items (w.row-is ∙ w.in_ok-row-in-Work.ensures)
      c.in_ok-push.ensures.items)
]
