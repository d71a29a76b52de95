use Rattle.std.proofs.Common.{false, refl}
use Rattle.std.specs.Prelude.{option_copied}
use Rattle.occurrences.specs.Status.{status_letter}
use Rattle.occurrences.specs.declared.place.CurrentRow.{CurrentRow}
use Rattle.planner_machine.specs.Shown.{CurrentPlan}
use Rattle.plan_store_lists.specs.Rows.{of_current}
use Rattle.plan_store.specs.Contents.{content_of}
use Rattle.plan_store.specs.Listed.{ShowsSet}
use Rattle.plan_store.specs.Listings.{ShowRows}
use Rattle.plan_store.specs.Parts.{with_rest}
use Rattle.plan_store.proofs.ShownLemmas.{shows_cp, whole_all, whole_part}
use Rattle.plan_store.proofs.contents.Content.cp_to.Goals as goal

pub returns-clause-all : goal.returns-clause-all
returns-clause-all g c rest numbered =
    let kept = c.args.self.now in
    let whole = with_rest rest (content_of kept) in
    let app = option_copied c.args.app in
    let h = c.emit_rows.ensures.all in
    whole_all g.K.RowSink.accepts g.K.RowSink.refuses c.args.sink.now c.emit_rows.new.sink
    (ShowsSet of_current (λ (x : CurrentRow). status_letter x.status) false kept.cp.items app)
    (ShowRows CurrentPlan app whole) (shows_cp whole numbered kept.cp.items kept.cp_rows (λ _. refl) app)
    c.emit_rows.result (h kept.cp_rows)

pub returns-clause-part : goal.returns-clause-part
returns-clause-part g c rest numbered =
    let kept = c.args.self.now in
    let whole = with_rest rest (content_of kept) in
    let app = option_copied c.args.app in
    let h = c.emit_rows.ensures.part in
    whole_part g.K.RowSink.accepts g.K.RowSink.refuses c.args.sink.now c.emit_rows.new.sink
    (ShowsSet of_current (λ (x : CurrentRow). status_letter x.status) false kept.cp.items app)
    (ShowRows CurrentPlan app whole) (shows_cp whole numbered kept.cp.items kept.cp_rows (λ _. refl) app)
    c.emit_rows.result (h kept.cp_rows)
