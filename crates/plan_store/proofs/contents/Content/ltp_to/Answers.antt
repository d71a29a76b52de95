use Rattle.std.proofs.Common.{true, refl}
use Rattle.std.specs.Prelude.{option_copied}
use Rattle.occurrences.specs.Status.{status_letter}
use Rattle.occurrences.specs.declared.row.Row.{Row}
use Rattle.occurrences.specs.declared.status.Status.TheVariants.{C}
use Rattle.planner_machine.specs.Shown.{LongTermPlan}
use Rattle.plan_store_lists.specs.Rows.{of_row}
use Rattle.plan_store.specs.Contents.{content_of}
use Rattle.plan_store.specs.Listed.{ShowsSet}
use Rattle.plan_store.specs.Listings.{ShowRows}
use Rattle.plan_store.specs.Parts.{with_rest}
use Rattle.plan_store.proofs.ShownLemmas.{shows_ltp, whole_all, whole_part}
use Rattle.plan_store.proofs.contents.Content.ltp_to.Goals as goal

pub returns-clause-all : goal.returns-clause-all
returns-clause-all g c rest numbered =
    let kept = c.args.self.now in
    let whole = with_rest rest (content_of kept) in
    let app = option_copied c.args.app in
    let h = c.emit_rows.ensures.all in
    whole_all g.K.RowSink.accepts g.K.RowSink.refuses c.args.sink.now c.emit_rows.new.sink
    (ShowsSet of_row (λ (_ : Row). status_letter C) true kept.ltp.items app) (ShowRows LongTermPlan app whole)
    (shows_ltp whole numbered (λ (_ : Row). status_letter C) kept.ltp.items kept.ltp_rows (λ _. refl) app)
    c.emit_rows.result (h kept.ltp_rows)

pub returns-clause-part : goal.returns-clause-part
returns-clause-part g c rest numbered =
    let kept = c.args.self.now in
    let whole = with_rest rest (content_of kept) in
    let app = option_copied c.args.app in
    let h = c.emit_rows.ensures.part in
    whole_part g.K.RowSink.accepts g.K.RowSink.refuses c.args.sink.now c.emit_rows.new.sink
    (ShowsSet of_row (λ (_ : Row). status_letter C) true kept.ltp.items app) (ShowRows LongTermPlan app whole)
    (shows_ltp whole numbered (λ (_ : Row). status_letter C) kept.ltp.items kept.ltp_rows (λ _. refl) app)
    c.emit_rows.result (h kept.ltp_rows)
