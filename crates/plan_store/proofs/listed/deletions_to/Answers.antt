use Rattle.std.proofs.Common.{◌≡◌, ◌++◌, ◌∙◌, [], Some, ap, false, map, refl}
use Rattle.occurrences.specs.Place.{reason_letter}
use Rattle.occurrences.specs.declared.place.Deletion.{Deletion}
use Rattle.planner_machine.specs.Shown.{InDeletions}
use Rattle.plan_store_lists.specs.Rows.{of_deletion}
use Rattle.plan_store.specs.Listed.{shown_as}
use Rattle.plan_store.specs.Listings.{ShowRows}
use Rattle.plan_store.proofs.AppDeletionLemmas.{deletions_shown, lent_shown}
use Rattle.plan_store.proofs.ShownLemmas.{shown_all, shown_part}
use Rattle.plan_store.proofs.listed.deletions_to.Goals as goal

pub returns-in-Ok-clause-all : goal.returns-in-Ok-clause-all
returns-in-Ok-clause-all g c content app numbered are =
    let found = c.push_rows.new.found.items in
    let whole : map (λ b. b.now) found ≡ c.args.deletions.now =
    c.in-Ok.ensures ∙ ap (λ l. map (λ b. b.now) l ++ c.args.deletions.now) c.new-found.ensures.items in
    shown_all g.K.RowSink.accepts g.K.RowSink.refuses c.args.sink.now c.emit_each.new.sink
    (λ b. shown_as of_deletion (λ (d : Deletion). reason_letter d.reason) false b.now) found
    (ShowRows InDeletions (Some app) content) (lent_shown content numbered app c.args.deletions.now are (λ b. b.now) found
    whole) c.emit_each.result (rw c.deref.ensures.value at c.emit_each.ensures.all)

pub returns-in-Ok-clause-part : goal.returns-in-Ok-clause-part
returns-in-Ok-clause-part g c content app numbered are =
    let found = c.push_rows.new.found.items in
    let whole : map (λ b. b.now) found ≡ c.args.deletions.now =
    c.in-Ok.ensures ∙ ap (λ l. map (λ b. b.now) l ++ c.args.deletions.now) c.new-found.ensures.items in
    shown_part g.K.RowSink.accepts g.K.RowSink.refuses c.args.sink.now c.emit_each.new.sink
    (λ b. shown_as of_deletion (λ (d : Deletion). reason_letter d.reason) false b.now) found
    (ShowRows InDeletions (Some app) content) (lent_shown content numbered app c.args.deletions.now are (λ b. b.now) found
    whole) c.emit_each.result (rw c.deref.ensures.value at c.emit_each.ensures.part)

pub returns-clause-part : goal.returns-clause-part
returns-clause-part g c content app numbered are = record {
  done = [];
  rest = map (shown_as of_deletion (λ (d : Deletion). reason_letter d.reason) false) c.args.deletions.now;
  whole = deletions_shown content numbered app c.args.deletions.now are;
  ends = refl;
}
