use Rattle.std.proofs.Common.{false, refl}
use Rattle.std.specs.Prelude.{option_copied}
use Rattle.occurrences.specs.Place.{reason_letter}
use Rattle.occurrences.specs.Status.{status_letter}
use Rattle.occurrences.specs.declared.place.Deletion.{Deletion}
use Rattle.occurrences.specs.declared.row.Row.{Row}
use Rattle.occurrences.specs.declared.status.Status.TheVariants.{C}
use Rattle.planner_machine.specs.Shown.{InDeletions, InHistory}
use Rattle.plan_store_lists.specs.Rows.{of_deletion, of_row}
use Rattle.plan_store.specs.Contents.{content_of}
use Rattle.plan_store.specs.Listed.{ShowsSet}
use Rattle.plan_store.specs.Listings.{ShowRows}
use Rattle.plan_store.specs.Parts.{rest_of}
use Rattle.plan_store.proofs.ShownLemmas.{shows_deletions, shows_history, whole_all, whole_part}
use Rattle.plan_store.proofs.contents.Content.rows_to.Goals as goal

pub returns-in-Ltp-clause-all : goal.returns-in-Ltp-clause-all
returns-in-Ltp-clause-all g c numbered =
    rw c.in-Ltp.is (c.ltp_to.ensures.all (rest_of (content_of c.args.self.now)) numbered)

pub returns-in-Ltp-clause-part : goal.returns-in-Ltp-clause-part
returns-in-Ltp-clause-part g c numbered =
    rw c.in-Ltp.is (c.ltp_to.ensures.part (rest_of (content_of c.args.self.now)) numbered)

pub returns-in-Cp-clause-all : goal.returns-in-Cp-clause-all
returns-in-Cp-clause-all g c numbered =
    rw c.in-Cp.is (c.cp_to.ensures.all (rest_of (content_of c.args.self.now)) numbered)

pub returns-in-Cp-clause-part : goal.returns-in-Cp-clause-part
returns-in-Cp-clause-part g c numbered =
    rw c.in-Cp.is (c.cp_to.ensures.part (rest_of (content_of c.args.self.now)) numbered)

pub returns-in-History-clause-all : goal.returns-in-History-clause-all
returns-in-History-clause-all g c numbered =
    let kept = c.args.self.now in
    let app = option_copied c.args.app in
    let h = c.emit_rows.ensures.all in
    rw c.in-History.is (whole_all g.K.RowSink.accepts g.K.RowSink.refuses c.args.sink.now c.emit_rows.new.sink
    (ShowsSet of_row (λ (_ : Row). status_letter C) false kept.history.items app)
    (ShowRows InHistory app (content_of kept)) (shows_history (content_of kept) numbered kept.history.items
    kept.history_rows (λ _. refl) app) c.emit_rows.result (h kept.history_rows))

pub returns-in-History-clause-part : goal.returns-in-History-clause-part
returns-in-History-clause-part g c numbered =
    let kept = c.args.self.now in
    let app = option_copied c.args.app in
    let h = c.emit_rows.ensures.part in
    rw c.in-History.is (whole_part g.K.RowSink.accepts g.K.RowSink.refuses c.args.sink.now c.emit_rows.new.sink
    (ShowsSet of_row (λ (_ : Row). status_letter C) false kept.history.items app)
    (ShowRows InHistory app (content_of kept)) (shows_history (content_of kept) numbered kept.history.items
    kept.history_rows (λ _. refl) app) c.emit_rows.result (h kept.history_rows))

pub returns-in-Deletions-clause-all : goal.returns-in-Deletions-clause-all
returns-in-Deletions-clause-all g c numbered =
    let kept = c.args.self.now in
    let app = option_copied c.args.app in
    let h = c.emit_rows-in-Deletions.ensures.all in
    rw c.in-Deletions.is (whole_all g.K.RowSink.accepts g.K.RowSink.refuses c.args.sink.now
    c.emit_rows-in-Deletions.new.sink (ShowsSet of_deletion (λ (x : Deletion). reason_letter x.reason) false
    kept.deletions.items app) (ShowRows InDeletions app (content_of kept))
    (shows_deletions (content_of kept) numbered kept.deletions.items kept.deletion_rows (λ _. refl) app)
    c.emit_rows-in-Deletions.result (h kept.deletion_rows))

pub returns-in-Deletions-clause-part : goal.returns-in-Deletions-clause-part
returns-in-Deletions-clause-part g c numbered =
    let kept = c.args.self.now in
    let app = option_copied c.args.app in
    let h = c.emit_rows-in-Deletions.ensures.part in
    rw c.in-Deletions.is (whole_part g.K.RowSink.accepts g.K.RowSink.refuses c.args.sink.now
    c.emit_rows-in-Deletions.new.sink (ShowsSet of_deletion (λ (x : Deletion). reason_letter x.reason) false
    kept.deletions.items app) (ShowRows InDeletions app (content_of kept))
    (shows_deletions (content_of kept) numbered kept.deletions.items kept.deletion_rows (λ _. refl) app)
    c.emit_rows-in-Deletions.result (h kept.deletion_rows))

pub returns-in-Dependencies-clause-all : goal.returns-in-Dependencies-clause-all
returns-in-Dependencies-clause-all g c numbered = rw c.in-Dependencies.is (c.listed_pairs_to.ensures.all numbered)

pub returns-in-Dependencies-clause-part : goal.returns-in-Dependencies-clause-part
returns-in-Dependencies-clause-part g c numbered = rw c.in-Dependencies.is (c.listed_pairs_to.ensures.part numbered)

pub returns-in-Links-clause-all : goal.returns-in-Links-clause-all
returns-in-Links-clause-all g c numbered =
    rw c.in-Links.is (c.links_to.ensures.all (rest_of (content_of c.args.self.now)) numbered)

pub returns-in-Links-clause-part : goal.returns-in-Links-clause-part
returns-in-Links-clause-part g c numbered =
    rw c.in-Links.is (c.links_to.ensures.part (rest_of (content_of c.args.self.now)) numbered)
