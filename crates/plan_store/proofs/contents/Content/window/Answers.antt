use Rattle.std.proofs.Common.{subst, sym}
use Rattle.plan_store_lists.specs.Rows.{of_current, of_deletion, of_row}
use Rattle.plan_store.specs.Contents.{content_of}
use Rattle.plan_store.specs.Views.{ShowsListed}
use Rattle.plan_store.proofs.WindowLemmas.{early_rows, early_seats, no_rows, no_seats}
use Rattle.plan_store.proofs.WindowLemmas.{shows_definitions, shows_early, shows_key, shows_plan, tells_sizes}
use Rattle.plan_store.proofs.contents.Content.window.Goals as goal

pub window_of_plans-requires-clause-ltp_rows : goal.window_of_plans-requires-clause-ltp_rows
window_of_plans-requires-clause-ltp_rows c = rw c.args.self.now.buffer.no_row (no_rows of_row)

pub window_of_plans-requires-clause-ltp_seats : goal.window_of_plans-requires-clause-ltp_seats
window_of_plans-requires-clause-ltp_seats c =
    rw c.args.self.now.buffer.no_row (no_seats of_row c.args.self.now.seats)

pub window_of_plans-requires-clause-cp_rows : goal.window_of_plans-requires-clause-cp_rows
window_of_plans-requires-clause-cp_rows c =
    rw c.args.self.now.buffer.no_current_row (no_rows of_current)

pub window_of_plans-requires-clause-cp_seats : goal.window_of_plans-requires-clause-cp_seats
window_of_plans-requires-clause-cp_seats c =
    rw c.args.self.now.buffer.no_current_row (no_seats of_current c.args.self.now.seats)

pub window_of_lasts-requires-clause-rows : goal.window_of_lasts-requires-clause-rows
window_of_lasts-requires-clause-rows c = rw c.args.self.now.buffer.no_deletion (no_rows of_deletion)

pub window_of_lasts-requires-clause-seats : goal.window_of_lasts-requires-clause-seats
window_of_lasts-requires-clause-seats c =
    rw c.args.self.now.buffer.no_deletion (no_seats of_deletion c.args.self.now.seats)

pub window_of_plans-requires-in-Daily-clause-ltp_rows : goal.window_of_plans-requires-in-Daily-clause-ltp_rows
window_of_plans-requires-in-Daily-clause-ltp_rows c =
    early_rows _ c.args.self.now c.args.self.now.buffer.early.items
    (rw c.in-Daily.is at c.requires)

pub window_of_plans-requires-in-Daily-clause-ltp_seats : goal.window_of_plans-requires-in-Daily-clause-ltp_seats
window_of_plans-requires-in-Daily-clause-ltp_seats c =
    early_seats _ c.args.self.now c.args.self.now.buffer.early.items
    (rw c.in-Daily.is at c.requires)

pub window_of_lasts-requires-in-LongTerm-clause-rows : goal.window_of_lasts-requires-in-LongTerm-clause-rows
window_of_lasts-requires-in-LongTerm-clause-rows c =
    c.args.self.now.deletion_rows

pub window_of_lasts-requires-in-LongTerm-clause-seats : goal.window_of_lasts-requires-in-LongTerm-clause-seats
window_of_lasts-requires-in-LongTerm-clause-seats c =
    c.args.self.now.deletion_seats

pub returns-in-Definitions-clause-shows : goal.returns-in-Definitions-clause-shows
returns-in-Definitions-clause-shows c =
    let kept = c.args.self.now in
    subst (λ n. ShowsListed n c.window_of_plans.result (content_of kept)) (sym c.in-Definitions.is)
    (shows_definitions c.window_of_plans.result kept c.window_of_plans.ensures.whole
    (rw (kept.buffer.no_row, kept.buffer.no_current_row) at c.window_of_plans.ensures.shown))

pub returns-in-Key-clause-shows : goal.returns-in-Key-clause-shows
returns-in-Key-clause-shows c =
    let kept = c.args.self.now in
    let filled = rw c.in-Key.is at c.requires in
    let shows = rw (c.deref.ensures.value, kept.buffer.no_deletion) at c.window_of_lasts.ensures.shown in
    subst (λ n. ShowsListed n c.window_of_lasts.result (content_of kept)) (sym c.in-Key.is)
    (shows_key c.in-Key.field-0 c.window_of_lasts.result kept kept.buffer.lasts.items c.window_of_lasts.ensures.whole
    filled c.window_of_lasts.ensures.history shows)

pub returns-in-LongTerm-clause-shows : goal.returns-in-LongTerm-clause-shows
returns-in-LongTerm-clause-shows c =
    let kept = c.args.self.now in
    let filled = rw c.in-LongTerm.is at c.requires in
    let shows = rw c.deref-in-LongTerm.ensures.value
    at c.window_of_lasts-in-LongTerm.ensures.shown in
    subst (λ n. ShowsListed n c.window_of_lasts-in-LongTerm.result (content_of kept)) (sym c.in-LongTerm.is)
    (shows_plan c.in-LongTerm.field-0 c.window_of_lasts-in-LongTerm.result kept kept.buffer.lasts.items
    c.window_of_lasts-in-LongTerm.ensures.whole filled c.window_of_lasts-in-LongTerm.ensures.history shows)

pub returns-in-Daily-clause-shows : goal.returns-in-Daily-clause-shows
returns-in-Daily-clause-shows c =
    let kept = c.args.self.now in
    subst (λ n. ShowsListed n c.window_of_plans-in-Daily.result (content_of kept)) (sym c.in-Daily.is)
    (shows_early _ kept kept.buffer.early.items (rw c.in-Daily.is at c.requires)
    c.window_of_plans-in-Daily.result c.window_of_plans-in-Daily.ensures.whole c.window_of_plans-in-Daily.ensures.shown)

pub returns-in-Definitions-clause-parts : goal.returns-in-Definitions-clause-parts
returns-in-Definitions-clause-parts c rest numbered =
    tells_sizes rest c.window_of_plans.result c.args.self.now c.window_of_plans.ensures.whole numbered

pub returns-in-Key-clause-parts : goal.returns-in-Key-clause-parts
returns-in-Key-clause-parts c rest numbered =
    tells_sizes rest c.window_of_lasts.result c.args.self.now c.window_of_lasts.ensures.whole numbered

pub returns-in-LongTerm-clause-parts : goal.returns-in-LongTerm-clause-parts
returns-in-LongTerm-clause-parts c rest numbered =
    tells_sizes rest c.window_of_lasts-in-LongTerm.result c.args.self.now c.window_of_lasts-in-LongTerm.ensures.whole numbered

pub returns-in-Daily-clause-parts : goal.returns-in-Daily-clause-parts
returns-in-Daily-clause-parts c rest numbered =
    tells_sizes rest c.window_of_plans-in-Daily.result c.args.self.now c.window_of_plans-in-Daily.ensures.whole numbered
