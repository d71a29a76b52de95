use Rattle.std.proofs.Common.{◌≡◌, ◌∙◌, List, ap, filter, subst, sym}
use Rattle.occurrences.specs.declared.place.CurrentRow.{CurrentRow}
use Rattle.occurrences.specs.declared.place.Deletion.{Deletion}
use Rattle.occurrences.specs.declared.row.Row.{Row}
use Rattle.plan_store_lists.specs.Rows.{AreRows, look_up, of_current, of_deletion, of_row}
use Rattle.plan_store.specs.Contents.{content_of}
use Rattle.plan_store.specs.Parts.{is_followed}
use Rattle.plan_store.specs.declared.contents.Content.{Content as Kept}
use Rattle.plan_store.proofs.PartLemmas.{look_passing}
use Rattle.plan_store.proofs.ViewLemmas.{filter_rows, look_filter, once_from_rows}
use Rattle.plan_store.specs.Views.{bars}
use Rattle.plan_store.proofs.contents.Content.keep_followed.Goals as goal

-- what stays of history
stays : (kept : Kept) (rows : List Row)
    → rows ≡ filter (λ (row : Row). is_followed (content_of kept) row.serial) kept.history.items → AreRows of_row rows
stays kept rows is = subst (AreRows of_row) (sym is) (filter_rows of_row
    (λ (row : Row). is_followed (content_of kept) row.serial) kept.history.items kept.history_rows)

-- and of the deletions
barring : (kept : Kept) (rows : List Deletion) → rows ≡ filter (bars kept.bounds) kept.deletions.items
    → AreRows of_deletion rows
barring kept rows is = subst (AreRows of_deletion) (sym is) (filter_rows of_deletion (bars kept.bounds)
    kept.deletions.items kept.deletion_rows)

pub seats_for-requires-clause-ltp : goal.seats_for-requires-clause-ltp
seats_for-requires-clause-ltp c =
    let kept = c.args.self.now in
    once_from_rows of_row kept.ltp.items kept.ltp_rows

pub seats_for-requires-clause-cp : goal.seats_for-requires-clause-cp
seats_for-requires-clause-cp c =
    let kept = c.args.self.now in
    once_from_rows of_current kept.cp.items kept.cp_rows

pub seats_for-requires-clause-history : goal.seats_for-requires-clause-history
seats_for-requires-clause-history c =
    let rows = c.in_ok-followed.followed.items in
    rw c.deref.ensures.value (once_from_rows of_row rows (stays c.args.self.now rows c.in_ok-followed.ensures))

pub seats_for-requires-clause-deletions : goal.seats_for-requires-clause-deletions
seats_for-requires-clause-deletions c =
    let rows = c.in_ok-barring.barring.items in
    rw c.deref-2.ensures.value (once_from_rows of_deletion rows (barring c.args.self.now rows c.in_ok-barring.ensures))

pub from_rows-requires : goal.from_rows-requires
from_rows-requires c =
    rw c.deref-3.ensures.value (stays c.args.self.now c.in_ok-followed.followed.items c.in_ok-followed.ensures).keyed

pub from_rows-requires-2 : goal.from_rows-requires-2
from_rows-requires-2 c =
    rw c.deref-4.ensures.value (barring c.args.self.now c.in_ok-barring.barring.items c.in_ok-barring.ensures).keyed

pub invariant_of-self-2 : goal.invariant_of-self-2
invariant_of-self-2 c =
    let kept = c.args.self.now in
    let history = c.in_ok-history.history.items in
    let deletions = c.in_ok-deletions.deletions.items in
    let same : history ≡ c.in_ok-followed.followed.items = c.in_ok-history.ensures ∙ c.deref-3.ensures.value in
    let alike : deletions ≡ c.in_ok-barring.barring.items = c.in_ok-deletions.ensures ∙ c.deref-4.ensures.value in
    record {
      ltp_rows = kept.ltp_rows;
      cp_rows = kept.cp_rows;
      history_rows = stays kept history (same ∙ c.in_ok-followed.ensures);
      deletion_rows = barring kept deletions (alike ∙ c.in_ok-barring.ensures);
      numbered_jobs = kept.numbered_jobs;
      ltp_seats = c.in_ok-seats.ensures.ltp;
      cp_seats = c.in_ok-seats.ensures.cp;
      history_seats = rw same (rw c.deref.ensures.value at c.in_ok-seats.ensures.history);
      deletion_seats = rw alike (rw c.deref-2.ensures.value at c.in_ok-seats.ensures.deletions);
    }

pub returns-clause-ok : goal.returns-clause-ok
returns-clause-ok c = λ i. record {
  definitions = c.args.self.now.definitions;
  sets = record {
    bounds = c.args.self.now.bounds;
    issued = c.args.self.now.issued;
    ltp = look_up (λ (row : Row). row.serial) c.args.self.now.ltp.items;
    cp = look_up (λ (current : CurrentRow). current.row.serial) c.args.self.now.cp.items;
    history = λ serial. (ap (λ (rows : List Row). look_up (λ (row : Row). row.serial) rows serial)
        (c.in_ok-history.ensures ∙ c.deref-3.ensures.value ∙ c.in_ok-followed.ensures)
        ∙ look_passing (λ (row : Row). row.serial) (is_followed (content_of c.args.self.now))
        c.args.self.now.history.items serial) i;
    deletions = λ serial. (ap (λ (rows : List Deletion). look_up (λ (deletion : Deletion). deletion.row.serial) rows serial)
        (c.in_ok-deletions.ensures ∙ c.deref-4.ensures.value ∙ c.in_ok-barring.ensures)
        ∙ look_filter of_deletion (bars c.args.self.now.bounds)
        c.args.self.now.deletions.items c.args.self.now.deletion_rows serial) i;
  };
  in_force = c.args.self.now.in_force.items;
  pairs = c.args.self.now.pairs;
  jobs = (content_of c.args.self.now).jobs;
}
