use Rattle.std.proofs.Common.{ℕ, List, subst}
use Rattle.plan_store.specs.Contents.{content_of}
use Rattle.plan_tables_windows.specs.Unknown.{AddsUnsettled, IsPredecessorOfRow, is_settled}
use Rattle.plan_tables_windows.proofs.UnknownLemmas.{adds_only, finds_live}
use Rattle.plan_tables_windows.proofs.unknown.unknown_for_key.Goals as goal

pub returns-clause-finds : goal.returns-clause-finds
returns-clause-finds c =
    let content = content_of c.args.lists.now in
    let rows = c.completed_of.result.now in
    let serials = c.add_of_rows.new.serials.items in
    finds_live content c.args.key.now rows serials
    (subst (λ (old : List ℕ). AddsUnsettled (is_settled content.sets) (IsPredecessorOfRow content rows) old serials)
    c.new-serials.ensures.items c.in_ok-add_of_rows.ensures) (λ row is. (c.completed_of.ensures row).1 is)

pub returns-clause-only : goal.returns-clause-only
returns-clause-only c serial there =
    let content = content_of c.args.lists.now in
    let rows = c.completed_of.result.now in
    let serials = c.add_of_rows.new.serials.items in
    let adds = subst (λ (old : List ℕ). AddsUnsettled (is_settled content.sets) (IsPredecessorOfRow content rows) old
    serials) c.new-serials.ensures.items c.in_ok-add_of_rows.ensures in
    let (named, unsettled) = adds_only (is_settled content.sets) (IsPredecessorOfRow content rows) serials adds serial
    there in
    let (row, among, of) = named in
    let is = (c.completed_of.ensures row).0 among in
    ((row, is.0, is.1, of), unsettled)
