use Rattle.plan_store.specs.Contents.{content_of}
use Rattle.plan_tables_windows.specs.Unknown.{IsNamed, IsNamedDeletion, is_settled, is_settled_deletion}
use Rattle.plan_tables_windows.proofs.UnknownLemmas.{adds_only, finds_named}
use Rattle.plan_tables_windows.proofs.unknown.unknown_of.Goals as goal

pub returns-clause-finds : goal.returns-clause-finds
returns-clause-finds c =
    finds_named (content_of c.args.lists.now) c.args.change.now c.in_ok-unknown_history.field-0.items
    c.in_ok-unknown_deletions.field-0.items c.in_ok-unknown_history.ensures c.in_ok-unknown_deletions.ensures

pub returns-clause-history : goal.returns-clause-history
returns-clause-history c =
    let content = content_of c.args.lists.now in
    adds_only (is_settled content.sets) (IsNamed c.args.change.now content) c.in_ok-unknown_history.field-0.items
    c.in_ok-unknown_history.ensures

pub returns-clause-deletions : goal.returns-clause-deletions
returns-clause-deletions c =
    adds_only (is_settled_deletion (content_of c.args.lists.now).sets) (IsNamedDeletion c.args.change.now)
    c.in_ok-unknown_deletions.field-0.items c.in_ok-unknown_deletions.ensures
