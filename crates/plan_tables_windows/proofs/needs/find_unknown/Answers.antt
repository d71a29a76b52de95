use Rattle.plan_store.specs.Contents.{content_of}
use Rattle.plan_store.specs.Parts.{Knows, KnowsDeletion}
use Rattle.plan_tables_windows.specs.Loading.{KnowsAll}
use Rattle.plan_tables_windows.proofs.EachLemmas.{Each}
use Rattle.plan_tables_windows.proofs.FetchLemmas.{gathers_stopped, gathers_then}
use Rattle.plan_tables_windows.proofs.NeedLemmas.{all_known}
use Rattle.plan_tables_windows.proofs.needs.find_unknown.Goals as goal

pub returns : goal.returns
returns g c =
    let completed = c.args.unknown.now.history.items in
    let deleted = c.args.unknown.now.deletions.items in
    let mid = content_of c.find_each_completed.new.lists in
    let now = content_of c.find_each_deleted.new.lists in
    gathers_then g.S.Store c.args.conn.now c.find_each_completed.new.conn c.find_each_deleted.new.conn
    (content_of c.args.lists.now) mid now c.find_each_deleted.result
    (Each (λ serial rest l. Knows rest l serial) completed)
    (Each (λ serial rest l. KnowsDeletion rest l serial) deleted)
    (KnowsAll completed deleted) (rw c.deref.ensures.value at c.in_ok-find_each_completed.ensures)
    (rw c.deref-2.ensures.value at c.find_each_deleted.ensures)
    (λ rest part more. all_known completed deleted rest mid now part more)

pub returns-in_err-find_each_completed : goal.returns-in_err-find_each_completed
returns-in_err-find_each_completed g c =
    let completed = c.args.unknown.now.history.items in
    gathers_stopped g.S.Store c.args.conn.now c.find_each_completed.new.conn (content_of c.args.lists.now)
    (content_of c.find_each_completed.new.lists) c.in_err-find_each_completed.field-0.0 (Each (λ serial rest l. Knows rest l serial) completed)
    (KnowsAll completed c.args.unknown.now.deletions.items) (rw c.deref.ensures.value at c.in_err-find_each_completed.ensures) c.from_residual.result
    c.from_residual.ensures.1
