use Rattle.std.proofs.Common.{◌≡◌, ◌∙◌, ◌++◌, Bor, ap, map, rules}
use Rattle.std.proofs.lemmas.List.Sorted.{answers_always}
use Rattle.occurrences.specs.declared.row.Row.{Row}
use Rattle.plan_store_lists.specs.Rows.{of_current, of_deletion, of_row}
use Rattle.plan_store.specs.Contents.{content_of}
use Rattle.plan_store.specs.Parts.{with_rest}
use Rattle.plan_store.proofs.SerialLemmas.{all_by_serial, all_rows, lists_set}
use Rattle.plan_store.proofs.contents.Content.by_serial.Goals as goal

pub returns : goal.returns
returns c rest numbered lists_history lists_deletions =
    let kept = c.args.self.now in
    let now = λ (b : Bor Row). b.now in
    let ltp = kept.ltp.items in
    let cp = kept.cp.items in
    let history = c.args.history.now in
    let deletions = c.args.deletions.now in
    let e1 : map now c.push_set.new.all.items ≡ map of_row ltp = c.in_ok-push_set.ensures
    ∙ ap (λ xs. map now xs ++ map of_row ltp) c.new-all.ensures.items in
    let e2 : map now c.push_set-2.new.all.items ≡ map of_row ltp ++ map of_current cp =
    c.in_ok-push_set-2.ensures ∙ ap (λ xs. xs ++ map of_current cp) e1 in
    let e3 : map now c.push_occurrences.new.all.items ≡ (map of_row ltp ++ map of_current cp) ++ map of_row history =
    c.in_ok-push_occurrences.ensures ∙ ap (λ xs. xs ++ map of_row history) e2 in
    let e4 : map now c.push_occurrences-2.new.all.items ≡ all_rows ltp cp history deletions =
    c.in_ok-push_occurrences-2.ensures ∙ ap (λ xs. xs ++ map of_deletion deletions) e3 in
    let is = c.sort_unstable_by_key.ensures in
    all_by_serial (with_rest rest (content_of kept)).sets numbered ltp cp history deletions
    (lists_set of_row ltp kept.ltp_rows) (lists_set of_current cp kept.cp_rows) lists_history lists_deletions now
    c.push_occurrences-2.new.all.items c.sort_unstable_by_key.new.self.items e4 is.permutation
    (is.sorted (λ (b : Bor Row). b.now.serial) (answers_always _ _ _ (λ f a r q called. search rules)))
