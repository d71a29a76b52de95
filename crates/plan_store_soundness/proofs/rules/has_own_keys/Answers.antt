use Rattle.std.proofs.Common.{◌≢◌, ◌↔◌, List, IfOk, subst, filter}
use Rattle.std.specs.Prelude.{IsTrue}
use Rattle.std.specs.List.{AllPairs}
use Rattle.std.proofs.lemmas.Result.{IfOk-weaker}
use Rattle.external_dependencies.specs.declared.rows.PlacedRow.{PlacedRow}
use Rattle.plan_store_soundness.specs.Listing.{is_live_row, placed_list}
use Rattle.plan_store_soundness.proofs.NumberedLemmas.{has_rows}
use Rattle.plan_store_soundness.proofs.RuleLemmas.{own_keys_from, own_keys_to}
use Rattle.plan_store_soundness.proofs.rules.has_own_keys.Goals as goal

pub returns : goal.returns
returns c numbered =
    let kept = c.args.content.now in
    let Differ : List PlacedRow → Type 0 = λ l. AllPairs (λ (p q : PlacedRow). p.row.key ≢ q.row.key)
    (filter is_live_row l) in
    let P : List PlacedRow → Type 0 = λ l. IfOk c.live_keys_differ.result (λ b. IsTrue b ↔ Differ l) in
    IfOk-weaker c.live_keys_differ.result (λ b. IsTrue b ↔ Differ (placed_list kept)) _
    (λ b tells. (
      (λ yes. own_keys_from kept (has_rows kept) numbered (tells.0 yes)),
      λ own. tells.1 (own_keys_to kept (has_rows kept) numbered own),
    )) (subst P c.requires c.live_keys_differ.ensures)
