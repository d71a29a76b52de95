use Rattle.std.proofs.Common.{◌≡◌, ◌≢◌, ◌↔◌, filter, subst, sym, ◌∙◌, map}
use Rattle.std.specs.Prelude.{IsTrue}
use Rattle.std.specs.List.{AllPairs}
use Rattle.std.proofs.lemmas.Result.{IfOk-weaker}
use Rattle.occurrences.specs.declared.key.Key.{Key}
use Rattle.external_dependencies.specs.declared.rows.PlacedRow.{PlacedRow}
use Rattle.plan_store_soundness.specs.Listing.{is_live_row}
use Rattle.plan_store_soundness.proofs.DistinctLemmas.{pairs_map, map_pairs}
use Rattle.plan_store_soundness.proofs.keys.live_keys_differ.Goals as goal

pub returns : goal.returns
returns c =
    let key_of : PlacedRow → Key = λ p. p.row.key in
    let live = filter is_live_row c.args.all.now in
    let keys : c.deref.result.now ≡ map key_of live = c.deref.ensures.value ∙ c.in_ok-keys.ensures in
    IfOk-weaker c.all_differ.result (λ b. IsTrue b ↔ AllPairs (λ x y. x ≢ y) c.deref.result.now) _
    (λ b tells. (
      (λ yes. map_pairs (λ x y. x ≢ y) key_of live (subst (AllPairs (λ (x y : Key). x ≢ y)) keys (tells.0 yes))),
      λ differ. tells.1 (subst (AllPairs (λ (x y : Key). x ≢ y)) (sym keys) (pairs_map
          (λ x y. x ≢ y) key_of live differ)),
    )) c.all_differ.ensures
