use Rattle.std.proofs.Common.{◌≡◌, ◌↔◌, Bool, IsTrue, List, false, not, refl, subst, sym, true, true≢false}
use Rattle.std.specs.List.{All}
use Rattle.sqlite_schema.specs.declared.schema.Index.{Index}
use Rattle.sqlite_schema.specs.declared.schema.Table.{Table}
use Rattle.plan_files.specs.LostIndexes.{IsKept}
use Rattle.plan_files.proofs.lost_indexes.loses_index.Goals as goal

lost : (kept : Bool) (K : Type 0) → IsTrue kept ↔ K → (not kept ≡ false) ↔ K
lost true K h = (λ is. h.0 refl, λ k. refl)
lost false K h = (λ is. absurd (true≢false is), λ k. absurd (true≢false (sym (h.1 k))))

pub returns : goal.returns
returns c =
    lost c.are_kept.result _
    (subst (λ (ts : List Table). IsTrue c.are_kept.result ↔ All (IsKept ts) c.args.schema.now.indexes) c.as_slice.ensures
    (subst (λ (is : List Index). IsTrue c.are_kept.result ↔ All (IsKept c.as_slice.result.now) is) c.as_slice-2.ensures
    c.are_kept.ensures))
