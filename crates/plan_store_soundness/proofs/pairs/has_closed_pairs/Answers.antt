use Rattle.std.proofs.Common.{◌↔◌, ◌∙◌, IfOk, List, Option, subst}
use Rattle.std.specs.Prelude.{IsTrue}
use Rattle.std.proofs.lemmas.Result.{IfOk-weaker}
use Rattle.external_dependencies.specs.Pair.{pair_cmp}
use Rattle.external_dependencies.specs.Rising.{IsRising}
use Rattle.external_dependencies.specs.declared.pairs.Pair.{Pair}
use Rattle.external_dependencies.specs.declared.rows.PlacedRow.{PlacedRow}
use Rattle.plan_store_soundness.specs.Closed.{AreFitting}
use Rattle.plan_store_soundness.proofs.ClosedPairLemmas.{closed_from, closed_to}
use Rattle.plan_store_soundness.proofs.NumberedLemmas.{has_rows}
use Rattle.plan_store_soundness.proofs.TableLemmas.{list_differs, made_some, numbered_none}
use Rattle.plan_store_soundness.proofs.pairs.has_closed_pairs.Goals as goal

pub table_of-requires : goal.table_of-requires
table_of-requires c = list_differs c.args.content.now c.args.all.now c.requires

pub returns-in_ok-pairs-in-Some : goal.returns-in_ok-pairs-in-Some
returns-in_ok-pairs-in-Some c numbered =
    let kept = c.args.content.now in
    let table = c.in-Some.table.items in
    let is = made_some kept c.args.all.now c.requires c.in_ok-table.field-0 c.in-Some.table c.in-Some.is
    c.in_ok-table.ensures in
    let Tells : List (Option PlacedRow) → List Pair → Type 0 = λ t l.
    IfOk c.are_fitting.result (λ b. IsTrue b ↔ AreFitting t l) in
    let lent : Tells table c.as_slice.result.now =
    subst (λ t. Tells t c.as_slice.result.now) c.deref.ensures.value c.are_fitting.ensures in
    let listed : Tells table kept.pairs = subst (λ l. Tells table l) (c.as_slice.ensures.all ∙ c.in_ok-pairs-in-Some.ensures) lent in
    let rising : IsRising pair_cmp kept.pairs = subst (IsRising pair_cmp) c.in_ok-pairs-in-Some.ensures c.as_slice.ensures.rising in
    IfOk-weaker c.are_fitting.result (λ b. IsTrue b ↔ AreFitting table kept.pairs) _
    (λ b tells. (
      (λ yes. closed_to kept (has_rows kept) numbered table is kept.pairs (tells.0 yes)),
      λ closed. tells.1
          (closed_from kept (has_rows kept) numbered table is kept.pairs rising closed),
    )) listed

pub returns-in-None : goal.returns-in-None
returns-in-None c numbered =
    absurd (numbered_none c.args.content.now c.args.all.now c.requires c.in_ok-table.field-0 c.in-None.is
    c.in_ok-table.ensures numbered)
