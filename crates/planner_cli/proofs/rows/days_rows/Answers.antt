use Rattle.std.proofs.Common.{◌≡◌, [], ◌∷◌, ◌++◌, ◌∙◌, sym, ap, subst, take, ◌+◌, add-one}
use Rattle.std.proofs.Math.Seq.{take-suc}
use Rattle.planner_cli.specs.Replies.{ended}
use Rattle.planner_cli.specs.Rows.{AreDaysLines}
use Rattle.planner_cli.proofs.RowLemmas.{rows_more, flat_map_more}
use Rattle.planner_cli.proofs.rows.days_rows.Goals as goal

pub loop-one-preserved : goal.loop-one-preserved
loop-one-preserved c =
    let (rows, are, text) = c.loop-one.invariant in
    let row = c.days_line.result in
    let next : take (c.loop-one.one-index + 1) c.args.named.now ≡ take c.loop-one.one-index
    c.args.named.now ++ c.one-item.result ∷ [] = ap (λ n. take n c.args.named.now) (add-one c.loop-one.one-index)
    ∙ take-suc c.args.named.now c.loop-one.one-index c.one-item.result c.loop-one-test.true
    ∙ ap (λ x. take c.loop-one.one-index c.args.named.now ++ x ∷ []) (sym c.one-item.is) in (
      rows ++ row ∷ [],
      subst (λ xs. AreDaysLines xs (rows ++ row ∷ [])) (sym next) (rows_more _ rows _ row are c.days_line.ensures),
      c.in_ok-append_line.ensures ∙ ap (λ l. l ++ ended row) text ∙ sym (flat_map_more rows row),
    )
