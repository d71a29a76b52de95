use Rattle.std.proofs.Common.{◌≡◌, [], ◌∷◌, ◌++◌, ◌∙◌, sym, ap, subst, take, ◌+◌, add-one}
use Rattle.std.proofs.Math.Seq.{take-suc}
use Rattle.plan_listings.specs.Line.{AreLinesOf, ended}
use Rattle.plan_listings.specs.Report.{IsSignedText}
use Rattle.plan_listings.proofs.LineLemmas.{lines_more, print_more}
use Rattle.plan_listings.proofs.report.signed_lines.Goals as goal

pub loop-row-preserved : goal.loop-row-preserved
loop-row-preserved c =
    let (lines, are, text) = c.loop-row.invariant in
    let (line, is, added) = c.in_ok-append_signed.ensures in
    let next : take (c.loop-row.row-index + 1) c.args.rows.now ≡ take c.loop-row.row-index c.args.rows.now
    ++ c.row-item.result ∷ [] = ap (λ n. take n c.args.rows.now) (add-one c.loop-row.row-index)
    ∙ take-suc c.args.rows.now c.loop-row.row-index c.row-item.result c.loop-row-test.true
    ∙ ap (λ x. take c.loop-row.row-index c.args.rows.now ++ x ∷ []) (sym c.row-item.is) in (
      lines ++ line ∷ [],
      subst (λ xs. AreLinesOf IsSignedText xs (lines ++ line ∷ [])) (sym next)
          (lines_more IsSignedText _ lines _ line are is),
      added ∙ ap (λ l. l ++ ended line) text ∙ sym (print_more lines line),
    )
