use Rattle.std.proofs.Common.{rules, subst}
use Rattle.std.proofs.lemmas.List.Sorted.{answers_always}
use Rattle.plan_listings.specs.Line.{AreLinesOf}
use Rattle.plan_listings.specs.Report.{IsReport, IsSignedText}
use Rattle.plan_listings.proofs.LineLemmas.{ok_map}
use Rattle.plan_listings.proofs.SortLemmas.{sorted_by_rows}
use Rattle.plan_listings.proofs.report.report.Goals as goal

pub returns : goal.returns
returns c =
    let is = c.sort_unstable_by_key.ensures in
    ok_map c.signed_lines.result _ (λ text. IsReport c.args.rows.items text.items) (λ text h. record {
      shown = c.sort_unstable_by_key.new.self.items;
      exactly = is.permutation;
      rising = sorted_by_rows (λ x. x.row) _
          (is.sorted (λ x. x.row) (answers_always _ _ _ (λ f a r q called. search rules)));
      lines = h.0;
      are_lines = subst (λ xs. AreLinesOf IsSignedText xs h.0) c.as_slice.ensures.value h.1;
      prints = h.2;
    }) c.signed_lines.ensures
