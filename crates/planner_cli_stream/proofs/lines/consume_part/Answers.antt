use Rattle.std.proofs.Common.{◌≢◌, ◌-◌, All, take, sym, ap, subst, ◌∙◌, rules, arith, eq-eqb, eqb-true, get_or}
use Rattle.std.proofs.Common.{get_or-take, length-take-le}
use Rattle.std.proofs.lemmas.List.Elements.{All-more}
use Rattle.std.specs.Io.BufRead.{FillKeeps}
use Rattle.std.proofs.BufReadLemmas.{Consumes_shown, zero_unless_positive}
use Rattle.std.proofs.Transfers.{StopsAt-take}
use Rattle.planner_cli_stream.proofs.lines.consume_part.Goals.{then-end-eq0, else-end-eq0}
use Rattle.planner_cli_stream.proofs.lines.consume_part.Goals as goal

pub returns-clause-part : goal.returns-clause-part
returns-clause-part g c =
    let shown = c.in-Ok.available.now in
    let end = c.len_through-end in
    let long = length-take-le end.result shown end.ensures.bound in
    let rested = c.fill.follows.lender-at-none in
    let filled =
    subst (FillKeeps _ (g.R.Read.remaining rested) (g.R.BufRead.consumable_len rested)) c.in-Ok.is
    c.fill.follows.holds-at-none.0 in
    let drops = c.consume.ensures.bytes in
    let moved =
    Consumes_shown _ _ _ _ shown end.result end.ensures.bound c.in-Ok.ensures.front c.in-Ok.ensures.end filled.0
    filled.1 drops in
    record {
      bytes = take end.result shown;
      len_is = long;
      stops = StopsAt-take _ _ _ end.ensures.bound end.ensures.before;
      consumed = moved.0;
      not_done = λ more. elim c.if-end-eq0.branch [
        | then-end-eq0 w ↦ absurd (more (search rules))
        | else-end-eq0 w ↦ subst (λ k. All (λ x. x ≢ 10) (take k shown)) (omega (arith, w.if-end-eq0.false))
            (All-more (λ x. x ≢ 10) _ (end.result - 1) 0 (omega (arith, w.if-end-eq0.false, end.ensures.bound))
            end.ensures.before (λ e. more (w.is_done-is ∙ eq-eqb _ _ e)))
      ];
      done = λ done some. elim c.if-end-eq0.branch [
        | then-end-eq0 w ↦ absurd (omega (arith, w.if-end-eq0.true))
        | else-end-eq0 w ↦ ap (λ n. get_or (take end.result shown) (n - 1) 0) long
            ∙ get_or-take end.result shown (end.result - 1) 0 (omega arith) ∙ eqb-true _ _ (sym w.is_done-is ∙ done)
      ];
      no_more = λ _ none. moved.1 (zero_unless_positive _ _ end.ensures.some (sym long ∙ none));
      head_keeps = c.in_ok-keep.ensures.ok;
      all_keeps = c.in_ok-keep-2.ensures.ok;
    }
