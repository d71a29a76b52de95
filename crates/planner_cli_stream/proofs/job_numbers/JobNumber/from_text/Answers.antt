use Rattle.std.proofs.Common.{◌≡◌, ◌∙◌, IsTrue, Some, None, ap, sym, true≢false, arith}
use Rattle.std.specs.Result.{result_ok}
use Rattle.planner_cli_stream.proofs.JobNumberLemmas.{first_digit, ok_of, read_number, read_text}
use Rattle.planner_cli_stream.proofs.job_numbers.JobNumber.from_text.Goals as goal

pub returns-then-not-has_first_digit-clause-none : goal.returns-then-not-has_first_digit-clause-none
returns-then-not-has_first_digit-clause-none c = λ n h e.
    let first = first_digit c.args.text.now n h e in
    let has : IsTrue c.has_first_digit.result = c.has_first_digit.ensures.1 (first.1, first.2) in
    true≢false (sym has ∙ c.if-not-has_first_digit.true)

pub returns-in_err-number-clause-none : goal.returns-in_err-number-clause-none
returns-in_err-number-clause-none c = rw c.from_residual.ensures (λ n h e.
    let same : None ≡ Some n =
    sym c.in_err-number.was ∙ c.ok.ensures.value
    ∙ ap result_ok (read_number c.args.text.now n c.parse.result h e c.parse.ensures.value.0) in
    cc)

pub returns-then-number-gt999999999-clause-none : goal.returns-then-number-gt999999999-clause-none
returns-then-number-gt999999999-clause-none c = λ n h e.
    let same : Some c.in_ok-number.number ≡ Some n =
    sym c.in_ok-number.was ∙ c.ok.ensures.value
    ∙ ap result_ok (read_number c.args.text.now n c.parse.result h e c.parse.ensures.value.0) in
    let is : c.in_ok-number.number ≡ n = cc in
    absurd (omega (arith, is, h, c.if-number-gt999999999.true))

pub invariant_of-result : goal.invariant_of-result
invariant_of-result c =
    let digit = c.has_first_digit.ensures.0 c.if-not-has_first_digit.false in (
      (read_text c.args.text.now c.in_ok-number.number c.parse.result digit.0 c.parse.ensures.value.0
          (ok_of c.parse.result c.in_ok-number.number (sym c.ok.ensures.value ∙ c.in_ok-number.was))).1,
      c.if-number-gt999999999.false,
    )

pub returns-clause-some : goal.returns-clause-some
returns-clause-some c =
    let digit = c.has_first_digit.ensures.0 c.if-not-has_first_digit.false in
    (read_text c.args.text.now c.in_ok-number.number c.parse.result digit.0 c.parse.ensures.value.0
    (ok_of c.parse.result c.in_ok-number.number (sym c.ok.ensures.value ∙ c.in_ok-number.was))).0

pub returns-clause-range : goal.returns-clause-range
returns-clause-range c =
    let digit = c.has_first_digit.ensures.0 c.if-not-has_first_digit.false in (
      (read_text c.args.text.now c.in_ok-number.number c.parse.result digit.0 c.parse.ensures.value.0
          (ok_of c.parse.result c.in_ok-number.number (sym c.ok.ensures.value ∙ c.in_ok-number.was))).1,
      c.if-number-gt999999999.false,
    )
