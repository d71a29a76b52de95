use Rattle.std.proofs.Common.{◌≡◌, ◌∙◌, ◌<◌, ◌^◌, sym, arith}
use Rattle.std.specs.Fmt.{decimal}
use Rattle.std.proofs.lemmas.Fmt.{decimal_injective}
use Rattle.planner_cli_stream.proofs.extension_days.days_from_text.Goals as goal

pub returns-then-number-gt21-clause-none : goal.returns-then-number-gt21-clause-none
returns-then-number-gt21-clause-none c = λ n h e.
    let m = c.in_ok-from_text.field-0 in
    let text : c.args.text.now ≡ decimal m = c.in_ok-from_text.ensures.some in
    let range = c.in_ok-from_text.ensures.range in
    let small : m < 2 ^ 64 = omega (arith, range.1) in
    let low : n < 2 ^ 64 = omega (arith, h.1) in
    let same : m ≡ n = decimal_injective m n small low (sym text ∙ e) in
    omega (arith, c.if-number-gt21.true, c.number-number.ensures.value, same, h.1)
