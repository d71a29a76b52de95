use Rattle.std.proofs.Common.{◌/◌, ◌%◌, arith}
use Rattle.work_calendars.proofs.digits.two_digits_value.Goals as goal

pub returns-clause-value : goal.returns-clause-value
returns-clause-value c n below tens ones =
    let a = c.digit_value.ensures.value (n / 10) (omega arith) tens in
    let b = c.digit_value-2.ensures.value (n % 10) (omega arith) ones in
    omega arith
