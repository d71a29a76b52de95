use Rattle.std.proofs.Common.{sym, ap, ◌==◌, arith}
use Rattle.std.proofs.lemmas.List.Sums.{position_or_len_is}
use Rattle.work_calendars.proofs.names.name_length.Goals as goal

-- a zero stands here
pub returns-else-bytes-len-ne0-clause-value : goal.returns-else-bytes-len-ne0-clause-value
returns-else-bytes-len-ne0-clause-value c =
    sym (position_or_len_is (λ b. b == 0) c.args.bytes.now c.loop-len.len 0 c.loop-len.invariant.0
    c.loop-len.invariant.1 (λ h. ap (λ b. b == 0) c.if-bytes-len-ne0.false))

-- none stands anywhere
pub returns-after-loop-len-clause-value : goal.returns-after-loop-len-clause-value
returns-after-loop-len-clause-value c =
    sym (position_or_len_is (λ b. b == 0) c.args.bytes.now c.loop-len.len 0 c.loop-len.invariant.0
    c.loop-len.invariant.1 (λ h. absurd (omega arith)))
