-- A call that gives the first interval of what is left comes nearer to the end.
use Rattle.std.proofs.Common.{◌≡◌, ◌<◌, Some, ◌∷◌, length, ap, arith}
use Rattle.std.specs.Prelude.{⊤}
use Rattle.std.specs.Iterator.{MakesProgress, item_count}
use Rattle.plan_periods.specs.Walk.{Walk}
use Rattle.plan_periods.specs.declared.intervals.Interval.{Interval}

pub progress_first : (s t : Walk) (x : Interval) → s.left ≡ x ∷ t.left →
    MakesProgress (λ (_ : Walk). ⊤) (item_count (λ walk. walk.left)) s (Some x) t
progress_first s t x first =
    let shorter : length t.left < length s.left = omega (arith, ap length first) in
    record { on = λ _. (tt, tt, shorter); keeps = tt; rests = λ _. tt }
