-- the rows so far are added
use Rattle.std.proofs.Common.{◌≡◌, ◌++◌, take}
use Rattle.std.specs.Prelude.{map}
use Rattle.std.specs.Str.{byte}
use Rattle.plan_listings.specs.Report.{daily_sign}
use Rattle.plan_listings.proofs.report.push_carried.Given as goal

abbrev pub invariant-loop-carried : goal.invariant-loop-carried
invariant-loop-carried l = l.all.items ≡ l.initial.all.items
    ++ map (λ c. daily_sign (byte "=") c.1 c.0) (take l.carried-index l.rows)
