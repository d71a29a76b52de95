use Rattle.std.proofs.Common.{take}
use Rattle.plan_store.specs.Views.{shown}
use Rattle.plan_store_pairs.specs.ByApplications.{AreGathered}
use Rattle.plan_store_pairs.proofs.by_applications.live_rows_of.Given as goal

-- the rows of the applications so far
abbrev pub invariant-loop-app : goal.invariant-loop-app
invariant-loop-app l = AreGathered (shown l.view).sets (take l.app-index l.apps) l.planned l.rows.items
