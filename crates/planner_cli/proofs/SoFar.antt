-- How far a run over a store has come.
use Rattle.std.specs.Prelude.{ℕ, ◌≤◌, List, Option}
use Rattle.plan_store.specs.declared.stores.PlanStore.{Ghosts}
use Rattle.planner_cli.specs.Steps.{Step}
use Rattle.planner_cli.specs.Stores.{LeavesOwn}
use Rattle.planner_cli.specs.declared.tally.Tally.{Tally}
use Rattle.planner_cli.proofs.Progress.{Progress}

pub record SoFar {S : Type 0} (g : Ghosts S) (s0 s : S) (w0 w remaining now : Option (List ℕ)) (tally : Tally)
    : Type 0 where
  pub counts : g.failures s0 ≤ g.failures s
  pub honest : g.is_honest s → g.is_honest s0
  pub clean : g.is_clean s → g.is_clean s0
  pub stays_honest : g.is_honest s0 → g.is_clean s → g.is_honest s
  pub whole : g.is_whole s0 → g.is_whole s
  pub settled : g.is_honest s → LeavesOwn g s0 → LeavesOwn g s
  pub progress : g.is_honest s → Progress Step (g.content s0) (g.content s) w0 w remaining now tally
