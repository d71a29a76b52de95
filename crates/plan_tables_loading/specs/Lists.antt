-- What lists of rows make of a content.
use Rattle.std.specs.Prelude.{◌≡◌, ◌↔◌, ℕ, List, [], Contains, Option, Some, None}
use Rattle.std.specs.List.{All}
use Rattle.app_definitions.specs.declared.definitions.Definitions.{Definitions}
use Rattle.external_dependencies.specs.Link.{link_cmp}
use Rattle.external_dependencies.specs.Pair.{pair_cmp}
use Rattle.external_dependencies.specs.Rising.{HaveSame, IsRising}
use Rattle.planner_machine.specs.Content.{Content, Sets}
use Rattle.plan_store.specs.declared.changes.Change.{Change}
use Rattle.plan_store.specs.declared.changes.Moves.{Moves}
use Rattle.external_dependencies.specs.declared.links.Link.{Link}
use Rattle.planner_machine.specs.declared.content.Bounds.{Bounds}
use Rattle.planner_machine.specs.declared.job.Job.{Job}
use Rattle.plan_store_lists.specs.Rows.{look_up}
use Rattle.plan_tables_content.specs.Content.{IsSmall}
use Rattle.plan_tables_loading.specs.Order.{current_number, deletion_number, job_number, row_number}
use Rattle.plan_tables_loading.specs.declared.lists.PlanLists.{PlanLists}
use Rattle.plan_tables_loading.specs.declared.lists.PlanRows.{PlanRows}

-- the set has exactly these, each under its number
abbrev pub HoldsEach : {X : Type 0} → (X → ℕ) → List X → (ℕ → Option X) → Type 0
HoldsEach {X} number_of xs set = (n : ℕ) (x : X) → (set n ≡ Some x) ↔ (Contains xs x × (number_of x ≡ n))

-- the four sets have exactly these rows
pub record HasRows (rows : PlanRows) (s : Sets) : Type 0 where
  pub ltp : HoldsEach row_number rows.ltp.items s.ltp
  pub cp : HoldsEach current_number rows.cp.items s.cp
  pub history : HoldsEach row_number rows.history.items s.history
  pub deletions : HoldsEach deletion_number rows.deletions.items s.deletions

-- these are put, and nothing else moves
pub record Puts {X : Type 0} (moves : Moves X) (xs : List X) : Type 0 where
  pub gone : moves.gone.items ≡ []
  pub changed : moves.changed.items ≡ []
  pub put : moves.put.items ≡ xs

-- the change puts these rows, and keeps no job
pub record PutsRows (rows : PlanRows) (change : Change) : Type 0 where
  pub to_ltp : Puts change.ltp rows.ltp.items
  pub to_cp : Puts change.cp rows.cp.items
  pub to_history : Puts change.history rows.history.items
  pub to_deletions : Puts change.deletions rows.deletions.items
  pub no_job : change.job ≡ None

-- the content has exactly these definitions, rows, lists in force, pairs and jobs
pub record HasLists (definitions : Definitions) (lists : PlanLists) (c : Content) : Type 0 where
  pub defined : c.definitions ≡ definitions
  pub bounds : c.sets.bounds ≡ lists.meta.bounds
  pub issued : c.sets.issued ≡ lists.meta.issued
  pub placed : HasRows lists.rows c.sets
  pub in_force : c.in_force ≡ lists.links
  pub links_rise : IsRising link_cmp c.in_force
  pub paired : HaveSame c.pairs lists.pairs.items
  pub pairs_rise : IsRising pair_cmp c.pairs
  pub kept : HoldsEach job_number lists.jobs.items c.jobs
  pub small : All (λ (job : Job). IsSmall job.reply) lists.jobs.items

-- ---- contents that are made part by part

abbrev pub with_bounds : Option Bounds → ℕ → Content → Content
with_bounds bounds issued c = record {
  definitions = c.definitions;
  sets = record c.sets { bounds = bounds; issued = issued };
  in_force = c.in_force;
  pairs = c.pairs;
  jobs = c.jobs;
}

abbrev pub with_links : List Link → Content → Content
with_links links c = record {
  definitions = c.definitions;
  sets = c.sets;
  in_force = links;
  pairs = c.pairs;
  jobs = c.jobs;
}

abbrev pub with_jobs : List Job → Content → Content
with_jobs jobs c = record {
  definitions = c.definitions;
  sets = c.sets;
  in_force = c.in_force;
  pairs = c.pairs;
  jobs = look_up job_number jobs;
}
