-- Rules of sound content, those that are tested together.
use Rattle.std.specs.Prelude.{◌≡◌, ℕ, List, Some}
use Rattle.external_dependencies.specs.Loop.{OnLoop}
use Rattle.planner_machine.specs.Content.{Content}
use Rattle.planner_machine.specs.Sound.{AreNumbered, HasBounds, HaveArrivals, HaveOwnKeys, HaveSizes, IsJob}
use Rattle.planner_machine.specs.declared.job.Job.{Job}

-- bounds, serials, keys, arrivals, sizes, lists in force and kept jobs are those of sound content
pub record HasSoundRows (c : Content) : Type 0 where
  pub bounds : HasBounds c
  pub serials : AreNumbered c.sets
  pub keys : HaveOwnKeys c.sets
  pub arrivals : HaveArrivals c.sets
  pub sizes : HaveSizes c.sets
  pub lists : (app : List ℕ) → OnLoop c.in_force app → ⊥
  pub jobs : (number : ℕ) (job : Job) → c.jobs number ≡ Some job → IsJob number job
