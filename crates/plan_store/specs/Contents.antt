-- The content that a value of the program stands for.
use Rattle.occurrences.specs.declared.place.Deletion.{Deletion}
use Rattle.occurrences.specs.declared.row.Row.{Row}
use Rattle.planner_machine.specs.Content.{Content}
use Rattle.occurrences.specs.declared.place.CurrentRow.{CurrentRow}
use Rattle.planner_machine.specs.declared.job.Job.{Job}
use Rattle.plan_store_lists.specs.Rows.{look_up}
use Rattle.plan_store.specs.declared.contents.Content.{Content as Kept}

-- each list as a look-up
abbrev pub content_of : Kept → Content
content_of kept = record {
  definitions = kept.definitions;
  sets = record {
    bounds = kept.bounds;
    issued = kept.issued;
    ltp = look_up (λ (row : Row). row.serial) kept.ltp.items;
    cp = look_up (λ (current : CurrentRow). current.row.serial) kept.cp.items;
    history = look_up (λ (row : Row). row.serial) kept.history.items;
    deletions = look_up (λ (deletion : Deletion). deletion.row.serial) kept.deletions.items;
  };
  in_force = kept.in_force.items;
  pairs = kept.pairs;
  jobs = look_up (λ (job : Job). job.number) kept.jobs.items;
}
