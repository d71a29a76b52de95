-- Lists in the order of numbers.
use Rattle.std.specs.Prelude.{ℕ, ◌<◌, List}
use Rattle.std.specs.List.{AllPairs}
use Rattle.occurrences.specs.declared.place.CurrentRow.{CurrentRow}
use Rattle.occurrences.specs.declared.place.Deletion.{Deletion}
use Rattle.occurrences.specs.declared.row.Row.{Row}
use Rattle.planner_machine.specs.declared.job.Job.{Job}

-- each has a greater number than all before it
abbrev pub NumbersRise : {X : Type 0} → (X → ℕ) → List X → Type 0
NumbersRise number_of xs = AllPairs (λ x y. number_of x < number_of y) xs

-- by what their lists are ordered
abbrev pub row_number : Row → ℕ
row_number row = row.serial

abbrev pub current_number : CurrentRow → ℕ
current_number current = current.row.serial

abbrev pub deletion_number : Deletion → ℕ
deletion_number deletion = deletion.row.serial

abbrev pub job_number : Job → ℕ
job_number job = job.number
