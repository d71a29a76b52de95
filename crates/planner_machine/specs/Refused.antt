-- What a refused statement leaves.
use Rattle.std.specs.Prelude.{◌≡◌, ◌⊎◌, ℕ, List, None, Err}
use Rattle.occurrences.specs.declared.refusal.Refusal.{Refusal}
use Rattle.planner_machine.specs.Content.{Content}
use Rattle.planner_machine.specs.Jobs.{kept, with_job}
use Rattle.planner_machine.specs.Statement.{DefineJob, Job, Statement, Steps}

-- the statement has this job number and this text; `days`, lists and trials have none
abbrev pub HasJob : Statement → ℕ → List ℕ → Type 0
HasJob (DefineJob own_number own_text kind given) number text = (number ≡ own_number) × (text ≡ own_text)
HasJob (Job own_number own_text change) number text = (number ≡ own_number) × (text ≡ own_text)
HasJob statement number text = ⊥

-- the refusal is kept under the statement's job number, which kept none before; all else is as it was
abbrev pub KeepsRefusal : Statement → Refusal → Content → Content → Type 0
KeepsRefusal s r c c' = (number : ℕ) × (text : List ℕ) × HasJob s number text × (c.jobs number ≡ None)
    × (c' ≡ with_job (kept number text (Err r)) c)

-- a refused statement of any kind leaves the content as it was, or changes its own kept job alone
abbrev pub RefusedLeaves : Type 0
RefusedLeaves = (s : Statement) (c c' : Content) (r : Refusal) → Steps s c (Err r) c'
    → (c' ≡ c) ⊎ KeepsRefusal s r c c'
