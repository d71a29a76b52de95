-- Lemmas on the line of a fault that is written, or not.
use Rattle.std.proofs.Common.{◌≡◌, ℕ, ◌<◌, List, arith, length, subst, take}
use Rattle.std.specs.Prelude.{Option}
use Rattle.std.specs.Io.KnownBytes.{Appends}
use Rattle.std.proofs.KnownBytes.{Appends-trans}
use Rattle.planner_cli.specs.Faults.{cause_of, fault_line}
use Rattle.planner_cli.specs.Writes.{EndsWith}
use Rattle.planner_cli.specs.declared.faults.Cause.{Cause}
use Rattle.planner_cli.specs.declared.faults.RunFault.{RunFault}

-- a whole line after what was written before it
pub line_ends : (w0 w w' : Option (List ℕ)) (xs : List ℕ) (fault : RunFault) (cause : Cause) → Appends w0 w xs
    → cause ≡ cause_of fault → Appends w w' (fault_line cause) → EndsWith w0 w' (fault_line (cause_of fault))
line_ends w0 w w' xs fault cause before is more =
    (xs, Appends-trans w0 w w' xs _ before (subst (λ c. Appends w w' (fault_line c)) is more))

-- a line that is not whole is not empty
pub unwritten_line : (w w' : Option (List ℕ)) (fault : RunFault) (cause : Cause) → cause ≡ cause_of fault
    → ((n : ℕ) × (n < length (fault_line cause)) × Appends w w' (take n (fault_line cause)))
    → 0 < length (fault_line (cause_of fault))
unwritten_line w w' fault cause is (n, less, more) =
    subst (λ c. 0 < length (fault_line c)) is (omega (arith, less))
