-- Lemmas on what `days` is answered.
use Rattle.std.proofs.Common.{◌≡◌, ℕ, List, sym, subst}
use Rattle.app_occurrences.specs.Active.{IsActive, cycles_of}
use Rattle.app_occurrences.specs.NamedOccurrences.{ListsNamed, work_of}
use Rattle.app_definition_records.specs.declared.applications.Application.{Application}
use Rattle.app_definitions.specs.declared.definitions.Definitions.{Definitions}
use Rattle.run_cycles.specs.Occurrence.{IsOccurrence}
use Rattle.run_cycles.specs.declared.named.Named.{Named}
use Rattle.planner_machine.specs.Days.{ListsDays}

-- an application has one definition
one_active : (all : Definitions) (app : List ℕ) (a b : Application) → IsActive all app a → IsActive all app b → a ≡ b
one_active all app a b x y = let e = sym x.0 in let f = y.0 in cc

module _ (all : Definitions) (app : List ℕ) (a : Application) (active : IsActive all app a) (from to : ℕ) where
  -- the occurrences that are listed for it
  pub lists_days : (list : List Named) → ListsNamed all app a from to list → ListsDays all app from to list
  lists_days list lists = record {
    exactly = λ x. (
      λ there. let (first, last, is) = (lists.exactly x).0 there in ((a, active, is), first, last),
      λ h. let ((b, other, is), first, last) = h in
          (lists.exactly x).1 (
            first,
            last,
            subst (λ y. IsOccurrence (cycles_of all app) all.periods (work_of all y) x)
                (one_active all app b a other active) is,
          ),
    );
    in_order = lists.in_order;
  }
