-- The run cycles of applications, and their rows and those of their offsets.
use Rattle.std.specs.Prelude.{◌≡◌, ◌↔◌, ◌⊎◌, ℕ, List, ◌∷◌, drop, length, All, Contains}
use Rattle.std.proofs.Common.{ap, inl, inr, sym, ◌∙◌}
use Rattle.sqlite.specs.Order.{Row as Values, column}
use Rattle.sqlite.specs.declared.types.Value.TheVariants.{Text}
use Rattle.work_calendars.specs.Name.{IsShort}
use Rattle.run_cycles.specs.Offset.{IsOffsets}
use Rattle.run_cycles.specs.declared.cycles.RunCycle.{RunCycle}
use Rattle.app_definition_records.specs.Rising.{AreRising}
use Rattle.plan_tables_content.specs.Content.{ByName, IsOfSome}
use Rattle.plan_tables_content.specs.Facts.{IsCycleRow, IsOffsetRow}
use Rattle.plan_tables_definitions.specs.CycleParts.{IsPartRow}
use Rattle.plan_tables_definitions.specs.DraftedCycles.{IsReadableCycle}
use Rattle.plan_tables_definitions.specs.declared.cycle_parts.CyclePart.{CyclePart}
use Rattle.plan_tables_definitions.specs.declared.decoded_cycles.DecodedCycle.{DecodedCycle}

-- what is left of a run cycle without its name and its offsets, and without its name alone
abbrev pub told_of : RunCycle → DecodedCycle
told_of c = record {
  kind = c.kind;
  period = c.period;
  rule = c.rule;
  in_effect = c.in_effect;
  out_effect = c.out_effect;
  ia = c.ia;
}

abbrev pub part_of : RunCycle → CyclePart
part_of c = record { told = told_of c; offsets = c.offsets }

-- the run cycle of that name
abbrev pub cycle_of : List ℕ × CyclePart → RunCycle
cycle_of e = record {
  name = e.0;
  kind = e.1.told.kind;
  period = e.1.told.period;
  rule = e.1.told.rule;
  offsets = e.1.offsets;
  in_effect = e.1.told.in_effect;
  out_effect = e.1.told.out_effect;
  ia = e.1.told.ia;
}

-- the row of a run cycle of the application, or that of an offset
abbrev pub IsEitherRow : List ℕ → List RunCycle → Values → Type 0
IsEitherRow app cycles values = IsCycleRow app cycles values ⊎ IsOffsetRow app cycles values

-- the same without the application
abbrev pub IsTail : List RunCycle → Values → Type 0
IsTail cycles tail = (c : RunCycle) × Contains cycles c × IsPartRow c.name (part_of c) tail

-- a row of which the rest was kept without the application
abbrev pub IsKept : List ℕ → List Values → Values → Type 0
IsKept app tails values = (tail : Values) × Contains tails tail × (values ≡ Text app ∷ tail)

-- the parts are those of the run cycles
abbrev pub ArePartsOf : ByName CyclePart → List RunCycle → Type 0
ArePartsOf parts cycles = (tail : Values) → IsTail cycles tail ↔ IsOfSome IsPartRow parts tail

-- the names are those of run cycles
abbrev pub HaveShortNames : List (List ℕ × CyclePart) → Type 0
HaveShortNames parts = All (λ (e : List ℕ × CyclePart). IsShort e.0) parts

-- each run cycle that is defined is so
pub record IsSoundCycle (c : RunCycle) : Type 0 where
  pub name : IsShort c.name
  pub told : IsReadableCycle (told_of c)
  pub offsets : IsOffsets c.offsets

-- the run cycles of each application are so
pub record AreSoundCycles (app : List ℕ) (cycles : List RunCycle) : Type 0 where
  pub rising : AreRising (λ (c : RunCycle). c.name) cycles
  pub each : (c : RunCycle) → Contains cycles c → IsSoundCycle c

-- each row has that many columns
abbrev pub AreWide : ℕ → List Values → Type 0
AreWide width rows = All (λ (values : Values). length values ≡ width) rows

-- a row begins with the application
pub either_at : (app : List ℕ) (cycles : List RunCycle) (v : Values) → IsEitherRow app cycles v
    → v ≡ Text app ∷ drop 1 v
either_at app cycles v (inl (c, has, is)) =
    is ∙ ap (λ (u : Values). let r : Values = Text app ∷ drop 1 u in r) (sym is)
either_at app cycles v (inr (c, has, place, k, at, is)) =
    is ∙ ap (λ (u : Values). let r : Values = Text app ∷ drop 1 u in r) (sym is)

pub either_named : (app : List ℕ) (cycles : List RunCycle) (v : Values) → IsEitherRow app cycles v
    → column v 0 ≡ Text app
either_named app cycles v is = ap (λ (u : Values). column u 0) (either_at app cycles v is)

pub kept_named : (app : List ℕ) (tails : List Values) (v : Values) → IsKept app tails v → column v 0 ≡ Text app
kept_named app tails v (tail, has, is) = ap (λ (u : Values). column u 0) is
