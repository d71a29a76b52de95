-- Run cycles without their names, and their rows without the application.
use Rattle.std.specs.Prelude.{◌≡◌, ◌⊎◌, ℕ, ℤ, List, [], ◌∷◌, length}
use Rattle.std.proofs.Common.{ap, inl, inr, ◌∙◌}
use Rattle.sqlite.specs.Order.{Row as Values, column}
use Rattle.sqlite.specs.declared.types.Value.TheVariants.{Int, Text}
use Rattle.work_calendars.specs.Name.{IsShort}
use Rattle.run_cycles.specs.Offset.{IsOffsets}
use Rattle.plan_tables_content.specs.Facts.{natural}
use Rattle.plan_tables_definitions.specs.DraftedCycles.{IsReadableCycle, told_values}
use Rattle.plan_tables_definitions.specs.Placed.{ByPlace, IsRowOfList, IsPlaced}
use Rattle.plan_tables_definitions.specs.declared.cycle_parts.CyclePart.{CyclePart}

abbrev pub offset_tail : List ℕ → ℕ → ℤ → Values
offset_tail name place k = Text name ∷ natural place ∷ Int k ∷ []

-- its own row, or one of an offset
abbrev pub IsPartRow : List ℕ → CyclePart → Values → Type 0
IsPartRow name part values = (values ≡ told_values name part.told) ⊎ IsRowOfList (offset_tail name) part.offsets values

-- the row that was kept, where it is one of a run cycle of the name
abbrev pub IsReadRow : List ℕ → Values → Values → Type 0
IsReadRow name kept values = (values ≡ kept) × (length kept ≡ 9) × (column kept 0 ≡ Text name)

abbrev pub IsReadPart : List ℕ → Values → ByPlace ℤ → Values → Type 0
IsReadPart name kept offsets values = IsReadRow name kept values ⊎ IsPlaced (offset_tail name) offsets values

-- each run cycle that is defined is so
pub record IsSoundPart (name : List ℕ) (part : CyclePart) : Type 0 where
  pub short : IsShort name
  pub told : IsReadableCycle part.told
  pub offsets : IsOffsets part.offsets

pub part_named : (name : List ℕ) (part : CyclePart) (v : Values) → IsPartRow name part v → column v 0 ≡ Text name
part_named name part v (inl is) = ap (λ (r : Values). column r 0) is
part_named name part v (inr (place, k, at, is)) = ap (λ (r : Values). column r 0) is

pub read_part_named : (name : List ℕ) (kept : Values) (offsets : ByPlace ℤ) (v : Values)
    → IsReadPart name kept offsets v → column v 0 ≡ Text name
read_part_named name kept offsets v (inl is) = ap (λ (r : Values). column r 0) is.0 ∙ is.2
read_part_named name kept offsets v (inr (place, k, at, is)) = ap (λ (r : Values). column r 0) is
