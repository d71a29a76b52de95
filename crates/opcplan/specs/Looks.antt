-- What is at a name, and what became of it.
use Rattle.std.specs.Prelude.{◌≡◌, ◌≢◌, ◌+◌, ◌*◌, ◌<◌, ◌≤◌, ℕ, List, slice_index}
use Rattle.opcplan.specs.declared.looks.Fate.{Fate}
use Rattle.opcplan.specs.declared.looks.Fate.TheVariants.{Gone, Other, Same}
use Rattle.opcplan.specs.declared.looks.Look.{Look}
use Rattle.opcplan.specs.declared.looks.Look.TheVariants.{File, Nothing}
use Rattle.opcplan.specs.declared.looks.TheConstants.{LARGE}

-- what became of the file that was at a name, by two looks at the name
abbrev pub IsFate : Look → Look → Fate → Type 0
IsFate (File _ _) Nothing fate = fate ≡ Gone
IsFate (File old _) (File new _) fate = (old ≡ new → fate ≡ Same) × (old ≢ new → fate ≡ Other)
IsFate _ _ fate = fate ≡ Same

-- the same file has fewer bytes
abbrev pub IsShorter : Look → Look → Type 0
IsShorter (File old bytes) (File new found) = (old ≡ new) × (found < bytes)
IsShorter _ _ = ⊥

-- a file has fewer bytes than its pages take
abbrev pub LacksPages : Look → ℕ → Type 0
LacksPages (File _ found) pages = found < pages
LacksPages _ _ = ⊥

-- a file takes a while to open
abbrev pub IsLarge : Look → Type 0
IsLarge (File _ found) = LARGE ≤ found
IsLarge _ = ⊥

-- how many bytes a page has, by the first bytes of a database file: a power of two, 65,536 where they say 1
abbrev pub page_size : List ℕ → ℕ
page_size head = slice_index head 16 * 0x100 + slice_index head 17 * 0x1_0000

-- how many pages it has
abbrev pub page_count : List ℕ → ℕ
page_count head = slice_index head 28 * 0x100_0000 + slice_index head 29 * 0x1_0000 + slice_index head 30 * 0x100
    + slice_index head 31
