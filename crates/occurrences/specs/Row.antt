-- Rows of the plans, and their order.
use Rattle.std.specs.Prelude.{◌≡◌, ℕ, ◌<◌, ◌⊎◌, List, Option, Some, None}
use Rattle.std.specs.Cmp.Lexicographic.{slice_cmp}
use Rattle.std.specs.declared.cmp.Ordering.{Ordering}
use Rattle.std.specs.Option.{option_cmp}
use Rattle.std.specs.Ordering.{nat_cmp, on, then_cmp}
use Rattle.occurrences.specs.Key.{KeyBefore, key_cmp}
use Rattle.occurrences.specs.declared.row.Row.{Row}
use Rattle.occurrences.specs.declared.row.Origin.{Origin}
use Rattle.occurrences.specs.declared.row.Origin.TheVariants.{Added, Generated}

-- the run cycle that named an occurrence, if one did
abbrev pub run_cycle_of : Origin → Option (List ℕ)
run_cycle_of Added = None
run_cycle_of (Generated name) = Some name

-- how two origins compare: what was added by hand comes first, then run cycles by name in byte order
abbrev pub origin_cmp : Origin → Origin → Ordering
origin_cmp = on run_cycle_of (option_cmp (slice_cmp nat_cmp))

-- the first row comes before the second: by key, or with the same key by serial
abbrev pub RowBefore : Row → Row → Type 0
RowBefore a b = KeyBefore a.key b.key ⊎ ((a.key ≡ b.key) × (a.serial < b.serial))

-- how two rows compare: by key, then by serial; rows of one key and one serial by deadline, then by origin
abbrev pub row_cmp : Row → Row → Ordering
row_cmp =
    then_cmp (on (λ r. r.key) key_cmp)
    (then_cmp (on (λ r. r.serial) nat_cmp)
    (then_cmp (on (λ r. r.deadline) nat_cmp) (on (λ r. r.origin) origin_cmp)))
