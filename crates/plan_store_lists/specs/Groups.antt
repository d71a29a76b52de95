-- Groups of serials.
use Rattle.std.proofs.Common.{sym}
use Rattle.std.proofs.Math.Nat.{div-lt_iff_lt-mul, div-mul-le_self, lt_of_lt_of_le, zero-lt-suc}
use Rattle.std.proofs.lemmas.Cmp.{ranked}
use Rattle.std.specs.Prelude.{◌≡◌, ◌<◌, ◌/◌, ℕ}
use Rattle.std.specs.Ordering.{nat_cmp}
use Rattle.std.specs.declared.cmp.Ordering.TheVariants.{Less}
use Rattle.occurrences.proofs.OrderLemmas.{nat_less}

-- the block of a serial: 256 serials that follow one another share one
abbrev pub serial_group : ℕ → ℕ
serial_group serial = serial / 256

-- a serial of a lower block is lower
pub group_below : (a b : ℕ) → nat_cmp (serial_group a) (serial_group b) ≡ Less → nat_cmp a b ≡ Less
group_below a b less =
    let low : serial_group a < serial_group b = ranked (serial_group a) (serial_group b) Less (sym less) in
    nat_less a b
    (lt_of_lt_of_le ((div-lt_iff_lt-mul {k = 256} {x = a} {y = serial_group b} (zero-lt-suc 255)).0 low)
    (div-mul-le_self b 256))
