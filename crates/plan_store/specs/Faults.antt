-- Counts of failures, which stay at the greatest number once there, and faults after which a store is still honest.
use Rattle.std.specs.Prelude.{◌≡◌, ◌≢◌, ℕ, ◌+◌, ◌-◌, ◌^◌, ◌≤◌, min}
use Rattle.plan_store.specs.declared.listings.ListFault.{ListFault}
use Rattle.plan_store.specs.declared.listings.ListFault.TheVariants as listing
use Rattle.plan_store.specs.declared.stores.StoreFault.{StoreFault}
use Rattle.plan_store.specs.declared.stores.StoreFault.TheVariants.{Device, Memory}

-- there was one more failure at least, or the count was at its greatest number
abbrev pub MoreFailures : ℕ → ℕ → Type 0
MoreFailures before after = min (before + 1) (2 ^ 64 - 1) ≤ after

-- the device is not blamed; and where memory was refused, the store is whole: nothing of its device is in doubt
abbrev pub IsMild : Type 0 → StoreFault → Type 0
IsMild is_whole fault = (fault ≢ Device) × (fault ≡ Memory → is_whole)

-- the same of a listing
abbrev pub IsMildListing : Type 0 → ListFault → Type 0
IsMildListing is_whole fault = (fault ≢ listing.Device) × (fault ≡ listing.Memory → is_whole)
