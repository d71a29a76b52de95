-- Lemmas on how many bytes of a stream were read.
use Rattle.std.proofs.Common.{◌≡◌, inl, inr, subst, refl, sym, ℕ, ◌-◌, List, length, length-append, ap, arith}
use Rattle.std.specs.Prelude.{Option, None, Some}
use Rattle.std.specs.Io.KnownBytes.{Consumes}
use Rattle.planner_cli_stream.specs.Pages.{KeepsRoom, MayNeedMemory, item_held}
use Rattle.planner_cli_stream.specs.Readers.{Measures}
use Rattle.planner_cli_stream.specs.declared.pages.Held.{Held}
use Rattle.planner_cli_stream.specs.declared.pages.Held.TheVariants.{Nothing}
use Rattle.planner_cli_stream.specs.declared.pages.Page.{Page}

-- what is left falls by the bytes that were consumed
pub measures_consumed : (a b : Option (List ℕ)) (bs : List ℕ) (left left' : ℕ) → Consumes a b bs
    → left' ≡ left - length bs → Measures a b left left'
measures_consumed None b bs left left' read falls = tt
measures_consumed (Some xs) None bs left left' read falls = absurd read
measures_consumed (Some xs) (Some ys) bs left left' read falls =
    omega (arith, ap length read, length-append bs ys, falls)

-- and stays where none was
pub measures_same : (a : Option (List ℕ)) (left : ℕ) → Measures a a left left
measures_same None left = tt
measures_same (Some xs) left = omega arith

pub measures_trans : (a b c : Option (List ℕ)) (l m n : ℕ) → Measures a b l m → Measures b c m n → Measures a c l n
measures_trans None b c l m n first second = tt
measures_trans (Some xs) None c l m n first second = absurd first
measures_trans (Some xs) (Some ys) None l m n first second = absurd second
measures_trans (Some xs) (Some ys) (Some zs) l m n first second = omega (arith, first, second)

-- where a page holds nothing, it has no item
pub nothing_held : (held : Held) (line block : List ℕ) → held ≡ Nothing → item_held held line block ≡ None
nothing_held held line block none = subst (λ h. item_held h line block ≡ None) (sym none) refl

-- a page whose buffers may have to grow is one whose buffers might have had to before
pub needs_before : (old new : Page) → KeepsRoom old new → MayNeedMemory new → MayNeedMemory old
needs_before old new kept (inl low) = inl (omega (arith, kept.0, low))
needs_before old new kept (inr (inl low)) = inr (inl (omega (arith, kept.1, low)))
needs_before old new kept (inr (inr low)) = inr (inr (omega (arith, kept.2, low)))

pub keeps_room_trans : (a b c : Page) → KeepsRoom a b → KeepsRoom b c → KeepsRoom a c
keeps_room_trans a b c first second =
    (omega (arith, first.0, second.0), omega (arith, first.1, second.1), omega (arith, first.2, second.2))
