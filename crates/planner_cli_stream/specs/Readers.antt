-- What is said of the reader of a stream: when it is blamed, and how many bytes were read.
use Rattle.std.specs.Prelude.{◌≡◌, ◌⊎◌, ◌+◌, ◌≤◌, ℕ, List, None, Option, Some, length, ⊤}

-- the most bytes that a stream may have
abbrev pub longest_stream : ℕ
longest_stream = 0xffff_ffff_ffff_ffff

-- a call on a reader failed, and left it so
abbrev pub HasFailed : {R : Type 0} → (R → R → Type 0) → R → Type 0
HasFailed {R} fails now = (before : R) × fails before now

-- a reader is blamed: a call on it failed, and nothing came after that; or nothing is left of the most bytes that a
-- stream may have
abbrev pub IsBlamed : {R : Type 0} → (R → R → Type 0) → R → ℕ → Type 0
IsBlamed fails now left = HasFailed fails now ⊎ (left ≡ 0)

-- what is left of the most bytes falls by no more than the known bytes that were read
abbrev pub Measures : Option (List ℕ) → Option (List ℕ) → ℕ → ℕ → Type 0
Measures None now left left' = ⊤
Measures (Some xs) None left left' = ⊥
Measures (Some xs) (Some ys) left left' = left + length ys ≤ left' + length xs
