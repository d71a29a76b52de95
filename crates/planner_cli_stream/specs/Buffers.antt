-- What buffers keep of a line, and what is consumed of it at once.
use Rattle.std.specs.Prelude.{◌≡◌, ◌≢◌, ◌<◌, ℕ, List, ◌-◌, ◌++◌, true, Option, length, max, take, All, OnSome}
use Rattle.std.specs.Io.{StopsAt, IsEmptyOrEndsWith}
use Rattle.std.specs.Io.KnownBytes.{Consumes, IsAtEnd}
use Rattle.planner_cli_stream.specs.declared.lines.Consumed.{Consumed}

-- what a buffer with room for `limit` bytes holds once bs came after what it held
abbrev pub kept : ℕ → List ℕ → List ℕ → List ℕ
kept limit held bs = held ++ take (limit - length held) bs

-- a buffer with room for so many bytes may have to grow: it may come to hold more of them, up to `limit`
abbrev pub MayGrow : (capacity limit held : ℕ) → Type 0
MayGrow capacity limit held = capacity < max limit held

-- bytes of a line are consumed, up to its line feed or as far as the reader showed them, and two buffers keep them
pub record ConsumesPart (before after : Option (List ℕ)) (head_limit : ℕ) (head head' : List ℕ)
    (all_limit : ℕ) (all all' : List ℕ) (taken : Consumed) : Type 0 where
  pub bytes : List ℕ
  pub len_is : length bytes ≡ taken.len
  pub stops : StopsAt bytes 10
  pub consumed : Consumes before after bytes
  pub not_done : taken.is_done ≢ true → All (λ x. x ≢ 10) bytes
  pub done : taken.is_done ≡ true → IsEmptyOrEndsWith bytes 10
  pub no_more : taken.is_done ≡ true → length bytes ≡ 0 → OnSome before (IsAtEnd after)
  pub head_keeps : head' ≡ kept head_limit head bytes
  pub all_keeps : all' ≡ kept all_limit all bytes
