-- What the arguments of the program request.
use Rattle.std.specs.Prelude.{◌≡◌, ◌≢◌, false, true, ℕ, List, None, Option, Some, codes, string_bytes}
use Rattle.opcplan.specs.declared.words.Request.{Request}
use Rattle.opcplan.specs.declared.words.Request.TheVariants.{Answered, Memory, Run}

-- by the value of `--db` and the text of the flag `--sums`: the stream is answered over lists where no file is named, and
-- else over the file that is named, with its sums as asked for; memory may be refused for its path
abbrev pub IsNamed : Option (List ℕ) → Option (List ℕ) → Request → Type 0
IsNamed db sums (Run None) = db ≡ None
IsNamed db sums (Run (Some file)) = (db ≡ Some (string_bytes file.path)) × (sums ≡ Some (codes "true") → file.new_has_sums ≡ true)
    × (sums ≡ Some (codes "false") → file.new_has_sums ≡ false) × (sums ≡ None → file.new_has_sums ≡ false)
IsNamed db sums (Answered status) = ⊥
IsNamed db sums Memory = db ≢ None
