-- The keys of a table of options, and the name of the default calendar.
use Rattle.std.proofs.Common.{◌≡◌, refl, ℕ, zero, suc, ◌<◌, List, [], ◌∷◌, ◌++◌, get_or, Option, Some, Ordering, Less}
use Rattle.std.proofs.Common.{Equal, Greater, string_bytes, nat_cmp, arith, IsTrue, IsSome}
use Rattle.std.specs.Prelude.{codes}
use Rattle.std.specs.Cmp.{tied_itself}
use Rattle.std.specs.Cmp.Lexicographic.{slice_cmp, nat_list_cmp_total}
use Rattle.std.specs.FinMap.{slice_cmp-IsAntisymmetric, nat_cmp-IsAntisymmetric}
use Rattle.std.specs.Ordering.{match_ordering}
use Rattle.toml.specs.Data.{Data, get_member}
use Rattle.toml.specs.View.{view, members_view}
use Rattle.toml.proofs.Views.{Entry}
use Rattle.work_calendars.specs.Name.{is_name_byte, IsName}
use Rattle.app_definitions.specs.Options.{IsOptionKey, HasOnlyOptions}

-- every entry's key is an option's
abbrev pub OnlyKeys : List Entry → Type 0
OnlyKeys [] = Unit {0}
OnlyKeys (e ∷ es) = IsOptionKey (string_bytes e.0) × OnlyKeys es

-- one more
pub OnlyKeys-last : (es : List Entry) (e : Entry) → OnlyKeys es → IsOptionKey (string_bytes e.0)
    → OnlyKeys (es ++ e ∷ [])
OnlyKeys-last [] e all this = (this, tt)
OnlyKeys-last (x ∷ es) e all this = (all.0, OnlyKeys-last es e all.1 this)

found_at : (o : Ordering) (d : Data) (rest : Option Data) (P : Type 0) → (o ≡ Equal → P) → (IsSome rest → P)
    → IsSome (match_ordering o rest (Some d) rest) → P
found_at Less d rest P same other found = other found
found_at Equal d rest P same other found = same refl
found_at Greater d rest P same other found = other found

same_bytes : (k l : List ℕ) → slice_cmp nat_cmp k l ≡ Equal → k ≡ l
same_bytes k l tie = slice_cmp-IsAntisymmetric nat_cmp-IsAntisymmetric k l tie

-- entries with keys of options alone have no other member
pub only_members : (es : List Entry) → OnlyKeys es → HasOnlyOptions (members_view es)
only_members [] all = λ key found. absurd (let x : ⊥ = cc in x)
only_members (e ∷ es) all = λ key found.
    found_at (slice_cmp nat_cmp key (string_bytes e.0)) (view e.1) (get_member key (members_view es)) (IsOptionKey key)
    (λ tie. rw (same_bytes key (string_bytes e.0) tie) all.0)
    (λ later. only_members es all.1 key later)
    found

found_or : (o : Ordering) (d : Data) (rest : Option Data) → IsSome rest → IsSome (match_ordering o rest (Some d) rest)
found_or Less d rest h = h
found_or Equal d rest h = refl
found_or Greater d rest h = h

-- the key of an entry is that of a member
pub member_there : (done rest : List Entry) (e : Entry)
    → IsSome (get_member (string_bytes e.0) (members_view (done ++ e ∷ rest)))
member_there [] rest e = rw (tied_itself nat_list_cmp_total (string_bytes e.0))
member_there (d ∷ done) rest e = found_or (slice_cmp nat_cmp (string_bytes e.0) (string_bytes d.0)) (view d.1)
    (get_member (string_bytes e.0) (members_view (done ++ e ∷ rest))) (member_there done rest e)

-- an entry with another key is one key too many
pub another_key : (es done rest : List Entry) (e : Entry) → es ≡ done ++ e ∷ rest → ¬ (IsOptionKey (string_bytes e.0))
    → ¬ (HasOnlyOptions (members_view es))
another_key es done rest e is other only = other (only (string_bytes e.0) (rw is (member_there done rest e)))

default_bytes : (i d : ℕ) → i < 7 → IsTrue (is_name_byte (get_or (codes "DEFAULT") i d))
unfolding is_name_byte
default_bytes zero d h = refl
default_bytes (suc zero) d h = refl
default_bytes (suc (suc zero)) d h = refl
default_bytes (suc (suc (suc zero))) d h = refl
default_bytes (suc (suc (suc (suc zero)))) d h = refl
default_bytes (suc (suc (suc (suc (suc zero))))) d h = refl
default_bytes (suc (suc (suc (suc (suc (suc zero)))))) d h = refl
default_bytes (suc (suc (suc (suc (suc (suc (suc i))))))) d h = absurd (omega arith)

-- the default calendar's name where none is given is a name
pub IsName-default : IsName (codes "DEFAULT")
IsName-default = record {
  not_empty = omega arith;
  fits = omega arith;
  alphabet = λ i d h. default_bytes i d h;
  start = refl;
}
