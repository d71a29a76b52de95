-- Run cycles that rows told.
use Rattle.std.proofs.Common.{◌≡◌, ◌⊎◌, ◌<◌, ◌^◌, inl, inr, ℕ, ℤ, List, [], Some, length, refl, sym, ap, ◌∙◌, arith}
use Rattle.std.specs.Prelude.{slice_get}
use Rattle.std.proofs.lemmas.List.Elements.{All-contains}
use Rattle.std.proofs.lemmas.Option.{get_or_from_slice_get, slice_get_within}
use Rattle.run_cycles.specs.Offset.{IsOffset}
use Rattle.sqlite.specs.Order.{Row as Values, column}
use Rattle.plan_tables_content.specs.Decoded.{int_in, nat_in}
use Rattle.plan_tables_definitions.specs.CycleParts.{IsPartRow, IsReadPart, IsSoundPart, offset_tail}
use Rattle.plan_tables_definitions.specs.DraftedCycles.{told_values}
use Rattle.plan_tables_definitions.specs.Gathering.{Alike, Joins}
use Rattle.plan_tables_definitions.specs.Placed.{HoldsPlaces, ByPlace, IsRowOfList, IsPlaced}
use Rattle.plan_tables_definitions.specs.declared.cycle_parts.CyclePart.{CyclePart}
use Rattle.plan_tables_definitions.specs.declared.decoded_cycles.DecodedCycle.{DecodedCycle}
use Rattle.plan_tables_definitions.proofs.PlaceLemmas.{listed_in_order}

pub offset_back : (name : List ℕ) (k l : ℕ) (x y : ℤ) → offset_tail name k x ≡ offset_tail name l y
    → (k ≡ l) × (x ≡ y)
offset_back name k l x y e = (
  ap (λ (v : Values). nat_in (column v 1)) e,
  ap (λ (v : Values). int_in (column v 2)) e,
)

-- ---- one of two kinds of rows grows

pub joins_left : (A B C : Values → Type 0) (row : Values) → Joins A row B
    → Joins (λ v. A v ⊎ C v) row (λ v. B v ⊎ C v)
joins_left A B C row h v = (
  λ is. elim is [
    | inl b ↦ elim ((h v).0 b) [ inl a ↦ inl (inl a) | inr new ↦ inr new ]
    | inr c ↦ inl (inr c)
  ],
  λ is. elim is [
    | inl old ↦ elim old [ inl a ↦ inl ((h v).1 (inl a)) | inr c ↦ inr c ]
    | inr new ↦ inl ((h v).1 (inr new))
  ],
)

pub joins_right : (A B C : Values → Type 0) (row : Values) → Joins A row B
    → Joins (λ v. C v ⊎ A v) row (λ v. C v ⊎ B v)
joins_right A B C row h v = (
  λ is. elim is [
    | inl c ↦ inl (inl c)
    | inr b ↦ elim ((h v).0 b) [ inl a ↦ inl (inr a) | inr new ↦ inr new ]
  ],
  λ is. elim is [
    | inl old ↦ elim old [ inl c ↦ inl c | inr a ↦ inr ((h v).1 (inl a)) ]
    | inr new ↦ inr ((h v).1 (inr new))
  ],
)

-- ---- the rows of a run cycle and those of offsets are of two widths

nine : (name : List ℕ) (t : DecodedCycle) (v : Values) → v ≡ told_values name t → length v ≡ 9
nine name t v is = ap length is

three : (name : List ℕ) (place : ℕ) (k : ℤ) (v : Values) → v ≡ offset_tail name place k → length v ≡ 3
three name place k v is = ap length is

apart : (v : Values) → length v ≡ 9 → length v ≡ 3 → ⊥
apart v long short = omega (arith, long, short)

pub nine_told : (name : List ℕ) (d : CyclePart) (v : Values) → length v ≡ 9 → IsPartRow name d v
    → v ≡ told_values name d.told
nine_told name d v long (inl is) = is
nine_told name d v long (inr (place, k, at, is)) = absurd (apart v long (three name place k v is))

pub other_listed : (name : List ℕ) (d : CyclePart) (v : Values) → (length v ≡ 9 → ⊥) → IsPartRow name d v
    → IsRowOfList (offset_tail name) d.offsets v
other_listed name d v other (inl is) = absurd (other (nine name d.told v is))
other_listed name d v other (inr is) = is

pub placed_listed : (name : List ℕ) (d : CyclePart) (m : ByPlace ℤ) (v : Values) → IsPlaced (offset_tail name) m v
    → IsPartRow name d v → IsRowOfList (offset_tail name) d.offsets v
placed_listed name d m v (place, k, at, is) has = other_listed name d v (λ long. apart v long (three name place k v is))
    has

-- nothing was read
pub no_part : (name : List ℕ) (row : Values) (m : ByPlace ℤ) (v : Values) → row ≡ [] → (IsPlaced (offset_tail name) m v
    → ⊥) → IsReadPart name row m v → ⊥
no_part name row m v empty none (inl (is, long, named)) =
    let short : length row ≡ 0 = ap length empty in omega (arith, long, short)
no_part name row m v empty none (inr is) = none is

-- ---- what was read makes a run cycle

module _ (name : List ℕ) (row : Values) (m : ByPlace ℤ) (d : CyclePart)
    (alike : Alike (IsPartRow name d) (IsReadPart name row m)) where
  pub kept_told : row ≡ told_values name d.told
  kept_told = elim ((alike (told_values name d.told)).0 (inl refl)) [
    | inl (is, long, named) ↦ sym is
    | inr (place, k, at, is) ↦ absurd (apart (told_values name d.told) refl (three name place k (told_values name
        d.told) is))
  ]

  offsets_alike : Alike (IsRowOfList (offset_tail name) d.offsets) (IsPlaced (offset_tail name) m)
  offsets_alike v = (to, from)
    where
      to : IsRowOfList (offset_tail name) d.offsets v → IsPlaced (offset_tail name) m v
      to (place, k, at, is) = elim ((alike v).0 (inr (place, k, at, is))) [
        | inl (it, long, named) ↦ absurd (apart v (ap length it ∙ long) (three name place k v is))
        | inr placed ↦ placed
      ]

      from : IsPlaced (offset_tail name) m v → IsRowOfList (offset_tail name) d.offsets v
      from placed = placed_listed name d m v placed ((alike v).1 (inr placed))

  pub offsets_in_order : HoldsPlaces d.offsets m
  offsets_in_order = listed_in_order (offset_tail name) (offset_back name) d.offsets m offsets_alike

-- an offset of a sound run cycle
pub offset_can : (name : List ℕ) (d : CyclePart) (place : ℕ) (k : ℤ) → IsSoundPart name d
    → slice_get d.offsets place ≡ Some k → (place < 2 ^ 32) × IsOffset k
offset_can name d place k such at =
    let (some, few, all) = such.offsets in
    let under : place < length d.offsets = slice_get_within d.offsets place k at in (
      omega (arith, under, few),
      All-contains IsOffset d.offsets k all (
        place,
        under,
        get_or_from_slice_get d.offsets
            place k k at,
      ),
    )
