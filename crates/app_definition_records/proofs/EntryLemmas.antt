-- Definitions made of a vector of entries, and given back as one.
use Rattle.std.proofs.Common.{◌≡◌, ◌∙◌, sym, ap, subst, refl, append_assoc, ℕ, ◌+◌, ◌<◌, List, [], ◌∷◌, ◌++◌, length}
use Rattle.std.proofs.Common.{get_or, true, false, Option, Some, None, nat_eq, arith}
use Rattle.std.specs.Prelude.{is_some}
use Rattle.std.specs.Cmp.Lexicographic.{pointwise, slice_cmp}
use Rattle.std.specs.List.Sorted.{IsSorted}
use Rattle.std.specs.Map.{lookup, keys_of}
use Rattle.std.specs.Ordering.{nat_cmp}
use Rattle.std.proofs.lemmas.Bool.{false≢true}
use Rattle.std.proofs.lemmas.List.{append-nil, get_or-map, length-map}
use Rattle.app_definition_records.specs.ByName.{AreEntriesOf, HaveOwnNames}
use Rattle.app_definition_records.specs.Rising.{AreRising, IsBelow}
use Rattle.app_definition_records.proofs.ByNameLemmas.{Definitions, view_of, get-view_of, same_by_name, lookup-before}
use Rattle.app_definition_records.proofs.NameLemmas.{rising_sorted}

-- of all entries those that were put in, and those that are left
pub record AreLeft {D : Type 0} (all es left : List (List ℕ × D)) (n : ℕ) : Type 0 where
  pub all_are : es ++ left ≡ all
  pub counted : n ≡ length left
  pub own_names : HaveOwnNames es

pub left-all : {D : Type 0} (all es left : List (List ℕ × D)) (n : ℕ) → es ≡ [] → left ≡ all → n ≡ length all
    → HaveOwnNames es → AreLeft all es left n
left-all all es left n none is counted own =
    record { all_are = ap (λ l. l ++ left) none ∙ is; counted = counted ∙ ap length (sym is); own_names = own }

pub left-more : {D : Type 0} (all es new left rest : List (List ℕ × D)) (name : List ℕ) (d : D) (n m : ℕ)
    → AreLeft all es left n
    → left ≡ (name, d) ∷ rest → m + 1 ≡ n → new ≡ es ++ (name, d) ∷ [] → HaveOwnNames new → AreLeft all new rest m
left-more all es new left rest name d n m are steps one put own = record {
  all_are = ap (λ l. l ++ rest) put ∙ append_assoc es ((name, d) ∷ []) rest ∙ ap (λ l. es ++ l) (sym steps)
      ∙ are.all_are;
  counted = let h = are.counted in let long = ap length steps in omega (arith, h, long, one);
  own_names = own;
}

none_left : {D : Type 0} (left : List (List ℕ × D)) → length left ≡ 0 → left ≡ []
none_left [] h = refl
none_left (e ∷ left) h = absurd (omega (arith, h))

pub left-none : {D : Type 0} (all es left : List (List ℕ × D)) (n : ℕ) → AreLeft all es left n → n ≡ 0 → es ≡ all
left-none all es left n are none =
    let empty = none_left left (sym are.counted ∙ none) in
    sym (append-nil es) ∙ ap (λ l. es ++ l) (sym empty) ∙ are.all_are

pub is_none : {D : Type 0} (o : Option D) → is_some o ≡ false → o ≡ None
is_none None h = refl
is_none (Some d) h = absurd (false≢true (sym h))

-- a name that is put in already
pub named_twice : {D : Type 0} (all es left rest : List (List ℕ × D)) (name : List ℕ) (d : D) (n : ℕ)
    → AreLeft all es left n
    → left ≡ (name, d) ∷ rest → is_some (lookup (pointwise nat_eq name) es) ≡ true → HaveOwnNames all → ⊥
named_twice all es left rest name d n are steps there own =
    let is : es ++ (name, d) ∷ rest ≡ all = ap (λ l. es ++ l) (sym steps) ∙ are.all_are in
    let none = lookup-before es name d rest (subst HaveOwnNames (sym is) own) in
    false≢true (ap is_some (sym none) ∙ there)

-- the entries of which the definitions were made
pub are_made : {D : Type 0} (all es : List (List ℕ × D)) → es ≡ all → HaveOwnNames es → AreEntriesOf all (view_of es)
are_made all es is own = record { are = ap view_of (sym is); own_names = subst HaveOwnNames is own }

-- entries in another order are those of the same definitions
pub reordered : {D : Type 0} (es fs : List (List ℕ × D)) (m : Definitions D) → view_of es ≡ m
    → ((q : List ℕ) → lookup (pointwise nat_eq q) fs ≡ lookup (pointwise nat_eq q) es) → HaveOwnNames fs
    → AreEntriesOf fs m
reordered es fs m e same own = record {
  are = same_by_name (view_of fs) (view_of es) (λ q. get-view_of fs q ∙ same q ∙ sym (get-view_of es q)) ∙ e;
  own_names = own;
}

-- entries that are sorted by their names rise
pub entries-rise : {D : Type 0} (es : List (List ℕ × D)) → IsSorted (slice_cmp nat_cmp) (keys_of es) → HaveOwnNames es
    → AreRising (λ e. e.0) es
entries-rise {D} es up own i j d lt within =
    let long = length-map es (λ (e : List ℕ × D). e.0) in
    let first : i < length es = omega (arith, lt, within) in
    let below : IsBelow (get_or (keys_of es) i d.0) (get_or (keys_of es) j d.0) =
    rising_sorted (keys_of es) up own i j d.0 lt (omega (arith, long, within)) in
    rw (
      get_or-map (λ (e : List ℕ × D). e.0) es i d d.0 first,
      get_or-map (λ (e : List ℕ × D). e.0) es j d d.0 within,
    ) at below
