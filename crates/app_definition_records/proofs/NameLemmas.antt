-- The names of entries, sorted.
use Rattle.std.proofs.Common.{◌≡◌, ◌∙◌, append_assoc, sym, ap, subst, refl, ℕ, List, [], ◌∷◌, ◌++◌, get_or, Option}
use Rattle.std.proofs.Common.{Some, None, Ordering, Less, Equal, Greater, arith}
use Rattle.std.specs.Prelude.{Contains, IsSome, nat_eq}
use Rattle.std.specs.FinMap as map
use Rattle.std.specs.FinMap.{slice_cmp-IsAntisymmetric, nat_cmp-IsAntisymmetric}
use Rattle.std.specs.Cmp.Lexicographic.{pointwise, slice_cmp, nat_list_cmp_total, bytes_decides}
use Rattle.std.specs.Ordering.{nat_cmp, is_lt}
use Rattle.std.specs.List.{IsDistinct}
use Rattle.std.specs.List.Sorted.{IsSorted, IsPermutation}
use Rattle.std.specs.Map.{keys_of}
use Rattle.std.proofs.lemmas.Bool.{false≢true}
use Rattle.std.proofs.lemmas.List.{append-nil}
use Rattle.std.proofs.lemmas.List.Sorted.{sorted_far, ranks_by, Contains-permutation, IsPermutation-sym}
use Rattle.std.proofs.lemmas.Map.Keys.{IsDistinct-IsPermutation}
use Rattle.std.proofs.lemmas.Map.Made.{AllPairs-from_IsDistinct}
use Rattle.app_definition_records.specs.ByName.{AreEntriesOf, AreNamesOf}
use Rattle.app_definition_records.specs.Rising.{AreRising, IsBelow}
use Rattle.app_definition_records.proofs.ByNameLemmas.{entry_is, entry_there, name_sym}
use Rattle.app_definition_records.proofs.RisingLemmas.{below, Contains-map, Contains-map_back}

-- sorted names of which no two are the same rise
pub rising_sorted : (xs : List (List ℕ)) → IsSorted (slice_cmp nat_cmp) xs → IsDistinct (pointwise nat_eq) xs
    → AreRising (λ name. name) xs
rising_sorted xs up distinct i j d lt within = at (slice_cmp nat_cmp (get_or xs i d) (get_or xs j d)) refl
  where
    at : (o : Ordering) → slice_cmp nat_cmp (get_or xs i d) (get_or xs j d) ≡ o
        → IsBelow (get_or xs i d) (get_or xs j d)
    at Less e = e
    at Equal e = absurd (AllPairs-from_IsDistinct bytes_decides xs distinct i j d lt within
        (slice_cmp-IsAntisymmetric nat_cmp-IsAntisymmetric (get_or xs i d) (get_or xs j d) e))
    at Greater e =
        let back = below (get_or xs i d) (get_or xs j d) e in
        let apart = sorted_far (λ x y. is_lt (slice_cmp nat_cmp x y))
        (ranks_by nat_list_cmp_total (λ (x : List ℕ). x)) xs up i j d (omega arith) within in
        absurd (false≢true (sym apart ∙ ap is_lt back))

-- something is there where it is named
some_is : {D : Type 0} (o : Option D) → IsSome o → (v : D) × (o ≡ Some v)
some_is None h = absurd (let x : ⊥ = cc in x)
some_is (Some v) h = (v, refl)

is_some_of : {D : Type 0} (o : Option D) (v : D) → o ≡ Some v → IsSome o
is_some_of o v e = rw e refl

-- the names of all entries, sorted, are those of the definitions
pub names_are : {D : Type 0} (es : List (List ℕ × D)) (m : map.FinMap (slice_cmp nat_cmp) D) (names : List (List ℕ))
    → AreEntriesOf es m → IsPermutation (keys_of es) names → IsSorted (slice_cmp nat_cmp) names → AreNamesOf names m
names_are {D} es m names are moved up = record {
  rising = rising_sorted names up (IsDistinct-IsPermutation (pointwise nat_eq) name_sym
      (keys_of es) names moved are.own_names);
  exactly = λ name. (
    λ has.
        let (e, there, same) = Contains-map_back (λ (e : List ℕ × D). e.0) es name
        (Contains-permutation names (keys_of es) name (IsPermutation-sym (keys_of es) names moved) has) in
        is_some_of (map.get m name) e.1 (entry_is es m name e.1 are (subst (λ n. Contains es (n, e.1)) same there)),
    λ some.
        let (v, is) = some_is (map.get m name) some in
        Contains-permutation (keys_of es) names name moved
        (Contains-map (λ (e : List ℕ × D). e.0) es (name, v) (entry_there es m name v are is)),
  );
}

-- the names of some entries, before those that are left
abbrev pub AreNamesBefore : {D : Type 0} → map.FinMap (slice_cmp nat_cmp) D → List (List ℕ × D) → List (List ℕ) → Type 0
AreNamesBefore {D} m rest names = (done : List (List ℕ × D)) × AreEntriesOf (done ++ rest) m × (names ≡ keys_of done)

keys_of-push : {D : Type 0} (es : List (List ℕ × D)) (name : List ℕ) (a : D)
    → keys_of (es ++ (name, a) ∷ []) ≡ keys_of es ++ name ∷ []
keys_of-push [] name a = refl
keys_of-push (e ∷ es) name a = ap (λ l. e.0 ∷ l) (keys_of-push es name a)

pub names_none : {D : Type 0} (m : map.FinMap (slice_cmp nat_cmp) D) (es : List (List ℕ × D)) (names : List (List ℕ))
    → AreEntriesOf es m → names ≡ [] → AreNamesBefore m es names
names_none m es names are none = ([], are, none)

pub names_more : {D : Type 0} (m : map.FinMap (slice_cmp nat_cmp) D) (it rest : List (List ℕ × D)) (name : List ℕ)
    (a : D) (names more : List (List ℕ))
    → AreNamesBefore m it names → it ≡ (name, a) ∷ rest → more ≡ names ++ name ∷ [] → AreNamesBefore m rest more
names_more m it rest name a names more (done, are, named) steps pushed = (
  done ++ (name, a) ∷ [],
  subst (λ l. AreEntriesOf l m) (ap (λ l. done ++ l) steps ∙ sym (append_assoc done ((name, a) ∷ []) rest)) are,
  pushed ∙ ap (λ l. l ++ name ∷ []) named ∙ sym (keys_of-push done name a),
)

pub names_all : {D : Type 0} (m : map.FinMap (slice_cmp nat_cmp) D) (it : List (List ℕ × D))
    (names sorted : List (List ℕ))
    → AreNamesBefore m it names → it ≡ [] → IsPermutation names sorted → IsSorted (slice_cmp nat_cmp) sorted
    → AreNamesOf sorted m
names_all m it names sorted (done, are, named) none moved up =
    names_are done m sorted (subst (λ l. AreEntriesOf l m) (ap (λ l. done ++ l) none ∙ append-nil done) are)
    (subst (λ l. IsPermutation l sorted) named moved) up
