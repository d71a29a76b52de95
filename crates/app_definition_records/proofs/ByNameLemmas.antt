-- The map of definitions by name, as its entries change.
use Rattle.std.proofs.Common.{◌≡◌, ◌≢◌, ◌∙◌, sym, refl, ap, subst, append_assoc, ℕ, List, [], ◌∷◌, ◌++◌, length, Bool}
use Rattle.std.proofs.Common.{true, false, cond, Option, Some, None, Result, Ok, Err, nat_eq, add-one}
use Rattle.std.specs.Prelude.{Contains, IfOk, IsTrue, ◌↔◌, is_some}
use Rattle.std.proofs.lemmas.List.{append-nil}
use Rattle.std.proofs.lemmas.List.Elements.{filter-append}
use Rattle.std.specs.Ordering.{nat_cmp, eq_by_cmp}
use Rattle.std.specs.Cmp.Lexicographic.{pointwise, slice_cmp, nat_list_cmp_total, nat_list_eq_equiv, texts_ties}
use Rattle.std.specs.Cmp.Lexicographic.{bytes_decides}
use Rattle.std.specs.FinMap as map
use Rattle.std.specs.FinMap.{find, get-empty, len-empty, len-insert, get-from_entries, get-insert, get-remove}
use Rattle.std.specs.FinMap.{same_map, slice_cmp-IsAntisymmetric, nat_cmp-IsAntisymmetric}
use Rattle.std.specs.Map.{lookup, keys_of, update_all}
use Rattle.std.specs.Option.{option_or}
use Rattle.std.specs.List.{IsDistinct, AllByRecursion}
use Rattle.std.proofs.lemmas.Map.Made.{update_all_distinct}
use Rattle.std.proofs.lemmas.Map.Entries.{lookup_from_place, place_from_lookup}
use Rattle.std.proofs.lemmas.Option.{get_or_from_slice_get, slice_get-get_or, slice_get_within}
use Rattle.work_calendars.specs.Name.{IsName}
use Rattle.app_definition_records.specs.Fields.{field}
use Rattle.app_definition_records.specs.ByName.{records_of, AreEntriesOf, AreGivenBy, FitsKind, IsAsLong, IsDefinedBy, Joins}
use Rattle.app_definition_records.specs.ByName.{overlaid}
use Rattle.app_definition_records.specs.Records.{Record, Records}
use Rattle.app_definition_records.specs.declared.columns.TheConstants.{NAME}

-- definitions by name
abbrev pub Definitions : Type 0 → Type 0
Definitions X = map.FinMap (slice_cmp nat_cmp) X

-- the definitions that a map's entries are seen as
abbrev pub view_of : {X : Type 0} → List (List ℕ × X) → Definitions X
view_of es = map.from_entries es

find-lookup : {X : Type 0} (q : List ℕ) (es : List (List ℕ × X))
    → find (slice_cmp nat_cmp) q es ≡ lookup (pointwise nat_eq q) es
find-lookup q [] = refl
find-lookup q (e ∷ es) = rw (texts_ties q e.0, find-lookup q es) refl

-- a look-up in the definitions is one in the entries
pub get-view_of : {X : Type 0} (es : List (List ℕ × X)) (q : List ℕ)
    → map.get (view_of es) q ≡ lookup (pointwise nat_eq q) es
get-view_of es q = get-from_entries nat_list_cmp_total es q ∙ find-lookup q es

-- definitions that answer alike are the same
pub same_by_name : {X : Type 0} (m n : Definitions X) → ((q : List ℕ) → map.get m q ≡ map.get n q) → m ≡ n
same_by_name m n is = same_map nat_list_cmp_total (slice_cmp-IsAntisymmetric nat_cmp-IsAntisymmetric) m n is

-- names that compare equal are equal
pub same_name : (a b : List ℕ) → pointwise nat_eq a b ≡ true → a ≡ b
same_name a b e = (bytes_decides a b).0 e

pub name_itself : (a : List ℕ) → pointwise nat_eq a a ≡ true
name_itself a = (bytes_decides a a).1 refl

-- what a definition is of, by whether there is one
pub defined-some : {D : Type 0} (IsMadeOf : D → Records → Type 0) (o : Option D) (d : D) (rows : Records)
    → o ≡ Some d → IsDefinedBy IsMadeOf o rows → (rows ≢ []) × IsMadeOf d rows
defined-some IsMadeOf None d rows e h = absurd (let x : ⊥ = cc in x)
defined-some IsMadeOf (Some x) d rows e h = (h.0, let same : x ≡ d = cc in rw same at h.1)

pub defined-none : {D : Type 0} (IsMadeOf : D → Records → Type 0) (o : Option D) (rows : Records)
    → o ≡ None → IsDefinedBy IsMadeOf o rows → rows ≡ []
defined-none IsMadeOf None rows e h = h
defined-none IsMadeOf (Some x) rows e h = absurd (let x : ⊥ = cc in x)

-- a record more is one more about its name, and none about another
records_of-more : (name : List ℕ) (before : Records) (row : Record)
    → records_of name (before ++ row ∷ []) ≡ records_of name before ++ cond (pointwise nat_eq (field row NAME) name)
    (row ∷ []) []
records_of-more name before row = filter-append (λ r. pointwise nat_eq (field r NAME) name) before (row ∷ [])

not_empty : {A : Type 0} (xs : List A) (x : A) → (xs ++ x ∷ []) ≢ []
not_empty [] x e = absurd (let h : ⊥ = cc in h)
not_empty (y ∷ ys) x e = absurd (let h : ⊥ = cc in h)

-- one more record, of which the definition of its name is now made
pub AreGivenBy-more : {D : Type 0} (IsMadeOf : D → Records → Type 0) (old new : Definitions D) (k : List ℕ) (v : D)
    (before : Records) (row : Record)
    → k ≡ field row NAME → ((q : List ℕ) → map.get new q ≡ cond (pointwise nat_eq k q) (Some v) (map.get old q))
    → AreGivenBy IsMadeOf old before → IsMadeOf v (records_of (field row NAME) before ++ row ∷ [])
    → AreGivenBy IsMadeOf new (before ++ row ∷ [])
AreGivenBy-more IsMadeOf old new k v before row named written given made name = at_name (pointwise nat_eq k name) refl
  where
    at_name : (b : Bool) → pointwise nat_eq k name ≡ b
        → IsDefinedBy IsMadeOf (map.get new name) (records_of name (before ++ row ∷ []))
    at_name true e =
        let same : field row NAME ≡ name = sym named ∙ same_name k name e in
        let of : records_of name (before ++ row ∷ []) ≡ records_of (field row NAME) before ++ row ∷ [] =
        rw (← same) (records_of-more (field row NAME) before row
        ∙ ap (λ b. records_of (field row NAME) before ++ cond b (row ∷ []) []) (name_itself (field row NAME))) in
        rw (written name, e, of) (not_empty (records_of (field row NAME) before) row, made)
    at_name false e =
        let apart : pointwise nat_eq (field row NAME) name ≡ false = rw (← named) e in
        let of : records_of name (before ++ row ∷ []) ≡ records_of name before =
        records_of-more name before row ∙ ap (λ b. records_of name before ++ cond b (row ∷ []) []) apart
        ∙ append-nil (records_of name before) in
        rw (written name, e, of) (given name)

-- a fact of what is Ok
pub IfOk-map : {T E : Type 0} (r : Result T E) (P Q : T → Type 0) → ((x : T) → P x → Q x) → IfOk r P → IfOk r Q
IfOk-map (Ok x) P Q f h = f x h
IfOk-map (Err e) P Q f h = tt

-- two facts of what is Ok
pub IfOk-both : {T E : Type 0} (r : Result T E) (P Q R : T → Type 0) → ((x : T) → P x → Q x → R x)
    → IfOk r P → IfOk r Q → IfOk r R
IfOk-both (Ok x) P Q R f p q = f x p q
IfOk-both (Err e) P Q R f p q = tt

-- names compare alike from both sides
pub name_sym : (a b : List ℕ) → pointwise nat_eq a b ≡ pointwise nat_eq b a
name_sym a b = nat_list_eq_equiv.symm a b

-- what the definitions are without a name
pub get-removed : {X : Type 0} (m : Definitions X) (k q : List ℕ)
    → map.get (map.remove m k) q ≡ cond (pointwise nat_eq k q) None (map.get m q)
get-removed m k q = get-remove nat_list_cmp_total m k q
    ∙ ap (λ b. cond b None (map.get m q)) (sym (texts_ties q k) ∙ name_sym q k)

-- what they are with a definition more
pub get-inserted : {X : Type 0} (m : Definitions X) (k : List ℕ) (v : X) (q : List ℕ)
    → map.get (map.insert m k v) q ≡ cond (pointwise nat_eq k q) (Some v) (map.get m q)
get-inserted m k v q = get-insert nat_list_cmp_total m k v q
    ∙ ap (λ b. cond b (Some v) (map.get m q)) (sym (texts_ties q k) ∙ name_sym q k)

find-append-or : {X : Type 0} (q : List ℕ) (xs ys : List (List ℕ × X))
    → find (slice_cmp nat_cmp) q (xs ++ ys) ≡ option_or (find (slice_cmp nat_cmp) q xs) (find (slice_cmp nat_cmp) q ys)
find-append-or q [] ys = refl
find-append-or q (x ∷ xs) ys =
    elim (eq_by_cmp (slice_cmp nat_cmp) q x.0) as
    (λ b. cond b (Some x.1) (find (slice_cmp nat_cmp) q (xs ++ ys)) ≡ option_or
    (cond b (Some x.1) (find (slice_cmp nat_cmp) q xs)) (find (slice_cmp nat_cmp) q ys)) [
      | true ↦ refl
      | false ↦ find-append-or q xs ys
    ]

-- what the definitions are under others
pub get-overlaid : {X : Type 0} (old more : Definitions X) (q : List ℕ)
    → map.get (overlaid old more) q ≡ option_or (map.get more q) (map.get old q)
get-overlaid old more q =
    get-from_entries nat_list_cmp_total (map.entries more ++ map.entries old) q
    ∙ find-append-or q (map.entries more) (map.entries old)
    ∙ cc (sym (map.get-entries more q), sym (map.get-entries old q))

-- a name that no entry has is not found
pub lookup-absent : {X : Type 0} (k : List ℕ) (es : List (List ℕ × X))
    → AllByRecursion (λ y. pointwise nat_eq k y ≡ false) (keys_of es) → lookup (pointwise nat_eq k) es ≡ None
lookup-absent k [] h = refl
lookup-absent k (e ∷ es) h = rw (h.0) (lookup-absent k es h.1)

-- a name has no entry before its own
apart_from : {X : Type 0} (k : List ℕ) (es : List (List ℕ × X)) (v : X) (rest : List (List ℕ × X)) (n : List ℕ)
    → AllByRecursion (λ y. pointwise nat_eq n y ≡ false) (keys_of (es ++ (k, v) ∷ rest)) → pointwise nat_eq n k ≡ false
apart_from k [] v rest n all = all.0
apart_from k (e ∷ es) v rest n all = apart_from k es v rest n all.1

pub lookup-before : {X : Type 0} (es : List (List ℕ × X)) (k : List ℕ) (v : X) (rest : List (List ℕ × X))
    → IsDistinct (pointwise nat_eq) (keys_of (es ++ (k, v) ∷ rest)) → lookup (pointwise nat_eq k) es ≡ None
unfolding IsDistinct
lookup-before [] k v rest h = refl
lookup-before (e ∷ es) k v rest h =
    let apart : pointwise nat_eq k e.0 ≡ false = name_sym k e.0 ∙ apart_from k es v rest e.0 h.0 in
    rw apart (lookup-before es k v rest h.1)

-- one entry more, of those that were left
pub entries-more : {X : Type 0} (es new it rest : List (List ℕ × X)) (k : List ℕ) (v w : X) (m : Definitions X)
    → AreEntriesOf (es ++ it) m → it ≡ (k, v) ∷ rest → w ≡ v
    → (lookup (pointwise nat_eq k) es ≡ None → new ≡ es ++ (k, w) ∷ []) → AreEntriesOf (new ++ rest) m
entries-more {X} es new it rest k v w m are steps same put =
    let all : AreEntriesOf (es ++ (k, v) ∷ rest) m = subst (λ l. AreEntriesOf (es ++ l) m) steps are in
    let is : new ≡ es ++ (k, v) ∷ [] = put (lookup-before es k v rest all.own_names)
    ∙ ap (λ x. es ++ (k, x) ∷ []) same in
    subst (λ l. AreEntriesOf l m) (sym (ap (λ l. l ++ rest) is ∙ append_assoc es ((k, v) ∷ []) rest)) all

-- none is left
pub entries-all : {X : Type 0} (es it : List (List ℕ × X)) (m : Definitions X) → AreEntriesOf (es ++ it) m → it ≡ []
    → view_of es ≡ m
entries-all es it m are none = let all : AreEntriesOf (es ++ []) m = subst (λ l. AreEntriesOf (es ++ l) m) none are in
    ap view_of (sym (append-nil es)) ∙ all.are

-- there are as many definitions as entries
pub len-view_of : {X : Type 0} (es : List (List ℕ × X)) → IsDistinct (pointwise nat_eq) (keys_of es)
    → map.len (view_of es) ≡ length es
unfolding IsDistinct
len-view_of [] h = len-empty (slice_cmp nat_cmp) _
len-view_of (e ∷ es) h =
    let absent : is_some (map.get (view_of es) e.0) ≡ false =
    ap is_some (get-view_of es e.0 ∙ lookup-absent e.0 es h.0) in
    len-insert nat_list_cmp_total (view_of es) e.0 e.1 ∙ rw (absent, len-view_of es h.1) (add-one (length es))

-- what the entries of others, put in one after the other, make of the definitions
pub get-appended : {X : Type 0} (old more : List (List ℕ × X)) (q : List ℕ)
    → IsDistinct (pointwise nat_eq) (keys_of more)
    → update_all (pointwise nat_eq) (λ k. lookup (pointwise nat_eq k) old) more q ≡ map.get
    (overlaid (view_of old) (view_of more)) q
get-appended old more q apart =
    update_all_distinct nat_list_eq_equiv (pointwise nat_eq) (λ x y. refl)
    (λ k. lookup (pointwise nat_eq k) old) more q apart
    ∙ cc (sym (get-view_of more q), sym (get-view_of old q), sym (get-overlaid (view_of old) (view_of more) q))

-- a further record about a name is taken as the definition takes it
pub joined : {D E : Type 0} (HasFields : ℕ → Type 0) (FitsName : Records → Record → Type 0) (IsMadeOf : D → Records → Type 0)
    (m n : Definitions D) (k : List ℕ) (d v : D) (before : Records) (row : Record) (r : Result Bool E)
    → k ≡ field row NAME → HasFields (length row) → IsAsLong before row → IsName k → map.get m k ≡ Some d
    → ((q : List ℕ) → map.get n q ≡ cond (pointwise nat_eq k q) (Some v) (map.get m q))
    → AreGivenBy IsMadeOf m before
    → ((earlier : Records) → earlier ≢ [] → IsMadeOf d earlier → IfOk r (Joins FitsName IsMadeOf earlier row v))
    → IfOk r (Joins (FitsKind HasFields FitsName) (AreGivenBy IsMadeOf) before row n)
joined HasFields FitsName IsMadeOf m n k d v before row r e complete long named seen written given joins =
    let was = defined-some IsMadeOf _ d (records_of k before) seen (given k) in
    IfOk-map r _ _ (λ taken told. record {
      fits = (
        λ yes. record {
          complete = complete;
          as_long = long;
          name = rw (← e) named;
          fits = rw (← e) (told.fits.0 yes);
        },
        λ good. told.fits.1 (rw e good.fits),
      );
      made = λ yes. AreGivenBy-more IsMadeOf m n k v before row e written given (rw (← e) (told.made yes));
    }) (joins (records_of k before) was.0 was.1)

-- the first record about a name is good exactly where it begins a definition
pub begun-taken : {D : Type 0} (HasFields : ℕ → Type 0) (FitsName : Records → Record → Type 0) (IsMadeOf : D → Records → Type 0)
    (m : Definitions D) (k : List ℕ) (before : Records) (row : Record) (begun : Bool)
    → k ≡ field row NAME → HasFields (length row) → IsAsLong before row → IsName k → map.get m k ≡ None
    → AreGivenBy IsMadeOf m before → (IsTrue begun ↔ FitsName [] row)
    → IsTrue begun ↔ FitsKind HasFields FitsName before row
begun-taken HasFields FitsName IsMadeOf m k before row begun e complete long named none given told =
    let first : records_of (field row NAME) before ≡ [] =
    rw (← e) (defined-none IsMadeOf _ (records_of k before) none (given k)) in (
      λ yes. record { complete = complete; as_long = long; name = rw (← e) named; fits = rw first (told.0 yes) },
      λ good. told.1 (rw first at good.fits),
    )

pub begun-gathered : {D : Type 0} (IsMadeOf : D → Records → Type 0)
    (m n : Definitions D) (k : List ℕ) (v : D) (before : Records) (row : Record)
    → k ≡ field row NAME → map.get m k ≡ None
    → ((q : List ℕ) → map.get n q ≡ cond (pointwise nat_eq k q) (Some v) (map.get m q))
    → AreGivenBy IsMadeOf m before
    → IsMadeOf v (row ∷ []) → AreGivenBy IsMadeOf n (before ++ row ∷ [])
begun-gathered IsMadeOf m n k v before row e none written given made =
    let first : records_of (field row NAME) before ≡ [] =
    rw (← e) (defined-none IsMadeOf _ (records_of k before) none (given k)) in
    AreGivenBy-more IsMadeOf m n k v before row e written given (rw first made)

-- an update of the entries is one of the definitions
pub written-view_of : {X : Type 0} (old new : List (List ℕ × X)) (m : Definitions X) (k : List ℕ) (v : X)
    → view_of old ≡ m → ((q : List ℕ) → lookup (pointwise nat_eq q) new ≡ cond (pointwise nat_eq k q) (Some v)
    (lookup (pointwise nat_eq q) old))
    → (q : List ℕ) → map.get (view_of new) q ≡ cond (pointwise nat_eq k q) (Some v) (map.get m q)
written-view_of old new m k v e updates q =
    get-view_of new q ∙ updates q ∙ ap (λ o. cond (pointwise nat_eq k q) (Some v) o)
    (sym (get-view_of old q) ∙ ap (λ x. map.get x q) e)

-- what was looked up
pub seen-view_of : {X : Type 0} (es : List (List ℕ × X)) (m : Definitions X) (k : List ℕ) (o : Option X)
    → view_of es ≡ m → o ≡ lookup (pointwise nat_eq k) es → map.get m k ≡ o
seen-view_of es m k o e h = ap (λ x. map.get x k) (sym e) ∙ get-view_of es k ∙ sym h

-- no records give no definitions
pub AreGivenBy-none : {D : Type 0} (IsMadeOf : D → Records → Type 0) (m : Definitions D) → m ≡ map.empty
    → AreGivenBy IsMadeOf m []
AreGivenBy-none IsMadeOf m e name = rw (e, get-empty (slice_cmp nat_cmp) name) refl

-- what stands among entries is what the definitions have
pub entry_is : {D : Type 0} (es : List (List ℕ × D)) (m : map.FinMap (slice_cmp nat_cmp) D) (k : List ℕ) (v : D)
    → AreEntriesOf es m → Contains es (k, v) → map.get m k ≡ Some v
entry_is es m k v are (i, lt, is) =
    ap (λ x. map.get x k) (sym are.are) ∙ get-view_of es k
    ∙ lookup_from_place nat_list_eq_equiv es i k v are.own_names (slice_get-get_or es i (k, v) lt ∙ ap Some is)

pub entry_there : {D : Type 0} (es : List (List ℕ × D)) (m : map.FinMap (slice_cmp nat_cmp) D) (k : List ℕ) (v : D)
    → AreEntriesOf es m → map.get m k ≡ Some v → Contains es (k, v)
entry_there es m k v are there =
    let (i, n, at, same) = place_from_lookup (pointwise nat_eq k) es v
    (sym (get-view_of es k) ∙ ap (λ x. map.get x k) are.are ∙ there) in
    subst (λ name. Contains es (name, v)) (sym (same_name k n same))
    (i, slice_get_within es i (n, v) at, get_or_from_slice_get es i (n, v) (n, v) at)
