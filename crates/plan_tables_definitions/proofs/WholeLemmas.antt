-- Run cycles of applications, and the rows that tell them.
use Rattle.std.proofs.Common.{◌≡◌, ◌↔◌, ◌⊎◌, ◌<◌, inl, inr, ℕ, zero, suc, List, [], ◌∷◌, ◌++◌, Some}
use Rattle.std.proofs.Common.{true, false, cond, nat_eq, length, get_or, drop, refl, sym, ap, ◌∙◌, subst, arith}
use Rattle.std.specs.Prelude.{map, Contains}
use Rattle.std.specs.Cmp.Lexicographic.{pointwise}
use Rattle.std.specs.FinMap as maps
use Rattle.std.specs.Map.{lookup}
use Rattle.std.proofs.lemmas.List.{get_or-map, get_or_default, length-map}
use Rattle.std.proofs.lemmas.List.Elements.{All-contains, Contains-append_cases, Contains-append_left}
use Rattle.std.proofs.lemmas.List.Elements.{Contains-append_right}
use Rattle.sqlite.specs.Order.{Row as Values, column}
use Rattle.sqlite.specs.declared.types.Value.TheVariants.{Text}
use Rattle.work_calendars.specs.Name.{IsName, IsShort}
use Rattle.run_cycles.specs.declared.cycles.RunCycle.{RunCycle}
use Rattle.app_definition_records.specs.ByName.{AreEntriesOf}
use Rattle.app_definition_records.specs.Rising.{AreRising, IsBelow}
use Rattle.app_definition_records.proofs.ByNameLemmas.{get-view_of, name_itself, same_name}
use Rattle.app_definition_records.proofs.RisingLemmas.{Contains-map, Contains-map_back, behind, not_itself}
use Rattle.plan_tables_content.specs.Content.{ByName}
use Rattle.plan_tables_content.specs.Facts.{IsCycleRow, IsOffsetRow}
use Rattle.plan_tables_content.specs.Decoded.{text_in}
use Rattle.plan_tables_definitions.specs.CycleParts.{IsPartRow, IsSoundPart, offset_tail}
use Rattle.plan_tables_definitions.specs.DraftedCycles.{told_values}
use Rattle.plan_tables_definitions.specs.Gathering.{Alike, AreSound}
use Rattle.plan_tables_definitions.specs.Storing.{AreRowsOf}
use Rattle.plan_tables_definitions.specs.Representable.{AreCycles}
use Rattle.plan_tables_definitions.specs.WholeCycles.{ArePartsOf, AreSoundCycles, AreWide, HaveShortNames, IsEitherRow, IsKept}
use Rattle.plan_tables_definitions.specs.WholeCycles.{IsTail, cycle_of, either_at, part_of, told_of}
use Rattle.plan_tables_definitions.specs.declared.cycle_parts.CyclePart.{CyclePart}

-- ---- entries in the order of their names

element_at : {X : Type 0} (xs : List X) (k : ℕ) → k < length xs → (x : X) × (get_or xs k x ≡ x)
element_at [] k h = absurd (omega (arith, h))
element_at (x ∷ xs) zero h = (x, refl)
element_at (x ∷ xs) (suc k) h = element_at xs k (omega (arith, h))

pub rising_map : {X Y : Type 0} (f : X → Y) (name_of : X → List ℕ) (other : Y → List ℕ) (xs : List X)
    → ((x : X) → other (f x) ≡ name_of x) → AreRising name_of xs → AreRising other (map f xs)
rising_map f name_of other xs same rising i j d less within =
    let under : j < length xs = omega (arith, within, length-map xs f) in
    let (x, at) = element_at xs i (omega (arith, less, under)) in
    let first : get_or (map f xs) i d ≡ f (get_or xs i x) = get_or-map f xs i x d (omega (arith, less, under)) in
    let second : get_or (map f xs) j d ≡ f (get_or xs j x) = get_or-map f xs j x d under in
    subst (λ a. IsBelow a (other (get_or (map f xs) j d))) (sym (ap other first ∙ same (get_or xs i x)))
    (subst (λ b. IsBelow (name_of (get_or xs i x)) b) (sym (ap other second ∙ same (get_or xs j x)))
    (rising i j x less under))

module _ {X : Type 0} where
  abbrev name_in : List ℕ × X → List ℕ
  name_in e = e.0

  later_apart : (e f : List ℕ × X) (es : List (List ℕ × X)) → AreRising name_in (e ∷ es) → Contains es f
      → pointwise nat_eq f.0 e.0 ≡ false
  later_apart e f es rising (k, under, at) =
      let up : IsBelow e.0 f.0 = subst (λ g. IsBelow e.0 (name_in g)) at
      (rising zero (suc k) f (omega arith) (omega (arith, under))) in
      elim (pointwise nat_eq f.0 e.0) as (λ b. pointwise nat_eq f.0 e.0 ≡ b → b ≡ false) [
        | true ↦ λ same. absurd (not_itself e.0 (subst (IsBelow e.0) (same_name f.0 e.0 same) up))
        | false ↦ λ same. refl
      ] refl

  rest_rising : (e : List ℕ × X) (es : List (List ℕ × X)) → AreRising name_in (e ∷ es) → AreRising name_in es
  rest_rising e es rising i j d less within =
      rising (suc i) (suc j) d (omega (arith, less)) (omega (arith, within))

  found_here : (es : List (List ℕ × X)) (f : List ℕ × X) → AreRising name_in es → Contains es f
      → lookup (pointwise nat_eq f.0) es ≡ Some f.1
  found_here [] f rising (k, under, at) = absurd (omega (arith, under))
  found_here (e ∷ es) f rising has = elim (behind e es f has) [
    | inl same ↦ ap (λ b. cond b (Some e.1) (lookup (pointwise nat_eq f.0) es))
        (ap (λ g. pointwise nat_eq f.0 (name_in g)) same ∙ name_itself f.0) ∙ ap (λ (g : List ℕ × X). Some g.1) same
    | inr there ↦ ap (λ b. cond b (Some e.1) (lookup (pointwise nat_eq f.0) es)) (later_apart e f es rising there)
        ∙ found_here es f (rest_rising e es rising) there
  ]

  here_found : (es : List (List ℕ × X)) (q : List ℕ) (x : X) → lookup (pointwise nat_eq q) es ≡ Some x
      → Contains es (q, x)
  here_found [] q x got = absurd (let h : ⊥ = cc in h)
  here_found (e ∷ es) q x got = elim (pointwise nat_eq q e.0) as (λ b. pointwise nat_eq q e.0 ≡ b
      → cond b (Some e.1) (lookup (pointwise nat_eq q) es) ≡ Some x → Contains (e ∷ es) (q, x)) [
        | true ↦ λ same is. (0, omega arith, λ i. (sym (same_name q e.0 same) i, is_some e.1 x is i))
        | false ↦ λ other is. let (k, under, at) = here_found es q x is in (suc k, omega (arith, under), at)
      ] refl got
    where
      is_some : (a b : X) → Some a ≡ Some b → a ≡ b
      is_some a b e = cc

  -- the entries of a map
  module _ (es : List (List ℕ × X)) (m : ByName X) (are : maps.from_entries es ≡ m) (rising : AreRising name_in es)
    where
      pub has_got : (e : List ℕ × X) → Contains es e → maps.get m e.0 ≡ Some e.1
      has_got e has = ap (λ n. maps.get n e.0) (sym are) ∙ get-view_of es e.0 ∙ found_here es e rising has

      pub got_has : (q : List ℕ) (x : X) → maps.get m q ≡ Some x → Contains es (q, x)
      got_has q x got = here_found es q x (sym (get-view_of es q) ∙ ap (λ n. maps.get n q) are ∙ got)

-- ---- run cycles and their parts

pub parts_made : (es : List (List ℕ × CyclePart)) (parts : ByName CyclePart) (cycles : List RunCycle)
    → AreEntriesOf es parts → AreRising (λ (e : List ℕ × CyclePart). e.0) es → cycles ≡ map cycle_of es
    → ArePartsOf parts cycles
parts_made es parts cycles of rising made tail = (
  λ (c, has, is).
      let (e, there, same) = Contains-map_back cycle_of es c (subst (λ l. Contains l c) made has) in (
        e.0,
        e.1,
        has_got es parts of.are rising e there,
        subst (λ (d : RunCycle). IsPartRow d.name (part_of d) tail) (sym same) is,
      ),
  λ (name, part, got, is). (
    cycle_of (name, part),
    subst (λ l. Contains l (cycle_of (name, part))) (sym made)
        (Contains-map cycle_of es (name, part) (got_has es parts of.are rising name part got)),
    is,
  ),
)

-- each name is short, if each of the parts has a short one
pub short_names : (es : List (List ℕ × CyclePart)) (parts : ByName CyclePart) → AreEntriesOf es parts
    → AreRising (λ (e : List ℕ × CyclePart). e.0) es
    → ((name : List ℕ) (part : CyclePart) → maps.get parts name ≡ Some part → IsShort name) → HaveShortNames es
short_names es parts of rising short k e under =
    let f : List ℕ × CyclePart = get_or es k e in
    short f.0 f.1 (has_got es parts of.are rising f (k, under, get_or_default es k f e under))

-- ---- rows of the application, and the same without it

same_tail : (app : List ℕ) (v w : Values) → Text app ∷ v ≡ Text app ∷ w → v ≡ w
same_tail app v w is = ap (λ (u : Values). drop 1 u) is

either_tail : (app : List ℕ) (cycles : List RunCycle) (tail : Values)
    → IsEitherRow app cycles (Text app ∷ tail) ↔ IsTail cycles tail
either_tail app cycles tail = (
  λ is. elim is [
    | inl (c, has, it) ↦ (c, has, inl (same_tail app tail (told_values c.name (told_of c)) it))
    | inr (c, has, place, k, at, it) ↦
        (c, has, inr (place, k, at, same_tail app tail (offset_tail c.name place k) it))
  ],
  λ (c, has, is). elim is [
    | inl it ↦ inl (c, has, ap (λ (u : Values). let r : Values = Text app ∷ u in r) it)
    | inr (place, k, at, it) ↦
        inr (c, has, place, k, at, ap (λ (u : Values). let r : Values = Text app ∷ u in r) it)
  ],
)

-- ---- run cycles that were made

pub cycles_alike : (app : List ℕ) (cycles : List RunCycle) (parts : ByName CyclePart) (tails : List Values)
    → ArePartsOf parts cycles → AreRowsOf IsPartRow tails parts
    → Alike (IsEitherRow app cycles) (IsKept app tails)
cycles_alike app cycles parts tails of are v = (
  λ is.
      let at : v ≡ Text app ∷ drop 1 v = either_at app cycles v is in
      let tail = (either_tail app cycles (drop 1 v)).0 (subst (IsEitherRow app cycles) at is) in
      (drop 1 v, (are (drop 1 v)).1 ((of (drop 1 v)).0 tail), at),
  λ (tail, has, at). subst (IsEitherRow app cycles) (sym at)
      ((either_tail app cycles tail).1 ((of tail).1 ((are tail).0 has))),
)

pub cycles_told : (app : List ℕ) (cycles : List RunCycle) (v : Values) → AreRising (λ (c : RunCycle). c.name) cycles
    → IsEitherRow app cycles v → AreCycles cycles
cycles_told app cycles v rising is = record { rising = rising; some = λ none. no_cycle none is }
  where
    no_one : (c : RunCycle) → Contains cycles c → cycles ≡ [] → ⊥
    no_one c has none = let (k, under, at) = subst (λ l. Contains l c) none has in absurd (omega (arith, under))

    no_cycle : cycles ≡ [] → IsEitherRow app cycles v → ⊥
    no_cycle none (inl (c, has, it)) = no_one c has none
    no_cycle none (inr (c, has, place, k, at, it)) = no_one c has none

-- ---- run cycles that there are

short_fits : (name : List ℕ) → IsShort name → IsName name
short_fits name short = record {
  not_empty = short.not_empty;
  fits = let least = short.fits in omega (arith, least);
  alphabet = short.alphabet;
  start = short.start;
}

module _ (app : List ℕ) (d : List RunCycle) (tails : List Values) (sound : AreSoundCycles app d)
    (alike : Alike (IsEitherRow app d) (IsKept app tails)) where
  tails_alike : (tail : Values) → Contains tails tail ↔ IsTail d tail
  tails_alike tail = (
    λ has. (either_tail app d tail).0 ((alike (Text app ∷ tail)).1 (tail, has, refl)),
    λ is. let (w, has, at) = (alike (Text app ∷ tail)).0 ((either_tail app d tail).1 is) in
        subst (Contains tails) (sym (same_tail app tail w at)) has,
  )

  abbrev entry : RunCycle → List ℕ × CyclePart
  entry c = (c.name, part_of c)

  abbrev pub its_parts : ByName CyclePart
  its_parts = maps.from_entries (map entry d)

  its_rising : AreRising (λ (e : List ℕ × CyclePart). e.0) (map entry d)
  its_rising = rising_map entry (λ (c : RunCycle). c.name) (λ (e : List ℕ × CyclePart). e.0) d (λ c. refl) sound.rising

  its_cycle : (name : List ℕ) (part : CyclePart) → maps.get its_parts name ≡ Some part
      → (c : RunCycle) × Contains d c × (entry c ≡ (name, part))
  its_cycle name part got =
      Contains-map_back entry d (name, part) (got_has (map entry d) its_parts refl its_rising name part got)

  its_part : (c : RunCycle) → Contains d c → maps.get its_parts c.name ≡ Some (part_of c)
  its_part c has = has_got (map entry d) its_parts refl its_rising (entry c) (Contains-map entry d c has)

  sound_part : (c : RunCycle) → Contains d c → IsName c.name × IsSoundPart c.name (part_of c)
  sound_part c has = let such = sound.each c has in (
    short_fits c.name such.name,
    record { short = such.name; told = such.told; offsets = such.offsets },
  )

  pub parts_sound : AreSound IsSoundPart its_parts
  parts_sound name part got = let (c, has, same) = its_cycle name part got in
      subst (λ (e : List ℕ × CyclePart). IsName e.0 × IsSoundPart e.0 e.1) same (sound_part c has)

  pub parts_rows : AreRowsOf IsPartRow tails its_parts
  parts_rows tail = (
    λ has. let (c, there, is) = (tails_alike tail).0 has in (c.name, part_of c, its_part c there, is),
    λ (name, part, got, is). let (c, there, same) = its_cycle name part got in
        (tails_alike tail).1 (c, there, subst (λ (e : List ℕ × CyclePart). IsPartRow e.0 e.1 tail) (sym same) is),
  )

  -- whatever the parts are that have these rows, each has a short name
  pub names_short : (parts : ByName CyclePart) → AreRowsOf IsPartRow tails parts → (name : List ℕ) (part : CyclePart)
      → maps.get parts name ≡ Some part → IsShort name
  names_short parts are name part got =
      let tail = told_values name part.told in
      let (c, has, is) = (tails_alike tail).0 ((are tail).1 (name, part, got, inl refl)) in elim is [
        | inl at ↦ subst IsShort (sym (ap (λ (v : Values). text_in (column v 0)) at)) (sound.each c has).name
        | inr (place, k, there, at) ↦ absurd (let h = ap length at in omega (arith, h))
      ]

-- ---- rows of two widths

ten : (app : List ℕ) (cycles : List RunCycle) (v : Values) → IsCycleRow app cycles v → length v ≡ 10
ten app cycles v (c, has, is) = ap length is

four : (app : List ℕ) (cycles : List RunCycle) (v : Values) → IsOffsetRow app cycles v → length v ≡ 4
four app cycles v (c, has, place, k, at, is) = ap length is

wide_at : (n : ℕ) (rows : List Values) (v : Values) → AreWide n rows → Contains rows v → length v ≡ n
wide_at n rows v wide has = All-contains (λ (u : Values). length u ≡ n) rows v wide has

pub wide_cycles : (rows : List Values) (all : ByName (List RunCycle)) → AreRowsOf IsCycleRow rows all
    → AreWide 10 rows
wide_cycles rows all are k v under =
    let w : Values = get_or rows k v in
    let (app, cycles, got, is) = (are w).0 (k, under, get_or_default rows k w v under) in ten app cycles w is

pub wide_offsets : (rows : List Values) (all : ByName (List RunCycle)) → AreRowsOf IsOffsetRow rows all
    → AreWide 4 rows
wide_offsets rows all are k v under =
    let w : Values = get_or rows k v in
    let (app, cycles, got, is) = (are w).0 (k, under, get_or_default rows k w v under) in four app cycles w is

module _ (rows offsets both : List Values) (all : ByName (List RunCycle)) (put : both ≡ rows ++ offsets) where
  in_both : (v : Values) → Contains rows v ⊎ Contains offsets v → Contains both v
  in_both v (inl has) = subst (λ l. Contains l v) (sym put) (Contains-append_left rows offsets v has)
  in_both v (inr has) = subst (λ l. Contains l v) (sym put) (Contains-append_right rows offsets v has)

  of_both : (v : Values) → Contains both v → Contains rows v ⊎ Contains offsets v
  of_both v has = Contains-append_cases rows offsets v (subst (λ l. Contains l v) put has)

  pub rows_of_both : AreRowsOf IsCycleRow rows all → AreRowsOf IsOffsetRow offsets all
      → AreRowsOf IsEitherRow both all
  rows_of_both are those v = (
    λ has. elim (of_both v has) [
      | inl one ↦ let (app, cycles, got, is) = (are v).0 one in (app, cycles, got, inl is)
      | inr one ↦ let (app, cycles, got, is) = (those v).0 one in (app, cycles, got, inr is)
    ],
    λ (app, cycles, got, some). elim some [
      | inl is ↦ in_both v (inl ((are v).1 (app, cycles, got, is)))
      | inr is ↦ in_both v (inr ((those v).1 (app, cycles, got, is)))
    ],
  )

  module _ (wide : AreWide 10 rows) (narrow : AreWide 4 offsets) (are : AreRowsOf IsEitherRow both all) where
    pub cycle_rows : AreRowsOf IsCycleRow rows all
    cycle_rows v = (
      λ has. let (app, cycles, got, some) = (are v).0 (in_both v (inl has)) in elim some [
        | inl is ↦ (app, cycles, got, is)
        | inr is ↦ absurd (let a = wide_at 10 rows v wide has in let b = four app cycles v is in omega (arith, a, b))
      ],
      λ (app, cycles, got, is). elim (of_both v ((are v).1 (app, cycles, got, inl is))) [
        | inl has ↦ has
        | inr has ↦ absurd (let a = wide_at 4 offsets v narrow has in let b = ten app cycles v is in
            omega (arith, a, b))
      ],
    )

    pub offset_rows : AreRowsOf IsOffsetRow offsets all
    offset_rows v = (
      λ has. let (app, cycles, got, some) = (are v).0 (in_both v (inr has)) in elim some [
        | inl is ↦ absurd (let a = wide_at 4 offsets v narrow has in let b = ten app cycles v is in
            omega (arith, a, b))
        | inr is ↦ (app, cycles, got, is)
      ],
      λ (app, cycles, got, is). elim (of_both v ((are v).1 (app, cycles, got, inr is))) [
        | inl has ↦ absurd (let a = wide_at 10 rows v wide has in let b = four app cycles v is in omega (arith, a, b))
        | inr has ↦ has
      ],
    )
