-- A table of definitions by name, after some are replaced or one is taken out.
use Rattle.std.proofs.Common.{◌≡◌, ◌↔◌, ◌&&◌, ℕ, Bool, true, false, cond, List, [], ◌∷◌, ◌⊎◌, inl, inr, refl, sym, ap}
use Rattle.std.proofs.Common.{subst, ◌∙◌, Option, Some, None}
use Rattle.std.specs.Prelude.{IsSome}
use Rattle.std.specs.Option.{option_or}
use Rattle.std.specs.List.{Contains}
use Rattle.std.specs.Cmp.Lexicographic.{nat_list_cmp_total, slice_cmp}
use Rattle.std.specs.Ordering.{nat_cmp, eq_by_cmp, is_eq}
use Rattle.std.specs.FinMap as maps
use Rattle.std.specs.FinMap.{get-remove, slice_cmp-IsAntisymmetric, nat_cmp-IsAntisymmetric}
use Rattle.std.proofs.lemmas.Bool.{and_from, and_parts, false_from_ne_true, false≢true}
use Rattle.std.proofs.lemmas.Cmp.{tied_itself}
use Rattle.sqlite.specs.Order.{Row as Values, column}
use Rattle.sqlite.specs.Rowids.TheVariants.{Chosen}
use Rattle.sqlite.specs.declared.types.Value.TheVariants.{Text}
use Rattle.sqlite_rules.specs.Edit.{with_rowid}
use Rattle.app_definition_records.specs.ByName.{overlaid}
use Rattle.app_definition_records.proofs.ByNameLemmas.{get-overlaid}
use Rattle.plan_store_lists.proofs.KeyLemmas.{contains_cases, contains_first, contains_later, nothing, one_is}
use Rattle.plan_tables_schema.specs.Rows.{Tables, shown, stored, with_cells}
use Rattle.plan_tables_schema.specs.declared.tables.Table.{Table}
use Rattle.plan_tables_content.specs.Content.{AreEach, ByName, IsOfSome}
use Rattle.plan_tables_writing.specs.Redefining.{AreRowsOf, name_key, rows_of}
use Rattle.plan_tables_writing.specs.Writing.{with_each, without_each}
use Rattle.plan_tables_constraints.proofs.Held.{Shows, equal_from, matched, one_text, same_cell, text_itself}
use Rattle.plan_tables_constraints.proofs.SetMoves.{shows_cells, shows_without}
use Rattle.plan_tables_content.proofs.SameOptions.{none_some}

same_text : (a b : List ℕ) → is_eq (slice_cmp nat_cmp a b) ≡ true → a ≡ b
same_text a b e = slice_cmp-IsAntisymmetric nat_cmp-IsAntisymmetric a b (equal_from _ e)

text_is : (a b : List ℕ) → a ≡ b → is_eq (slice_cmp nat_cmp a b) ≡ true
text_is a b e = ap is_eq (ap (slice_cmp nat_cmp a) (sym e) ∙ tied_itself nat_list_cmp_total a)

-- ---- definitions by name

-- a definition of `more`, or where there is none one of `old`
overlaid_cases : {D : Type 0} (old more : ByName D) (name : List ℕ) (d : D) → maps.get
    (overlaid old more) name ≡ Some d
    → (maps.get more name ≡ Some d) ⊎ ((maps.get more name ≡ None) × (maps.get old name ≡ Some d))
overlaid_cases old more name d at = go (maps.get more name) refl
  where
    go : (o : Option _) → maps.get more name ≡ o
        → (maps.get more name ≡ Some d) ⊎ ((maps.get more name ≡ None) × (maps.get old name ≡ Some d))
    go (Some e) is = inl (is ∙ (sym (ap (λ o. option_or o (maps.get old name)) is)
        ∙ sym (get-overlaid old more name) ∙ at))
    go None is = inr (is, sym (ap (λ o. option_or o (maps.get old name)) is) ∙ sym (get-overlaid old more name) ∙ at)

pub overlaid_new : {D : Type 0} (old more : ByName D) (name : List ℕ) (d : D) → maps.get more name ≡ Some d
    → maps.get (overlaid old more) name ≡ Some d
overlaid_new old more name d is = get-overlaid old more name ∙ ap (λ o. option_or o (maps.get old name)) is

overlaid_old : {D : Type 0} (old more : ByName D) (name : List ℕ) (d : D) → maps.get more name ≡ None
    → maps.get old name ≡ Some d → maps.get (overlaid old more) name ≡ Some d
overlaid_old old more name d none is = get-overlaid old more name ∙ ap (λ o. option_or o
    (maps.get old name)) none ∙ is

pub each_overlaid : {D : Type 0} (Is : D → Type 0) (old more : ByName D) → AreEach Is old → AreEach Is more
    → AreEach Is (overlaid old more)
each_overlaid Is old more are new name d at =
    elim (overlaid_cases old more name d at) [ inl is ↦ new name d is | inr stood ↦ are name d stood.1 ]

kept_by : {D : Type 0} (b : Bool) (o : Option D) (d : D) → cond b None o ≡ Some d → o ≡ Some d
kept_by true o d at = none_some None d refl at
kept_by false o d at = at

pub each_removed : {D : Type 0} (Is : D → Type 0) (m : ByName D) (gone : List ℕ) → AreEach Is m
    → AreEach Is (maps.remove m gone)
each_removed Is m gone are name d at =
    are name d (kept_by (eq_by_cmp (slice_cmp nat_cmp) name gone) (maps.get m name) d
    (sym (get-remove nat_list_cmp_total m gone name) ∙ at))

-- ---- owned rows

-- what is stored of the values is shown as they are
abbrev pub IsShown : Table → Values → Type 0
IsShown t v = (rows : List Values) → shown t (with_rowid Chosen rows (stored t v)) ≡ v

-- the rows stand there, beside those that stood there
pub shows_rows : (t : Table) (rows : List Values) → ((v : Values) → Contains rows v → IsShown t v) → (all : Tables)
    (v : Values)
    → Shows t (with_each t rows_of rows all t) v ↔ (Contains rows v ⊎ Shows t (all t) v)
shows_rows t [] are all v = (
  (λ there. inr there),
  λ either. elim either [
    | inl none ↦ absurd (nothing v none)
    | inr there ↦ there
  ],
)
shows_rows t (x ∷ xs) are all v =
    let more = shows_rows t xs (λ w has. are w (contains_later x w xs has)) (with_cells t x all) v in
    let one = shows_cells t (λ (u : Unit {0}). x) (λ u rows. are x (contains_first x xs) rows) tt all v in (
      (λ there. elim (more.0 there) [
        | inl new ↦ inl (contains_later x v xs new)
        | inr old ↦ elim (one.0 old) [
          | inl is ↦ inl (subst (Contains (x ∷ xs)) is (contains_first x xs))
          | inr rest ↦ inr rest
        ]
      ]),
      λ either. more.1 (elim either [
        | inl new ↦ elim (contains_cases x v xs new) [
          | inl is ↦ inr (one.1 (inl is))
          | inr rest ↦ inl rest
        ]
        | inr rest ↦ inr (one.1 (inr rest))
      ]),
    )

-- ---- values that begin with a name

abbrev pub HasName : List ℕ → Values → Type 0
HasName name v = (rest : Values) × (v ≡ Text name ∷ rest)

-- the first value is that of the key
abbrev pub by_name : Values → Values → Bool
by_name key v = same_cell (column v 0) (column key 0) && true

pub named_told : (name other : List ℕ) (v : Values) → HasName other v → by_name (name_key name) v ≡ true
    → name ≡ other
named_told name other v (rest, is) h =
    let k : (same_cell (Text other) (Text name) && true) ≡ true = subst (λ w. by_name
    (name_key name) w ≡ true) is h in
    sym (one_text other name (and_parts (same_cell (Text other) (Text name)) true k).0)

pub named_tells : (name : List ℕ) (v : Values) → HasName name v → by_name (name_key name) v ≡ true
named_tells name v (rest, is) = subst (λ w. by_name (name_key name) w ≡ true) (sym is)
    (and_from (same_cell (Text name) (Text name)) true (text_itself name name refl) refl)

-- ---- a table of them

module _ {D : Type 0} (t : Table) (IsRow : List ℕ → D → Values → Type 0)
    (by : (key v : Values) → matched t key v ≡ by_name key v)
    (named : (name : List ℕ) (d : D) (v : Values) → IsRow name d v → HasName name v) where
  told : (name other : List ℕ) (d : D) (v : Values) → IsRow other d v → matched t (name_key name) v ≡ true
      → name ≡ other
  told name other d v is h = named_told name other v (named other d v is) (sym (by (name_key name) v) ∙ h)

  tells : (name : List ℕ) (d : D) (v : Values) → IsRow name d v → matched t (name_key name) v ≡ true
  tells name d v is = by (name_key name) v ∙ named_tells name v (named name d v is)

  -- without the definition of a name
  pub removed_shown : (m : ByName D) (name : List ℕ) (all : Tables)
      → ((v : Values) → Shows t (all t) v ↔ IsOfSome IsRow m v) → (v : Values)
      → Shows t (without_each t name_key (name ∷ []) all t) v ↔ IsOfSome IsRow (maps.remove m name) v
  removed_shown m name all held v = (
    (λ there.
        let k = (shows_without t name_key (name ∷ []) all v).0 there in
        let (other, d, at, is) = (held v).0 k.0 in
        let no : eq_by_cmp (slice_cmp nat_cmp) other name ≡ false = false_from_ne_true _ (λ e.
        false≢true (sym (k.1 name (contains_first name []))
        ∙ subst (λ n. matched t (name_key n) v ≡ true) (same_text other name e) (tells other d v is))) in (
          other,
          d,
          get-remove nat_list_cmp_total m name other ∙ ap (λ b. cond b None
              (maps.get m other)) no ∙ at,
          is,
        )),
    λ fact.
        let (other, d, at, is) = fact in
        let turned : cond (eq_by_cmp (slice_cmp nat_cmp) other name) None (maps.get m other) ≡ Some d =
        sym (get-remove nat_list_cmp_total m name other) ∙ at in
        go other d is (eq_by_cmp (slice_cmp nat_cmp) other name) refl turned,
  )
    where
      go : (other : List ℕ) (d : D) → IsRow other d v → (b : Bool) → eq_by_cmp (slice_cmp nat_cmp) other name ≡ b
          → cond b None (maps.get m other) ≡ Some d → Shows t (without_each t name_key (name ∷ []) all t) v
      go other d is true e at = none_some None d refl at
      go other d is false e at = (shows_without t name_key (name ∷ []) all v).1 (
        (held v).1 (other, d, at, is),
        λ n has. false_from_ne_true _ (λ hit.
            let named_so : name ≡ n = one_is name n has in
            let same : n ≡ other = told n other d v is hit in
            false≢true (sym e ∙ text_is other name (sym (named_so ∙ same)))),
      )

  -- with the definitions of `more` in place of those of their names; the rows are theirs
  pub merged_shown : {cells : ℕ} → ((name : List ℕ) (d : D) (v : Values) → IsRow name d v → IsShown t v)
      → (old more : ByName D) (names : List (List ℕ)) (rows : List Values) (all mid : Tables)
      → mid t ≡ without_each t name_key names all t → AreRowsOf cells IsRow more names rows
      → ((v : Values) → Shows t (all t) v ↔ IsOfSome IsRow old v) → (v : Values)
      → Shows t (with_each t rows_of rows mid t) v ↔ IsOfSome IsRow (overlaid old more) v
  merged_shown shows old more names rows all mid gone are held v = (
    (λ there. elim ((shows_rows t rows all_shown mid v).0 there) [
      | inl new ↦
          let (name, d, at, is) = (are.rows_are v).0 new in
          (name, d, overlaid_new old more name d at, is)
      | inr stood ↦
          let k = (shows_without t name_key names all v).0 (subst (λ w. Shows t w v) gone stood) in
          let (name, d, at, is) = (held v).0 k.0 in
          (name, d, overlaid_old old more name d (no_new name d is k.1) at, is)
    ]),
    λ fact.
        let (name, d, at, is) = fact in
        (shows_rows t rows all_shown mid v).1
        (elim (overlaid_cases old more name d at) [
          | inl new ↦ inl ((are.rows_are v).1 (name, d, new, is))
          | inr stood ↦ inr (subst (λ w. Shows t w v) (sym gone) ((shows_without t name_key names all v).1 (
            (held v).1 (name, d, stood.1, is),
            λ n has. false_from_ne_true _ (λ hit. named_none n name (told n name d v is hit) has stood.0),
          )))
        ]),
  )
    where
      all_shown : (w : Values) → Contains rows w → IsShown t w
      all_shown w has =
          let (name, d, at, is) = (are.rows_are w).0 has in
          shows name d w is

      no_new : (name : List ℕ) (d : D) → IsRow name d v
          → ((n : List ℕ) → Contains names n → matched t (name_key n) v ≡ false) → maps.get more name ≡ None
      no_new name d is none = go (maps.get more name) refl
        where
          go : (o : Option D) → maps.get more name ≡ o → o ≡ None
          go None e = refl
          go (Some x) e = absurd (false≢true (sym (none name ((are.names_are.exactly name).1 (subst IsSome
              (sym e) refl)))
              ∙ tells name d v is))

      named_none : (n name : List ℕ) → n ≡ name → Contains names n → maps.get more name ≡ None → ⊥
      named_none n name same has none =
          let there : IsSome (maps.get more name) = subst (λ k. IsSome (maps.get more k)) same
          ((are.names_are.exactly n).0 has) in
          absurd (false≢true (subst IsSome none there))
