-- Rows that are read one after another, name by name.
use Rattle.std.proofs.Common.{◌≡◌, ◌⊎◌, inl, inr, ℕ, zero, suc, ◌<◌, ◌+◌, List, [], ◌∷◌, ◌++◌, Option, Some, None}
use Rattle.std.proofs.Common.{true, false, cond, nat_eq, length, take, drop, get_or, refl, sym, ap, ◌∙◌, subst, arith}
use Rattle.std.specs.Prelude.{slice_get, Contains}
use Rattle.std.specs.FinMap as map
use Rattle.std.specs.FinMap.{get-empty}
use Rattle.std.specs.Cmp.Lexicographic.{pointwise, slice_cmp}
use Rattle.std.specs.Ordering.{nat_cmp}
use Rattle.std.specs.List.{All, AllByRecursion, IsDistinct}
use Rattle.std.specs.Map.{lookup, keys_of}
use Rattle.std.proofs.lemmas.List.{get_or_default, take-append-drop, take_more}
use Rattle.std.proofs.lemmas.List.Elements.{Contains-append_left, Contains-push, Contains-push_cases}
use Rattle.sqlite.specs.Order.{Row as Values, column}
use Rattle.sqlite.specs.declared.types.Value.TheVariants.{Text}
use Rattle.work_calendars.specs.Name.{IsName}
use Rattle.app_definition_records.specs.ByName.{AreEntriesOf, HaveOwnNames}
use Rattle.app_definition_records.proofs.ByNameLemmas.{get-inserted, get-removed, get-view_of, name_itself, name_sym}
use Rattle.app_definition_records.proofs.ByNameLemmas.{same_name}
use Rattle.plan_tables_content.specs.Content.{AreEach, ByName, IsOfSome}
use Rattle.plan_tables_content.specs.Decoded.{text_in}
use Rattle.plan_tables_definitions.specs.Adding.{IsOfName}
use Rattle.plan_tables_definitions.specs.Gathering.{Alike, AreRead, AreSound, CanFinish, IsGathered, Joins, Paired, Within}
use Rattle.plan_tables_definitions.specs.Storing.{AreRowsOf}
use Rattle.plan_tables_definitions.proofs.AddLemmas.{get_at}

is_some : {X : Type 0} (a b : X) → Some a ≡ Some b → a ≡ b
is_some a b e = cc

none_some : {X : Type 0} {A : Type 0} (o : Option X) (x : X) → o ≡ None → o ≡ Some x → A
none_some o x e h = absurd (let k : ⊥ = cc in k)

no_row : {A : Type 0} (v : Values) → Contains {X = Values} [] v → A
no_row v (k, under, is) = absurd (omega (arith, under))

pub of_first : (rows : List Values) (n : ℕ) (v : Values) → Contains (take n rows) v → Contains rows v
of_first rows n v has = subst (λ l. Contains l v) (take-append-drop n rows) (Contains-append_left (take n rows) (drop
    n rows) v has)

pub of_index : (rows : List Values) (n : ℕ) (v : Values) → n < length rows → v ≡ get_or rows n v → Contains rows v
of_index rows n v under is = (n, under, sym is)

-- a row has one name at most
pub one_name : (v : Values) (a b : List ℕ) → column v 0 ≡ Text a → column v 0 ≡ Text b → a ≡ b
one_name v a b e f = ap text_in (sym e ∙ f)

module _ {X : Type 0} (IsRead : List ℕ → X → Values → Type 0) where
  pub read_none : (drafts : ByName X) → drafts ≡ map.empty → AreRead IsRead [] drafts
  read_none drafts empty = record {
    rows = λ v. (
      λ has. no_row v has,
      λ (name, x, got, is). none_some (map.get drafts name) x (ap (λ m. map.get m name) empty
          ∙ get-empty (slice_cmp nat_cmp) name) got,
    );
    some = λ name x got. none_some (map.get drafts name) x (ap (λ m. map.get m name) empty
        ∙ get-empty (slice_cmp nat_cmp) name) got;
  }

  module _ (before : List Values) (row : Values) (name : List ℕ) (old new : ByName X) (x y : X)
      (read : Alike (IsRead name x) (IsOfName IsRead old name)) (joins : Joins (IsRead name x) row (IsRead name y))
      (put : new ≡ map.insert (map.remove old name) name y) (are : AreRead IsRead before old) where
    got_new : (q : List ℕ) → map.get new q
        ≡ cond (pointwise nat_eq name q) (Some y) (cond (pointwise nat_eq name q) None (map.get old q))
    got_new q = ap (λ m. map.get m q) put ∙ get-inserted (map.remove old name) name y q
        ∙ ap (cond (pointwise nat_eq name q) (Some y)) (get-removed old name q)

    at_name : map.get new name ≡ Some y
    at_name = got_new name ∙ ap (λ b. cond b (Some y) (cond b None (map.get old name))) (name_itself name)

    elsewhere : (q : List ℕ) → pointwise nat_eq name q ≡ false → map.get new q ≡ map.get old q
    elsewhere q e = got_new q ∙ ap (λ b. cond b (Some y) (cond b None (map.get old q))) e

    old_to : (v : Values) → IsOfSome IsRead old v → IsOfSome IsRead new v
    old_to v (q, z, got, is) = elim (pointwise nat_eq name q) as (λ b. pointwise nat_eq name q ≡ b
        → IsOfSome IsRead new v) [
          | true ↦ λ e.
              let same : name ≡ q = same_name name q e in (
                name,
                y,
                at_name,
                (joins v).1 (inl ((read v).1 (
                  z,
                  ap (map.get old) same ∙ got,
                  subst (λ n. IsRead n z v)
                      (sym same) is,
                ))),
              )
          | false ↦ λ e. (q, z, elsewhere q e ∙ got, is)
        ] refl

    row_to : (v : Values) → v ≡ row → IsOfSome IsRead new v
    row_to v is = (name, y, at_name, (joins v).1 (inr is))

    new_from : (v : Values) → IsOfSome IsRead new v → IsOfSome IsRead old v ⊎ (v ≡ row)
    new_from v (q, z, got, is) = elim (pointwise nat_eq name q) as (λ b. pointwise nat_eq name q ≡ b
        → IsOfSome IsRead old v ⊎ (v ≡ row)) [
          | true ↦ λ e.
              let same : name ≡ q = same_name name q e in
              let one : z ≡ y = is_some z y (sym got ∙ ap (map.get new) (sym same) ∙ at_name) in
              elim ((joins v).0 (subst (λ n. IsRead n y v) (sym same) (subst (λ u. IsRead q u v) one is))) [
                | inl was ↦ let (w, there, so) = (read v).0 was in inl (name, w, there, so)
                | inr it ↦ inr it
              ]
          | false ↦ λ e. inl (q, z, sym (elsewhere q e) ∙ got, is)
        ] refl

    some_new : (q : List ℕ) (z : X) → map.get new q ≡ Some z → (v : Values) × IsRead q z v
    some_new q z got = elim (pointwise nat_eq name q) as (λ b. pointwise nat_eq name q ≡ b
        → (v : Values) × IsRead q z v) [
          | true ↦ λ e.
              let same : name ≡ q = same_name name q e in
              let one : y ≡ z = is_some y z (sym at_name ∙ ap (map.get new) same ∙ got) in
              (row, subst (λ u. IsRead q u row) one (subst (λ n. IsRead n y row) same ((joins row).1 (inr refl))))
          | false ↦ λ e. are.some q z (sym (elsewhere q e) ∙ got)
        ] refl

    pub read_more : AreRead IsRead (before ++ row ∷ []) new
    read_more = record {
      rows = λ v. (
        λ has. elim (Contains-push_cases before row v has) [
          | inl was ↦ old_to v ((are.rows v).0 was)
          | inr is ↦ row_to v (sym is)
        ],
        λ is. elim (new_from v is) [
          | inl was ↦ Contains-append_left before (row ∷ []) v ((are.rows v).1 was)
          | inr it ↦ subst (Contains (before ++ row ∷ [])) (sym it) (Contains-push before row)
        ],
      );
      some = some_new;
    }

  pub read_next : (rows : List Values) (n : ℕ) (row : Values) (drafts : ByName X) → n < length rows
      → row ≡ get_or rows n row → AreRead IsRead (take n rows ++ row ∷ []) drafts
      → AreRead IsRead (take (n + 1) rows) drafts
  read_next rows n row drafts under is = subst (λ l. AreRead IsRead l drafts)
      (ap (λ r. take n rows ++ r ∷ []) is ∙ sym (take_more rows n row under))

-- ---- entries of the same names, one for one

module _ {X D : Type 0} (Rel : List ℕ → X → D → Type 0) where
  pub paired_push : (es : List (List ℕ × X)) (fs : List (List ℕ × D)) (e : List ℕ × X) (f : List ℕ × D)
      → e.0 ≡ f.0 → Rel e.0 e.1 f.1 → Paired Rel es fs → Paired Rel (es ++ e ∷ []) (fs ++ f ∷ [])
  paired_push [] [] e f same rel paired = (same, rel, _)
  paired_push [] (g ∷ fs) e f same rel paired = absurd paired
  paired_push (g ∷ es) [] e f same rel paired = absurd paired
  paired_push (g ∷ es) (h ∷ fs) e f same rel (name, is, more) = (name, is, paired_push es fs e f same rel more)

  same_keys : (es : List (List ℕ × X)) (fs : List (List ℕ × D)) → Paired Rel es fs → keys_of es ≡ keys_of fs
  same_keys [] [] paired = refl
  same_keys [] (g ∷ fs) paired = absurd paired
  same_keys (g ∷ es) [] paired = absurd paired
  same_keys (g ∷ es) (h ∷ fs) (name, is, more) = λ i. name i ∷ same_keys es fs more i

  found_to : (es : List (List ℕ × X)) (fs : List (List ℕ × D)) (q : List ℕ) (x : X) → Paired Rel es fs
      → lookup (pointwise nat_eq q) es ≡ Some x
      → (d : D) × (lookup (pointwise nat_eq q) fs ≡ Some d) × Rel q x d
  found_to [] fs q x paired got = absurd (let h : ⊥ = cc in h)
  found_to (e ∷ es) [] q x paired got = absurd paired
  found_to (e ∷ es) (f ∷ fs) q x (same, rel, more) got =
      subst (λ n. (d : D) × (cond (pointwise nat_eq q n) (Some f.1) (lookup (pointwise nat_eq q) fs) ≡ Some d)
      × Rel q x d) same (elim (pointwise nat_eq q e.0) as (λ b. pointwise nat_eq q e.0 ≡ b
      → cond b (Some e.1) (lookup (pointwise nat_eq q) es) ≡ Some x
      → (d : D) × (cond b (Some f.1) (lookup (pointwise nat_eq q) fs) ≡ Some d) × Rel q x d) [
        | true ↦ λ here is. (
          f.1,
          refl,
          subst (λ u. Rel q u f.1) (is_some e.1 x is) (subst (λ n. Rel n e.1 f.1)
              (sym (same_name q e.0 here)) rel),
        )
        | false ↦ λ away is. found_to es fs q x more is
      ] refl got)

  found_from : (es : List (List ℕ × X)) (fs : List (List ℕ × D)) (q : List ℕ) (d : D) → Paired Rel es fs
      → lookup (pointwise nat_eq q) fs ≡ Some d
      → (x : X) × (lookup (pointwise nat_eq q) es ≡ Some x) × Rel q x d
  found_from [] [] q d paired got = absurd (let h : ⊥ = cc in h)
  found_from [] (f ∷ fs) q d paired got = absurd paired
  found_from (e ∷ es) [] q d paired got = absurd paired
  found_from (e ∷ es) (f ∷ fs) q d (same, rel, more) got =
      elim (pointwise nat_eq q e.0) as (λ b. pointwise nat_eq q e.0 ≡ b
      → cond b (Some f.1) (lookup (pointwise nat_eq q) fs) ≡ Some d
      → (x : X) × (cond b (Some e.1) (lookup (pointwise nat_eq q) es) ≡ Some x) × Rel q x d) [
        | true ↦ λ here is. (
          e.1,
          refl,
          subst (λ u. Rel q e.1 u) (is_some f.1 d is) (subst (λ n. Rel n e.1 f.1)
              (sym (same_name q e.0 here)) rel),
        )
        | false ↦ λ away is. found_from es fs q d more is
      ] refl (subst (λ n. cond (pointwise nat_eq q n) (Some f.1) (lookup (pointwise nat_eq q) fs) ≡ Some d) (sym same)
      got)

  pub own_names : (es : List (List ℕ × X)) (fs : List (List ℕ × D)) → Paired Rel es fs → HaveOwnNames es
      → HaveOwnNames fs
  own_names es fs paired own = subst (IsDistinct (pointwise nat_eq)) (same_keys es fs paired) own

-- what a row of sound definitions says of its name
module _ {X D : Type 0} (IsRow : List ℕ → D → Values → Type 0) (IsRead : List ℕ → X → Values → Type 0)
    (Is : List ℕ → D → Type 0) (named : (name : List ℕ) (d : D) (v : Values) → IsRow name d v → column v 0 ≡ Text name)
    (read_named : (name : List ℕ) (x : X) (v : Values) → IsRead name x v → column v 0 ≡ Text name) where
  -- the definition whose row it is
  pub has_name : (all : ByName D) (v : Values) → AreSound Is all → IsOfSome IsRow all v
      → (name : List ℕ) × IsName name × (column v 0 ≡ Text name)
  has_name all v sound (name, d, got, is) = (name, (sound name d got).0, named name d v is)

  pub own_row : (all : ByName D) (name : List ℕ) (v : Values) → column v 0 ≡ Text name → IsOfSome IsRow all v
      → IsOfName IsRow all name v
  own_row all name v at (q, d, got, is) =
      let same : q ≡ name = one_name v q name (named q d v is) at in
      (d, ap (map.get all) (sym same) ∙ got, subst (λ n. IsRow n d v) same is)

  pub own_read : (all : ByName X) (name : List ℕ) (v : Values) → column v 0 ≡ Text name → IsOfSome IsRead all v
      → IsOfName IsRead all name v
  own_read all name v at (q, d, got, is) =
      let same : q ≡ name = one_name v q name (read_named q d v is) at in
      (d, ap (map.get all) (sym same) ∙ got, subst (λ n. IsRead n d v) same is)

  -- what a row meets that no definitions have beside the others
  pub row_met : {A : Type 0} (all : ByName D) (old : ByName X) (name : List ℕ) (x : X) (row : Values)
      → AreSound Is all → column row 0 ≡ Text name → IsOfSome IsRow all row
      → Within (IsOfSome IsRead old) (IsOfSome IsRow all) → Alike (IsRead name x) (IsOfName IsRead old name)
      → ((d : D) → Is name d → IsRow name d row → Within (IsRead name x) (IsRow name d) → A) → A
  row_met all old name x row sound at is within read then =
      let (d, got, it) = own_row all name row at is in
      then d (sound name d got).1 it (λ v was.
      let (w, there, so) = (read v).0 was in
      let (e, found, be) = own_row all name v (read_named name x v was) (within v (name, w, there, so)) in
      let same : e ≡ d = is_some e d (sym found ∙ got) in subst (λ z. IsRow name z v) same be)

  -- where the entries are those of the maps
  module _ (IsTold : D → Type 0) (es : List (List ℕ × X)) (fs : List (List ℕ × D)) (drafts : ByName X)
      (made : ByName D) (paired : Paired (IsGathered IsRow IsRead IsTold) es fs) (of_drafts : AreEntriesOf es drafts)
      (of_made : AreEntriesOf fs made) where
    got_draft : (q : List ℕ) → map.get drafts q ≡ lookup (pointwise nat_eq q) es
    got_draft q = ap (λ m. map.get m q) (sym of_drafts.are) ∙ get-view_of es q

    got_made : (q : List ℕ) → map.get made q ≡ lookup (pointwise nat_eq q) fs
    got_made q = ap (λ m. map.get m q) (sym of_made.are) ∙ get-view_of fs q

    abbrev Rel : List ℕ → X → D → Type 0
    Rel = IsGathered IsRow IsRead IsTold

    pub made_alike : Alike (IsOfSome IsRow made) (IsOfSome IsRead drafts)
    made_alike v = (
      λ (q, d, got, is).
          let (x, there, rel) = found_from Rel es fs q d paired (sym (got_made q) ∙ got) in
          (q, x, got_draft q ∙ there, (rel.alike v).0 is),
      λ (q, x, got, is).
          let (d, there, rel) = found_to Rel es fs q x paired (sym (got_draft q) ∙ got) in
          (q, d, got_made q ∙ there, (rel.alike v).1 is),
    )

    pub made_told : (read : List Values) → AreRead IsRead read drafts → AreEach IsTold made
    made_told read are q d got =
        let (x, there, rel) = found_from Rel es fs q d paired (sym (got_made q) ∙ got) in
        let (v, is) = are.some q x (got_draft q ∙ there) in rel.told v is

  all_at : (P : List ℕ → Type 0) (es : List (List ℕ × X)) (k : ℕ) (e : List ℕ × X) → AllByRecursion P (keys_of es)
      → slice_get es k ≡ Some e → P e.0
  all_at P [] k e all at = none_some (slice_get [] k) e refl at
  all_at P (f ∷ es) zero e all at = subst (λ (g : List ℕ × X). P g.0) (is_some f e at) all.0
  all_at P (f ∷ es) (suc k) e all at = all_at P es k e all.1 at

  entry_at : (es : List (List ℕ × X)) (k : ℕ) (e : List ℕ × X) → IsDistinct (pointwise nat_eq) (keys_of es)
      → slice_get es k ≡ Some e → lookup (pointwise nat_eq e.0) es ≡ Some e.1
  unfolding IsDistinct
  entry_at [] k e own at = none_some (slice_get [] k) e refl at
  entry_at (f ∷ es) zero e own at =
      let same : f ≡ e = is_some f e at in
      ap (λ (g : List ℕ × X). cond (pointwise nat_eq e.0 g.0) (Some g.1) (lookup (pointwise nat_eq e.0) es)) same
      ∙ ap (λ b. cond b (Some e.1) (lookup (pointwise nat_eq e.0) es)) (name_itself e.0)
  entry_at (f ∷ es) (suc k) e own at =
      let apart : pointwise nat_eq f.0 e.0 ≡ false =
      all_at (λ n. pointwise nat_eq f.0 n ≡ false) es k e own.0 at in
      ap (λ b. cond b (Some f.1) (lookup (pointwise nat_eq e.0) es)) (name_sym e.0 f.0 ∙ apart)
      ∙ entry_at es k e own.1 at

  -- where sound definitions have the rows that were read, all can be finished
  pub can_finish : (es : List (List ℕ × X)) (drafts : ByName X) (all : ByName D) (read : List Values)
      → AreEntriesOf es drafts → AreSound Is all → AreRead IsRead read drafts → AreRowsOf IsRow read all
      → All (CanFinish IsRow IsRead Is) es
  can_finish es drafts all read of_drafts sound are rows k e under =
      let at : slice_get es k ≡ Some (get_or es k e) = get_at es k (get_or es k e) under
      (get_or_default es k e (get_or es k e) under) in
      finish (get_or es k e) (entry_at es k (get_or es k e) of_drafts.own_names at)
    where
      finish : (f : List ℕ × X) → lookup (pointwise nat_eq f.0) es ≡ Some f.1 → CanFinish IsRow IsRead Is f
      finish f there =
          let got : map.get drafts f.0 ≡ Some f.1 =
          ap (λ m. map.get m f.0) (sym of_drafts.are) ∙ get-view_of es f.0 ∙ there in
          let (v, is) = are.some f.0 f.1 got in
          let (d, found, it) = own_row all f.0 v (read_named f.0 f.1 v is)
          ((rows v).0 ((are.rows v).1 (f.0, f.1, got, is))) in (
            d,
            (sound f.0 d found).1,
            λ w. (
              λ be.
                  let (x, got_x, so) = own_read drafts f.0 w (named f.0 d w be)
                  ((are.rows w).0 ((rows w).1 (f.0, d, found, be))) in
                  subst (λ u. IsRead f.0 u w) (is_some x f.1 (sym got_x ∙ got)) so,
              λ was.
                  let (z, got_z, so) = own_row all f.0 w (read_named f.0 f.1 w was)
                  ((rows w).0 ((are.rows w).1 (f.0, f.1, got, was))) in
                  subst (λ u. IsRow f.0 u w) (is_some z d (sym got_z ∙ found)) so,
            ),
          )

pub rows_alike : {X D : Type 0} (IsRow : List ℕ → D → Values → Type 0) (IsRead : List ℕ → X → Values → Type 0)
    (rows : List Values) (drafts : ByName X) (all : ByName D) → AreRead IsRead rows drafts
    → Alike (IsOfSome IsRow all) (IsOfSome IsRead drafts) → AreRowsOf IsRow rows all
rows_alike IsRow IsRead rows drafts all are alike v =
    (λ has. (alike v).1 ((are.rows v).0 has), λ is. (are.rows v).1 ((alike v).0 is))
