-- What tables show, and what is listed of it.
use Rattle.std.proofs.Common.{◌≡◌, ◌↔◌, ◌∙◌, List, [], ◌∷◌, length, map, Option, Some, None, refl, sym, ap, subst, arith, true}
use Rattle.std.specs.Prelude.{IfSome}
use Rattle.std.specs.List.{Contains}
use Rattle.std.specs.List.Sorted.{IsPermutation}
use Rattle.std.specs.Ordering.{is_eq}
use Rattle.std.proofs.lemmas.Cmp.{tied_itself}
use Rattle.std.proofs.lemmas.List.{length-map}
use Rattle.std.proofs.lemmas.List.Sorted.{Contains-permutation, IsPermutation-map, IsPermutation-sym}
use Rattle.std.proofs.lemmas.List.Sorted.{IsPermutation-trans, length_permutation}
use Rattle.sqlite.specs.Order.{Row as Values, column}
use Rattle.sqlite.specs.Tree.{rowid}
use Rattle.sqlite_value.specs.Order.{value_cmp}
use Rattle.sqlite_value.proofs.OrderLemmas.{value_cmp_total}
use Rattle.plan_store_lists.proofs.KeyLemmas.{contains_first, contains_later, nothing, one_is}
use Rattle.plan_tables_schema.specs.Rows.{HaveRowids, Tables, shown}
use Rattle.plan_tables_schema.specs.declared.tables.Table.{Table}
use Rattle.plan_tables_schema.specs.declared.tables.Table.TheVariants as table
use Rattle.plan_tables_content.specs.Content.{meta_values}
use Rattle.plan_tables_content.specs.Facts.{natural}
use Rattle.plan_tables_loading.specs.Cells.{IsMeta}
use Rattle.plan_tables_loading.specs.Readable.{ShowsEach, ShowsMeta}
use Rattle.plan_tables_loading.specs.Tables.{IsOneOf, ShowsOnly, RepresentsMeta}
use Rattle.plan_tables_loading.specs.declared.meta.Meta.{Meta}
use Rattle.plan_tables_loading.proofs.OrderLemmas.{rise_rowids}

pub if_some : {A : Type 0} (o : Option A) (P Q : A → Type 0) → ((a : A) → P a → Q a) → IfSome o P → IfSome o Q
if_some None P Q f h = tt
if_some (Some a) P Q f h = f a h

pub if_both : {A : Type 0} (o : Option A) (P Q R : A → Type 0) → ((a : A) → P a → Q a → R a) → IfSome o P → IfSome o Q
    → IfSome o R
if_both None P Q R f p q = tt
if_both (Some a) P Q R f p q = f a p q

pub at_some : {A : Type 0} (o : Option A) (a : A) (P : A → Type 0) → o ≡ Some a → IfSome o P → P a
at_some o a P is h = subst (λ x. IfSome x P) is h

pub shows_listed : {X : Type 0} (values_of : X → Values) (xs : List X) (rows : List Values) (all : Tables) (t : Table)
    → IsPermutation (map (shown t) (all t)) rows → map values_of xs ≡ rows → ShowsOnly all t (IsOneOf values_of xs)
shows_listed values_of xs rows all t same is = record {
  exactly = λ v. (
    (λ there. subst (λ l. Contains l v) (sym is) (Contains-permutation (map (shown t) (all t)) rows v same there)),
    λ there. Contains-permutation rows (map (shown t) (all t)) v (IsPermutation-sym _ _ same)
        (subst (λ l. Contains l v) is there),
  );
}

abbrev values_of_meta : Meta → Values
values_of_meta m = meta_values m.bounds m.issued m.options

pub tells_only : (all : Tables) (metas : List Meta) (m : Meta) → metas ≡ m ∷ []
    → ShowsOnly all table.Meta (IsOneOf values_of_meta metas) → RepresentsMeta all m
tells_only all metas m is shows = record {
  exactly = λ v. (
    (λ there. sym (one_is (values_of_meta m) v (subst (λ l. Contains (map values_of_meta l) v) is
        ((shows.exactly v).0 there)))),
    λ same. (shows.exactly v).1 (subst (λ l. Contains (map values_of_meta l) v) (sym is)
        (subst (Contains (values_of_meta m ∷ [])) (sym same) (contains_first (values_of_meta m) []))),
  );
}

-- ---- what is refused

-- a row that nothing such has is not shown
pub not_each : {X : Type 0} (values_of : X → Values) (Is : X → Type 0) (rows : List Values) (all : Tables) (t : Table)
    → IsPermutation (map (shown t) (all t)) rows
    → ((cells : Values) × Contains rows cells × ((x : X) → Is x → values_of x ≡ cells → ⊥))
    → ShowsEach all t values_of Is → ⊥
not_each values_of Is rows all t same none shows =
    let x = shows.each none.0 (Contains-permutation rows _ none.0 (IsPermutation-sym _ _ same) none.1) in
    none.2 x.0 x.1 x.2

-- what is listed in another order
pub listed_moved : {X : Type 0} (values_of : X → Values) (xs sorted : List X) (t : Table) (rows : List Values)
    → IsPermutation (map (shown t) rows) (map values_of xs) → IsPermutation xs sorted
    → IsPermutation (map (shown t) rows) (map values_of sorted)
listed_moved values_of xs sorted t rows same moved =
    IsPermutation-trans _ _ _ same (IsPermutation-map values_of xs sorted moved)

pub shows_moved : {X : Type 0} (values_of : X → Values) (xs sorted : List X) (all : Tables) (t : Table)
    → IsPermutation (map (shown t) (all t)) (map values_of xs) → IsPermutation xs sorted
    → ShowsOnly all t (IsOneOf values_of sorted)
shows_moved values_of xs sorted all t same moved = shows_listed values_of sorted (map values_of sorted) all t
    (listed_moved values_of xs sorted t (all t) same moved) refl

-- one row alone has a rowid of its own
pub one_rowid : (all : Tables) (metas : List Meta) (m : Meta) → metas ≡ m ∷ []
    → IsPermutation (map (shown table.Meta) (all table.Meta)) (map values_of_meta metas) → HaveRowids (all table.Meta)
one_rowid all metas m is same =
    let one : length metas ≡ 1 = ap length is in
    rise_rowids table.Meta values_of_meta (λ _. 1) (record { of_item = λ x. refl; of_row = λ row. refl })
    (all table.Meta) metas same (λ i j d low within. absurd (omega (arith, low, within, one)))

pub each_meta : (all : Tables) → ShowsMeta all → ShowsEach all table.Meta values_of_meta IsMeta
each_meta all shows = record { each = λ v there. (shows.meta, shows.form, sym ((shows.tells.exactly v).0 there)) }

rows_one : (rows : List Values) (w : Values) → ((v : Values) → Contains (map (shown table.Meta) rows) v ↔ (v ≡ w))
    → column w 0 ≡ natural 1 → HaveRowids rows → length rows ≡ 1
rows_one [] w exactly id have = absurd (nothing w ((exactly w).1 refl))
rows_one (a ∷ []) w exactly id have = refl
rows_one (a ∷ b ∷ rs) w exactly id have =
    let later = map (shown table.Meta) (b ∷ rs) in
    let here = (exactly (shown table.Meta a)).0 (contains_first (shown table.Meta a) later) in
    let there = (exactly (shown table.Meta b)).0 (contains_later (shown table.Meta a) (shown table.Meta b) later
    (contains_first (shown table.Meta b) (map (shown table.Meta) rs))) in
    let one : rowid a ≡ natural 1 = ap (λ (v : Values). column v 0) here ∙ id in
    let other : rowid b ≡ natural 1 = ap (λ (v : Values). column v 0) there ∙ id in
    let tied : is_eq (value_cmp (rowid a) (rowid b)) ≡ true =
    (λ i. is_eq (value_cmp (one i) (other i))) ∙ ap is_eq (tied_itself value_cmp_total (natural 1)) in
    absurd (cc)

meta_id : (m : Meta) → column (values_of_meta m) 0 ≡ natural 1
meta_id m = refl

-- where `plan_meta` shows one row, one is read
pub one_meta : (all : Tables) (metas : List Meta)
    → IsPermutation (map (shown table.Meta) (all table.Meta)) (map values_of_meta metas) → ShowsMeta all
    → length metas ≡ 1
one_meta all metas same shows =
    let one = rows_one (all table.Meta) (values_of_meta shows.meta) shows.tells.exactly (meta_id shows.meta)
    shows.rowids in
    let kept = length_permutation _ _ same in
    omega (arith, one, kept, length-map (all table.Meta) (shown table.Meta), length-map metas values_of_meta)
