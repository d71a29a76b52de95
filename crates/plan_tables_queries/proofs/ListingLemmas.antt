-- The facts that the rows of an answer tell are those of a listing.
use Rattle.std.proofs.Common.{◌≡◌, ◌≢◌, ◌∙◌, ◌↔◌, ℕ, ◌*◌, true, false, List, [], ◌∷◌, ◌++◌, refl, sym, ap, ap₂, subst}
use Rattle.std.proofs.Common.{map, cond, eqb, Contains, Option, Some, take}
use Rattle.std.proofs.Math.Logic.{∥∥₁_elim}
use mathlib.Core.HLevel.{⊥_prop}
use Rattle.std.specs.List.{AllPairs, IsDistinct}
use Rattle.std.specs.List.Sorted.{IsPermutation, IsSorted}
use Rattle.std.proofs.lemmas.List.{length-map, map-append}
use Rattle.std.proofs.lemmas.List.Elements.{Contains-append_right}
use Rattle.std.proofs.lemmas.List.Kept.{AllPairs-filter}
use Rattle.std.proofs.lemmas.List.Sorted.{IsPermutation-map}
use Rattle.std.proofs.lemmas.Map.Keys.{IsDistinct-IsPermutation}
use Rattle.sqlite.specs.Order.{Row as Values, column}
use Rattle.sqlite_keyed.proofs.ListLemmas.{map-map}
use Rattle.occurrences.specs.Row.{RowBefore}
use Rattle.occurrences.specs.declared.place.Place.{Place}
use Rattle.occurrences.specs.declared.row.Row.{Row}
use Rattle.external_dependencies.specs.declared.rows.PlacedRow.{PlacedRow}
use Rattle.planner_machine.specs.Content.{Content, IsOnlyAt}
use Rattle.planner_machine.specs.Shown.{IsListed, IsOfApp, IsPlaceOf, Listed}
use Rattle.app_definition_records.proofs.RisingLemmas.{Contains-map, Contains-map_back}
use Rattle.plan_store_lists.proofs.KeyLemmas.{contains_first, contains_later}
use Rattle.plan_store.specs.Listings.{EmitsAll, ShowRows, Shown, row_shown}
use Rattle.plan_tables_schema.specs.Rows.{HaveRowids, Tables, shown}
use Rattle.plan_tables_lookups.specs.Question.{Answers, Question, asked_for, order_cmp, passes}
use Rattle.plan_tables_content.specs.Content.{IsOfSet}
use Rattle.plan_tables_content.specs.Facts.{natural}
use Rattle.plan_tables_loading.specs.Rowids.{place_of}
use Rattle.plan_tables_loading.proofs.OrderLemmas.{apart_distinct, distinct_apart, flips}
use Rattle.plan_tables_loading.proofs.RowidLemmas.{distinct_rowids, rowid_place}
use Rattle.plan_tables_queries.proofs.RowLemmas.{asked_is, is_asked}
use Rattle.plan_tables_queries.specs.Listing.{EndsSo, EmitsPart}
use Rattle.plan_tables_queries.specs.Decoding.{TellsNone}
use Rattle.plan_tables_queries.specs.ListedRows.{EndsTelling, TellsAll, TellsPart, marked}
use Rattle.plan_tables_lookups.specs.declared.faults.Stopped.{Stopped}
use Rattle.plan_tables_lookups.specs.declared.faults.Stopped.TheVariants.{Fault, Sink}
use Rattle.plan_tables_lookups.specs.declared.faults.TableFault.{TableFault}
use Rattle.plan_tables_lookups.specs.declared.faults.TableFault.TheVariants.{Malformed}
use Rattle.plan_tables_queries.proofs.OrderLemmas.{columns_cmp, pairs_map, rows_rise}

-- how a set stands in a table and in a content, and how a listing shows it
pub record IsShownSet {X : Type 0} (values_of : X → Values) (row_of : X → Row) (letter_of : X → ℕ) (place : X → Place)
    (set : ℕ → Option X) (listed : Listed) (c : Content) : Type 0 where
  pub one : (a b : X) → values_of a ≡ values_of b → a ≡ b
  pub shows : (x : X) → marked row_of letter_of x ≡ row_shown (record { row = row_of x; place = place x })
  pub leads : (x : X) → column (values_of x) 0 ≡ natural (row_of x).serial
  pub stands : (n : ℕ) (x : X) → set n ≡ Some x → IsOnlyAt c.sets n (record { row = row_of x; place = place x })
  pub within : (x : X) → IsPlaceOf listed (place x)
  pub back : (n : ℕ) (row : Row) (at : Place) → IsOnlyAt c.sets n (record { row = row; place = at })
      → IsPlaceOf listed at → (x : X) × (set n ≡ Some x) × (row_of x ≡ row) × (place x ≡ at)

-- that a question asks for those of an application, or of any, in the order of a listing
pub record AsksFor {X : Type 0} (values_of : X → Values) (row_of : X → Row) (q : Question) (asked : Values)
    (app : Option (List ℕ)) : Type 0 where
  pub passing : (x : X) → (passes q asked (values_of x) ≡ true) ↔ IsOfApp app (row_of x).key.app
  pub by_columns : (a b : X) → order_cmp q (values_of a) (values_of b) ≡ columns_cmp (row_of a) (row_of b)
  pub many : q.is_one ≡ false
  pub own : (λ (r : Values). place_of (column (shown q.table r) 0)) ≡ rowid_place

-- the place of a rowid that is shown
abbrev shown_place : Values → ℕ
shown_place v = place_of (column v 0)

module _ {X : Type 0} (values_of : X → Values) (row_of : X → Row) (letter_of : X → ℕ) (place : X → Place)
    (set : ℕ → Option X) (listed : Listed) (c : Content)
    (kind : IsShownSet values_of row_of letter_of place set listed c)
    (q : Question) (asked : Values) (app : Option (List ℕ)) (asks : AsksFor values_of row_of q asked app)
    (all : Tables) (facts : (v : Values) → Contains (map (shown q.table) (all q.table)) v ↔ IsOfSet values_of set v)
  where
    abbrev placed : X → PlacedRow
    placed x = record { row = row_of x; place = place x }

    abbrev show : X → Shown
    show = marked row_of letter_of

    -- ---- an answer has the rows that are asked for

    ordered_is : (rows : List Values) (a : Answers q asked all rows) → rows ≡ a.ordered
    ordered_is rows a = a.is ∙ ap (λ b. cond b (take 1 a.ordered) a.ordered) asks.many

    same_rows : (rows : List Values) → Answers q asked all rows → IsPermutation (asked_for q asked all) rows
    same_rows rows a = subst (IsPermutation (asked_for q asked all)) (sym (ordered_is rows a)) a.same

    -- each tells what the set has
    pub record IsTold (row : Values) : Type 0 where
      pub fact : X
      pub number : ℕ
      pub has : set number ≡ Some fact
      pub is : values_of fact ≡ row
      pub of_app : IsOfApp app (row_of fact).key.app

    row_told : (rows : List Values) → Answers q asked all rows → (row : Values) → Contains rows row → IsTold row
    row_told rows a row there =
        let k = is_asked q asked all values_of set facts rows (same_rows rows a) row there in
        record {
          fact = k.fact;
          number = k.number;
          has = k.has;
          is = sym k.is;
          of_app = (asks.passing k.fact).0 (subst (λ (v : Values). passes q asked v ≡ true) k.is k.pass);
        }

    tells_each : (rows : List Values) → ((row : Values) → Contains rows row → IsTold row)
        → (xs : List X) × (map values_of xs ≡ rows)
    tells_each [] each = ([], refl)
    tells_each (row ∷ rows) each =
        let first = each row (contains_first row rows) in
        let (xs, are) = tells_each rows (λ r there. each r (contains_later row r rows there)) in
        (first.fact ∷ xs, λ i. first.is i ∷ are i)

    -- ---- each serial once

    shown_apart : ∥ HaveRowids (all q.table) ∥₁ → AllPairs (λ v w. shown_place v ≢ shown_place w)
        (map (shown q.table) (all q.table))
    shown_apart have i j d low within same = ∥∥₁_elim have ⊥_prop (λ have. distinct_apart shown_place
        (map (shown q.table) (all q.table)) (subst (IsDistinct eqb) (sym (map-map shown_place (shown q.table)
        (all q.table) ∙ ap (λ f. map f (all q.table)) asks.own)) (distinct_rowids (all q.table) have)) i j d low within
        same)

    rows_apart : (rows : List Values) → Answers q asked all rows → ∥ HaveRowids (all q.table) ∥₁
        → AllPairs (λ v w. shown_place v ≢ shown_place w) rows
    rows_apart rows a have = distinct_apart shown_place rows
        (IsDistinct-IsPermutation eqb flips _ _ (IsPermutation-map shown_place _ rows (same_rows rows a))
        (apart_distinct shown_place _
        (AllPairs-filter (λ v w. shown_place v ≢ shown_place w) (passes q asked) _ (shown_apart have))))

    module _ (xs : List X) (a : Answers q asked all (map values_of xs)) (have : ∥ HaveRowids (all q.table) ∥₁) where
      serials_apart : AllPairs (λ x y. (row_of x).serial ≢ (row_of y).serial) xs
      serials_apart =
          let apart = distinct_apart (λ (x : X). shown_place (values_of x)) xs
          (subst (IsDistinct eqb) (map-map shown_place values_of xs)
          (apart_distinct shown_place (map values_of xs) (rows_apart (map values_of xs) a have))) in
          λ i j d low within e. apart i j d low within (ap place_of (kind.leads _) ∙ ap (λ n. n * 2) e
          ∙ sym (ap place_of (kind.leads _)))

      rise : AllPairs (λ x y. RowBefore (row_of x) (row_of y)) xs
      rise = rows_rise values_of row_of (order_cmp q) asks.by_columns xs serials_apart
          (subst (IsSorted (order_cmp q)) (sym (ordered_is (map values_of xs) a)) a.sorted)

      -- ---- the listing

      to : (p : PlacedRow) → Contains (map placed xs) p → IsListed listed app c.sets p
      to p there =
          let (x, among, is) = Contains-map_back placed xs p there in
          let t = row_told (map values_of xs) a (values_of x) (Contains-map values_of xs x among) in
          let same = kind.one t.fact x t.is in
          subst (IsListed listed app c.sets) (ap placed same ∙ is)
          (t.number, kind.stands t.number t.fact t.has, kind.within t.fact, t.of_app)

      from : (p : PlacedRow) → IsListed listed app c.sets p → Contains (map placed xs) p
      from p (n, at, is_place, of_app) =
          let (x, has, row, its) = kind.back n p.row p.place at is_place in
          let mine = subst (λ (r : Row). IsOfApp app r.key.app) (sym row) of_app in
          let there = asked_is q asked all values_of set facts (map values_of xs) (same_rows (map values_of xs) a) n x
          has ((asks.passing x).1 mine) in
          let (e, among, values) = Contains-map_back values_of xs (values_of x) there in
          let same : placed e ≡ p = ap placed (kind.one e x values) ∙ (λ i. record { row = row i; place = its i }) in
          subst (Contains (map placed xs)) same (Contains-map placed xs e among)

      fuse : (ys : List X) → map show ys ≡ map row_shown (map placed ys)
      fuse [] = refl
      fuse (y ∷ ys) = ap₂ (λ s l. s ∷ l) (kind.shows y) (fuse ys)

      is_listing : ShowRows listed app c (map show xs)
      is_listing = (
        map placed xs,
        record {
          rising = pairs_map placed (λ p r. RowBefore p.row r.row) xs rise;
          exactly = λ p. (to p, from p);
        },
        fuse xs,
      )

    -- ---- what was handed out

    module _ {K : Type 0} (Accepts Refuses : K → Shown → K → Type 0) (old new : K) where
      pub hands_all : ∥ HaveRowids (all q.table) ∥₁ → (count : ℕ)
          → TellsAll values_of row_of letter_of Accepts (Answers q asked all) old new count
          → EmitsAll Accepts (ShowRows listed app c) old new count
      hands_all have count h = record {
        items = map show h.facts;
        whole = is_listing h.facts h.whole have;
        taken = h.taken;
        counted = h.counted ∙ sym (length-map h.facts show);
      }

      next_is : (more : List X) (rest : List Values) (fact : X) (later : List Values) → map values_of more ≡ rest
          → rest ≡ values_of fact ∷ later → (items : List Shown) × (map show more ≡ show fact ∷ items)
      next_is [] rest fact later are is = absurd (let e = are ∙ is in cc)
      next_is (x ∷ more) rest fact later are is =
          let e : values_of x ∷ map values_of more ≡ values_of fact ∷ later = are ∙ is in
          let head : values_of x ≡ values_of fact = cc in
          (map show more, ap (λ y. show y ∷ map show more) (kind.one x fact head))

      ends : (Is : X → Type 0) (stopped : Stopped TableFault) (done more : List X) (rest : List Values) → map values_of more ≡ rest
          → EndsTelling Is values_of row_of letter_of Accepts Refuses old done rest new stopped
          → EndsSo Accepts Refuses old (map show done) (map show more) new stopped
      ends Is Sink done more rest are (last, fact, later, is, taken, refused) =
          let (items, shows) = next_is more rest fact later are is in
          (last, show fact, items, shows, taken, refused)
      ends Is (Fault fault) done more rest are (taken, _) = taken

      rest_told : (done : List X) (rest : List Values) → Answers q asked all (map values_of done ++ rest)
          → (row : Values) → Contains rest row → IsTold row
      rest_told done rest a row there =
          row_told (map values_of done ++ rest) a row (Contains-append_right (map values_of done) rest row there)

      pub hands_part : (Is : X → Type 0) → ∥ HaveRowids (all q.table) ∥₁ → (stopped : Stopped TableFault)
          → TellsPart Is values_of row_of letter_of Accepts Refuses (Answers q asked all) old new stopped
          → EmitsPart Accepts Refuses (ShowRows listed app c) old new stopped
      hands_part Is have stopped h =
          let (more, are) = tells_each h.rest (rest_told h.done h.rest h.whole) in
          let both = map-append values_of h.done more ∙ ap (λ l. map values_of h.done ++ l) are in
          let a = subst (Answers q asked all) (sym both) h.whole in
          record {
            done = map show h.done;
            rest = map show more;
            whole = subst (ShowRows listed app c) (map-append show h.done more) (is_listing (h.done ++ more) a have);
            ends = ends Is stopped h.done more h.rest are h.ends;
          }

      pub each_tells : (Is : X → Type 0) → ((n : ℕ) (x : X) → set n ≡ Some x → Is x) → (stopped : Stopped TableFault)
          → TellsPart Is values_of row_of letter_of Accepts Refuses (Answers q asked all) old new stopped
          → stopped ≢ Fault Malformed
      each_tells Is formed Sink h e = cc
      each_tells Is formed (Fault fault) h e =
          let malformed : fault ≡ Malformed = cc in
          let (row, later, is, untold) = h.ends.1 malformed in
          let none = subst (TellsNone Is values_of row) malformed untold in
          let t = rest_told h.done h.rest h.whole row (subst (λ l. Contains l row) (sym is) (contains_first row later))
          in none t.fact (formed t.number t.fact t.has) t.is
