-- The listings of a content, from its lists.
use Rattle.std.proofs.Common.{◌≡◌, ◌⊎◌, ℕ, zero, suc, ◌+◌, ◌<◌, Bool, List, [], ◌∷◌, ◌++◌, length}
use Rattle.std.proofs.Common.{get_or, take, drop, add-one, length-append, map, true, false, refl, sym, ap, ap₂, subst}
use Rattle.std.proofs.Common.{◌∙◌, inl, inr, arith, Some, None, Option, Result, Ok, Err, IfOk, IfErr}
use Rattle.std.specs.Prelude.{if◌then◌else◌}
use Rattle.std.specs.Cmp.Lexicographic.{bytes_decides}
use Rattle.std.specs.List.{AllPairs, Contains}
use Rattle.std.specs.Ordering.{MatchOrdering}
use Rattle.std.specs.declared.cmp.Ordering.TheVariants.{Less}
use Rattle.std.proofs.Math.Seq.{take-suc}
use Rattle.std.proofs.lemmas.Bool.{cases_lt}
use Rattle.std.proofs.lemmas.List.{length-map, map-append, map_push}
use Rattle.std.proofs.lemmas.List.Elements.{Contains-get_or}
use Rattle.std.proofs.lemmas.List.Kept.{AllPairs-cons}
use Rattle.occurrences.specs.Place.{reason_letter}
use Rattle.occurrences.specs.Row.{RowBefore}
use Rattle.occurrences.specs.Status.{status_letter}
use Rattle.occurrences.specs.declared.place.CurrentRow.{CurrentRow}
use Rattle.occurrences.specs.declared.place.Deletion.{Deletion}
use Rattle.occurrences.specs.declared.place.Place.{Place}
use Rattle.occurrences.specs.declared.place.Place.TheVariants.{LongTerm, Current, History, Deleted}
use Rattle.occurrences.specs.declared.row.Row.{Row}
use Rattle.occurrences.specs.declared.status.Status.TheVariants.{C}
use Rattle.external_dependencies.specs.Pair.{PairBefore, pair_cmp}
use Rattle.external_dependencies.specs.Rising.{IsRising}
use Rattle.external_dependencies.specs.declared.pairs.Pair.{Pair}
use Rattle.external_dependencies.specs.declared.rows.PlacedRow.{PlacedRow}
use Rattle.external_dependencies.proofs.LexLemmas.{pairs_ordered}
use Rattle.planner_machine.specs.Content.{Content, Seat, Sets, IsOnlyAt, alone, empty_seat, seat}
use Rattle.planner_machine.specs.Shown.{IsLinked, IsListed, IsOfApp, IsPlaceOf, LinkedBefore, LinkedRows, Listed}
use Rattle.planner_machine.specs.Shown.{ListsPairs}
use Rattle.planner_machine.specs.Shown.{CurrentPlan, InDeletions, InHistory, LongTermPlan}
use Rattle.planner_machine.specs.Sound.{AreNumbered}
use Rattle.plan_store_lists.specs.Rows.{AreRows, look_up, of_current, of_deletion, of_row}
use Rattle.plan_store_lists.proofs.KeyLemmas.{contains_cases, contains_first, contains_later, nothing}
use Rattle.plan_store.specs.Listed.{EndsWithin, ShowsSet, is_of_app, link_at, link_of, links_at, row_at, row_in}
use Rattle.plan_store.specs.Listed.{shown_as, with_link}
use Rattle.plan_store.specs.Listings.{EmitsAll, EmitsPart, ShowRows, Shown, AcceptsAll, link_shown, row_shown}
use Rattle.plan_store.specs.declared.listings.ListFault.{ListFault}
use Rattle.plan_store.specs.declared.listings.ListFault.TheVariants.{Sink}
use Rattle.plan_store.specs.declared.listings.SinkFault.{SinkFault}
use Rattle.plan_store.proofs.ListedLemmas.{from_map, pairs_map, takes_more, to_map}
use Rattle.plan_store_lists.proofs.LookLemmas.{look_has, look_some}
use Rattle.plan_store.proofs.PlaceLemmas.{stands_cp, stands_deleted, stands_history, stands_ltp}

-- a row in its place
abbrev placed_at : Row → Place → PlacedRow
placed_at row place = record { row = row; place = place }

-- a set by its list
module _ {X : Type 0} (row_of : X → Row) (letter_of : X → ℕ) (is_plain : Bool) (xs : List X) (listed : Listed)
    (place : X → Place) (c : Content)
    (stands : (x : X) → Contains xs x → IsOnlyAt c.sets (row_of x).serial (record { row = row_of x; place = place x }))
    (within : (x : X) → IsPlaceOf listed (place x))
    (back : (serial : ℕ) (p : PlacedRow) → IsOnlyAt c.sets serial p → IsPlaceOf listed p.place → (x : X) × Contains xs x
    × (placed_at (row_of x) (place x) ≡ p))
    (shows : (x : X) → shown_as row_of letter_of is_plain x ≡ row_shown (record { row = row_of x; place = place x }))
  where
    abbrev placed : X → PlacedRow
    placed x = record { row = row_of x; place = place x }

    fuse : (rows : List X) → map (shown_as row_of letter_of is_plain) rows ≡ map row_shown (map placed rows)
    fuse [] = refl
    fuse (x ∷ rows) = ap₂ (λ a l. a ∷ l) (shows x) (fuse rows)

    show_set : (app : Option (List ℕ)) (items : List Shown) → ShowsSet row_of letter_of is_plain xs app items
        → ShowRows listed app c items
    show_set app items h = (
      map placed h.rows,
      record {
        rising = pairs_map placed (λ p q. RowBefore p.row q.row) h.rows h.rising;
        exactly = λ p. (to p, from p);
      },
      h.shown ∙ fuse h.rows,
    )
      where
        to : (p : PlacedRow) → Contains (map placed h.rows) p → IsListed listed app c.sets p
        to p there =
            let (x, among, is) = from_map placed h.rows p there in
            let both = (h.same x).0 among in
            subst (IsListed listed app c.sets) is ((row_of x).serial, stands x both.0, within x, both.1)

        from : (p : PlacedRow) → IsListed listed app c.sets p → Contains (map placed h.rows) p
        from p (serial, at, is_place, of_app) =
            let (x, among, is) = back serial p at is_place in
            subst (Contains (map placed h.rows)) is
            (to_map placed h.rows x ((h.same x).1 (
              among,
              subst (λ (q : PlacedRow). IsOfApp app q.row.key.app)
                  (sym is) of_app,
            )))

module _ (c : Content) (numbered : AreNumbered c.sets) where
  pub shows_ltp : (letter_of : Row → ℕ) (rows : List Row) → AreRows of_row rows
      → ((serial : ℕ) → look_up (λ (row : Row). row.serial) rows serial ≡ c.sets.ltp serial) → (app : Option (List ℕ))
      (items : List Shown) → ShowsSet of_row letter_of true rows app items → ShowRows LongTermPlan app c items
  shows_ltp letter_of rows are same = show_set of_row letter_of true rows LongTermPlan (λ _. LongTerm) c
      (λ row there. stands_ltp c.sets numbered row.serial row (sym (same row.serial) ∙ look_has (λ (r : Row). r.serial)
      rows are.one_each row there))
      (λ _. tt)
      (λ serial p at is. by_place serial p.place p.row at is)
      (λ _. refl)
    where
      by_place : (serial : ℕ) (place : Place) (row : Row) → seat c.sets serial ≡ alone row place
          → IsPlaceOf LongTermPlan place → (x : Row) × Contains rows x × (placed_at x (LongTerm) ≡ placed_at row place)
      by_place serial LongTerm row at is =
          (row, (look_some (λ (r : Row). r.serial) rows serial row (same serial ∙ ap (λ (s : Seat). s.ltp) at)).0, refl)
      by_place serial (Current status) row at is = absurd is
      by_place serial History row at is = absurd is
      by_place serial (Deleted reason) row at is = absurd is

  pub shows_cp : (rows : List CurrentRow) → AreRows of_current rows
      → ((serial : ℕ) → look_up (λ (x : CurrentRow). x.row.serial) rows serial ≡ c.sets.cp serial)
      → (app : Option (List ℕ)) (items : List Shown) → ShowsSet of_current (λ (x : CurrentRow). status_letter x.status)
      false rows app items → ShowRows CurrentPlan app c items
  shows_cp rows are same = show_set of_current (λ (x : CurrentRow). status_letter x.status) false rows CurrentPlan
      (λ (x : CurrentRow). Current x.status) c
      (λ x there. stands_cp c.sets numbered x.row.serial x (sym (same x.row.serial)
      ∙ look_has (λ (r : CurrentRow). r.row.serial) rows are.one_each x there))
      (λ _. tt)
      (λ serial p at is. by_place serial p.place p.row at is)
      (λ _. refl)
    where
      by_place : (serial : ℕ) (place : Place) (row : Row) → seat c.sets serial ≡ alone row place → IsPlaceOf CurrentPlan
          place → (x : CurrentRow) × Contains rows x × (placed_at x.row (Current x.status) ≡ placed_at row place)
      by_place serial LongTerm row at is = absurd is
      by_place serial (Current status) row at is = (
        record { row = row; status = status },
        (look_some (λ (r : CurrentRow). r.row.serial) rows serial
            (record { row = row; status = status }) (same serial ∙ ap (λ (s : Seat). s.cp) at)).0,
        refl,
      )
      by_place serial History row at is = absurd is
      by_place serial (Deleted reason) row at is = absurd is

  pub shows_history : (rows : List Row) → AreRows of_row rows
      → ((serial : ℕ) → look_up (λ (row : Row). row.serial) rows serial ≡ c.sets.history serial)
      → (app : Option (List ℕ)) (items : List Shown) → ShowsSet of_row (λ _. status_letter C) false rows app items
      → ShowRows InHistory app c items
  shows_history rows are same = show_set of_row (λ _. status_letter C) false rows InHistory (λ _. History) c
      (λ row there. stands_history c.sets numbered row.serial row (sym (same row.serial)
      ∙ look_has (λ (r : Row). r.serial) rows are.one_each row there))
      (λ _. tt)
      (λ serial p at is. by_place serial p.place p.row at is)
      (λ _. refl)
    where
      by_place : (serial : ℕ) (place : Place) (row : Row) → seat c.sets serial ≡ alone row place → IsPlaceOf InHistory
          place → (x : Row) × Contains rows x × (placed_at x (History) ≡ placed_at row place)
      by_place serial LongTerm row at is = absurd is
      by_place serial (Current status) row at is = absurd is
      by_place serial History row at is = (
        row,
        (look_some (λ (r : Row). r.serial) rows serial row (same serial ∙ ap (λ (s : Seat). s.history) at)).0,
        refl,
      )
      by_place serial (Deleted reason) row at is = absurd is

  pub shows_deletions : (rows : List Deletion) → AreRows of_deletion rows
      → ((serial : ℕ) → look_up (λ (x : Deletion). x.row.serial) rows serial ≡ c.sets.deletions serial)
      → (app : Option (List ℕ)) (items : List Shown) → ShowsSet of_deletion (λ (x : Deletion). reason_letter x.reason)
      false rows app items → ShowRows InDeletions app c items
  shows_deletions rows are same = show_set of_deletion (λ (x : Deletion). reason_letter x.reason) false rows InDeletions
      (λ (x : Deletion). Deleted x.reason) c
      (λ x there. stands_deleted c.sets numbered x.row.serial x (sym (same x.row.serial)
      ∙ look_has (λ (r : Deletion). r.row.serial) rows are.one_each x there))
      (λ _. tt)
      (λ serial p at is. by_place serial p.place p.row at is)
      (λ _. refl)
    where
      by_place : (serial : ℕ) (place : Place) (row : Row) → seat c.sets serial ≡ alone row place → IsPlaceOf InDeletions
          place → (x : Deletion) × Contains rows x × (placed_at x.row (Deleted x.reason) ≡ placed_at row place)
      by_place serial LongTerm row at is = absurd is
      by_place serial (Current status) row at is = absurd is
      by_place serial History row at is = absurd is
      by_place serial (Deleted reason) row at is = (
        record { row = row; reason = reason },
        (look_some (λ (r : Deletion). r.row.serial) rows serial
            (record { row = row; reason = reason }) (same serial ∙ ap (λ (s : Seat). s.deletions) at)).0,
        refl,
      )

-- the row under a serial
pub row_at_stands : (s : Sets) (serial : ℕ) (p : PlacedRow) → IsOnlyAt s serial p → row_at s serial ≡ Some p.row
row_at_stands s serial p at = by_place p.place p.row at
  where
    by_place : (place : Place) (row : Row) → seat s serial ≡ alone row place → row_at s serial ≡ Some row
    by_place LongTerm row at = ap (λ (x : Seat). row_in x.ltp x.cp x.history x.deletions) at
    by_place (Current status) row at = ap (λ (x : Seat). row_in x.ltp x.cp x.history x.deletions) at
    by_place History row at = ap (λ (x : Seat). row_in x.ltp x.cp x.history x.deletions) at
    by_place (Deleted reason) row at = ap (λ (x : Seat). row_in x.ltp x.cp x.history x.deletions) at

module _ (s : Sets) (numbered : AreNumbered s) where
  nowhere : (serial : ℕ) (row : Row) → seat s serial ≡ empty_seat → row_at s serial ≡ Some row → ⊥
  nowhere serial row empty is =
      let none : row_at s serial ≡ None = ap (λ (x : Seat). row_in x.ltp x.cp x.history x.deletions) empty in
      cc

  pub row_at_some : (serial : ℕ) (row : Row) → row_at s serial ≡ Some row → (place : Place)
      × IsOnlyAt s serial (record { row = row; place = place })
  row_at_some serial row is = elim (cases_lt 0 serial) [
    | inl above ↦ elim (cases_lt s.issued serial) [
      | inl past ↦ absurd (nowhere serial row (numbered.unissued serial (inr past)) is)
      | inr upto ↦
          let (p, at) = numbered.placed serial (omega arith) upto in
          let same : p.row ≡ row = one (row_at s serial) p.row row (row_at_stands s serial p at) is in
          (p.place, subst (λ r. seat s serial ≡ alone r p.place) same at)
    ]
    | inr none ↦ absurd (nowhere serial row (numbered.unissued serial (inl (omega arith))) is)
  ]
    where
      one : (o : Option Row) (a b : Row) → o ≡ Some a → o ≡ Some b → a ≡ b
      one o a b x y = cc

  pub row_serial : (serial : ℕ) (row : Row) → row_at s serial ≡ Some row → row.serial ≡ serial
  row_serial serial row is = let (place, at) = row_at_some serial row is in numbered.numbered serial
      (record { row = row; place = place }) at

pub link_unknown : (app : Option (List ℕ)) (o : Option Row) → link_of app o None ≡ None
link_unknown app None = refl
link_unknown app (Some row) = refl

pub tests_app : (app : Option (List ℕ)) (row : Row) → is_of_app app row ≡ true → IsOfApp app row.key.app
tests_app None row is = tt
tests_app (Some app) row is = (bytes_decides row.key.app app).0 is

pub app_tests : (app : Option (List ℕ)) (row : Row) → IsOfApp app row.key.app → is_of_app app row ≡ true
app_tests None row is = refl
app_tests (Some app) row is = (bytes_decides row.key.app app).1 is

link_parts : (app : Option (List ℕ)) (a b : Option Row) (l : LinkedRows) → link_of app a b ≡ Some l
    → (a ≡ Some l.successor) × (b ≡ Some l.predecessor) × IsOfApp app l.successor.key.app
link_parts app None b l is = cc
link_parts app (Some x) None l is = cc
link_parts app (Some x) (Some y) l is = elim (is_of_app app x) as (λ t. is_of_app app x ≡ t
    → (if t then Some (record { successor = x; predecessor = y }) else None) ≡ Some l → (Some x ≡ Some l.successor)
    × (Some y ≡ Some l.predecessor) × IsOfApp app l.successor.key.app) [
      | true ↦ λ e h.
          let same : record { successor = x; predecessor = y } ≡ l = cc in (
            ap (λ (m : LinkedRows). Some m.successor) same,
            ap (λ (m : LinkedRows). Some m.predecessor) same,
            subst (λ (m : LinkedRows). IsOfApp app m.successor.key.app) same (tests_app app x e),
          )
      | false ↦ λ e h. cc
    ] refl is

link_from : (app : Option (List ℕ)) (a b : Option Row) (l : LinkedRows) → a ≡ Some l.successor → b ≡ Some l.predecessor
    → IsOfApp app l.successor.key.app → link_of app a b ≡ Some l
link_from app a b l one two of_app = ap₂ (λ x y. link_of app x y) one two ∙ rw (app_tests app l.successor of_app) refl

module _ (s : Sets) (app : Option (List ℕ)) where
  with_cases : (o : Option LinkedRows) (ls : List LinkedRows) (l : LinkedRows) → Contains (with_link o ls) l
      → (o ≡ Some l) ⊎ Contains ls l
  with_cases None ls l there = inr there
  with_cases (Some m) ls l there = elim (contains_cases m l ls there) [
    | inl same ↦ inl (ap Some same)
    | inr later ↦ inr
        later
  ]

  with_later : (o : Option LinkedRows) (ls : List LinkedRows) (l : LinkedRows) → Contains ls l
      → Contains (with_link o ls) l
  with_later None ls l there = there
  with_later (Some m) ls l there = contains_later m l ls there

  with_first : (o : Option LinkedRows) (ls : List LinkedRows) (l : LinkedRows) → o ≡ Some l → Contains (with_link o ls)
      l
  with_first o ls l is = subst (λ x. Contains (with_link x ls) l) (sym is) (contains_first l ls)

  links_from : (pairs : List Pair) (l : LinkedRows) → Contains (links_at s app pairs) l → (pair : Pair)
      × Contains pairs pair × (link_at s app pair ≡ Some l)
  links_from [] l there = absurd (nothing l there)
  links_from (pair ∷ pairs) l there = elim (with_cases (link_at s app pair) (links_at s app pairs) l there) [
    | inl is ↦ (pair, contains_first pair pairs, is)
    | inr later ↦ let (q, among, is) = links_from pairs l later in (q, contains_later pair q pairs among, is)
  ]

  links_to : (pairs : List Pair) (l : LinkedRows) (pair : Pair) → Contains pairs pair → link_at s app pair ≡ Some l
      → Contains (links_at s app pairs) l
  links_to [] l pair there is = absurd (nothing pair there)
  links_to (p ∷ pairs) l pair there is = elim (contains_cases p pair pairs there) [
    | inl same ↦ with_first (link_at s app p) (links_at s app pairs) l (ap (link_at s app) same ∙ is)
    | inr later ↦ with_later (link_at s app p) (links_at s app pairs) l (links_to pairs l pair later is)
  ]

  with_append : (o : Option LinkedRows) (xs ys : List LinkedRows) → with_link o (xs ++ ys) ≡ with_link o xs ++ ys
  with_append None xs ys = refl
  with_append (Some l) xs ys = refl

  pub links_append : (ps qs : List Pair) → links_at s app (ps ++ qs) ≡ links_at s app ps ++ links_at s app qs
  links_append [] qs = refl
  links_append (p ∷ ps) qs = ap (with_link (link_at s app p)) (links_append ps qs) ∙ with_append (link_at s app p)
      (links_at s app ps) (links_at s app qs)

  module _ (numbered : AreNumbered s) where
    link_rises : (p q : Pair) (l m : LinkedRows) → pair_cmp p q ≡ Less → link_at s app p ≡ Some l → link_at s app q
        ≡ Some m → LinkedBefore l m
    link_rises p q l m less is_l is_m =
        let (ls, lp, _) = link_parts app (row_at s p.successor) (row_at s p.predecessor) l is_l in
        let (ms, mp, _) = link_parts app (row_at s q.successor) (row_at s q.predecessor) m is_m in
        let a = row_serial s numbered p.successor l.successor ls in
        let b = row_serial s numbered p.predecessor l.predecessor lp in
        let d = row_serial s numbered q.successor m.successor ms in
        let e = row_serial s numbered q.predecessor m.predecessor mp in
        let before : PairBefore p q = subst (λ o. MatchOrdering o (PairBefore p q) (p ≡ q) (PairBefore q p)) less
        (pairs_ordered.ranks p q) in
        elim before [ inl lt ↦ inl (omega arith) | inr both ↦ inr (a ∙ both.0 ∙ sym d, omega (arith, both.1)) ]

    with_rises : (o : Option LinkedRows) (ls : List LinkedRows) → ((l m : LinkedRows) → o ≡ Some l → Contains ls m
        → LinkedBefore l m) → AllPairs LinkedBefore ls → AllPairs LinkedBefore (with_link o ls)
    with_rises None ls first rest = rest
    with_rises (Some l) ls first rest = AllPairs-cons LinkedBefore l ls
        (λ k d lt. first l (get_or ls k d) refl (Contains-get_or ls k d lt)) rest

    links_rise : (pairs : List Pair) → IsRising pair_cmp pairs → AllPairs LinkedBefore (links_at s app pairs)
    links_rise [] rises = λ i j d below lt. absurd (omega arith)
    links_rise (p ∷ pairs) rises = with_rises (link_at s app p) (links_at s app pairs)
        (λ l m is there.
        let (q, (k, lt, at), is_m) = links_from pairs m there in
        let less : pair_cmp p q ≡ Less = subst (λ z. pair_cmp p z ≡ Less) at
        (rises zero (suc k) q (omega arith) (omega arith)) in
        link_rises p q l m less is is_m)
        (links_rise pairs (λ i j d below lt. rises (suc i) (suc j) d (omega arith) (omega arith)))

-- the links of the pairs so far
module _ {K : Type 0} (Accepts Refuses : K → Shown → K → Type 0) (s : Sets) (app : Option (List ℕ)) (pairs : List Pair)
    (i : ℕ) (p : Pair) (lt : i < length pairs) (at : p ≡ get_or pairs i p) (count : ℕ) (old last : K)
    (so_far : (count ≡ length (links_at s app (take i pairs))) × AcceptsAll Accepts old
    (map link_shown (links_at s app (take i pairs))) last) where
  nil_right : (ls : List LinkedRows) → ls ++ [] ≡ ls
  nil_right [] = refl
  nil_right (l ∷ ls) = ap (λ m. l ∷ m) (nil_right ls)

  links_next : links_at s app (take (i + 1) pairs) ≡ links_at s app (take i pairs) ++ with_link (link_at s app p) []
  links_next =
      let one : take (i + 1) pairs ≡ take i pairs ++ p ∷ [] = ap (λ n. take n pairs) (add-one i) ∙ take-suc pairs i p lt
      ∙ ap (λ x. take i pairs ++ x ∷ []) (sym at) in
      ap (links_at s app) one ∙ links_append s app (take i pairs) (p ∷ [])

  pub step_some : (l : LinkedRows) → Some l ≡ link_at s app p → (count' : ℕ) (new new' : K) → Accepts last (link_shown l)
      new → count' ≡ count + 1 → new' ≡ new → (count' ≡ length (links_at s app (take (i + 1) pairs)))
      × AcceptsAll Accepts old (map link_shown (links_at s app (take (i + 1) pairs))) new'
  step_some l is count' new new' one counted same =
      let so = links_at s app (take i pairs) in
      let more : links_at s app (take (i + 1) pairs) ≡ so ++ l ∷ [] = links_next ∙ ap (λ o. so ++ with_link o [])
      (sym is) in
      let longer : length (links_at s app (take (i + 1) pairs)) ≡ length so + 1 = ap length more
      ∙ length-append so (l ∷ []) in
      let taken : AcceptsAll Accepts old (map link_shown so ++ link_shown l ∷ []) new =
      takes_more Accepts old (map link_shown so) last (link_shown l) new so_far.1 one in
      let mapped : AcceptsAll Accepts old (map link_shown (so ++ l ∷ [])) new = subst (λ m. AcceptsAll Accepts old m new)
      (sym (map_push link_shown so l)) taken in
      let whole : AcceptsAll Accepts old (map link_shown (links_at s app (take (i + 1) pairs))) new =
      subst (λ ls. AcceptsAll Accepts old (map link_shown ls) new) (sym more) mapped in (
        counted ∙ ap (λ n. n + 1) so_far.0
            ∙ sym longer,
        subst (λ k. AcceptsAll Accepts old (map link_shown (links_at s app (take (i + 1) pairs))) k)
            (sym same) whole,
      )

  pub step_none : None ≡ link_at s app p → (count' : ℕ) (new' : K) → count' ≡ count → new' ≡ last
      → (count' ≡ length (links_at s app (take (i + 1) pairs))) × AcceptsAll Accepts old
      (map link_shown (links_at s app (take (i + 1) pairs))) new'
  step_none is count' new' counted same =
      let so = links_at s app (take i pairs) in
      let more : links_at s app (take (i + 1) pairs) ≡ so = links_next ∙ ap (λ o. so ++ with_link o []) (sym is)
      ∙ nil_right so in
      let whole : AcceptsAll Accepts old (map link_shown (links_at s app (take (i + 1) pairs))) last =
      subst (λ ls. AcceptsAll Accepts old (map link_shown ls) last) (sym more) so_far.1 in (
        counted ∙ so_far.0 ∙ ap length (sym more),
        subst (λ k. AcceptsAll Accepts old (map link_shown (links_at s app (take (i + 1) pairs))) k) (sym same) whole,
      )

  split : (n : ℕ) (ps : List Pair) → ps ≡ take n ps ++ drop n ps
  split zero ps = refl
  split (suc n) [] = refl
  split (suc n) (q ∷ ps) = ap (λ m. q ∷ m) (split n ps)

  drop_at : (n : ℕ) (ps : List Pair) → n < length ps → p ≡ get_or ps n p → drop n ps ≡ p ∷ drop (suc n) ps
  drop_at n [] less here = absurd (omega arith)
  drop_at zero (q ∷ ps) less here = ap (λ z. z ∷ ps) (sym here)
  drop_at (suc n) (q ∷ ps) less here = drop_at n ps (omega arith) here

  pub ends_at : (l : LinkedRows) → Some l ≡ link_at s app p → (new : K) → Refuses last (link_shown l) new
      → (fault : SinkFault) → EndsWithin Accepts Refuses old (map link_shown (links_at s app pairs)) new (Sink fault)
  ends_at l is new refused fault = record {
    done = map link_shown (links_at s app (take i pairs));
    rest = map link_shown (links_at s app (drop i pairs));
    parts = ap (λ ps. map link_shown (links_at s app ps)) (split i pairs) ∙ ap (map link_shown)
        (links_append s app (take i pairs) (drop i pairs)) ∙ map-append link_shown (links_at s app (take i pairs))
        (links_at s app (drop i pairs));
    ends = (
      last,
      link_shown l,
      map link_shown (links_at s app (drop (suc i) pairs)),
      ap (λ ps. map link_shown (links_at s app ps)) (drop_at i pairs lt at)
          ∙ ap (λ o. map link_shown (with_link o (links_at s app (drop (suc i) pairs)))) (sym is),
      so_far.1,
      refused,
    );
  }

-- what is handed is what a listing shows
module _ {K : Type 0} (Accepts Refuses : K → Shown → K → Type 0) (old new : K) (P Q : List Shown → Type 0)
    (to : (items : List Shown) → P items → Q items) where
  pub whole_all : (r : Result ℕ ListFault) → IfOk r (EmitsAll Accepts P old new) → IfOk r (EmitsAll Accepts Q old new)
  whole_all (Ok n) h = record { items = h.items; whole = to h.items h.whole; taken = h.taken; counted = h.counted }
  whole_all (Err e) h = tt

  pub whole_part : (r : Result ℕ ListFault) → IfErr r (EmitsPart Accepts Refuses P old new)
      → IfErr r (EmitsPart Accepts Refuses Q old new)
  whole_part (Ok n) h = tt
  whole_part (Err e) h = record { done = h.done; rest = h.rest; whole = to (h.done ++ h.rest) h.whole; ends = h.ends }

-- all that is shown of a list is handed, or its first part
module _ {X K : Type 0} (Accepts Refuses : K → Shown → K → Type 0) (old new : K) (show : X → Shown) (xs : List X)
    (IsWhole : List Shown → Type 0) (whole : IsWhole (map show xs)) where
  pub shown_all : (r : Result ℕ ListFault) → IfOk r (λ count. (count ≡ length xs)
      × AcceptsAll Accepts old (map show xs) new) → IfOk r (EmitsAll Accepts IsWhole old new)
  shown_all (Ok n) h = record {
    items = map show xs;
    whole = whole;
    taken = h.1;
    counted = h.0 ∙ sym (length-map xs show);
  }
  shown_all (Err e) h = tt

  pub shown_part : (r : Result ℕ ListFault) → IfErr r (λ fault. EndsWithin Accepts Refuses old (map show xs) new fault)
      → IfErr r (EmitsPart Accepts Refuses IsWhole old new)
  shown_part (Ok n) h = tt
  shown_part (Err e) h = record {
    done = h.done;
    rest = h.rest;
    whole = subst IsWhole h.parts whole;
    ends = h.ends;
  }

-- some pairs of a content, with all of the application or of any, each with both its rows
pub lists_some : (c : Content) (app : Option (List ℕ)) → AreNumbered c.sets → (found : List Pair)
    → IsRising pair_cmp found → ((pair : Pair) → Contains found pair → Contains c.pairs pair)
    → ((pair : Pair) (row : Row) → Contains c.pairs pair → row_at c.sets pair.successor ≡ Some row
    → IsOfApp app row.key.app → Contains found pair) → ListsPairs app c (links_at c.sets app found)
lists_some c app numbered found rises only each = record {
  rising = links_rise c.sets app numbered found rises;
  exactly = λ l. (to l, from l);
}
  where
    to : (l : LinkedRows) → Contains (links_at c.sets app found) l → IsLinked app c l
    to l there =
        let (pair, among, is) = links_from c.sets app found l there in
        let (a, b, of_app) = link_parts app (row_at c.sets pair.successor) (row_at c.sets pair.predecessor) l is in (
          pair,
          only pair among,
          row_at_some c.sets numbered pair.successor l.successor a,
          row_at_some c.sets numbered
              pair.predecessor l.predecessor b,
          of_app,
        )

    from : (l : LinkedRows) → IsLinked app c l → Contains (links_at c.sets app found) l
    from l (pair, among, (place, at), (place', at'), of_app) =
        let successor = row_at_stands c.sets pair.successor (record { row = l.successor; place = place }) at in
        links_to c.sets app found l pair (each pair l.successor among successor of_app)
        (link_from app (row_at c.sets pair.successor) (row_at c.sets pair.predecessor) l successor
        (row_at_stands c.sets pair.predecessor (record { row = l.predecessor; place = place' }) at') of_app)

-- all of them
pub lists_links : (c : Content) (app : Option (List ℕ)) → AreNumbered c.sets → IsRising pair_cmp c.pairs
    → ListsPairs app c (links_at c.sets app c.pairs)
lists_links c app numbered rises =
    lists_some c app numbered c.pairs rises (λ _ there. there) (λ _ _ there _ _. there)
