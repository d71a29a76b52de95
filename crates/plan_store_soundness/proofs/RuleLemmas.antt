-- The rules of sound rows, over the list of all rows.
use Rattle.std.proofs.Common.{◌≡◌, ◌≢◌, ℕ, ◌<◌, true, List, length, get_or, filter, refl, sym}
use Rattle.std.proofs.Common.{ap, subst, ◌∙◌, inl, inr, arith, Option, None, Some}
use Rattle.std.specs.Prelude.{map}
use Rattle.std.specs.List.{All, AllPairs, Contains}
use Rattle.std.proofs.lemmas.Bool.{cases_lt}
use Rattle.std.proofs.lemmas.List.{get_or_default}
use Rattle.std.proofs.lemmas.List.Elements.{All-contains, All-contains_itself, All-weaker, Contains-get_or}
use Rattle.std.proofs.lemmas.List.Kept.{AllPairs-filter}
use Rattle.occurrences.specs.Place.{IsLive}
use Rattle.occurrences.specs.declared.key.Key.{Key}
use Rattle.occurrences.specs.declared.place.Deletion.{Deletion}
use Rattle.occurrences.specs.declared.place.Place.{Place}
use Rattle.occurrences.specs.declared.place.Place.TheVariants.{LongTerm, Current, History, Deleted}
use Rattle.occurrences.specs.declared.place.Reason.{Reason}
use Rattle.occurrences.specs.declared.place.Reason.TheVariants.{Operator, Withdrawn, Plan}
use Rattle.occurrences.specs.declared.row.Row.{Row}
use Rattle.occurrences.specs.declared.status.Status.TheVariants.{W, S, E, C, D}
use Rattle.external_dependencies.specs.declared.rows.PlacedRow.{PlacedRow}
use Rattle.planner_machine.specs.Content.{Content, Sets, IsOnlyAt}
use Rattle.planner_machine.specs.Fate.{IsGenerated}
use Rattle.planner_machine.specs.RowsSound.{IsPlacedIn, RowsSound}
use Rattle.planner_machine.proofs.SeatLemmas.{not_empty}
use Rattle.planner_machine.specs.Pairs.{ArePairs}
use Rattle.planner_machine.specs.Sound.{AreNumbered, ArrivesIn, HasBounds, HasPairs, HaveArrivals, HaveOwnKeys, IsSound}
use Rattle.planner_machine.specs.declared.content.Bounds.{Bounds}
use Rattle.plan_store_lists.proofs.KeyLemmas.{contains_filter, filter_contains}
use Rattle.plan_store_lists.proofs.LookLemmas.{look_has, look_some}
use Rattle.plan_store.specs.Contents.{content_of}
use Rattle.plan_store.specs.declared.contents.Content.{Content as Kept}
use Rattle.plan_store_soundness.specs.Arrivals.{AllInBounds, IsFreeOf, IsOperatorKey, by_operator, is_operator}
use Rattle.plan_store_soundness.specs.Pairs.{AreClosedPairs}
use Rattle.plan_store_soundness.specs.Rules.{HasSoundRows}
use Rattle.plan_store_soundness.specs.Listing.{is_live_place, is_live_row, placed_list}
use Rattle.plan_store_soundness.proofs.DistinctLemmas.{contains_map, map_contains}
use Rattle.plan_store_soundness.proofs.NumberedLemmas.{HasRows, listed_stands, rows_differ, seated_from_numbered}
use Rattle.plan_store_soundness.proofs.NumberedLemmas.{stands_listed}

pub live_is : (place : Place) → is_live_place place ≡ true → IsLive place
live_is LongTerm t = tt
live_is (Current W) t = λ e. cc
live_is (Current S) t = λ e. cc
live_is (Current E) t = λ e. cc
live_is (Current C) t = λ e. cc
live_is (Current D) t = cc
live_is History t = tt
live_is (Deleted reason) t = cc

pub live_test : (place : Place) → IsLive place → is_live_place place ≡ true
live_test LongTerm live = refl
live_test (Current W) live = refl
live_test (Current S) live = refl
live_test (Current E) live = refl
live_test (Current C) live = refl
live_test (Current D) live = absurd (live refl)
live_test History live = refl
live_test (Deleted reason) live = absurd live

operator_is : (reason : Reason) → is_operator reason ≡ true → reason ≡ Operator
operator_is Operator t = refl
operator_is Withdrawn t = cc
operator_is Plan t = cc

abbrev map_keys : List Deletion → List Key
map_keys deletions = map (λ (d : Deletion). d.row.key) (filter by_operator deletions)

-- the keys of what an operator deleted
module _ (deletions : List Deletion) (key : Key) where
  pub operator_to : Contains (map_keys deletions) key → IsOperatorKey deletions key
  operator_to there =
      let (d, at, same) = contains_map (λ (d : Deletion). d.row.key) (filter by_operator deletions) key there in
      let from = contains_filter by_operator deletions d at in (d, from.0, operator_is d.reason from.1, same)

  pub operator_from : IsOperatorKey deletions key → Contains (map_keys deletions) key
  operator_from (d, at, reason, same) =
      subst (Contains (map_keys deletions)) same
      (map_contains (λ (d : Deletion). d.row.key) (filter by_operator deletions) d
      (filter_contains by_operator deletions d at (ap is_operator reason)))

module _ (kept : Kept) (rows : HasRows kept) (numbered : AreNumbered (content_of kept).sets) where
  abbrev s : Sets
  s = (content_of kept).sets

  abbrev all : List PlacedRow
  all = placed_list kept

  abbrev live : List PlacedRow
  live = filter is_live_row all

  abbrev KeysDiffer : Type 0
  KeysDiffer = AllPairs (λ (p q : PlacedRow). p.row.key ≢ q.row.key) live

  at_one : (p q : PlacedRow) (i j : ℕ) → i < j → j < length live → get_or live i p ≡ p → get_or live j q ≡ q
      → KeysDiffer → p.row.key ≢ q.row.key
  at_one p q i j below lt is_p is_q differ same =
      let there : get_or live j p ≡ q = get_or_default live j p q lt ∙ is_q in
      differ i j p below lt (ap (λ (x : PlacedRow). x.row.key) is_p ∙ same
      ∙ ap (λ (x : PlacedRow). x.row.key) (sym there))

  pub own_keys_from : KeysDiffer → HaveOwnKeys s
  own_keys_from differ m n p q at_m at_n live_p live_q same =
      let in_p = stands_listed kept rows m p at_m in
      let in_q = stands_listed kept rows n q at_n in
      let (i, lt_i, is_p) = filter_contains is_live_row all p in_p.0 (live_test p.place live_p) in
      let (j, lt_j, is_q) = filter_contains is_live_row all q in_q.0 (live_test q.place live_q) in
      elim (cases_lt i j) [
        | inl below ↦ absurd (at_one p q i j below lt_j is_p is_q differ same)
        | inr above ↦ elim (cases_lt j i) [
          | inl below ↦ absurd (at_one q p j i below lt_i is_q is_p differ (sym same))
          | inr under ↦
              let place : i ≡ j = omega arith in
              let there : get_or live i q ≡ q = subst (λ k. get_or live k q ≡ q) (sym place) is_q in
              let one : p ≡ q = sym is_p ∙ get_or_default live i p q lt_i ∙ there in
              sym in_p.1 ∙ ap (λ (x : PlacedRow). x.row.serial) one ∙ in_q.1
        ]
      ]

  pub own_keys_to : HaveOwnKeys s → KeysDiffer
  own_keys_to own i j d below lt same =
      let p : PlacedRow = get_or live i d in
      let q : PlacedRow = get_or live j d in
      let in_p = contains_filter is_live_row all p (Contains-get_or live i d (omega arith)) in
      let in_q = contains_filter is_live_row all q (Contains-get_or live j d lt) in
      let serial : p.row.serial ≡ q.row.serial =
      own p.row.serial q.row.serial p q (listed_stands kept rows numbered p in_p.0)
      (listed_stands kept rows numbered q in_q.0) (live_is p.place in_p.1) (live_is q.place in_q.1) same in
      let one : p ≡ q = (seated_from_numbered kept rows numbered).own p q in_p.0 in_q.0 serial in
      AllPairs-filter (λ x y. x ≡ y → ⊥) is_live_row all (rows_differ kept rows) i j d below lt one

  -- arrivals
  pub arrive_from : (b : Bounds) → All (λ (p : PlacedRow). ArrivesIn b p.row.key.ia p.place) all
      → (serial : ℕ) (p : PlacedRow) → IsOnlyAt s serial p → ArrivesIn b p.row.key.ia p.place
  arrive_from b arrive serial p stands =
      All-contains (λ (x : PlacedRow). ArrivesIn b x.row.key.ia x.place) all p arrive
      (stands_listed kept rows serial p stands).0

  pub arrive_to : (b : Bounds)
      → ((serial : ℕ) (p : PlacedRow) → IsOnlyAt s serial p → ArrivesIn b p.row.key.ia p.place)
      → All (λ (p : PlacedRow). ArrivesIn b p.row.key.ia p.place) all
  arrive_to b arrive =
      All-weaker (Contains all) (λ (x : PlacedRow). ArrivesIn b x.row.key.ia x.place)
      (λ p there. arrive p.row.serial p (listed_stands kept rows numbered p there)) all (All-contains_itself all)

  some_is : (a b : Bounds) → let o : Option Bounds = Some a in o ≡ Some b → a ≡ b
  some_is a b is = cc

  pub all_arrive_from : (b : Bounds) → kept.bounds ≡ Some b → (list : List PlacedRow) → list ≡ all
      → All (λ (p : PlacedRow). ArrivesIn b p.row.key.ia p.place) list → AllInBounds s
  all_arrive_from b is list same arrive other was serial p stands =
      let one : b ≡ other = some_is b other (sym is ∙ was) in
      subst (λ (x : Bounds). ArrivesIn x p.row.key.ia p.place) one
      (arrive_from b (subst (All (λ (x : PlacedRow). ArrivesIn b x.row.key.ia x.place)) same arrive) serial p stands)

  pub all_arrive_to : (b : Bounds) → kept.bounds ≡ Some b → (list : List PlacedRow) → list ≡ all → AllInBounds s
      → All (λ (p : PlacedRow). ArrivesIn b p.row.key.ia p.place) list
  all_arrive_to b is list same arrive =
      subst (All (λ (x : PlacedRow). ArrivesIn b x.row.key.ia x.place)) (sym same) (arrive_to b (arrive b is))

module _ (kept : Kept) (rows : HasRows kept) where
  abbrev NoneDeleted : Type 0
  NoneDeleted = (serial : ℕ) (row : Row) → (content_of kept).sets.ltp serial ≡ Some row → IsGenerated row.origin
      → (other : ℕ) (deletion : Deletion) → (content_of kept).sets.deletions other ≡ Some deletion
      → deletion.reason ≡ Operator → deletion.row.key ≢ row.key

  pub deleted_from : All (IsFreeOf kept.deletions.items) kept.ltp.items → NoneDeleted
  deleted_from free serial row is generated other deletion was reason same =
      let at = look_some (λ (r : Row). r.serial) kept.ltp.items serial row is in
      let gone = look_some (λ (d : Deletion). d.row.serial) kept.deletions.items other deletion was in
      All-contains (IsFreeOf kept.deletions.items) kept.ltp.items row free at.0 generated
      (deletion, gone.0, reason, same)

  pub deleted_to : NoneDeleted → All (IsFreeOf kept.deletions.items) kept.ltp.items
  deleted_to none =
      All-weaker (Contains kept.ltp.items) (IsFreeOf kept.deletions.items)
      (λ row there generated (deletion, gone, reason, same).
      none row.serial row (look_has (λ (r : Row). r.serial) kept.ltp.items rows.ltp.one_each row there) generated
      deletion.row.serial deletion
      (look_has (λ
      (d : Deletion). d.row.serial) kept.deletions.items rows.deletions.one_each deletion gone) reason same)
      kept.ltp.items (All-contains_itself kept.ltp.items)

pub rows_sound_from : (c : Content) → HasBounds c → AreNumbered c.sets → HaveOwnKeys c.sets → HaveArrivals c.sets
    → RowsSound c.sets
rows_sound_from c bounds numbered keys arrivals = record {
  bounds = λ b is. bounds.after b is;
  placed = numbered.placed;
  unissued = numbered.unissued;
  numbered = numbered.numbered;
  arrivals = λ serial p stands. elim c.sets.bounds as (λ o. c.sets.bounds ≡ o → IsPlacedIn o p) [
    | None ↦ λ none. not_empty c.sets serial p stands ((bounds.before none).rows serial)
    | Some b ↦ λ is. arrivals.in_bounds b is serial p stands
  ] refl;
  keys = keys;
}

-- all rules of rows, lists in force and jobs, and back
pub rows_sound_of : (c : Content) → HasSoundRows c → RowsSound c.sets
rows_sound_of c rows = rows_sound_from c rows.bounds rows.serials rows.keys rows.arrivals

pub rows_of : (c : Content) → IsSound c → HasSoundRows c
rows_of c sound = record {
  bounds = sound.bounds;
  serials = sound.serials;
  keys = sound.keys;
  arrivals = sound.arrivals;
  sizes = sound.sizes;
  lists = sound.lists;
  jobs = sound.jobs;
}

-- all rules of pairs, and back
pub pairs_of : (c : Content) → ArePairs c.pairs c.in_force c.sets c.pairs → AreClosedPairs c.sets c.pairs → HasPairs c
pairs_of c settled closed = record {
  settled = settled;
  complete = λ pair there at. (closed.fit pair there at).0;
  one_each = closed.one_each;
  in_time = λ pair p q there at stands stands'. (closed.fit pair there at).1 p q stands stands';
  no_loop = closed.no_loop;
}

pub closed_of : (c : Content) → HasPairs c → AreClosedPairs c.sets c.pairs
closed_of c pairs = record {
  fit = λ pair there at. (
    pairs.complete pair there at,
    λ p q stands stands'. pairs.in_time pair p q there at stands stands',
  );
  one_each = pairs.one_each;
  no_loop = pairs.no_loop;
}
