-- What a window shows of a content.
use Rattle.std.proofs.Common.{◌≡◌, ◌<◌, ◌≤◌, ℕ, ltb, Bool, true, false, List, [], ◌∷◌, Contains, Option, None, Some}
use Rattle.std.proofs.Common.{ap, sym, subst}
use Rattle.std.proofs.Common.{◌∙◌, ◌+◌, arith, inl, inr, length, refl}
use Rattle.std.specs.Prelude.{◌&&◌, ◌↔◌, filter, not, if◌then◌else◌, OnOk, Result, Ok, Err}
use Rattle.std.proofs.lemmas.Bool.{le-ltb, lt-ltb, ltb-true}
use Rattle.occurrences.specs.declared.key.Key.{Key as KeyValue}
use Rattle.occurrences.specs.declared.place.Deletion.{Deletion}
use Rattle.occurrences.specs.declared.place.Place.TheVariants.{History}
use Rattle.occurrences.specs.declared.place.Reason.TheVariants.{Operator}
use Rattle.occurrences.specs.declared.row.Row.{Row}
use Rattle.external_dependencies.specs.declared.pairs.Pair.{Pair}
use Rattle.planner_machine.specs.declared.job.Job.{Job}
use Rattle.planner_machine.specs.Content.{Content, Seat as Places, Sets}
use Rattle.planner_machine.specs.DailyPlan.{arrives_before, moved}
use Rattle.planner_machine.specs.Moves.{keep}
use Rattle.planner_machine.specs.Sound.{AreNumbered, HaveOwnKeys, IsSound, IsUnplanned}
use Rattle.planner_machine.specs.declared.content.Bounds.{Bounds}
use Rattle.plan_store_lists.specs.Rows.{AreRows, look_up, of_current, of_deletion, of_row}
use Rattle.plan_store_lists.specs.Seats.{HasSeats}
use Rattle.plan_store_lists.specs.declared.seats.Seat.{Seat}
use Rattle.plan_store_lists.proofs.KeyLemmas.{contains_filter, filter_contains, nothing}
use Rattle.plan_store_lists.proofs.LookLemmas.{look_has, look_some}
use Rattle.plan_store.specs.Contents.{content_of}
use Rattle.plan_store.specs.HistoryReads.{ReadsKey, ReadsPlan, HasLasts}
use Rattle.plan_store.specs.Parts.{Rest, rest_of, with_rest}
use Rattle.plan_store.specs.Views.{Asks, IsPrepared, HasPredecessors, Hidden, IsDeletedKey, ListsSet, Sees, Shows, ShowsListed}
use Rattle.plan_store.specs.Views.{ShowsDeleted, ShowsLive, ShowsPart, TellsSizes, needed_pairs, bars, bars_from, deletion_serial}
use Rattle.plan_store.specs.Views.{hidden_of, is_by_operator, is_from_plan_end, key_of, named, row_serial, shown}
use Rattle.plan_store.specs.Views.{with_hidden, with_part, with_plans_alone, with_these}
use Rattle.plan_store.specs.declared.contents.Content.{Content as Kept}
use Rattle.plan_store.specs.declared.stores.Need.{Need}
use Rattle.plan_store.specs.declared.stores.Need.TheVariants.{Daily, Definitions, Key, LongTerm}
use Rattle.plan_store.specs.declared.views.View.{View}
use Rattle.plan_store.proofs.PlaceLemmas.{some_is, stands_history}
use Rattle.plan_store.proofs.ViewLemmas.{filter_rows, lists_part, look_filter, once_from_rows, size_listed}
use Rattle.plan_store.proofs.ViewLemmas.{within_cp, within_ltp}

-- what is kept was there, and passes
kept_one : {X : Type 0} (p : X → Bool) (x y : X) (b : Bool) → p y ≡ b → (if b then Some y else None) ≡ Some x
    → (Some y ≡ Some x) × (p x ≡ true)
kept_one p x y true passes is = let same : y ≡ x = cc is in (is, subst (λ z. p z ≡ true) same passes)
kept_one p x y false fails is = absurd (let no : ⊥ = cc is in no)

pub kept_is : {X : Type 0} (p : X → Bool) (o : Option X) (x : X) → keep p o ≡ Some x → (o ≡ Some x) × (p x ≡ true)
kept_is p None x is = absurd (let no : ⊥ = cc is in no)
kept_is p (Some y) x is = kept_one p x y (p y) refl is

pub is_kept : {X : Type 0} (p : X → Bool) (o : Option X) (x : X) → o ≡ Some x → p x ≡ true → keep p o ≡ Some x
is_kept p o x is passes = rw (is, passes) refl

-- a list without rows
pub no_rows : {X : Type 0} (row_of : X → Row) → AreRows row_of []
no_rows row_of = record {
  keyed = λ i j d below lt. absurd (omega arith);
  one_each = λ x y (k, lt, at) there same. absurd (omega arith);
}

pub no_seats : {X : Type 0} (row_of : X → Row) (seats : List Seat) → HasSeats row_of [] seats
no_seats row_of seats x (k, lt, at) = absurd (omega arith)

-- a window of the lists tells how many rows the plans have, whatever else stands elsewhere
pub tells_sizes : (rest : Rest) (view : View) (kept : Kept) → view.content.now ≡ kept
    → AreNumbered (with_rest rest (content_of kept)).sets → TellsSizes (content_of kept).sets view
tells_sizes rest view kept whole numbered =
    let s = (with_rest rest (content_of kept)).sets in
    record {
      ltp = ap (λ (k : Kept). length k.ltp.items) whole
          ∙ size_listed of_row kept.issued kept.ltp.items (once_from_rows of_row kept.ltp.items kept.ltp_rows)
          (within_ltp s numbered kept.ltp.items kept.ltp_rows (λ serial. refl));
      cp = ap (λ (k : Kept). length k.cp.items) whole
          ∙ size_listed of_current kept.issued kept.cp.items (once_from_rows of_current kept.cp.items kept.cp_rows)
          (within_cp s numbered kept.cp.items kept.cp_rows (λ serial. refl));
    }

-- a window that shows no row of history where none is asked for, and no pair, and that is on no key, shows what the need
-- names
shows_none : (need : Need) (view : View) (kept : Kept) → view.content.now ≡ kept → key_of need ≡ None
    → ((app : List ℕ) (minute : ℕ) → Asks need (content_of kept) app minute → ⊥)
    → (shown view).sets.history ≡ (λ _. None) → (shown view).pairs ≡ []
    → shown view ≡ named need (shown view).sets.history (content_of kept) → ShowsListed need view (content_of kept)
shows_none need view kept whole no_key asks none no_pairs is = record {
  is = is;
  lasts = record {
    only = λ serial row there. absurd (no (subst (λ (h : ℕ → Option Row). h serial ≡ Some row) none there));
    lasts = λ app minute asked. absurd (asks app minute asked);
  };
  predecessors = λ pair there. absurd (nothing pair (subst (λ (ps : List Pair). Contains ps pair) no_pairs there));
  live = λ _ _ serial row _ same. absurd (no (sym no_key ∙ same));
  sizes = tells_sizes (rest_of (content_of kept)) view kept whole;
}
  where
    no : {X : Type 0} {x : X} → None ≡ Some x → ⊥
    no is = cc

pub shows_definitions : (view : View) (kept : Kept) → view.content.now ≡ kept
    → shown view ≡ with_plans_alone (λ _. None) (λ _. None) (content_of kept)
    → ShowsListed Definitions view (content_of kept)
shows_definitions view kept whole is = shows_none Definitions view kept whole refl (λ _ _ asked. asked)
    (ap (λ (x : Content). x.sets.history) is) (ap (λ (x : Content). x.pairs) is) is

-- the rows that arrive before a moment, as the buffer has them
module _ (t : ℕ) (kept : Kept) (early : List Row) (is : early ≡ filter (arrives_before t) kept.ltp.items) where
  pub early_rows : AreRows of_row early
  early_rows = subst (AreRows of_row) (sym is) (filter_rows of_row (arrives_before t) kept.ltp.items kept.ltp_rows)

  pub early_seats : HasSeats of_row early kept.seats
  early_seats row there = kept.ltp_seats row
      (contains_filter (arrives_before t) kept.ltp.items row (subst (λ xs. Contains xs row) is there)).0

  early_look : (serial : ℕ) → look_up row_serial early serial ≡ moved t ((content_of kept).sets.ltp serial)
  early_look serial =
      ap (λ (xs : List Row). look_up row_serial xs serial) is
      ∙ look_filter of_row (arrives_before t) kept.ltp.items kept.ltp_rows serial

  -- so they stand in a window for a daily plan
  early_named : (history : ℕ → Option Row)
      → with_plans_alone (look_up row_serial early) (content_of kept).sets.cp (content_of kept)
      ≡ named (Daily t) history (content_of kept)
  early_named history i = with_plans_alone (λ serial. early_look serial i) (content_of kept).sets.cp (content_of kept)

  pub shows_early : (view : View) → view.content.now ≡ kept
      → shown view ≡ with_plans_alone (look_up row_serial early) (content_of kept).sets.cp (content_of kept)
      → ShowsListed (Daily t) view (content_of kept)
  shows_early view whole is' = shows_none (Daily t) view kept whole refl (λ _ _ asked. asked)
      (ap (λ (x : Content). x.sets.history) is') (ap (λ (x : Content). x.pairs) is')
      (is' ∙ early_named (shown view).sets.history)

pub on_ok : {T E : Type 0} (r : Result T E) {A B : Type 0} → (A → B) → OnOk r A → OnOk r B
on_ok (Ok t) f a = f a
on_ok (Err e) f a = tt

-- where the live row of a key stands in history, it is the last of its application then
module _ (c : Content) (numbered : AreNumbered c.sets) (own : HaveOwnKeys c.sets) (key : KeyValue)
    (shown : ℕ → Option Row) (lasts : HasLasts (ReadsKey c key) c.sets.history shown) where
  live_is_last : (serial : ℕ) (row : Row) → c.sets.history serial ≡ Some row → key ≡ row.key → shown serial ≡ Some row
  live_is_last serial row stands same =
      let app : row.key.app ≡ key.app = ap (λ (k : KeyValue). k.app) (sym same) in
      let ia : row.key.ia ≡ key.ia = ap (λ (k : KeyValue). k.ia) (sym same) in
      let (r, is_shown, of_app, early, no_later) =
      lasts.lasts key.app (key.ia + 1) (refl, inl refl) serial row stands app (omega arith) in
      let arrives : r.key.ia ≡ row.key.ia = elim no_later [
        | inl earlier ↦ absurd (omega (arith, early, earlier, ia))
        | inr tie ↦ sym tie.0
      ] in
      let there : c.sets.history r.serial ≡ Some r = (lasts.only r.serial r is_shown).0 in
      let of_one : r.key.app ≡ row.key.app = of_app ∙ sym app in
      let one : r.serial ≡ serial = own r.serial serial (record { row = r; place = History })
      (record { row = row; place = History }) (stands_history c.sets numbered r.serial r there)
      (stands_history c.sets numbered serial row stands) tt tt (λ i. record { ia = arrives i; app = of_one i }) in
      let at : c.sets.history serial ≡ Some r = subst (λ n. c.sets.history n ≡ Some r) one there in
      let is : r ≡ row = some_is (c.sets.history serial) r row at stands in
      subst (λ n. shown n ≡ Some row) one (subst (λ x. shown r.serial ≡ Some x) is is_shown)

-- a window that has the rows of history that were asked for, and all of history, shows what the need names
module _ (need : Need) (view : View) (kept : Kept) (lasts : List Row) (whole : view.content.now ≡ kept)
    (asked : IsPrepared need lasts kept) (history : view.history.now.items ≡ kept.history.items) where
  shows_lasts : shown view ≡ named need (look_up row_serial lasts) (content_of kept)
      → (shown view).sets.history ≡ look_up row_serial lasts
      → (AreNumbered (content_of kept).sets → HaveOwnKeys (content_of kept).sets
      → ShowsLive (key_of need) (content_of kept).sets.history view) → ShowsListed need view (content_of kept)
  shows_lasts is lasts_are live = record {
    is = subst (λ h. shown view ≡ named need h (content_of kept)) (sym lasts_are) is;
    lasts = subst (HasLasts (Asks need (content_of kept)) (content_of kept).sets.history) (sym lasts_are) asked.lasts;
    predecessors = λ pair there. ap (λ (rows : List Row). look_up row_serial rows pair.predecessor) history;
    live = live;
    sizes = tells_sizes (rest_of (content_of kept)) view kept whole;
  }

pub shows_key : (key : KeyValue) (view : View) (kept : Kept) (lasts : List Row) → view.content.now ≡ kept
    → IsPrepared (Key key) lasts kept → view.history.now.items ≡ kept.history.items
    → shown view ≡ with_part kept.buffer.key (look_up row_serial lasts) (λ _. None) (content_of kept)
    → ShowsListed (Key key) view (content_of kept)
shows_key key view kept lasts whole asked history is =
    let c = content_of kept in
    let lasts_are : (shown view).sets.history ≡ look_up row_serial lasts = ap (λ (x : Content). x.sets.history) is in
    let has = subst (HasLasts (ReadsKey c key) c.sets.history) (sym lasts_are) asked.lasts in
    shows_lasts (Key key) view kept lasts whole asked history
    (is ∙ ap (λ (k : Option KeyValue). with_part k (look_up row_serial lasts) (λ _. None) c) asked.key)
    lasts_are (λ numbered own serial row stands same.
    live_is_last c numbered own key (shown view).sets.history has serial row stands (let is : key ≡ row.key = cc in is))

-- a window of the long-term plan has all deletions, and shows those that keep keys from being made
pub shows_plan : (only : Option (List ℕ)) (view : View) (kept : Kept) (lasts : List Row) → view.content.now ≡ kept
    → IsPrepared (LongTerm only) lasts kept → view.history.now.items ≡ kept.history.items
    → shown view ≡ with_part kept.buffer.key (look_up row_serial lasts)
    (λ serial. keep (bars kept.bounds) (look_up deletion_serial kept.deletions.items serial)) (content_of kept)
    → ShowsListed (LongTerm only) view (content_of kept)
shows_plan only view kept lasts whole asked history is = shows_lasts (LongTerm only) view kept lasts whole asked history
    (is ∙ ap (λ (k : Option KeyValue). with_part k (look_up row_serial lasts)
    (λ serial. keep (bars kept.bounds) (look_up deletion_serial kept.deletions.items serial)) (content_of kept)) asked.key)
    (ap (λ (x : Content). x.sets.history) is)
    (λ _ _ serial row _ same. absurd (let no : None ≡ Some row.key = same in cc))

-- the rows of a list that arrive before a moment
pub lists_early : (t : ℕ) (xs : List Row) → AreRows of_row xs → (found : List Row)
    → found ≡ filter (arrives_before t) xs → ListsSet of_row (look_up row_serial xs) (λ row. row.key.ia < t) found
lists_early t xs rows found is =
    subst (ListsSet of_row (look_up row_serial xs) (λ row. row.key.ia < t)) (sym is)
    (lists_part of_row (λ row. row.key.ia < t) xs (filter (arrives_before t) xs) rows
    (filter_rows of_row (arrives_before t) xs rows).keyed (λ row. (
      (λ there. let from = contains_filter (arrives_before t) xs row there in (from.0, ltb-true row.key.ia t from.1)),
      λ both. filter_contains (arrives_before t) xs row both.0 (lt-ltb row.key.ia t both.1),
    )))

-- before there is a plan nothing keeps a key from being made
pub none_bar : (o : Option Bounds) → o ≡ None → (deletions : List Deletion) → filter (bars o) deletions ≡ []
none_bar None is [] = refl
none_bar None is (x ∷ xs) = none_bar None is xs
none_bar (Some b) is deletions = absurd (let no : ⊥ = cc is in no)

bars_late : (moment : ℕ) (deletion : Deletion) → deletion.reason ≡ Operator → moment ≤ deletion.row.key.ia
    → bars_from moment deletion ≡ true
bars_late moment deletion reason late =
    let after : ltb deletion.row.key.ia moment ≡ false = le-ltb deletion.row.key.ia moment late in
    let by : is_by_operator deletion.reason ≡ true = subst (λ r. is_by_operator r ≡ true) (sym reason) refl in
    rw (after, by) refl

and_true : (b : Bool) → (b && true) ≡ b
and_true true = refl
and_true false = refl

-- what an operator deleted keeps its key from being made where that arrives from the plan end on
bars_ahead : (o : Option Bounds) (deletion : Deletion) (key : KeyValue) → deletion.reason ≡ Operator
    → deletion.row.key ≡ key → bars o deletion ≡ is_from_plan_end o key
bars_ahead None deletion key reason keyed = refl
bars_ahead (Some b) deletion key reason keyed =
    let by : is_by_operator deletion.reason ≡ true = subst (λ r. is_by_operator r ≡ true) (sym reason) refl in
    ap (λ x. not (arrives_before b.plan_end deletion.row) && x) by
    ∙ and_true (not (arrives_before b.plan_end deletion.row))
    ∙ ap (λ (k : KeyValue). not (ltb k.ia b.plan_end)) keyed

-- so of all deletions of a key the window shows one where an operator made it and the key arrives from the plan end on
module _ (o : Option Bounds) (key : KeyValue) (rows part : List Deletion) (are : AreRows of_deletion rows)
    (is : (deletion : Deletion) → Contains part deletion ↔ (Contains rows deletion × (deletion.row.key ≡ key))) (s : Sets)
    (same : s.deletions ≡ (λ serial. keep (bars o) (look_up deletion_serial rows serial))) where
  pub barred_key : is_from_plan_end o key ≡ true
      → ((deletion : Deletion) × Contains part deletion × (deletion.reason ≡ Operator)) → IsDeletedKey s key
  barred_key ahead (deletion, there, reason) =
      let both = (is deletion).0 there in (
        deletion.row.serial,
        deletion,
        ap (λ (f : ℕ → Option Deletion). f deletion.row.serial) same
            ∙ is_kept (bars o) (look_up deletion_serial rows deletion.row.serial) deletion
            (look_has deletion_serial rows are.one_each deletion both.0) (bars_ahead o deletion key reason both.1 ∙ ahead),
        reason,
        both.1,
      )

  pub key_barred : IsDeletedKey s key
      → (is_from_plan_end o key ≡ true) × ((deletion : Deletion) × Contains part deletion × (deletion.reason ≡ Operator))
  key_barred (serial, deletion, stands, reason, keyed) =
      let kept = kept_is (bars o) (look_up deletion_serial rows serial) deletion
      (sym (ap (λ (f : ℕ → Option Deletion). f serial) same) ∙ stands) in (
        sym (bars_ahead o deletion key reason keyed) ∙ kept.1,
        (deletion, (is deletion).1 ((look_some deletion_serial rows serial deletion kept.0).0, keyed), reason),
      )

-- what a window shows that hides history, deletions, pairs and jobs, with them, is the content
pub seen_is : {history : ℕ → Option Row} {deletions : ℕ → Option Deletion} {pairs : List Pair} {jobs : ℕ → Option Job}
    (view : View) (c : Content)
    → shown view ≡ with_these (record { history = history; deletions = deletions; pairs = pairs; jobs = jobs }) c
    → with_hidden (hidden_of c) view ≡ c
seen_is view c is = ap (with_these (hidden_of c)) is

module _ {history : ℕ → Option Row} {deletions : ℕ → Option Deletion} (need : Need) (view : View) (c : Content)
    (is : shown view ≡ with_part (key_of need) history deletions c)
    (lasts : HasLasts (Asks need c) c.sets.history (shown view).sets.history)
    (predecessors : HasPredecessors c.sets.history view) where
  -- and of what it hides it shows what the need asks
  sees : Sees (key_of need) (Asks need (with_hidden (hidden_of c) view)) (hidden_of c) view
  sees = record {
    pairs = ap (λ (x : Content). x.pairs) is
        ∙ sym (ap (λ (x : Content). needed_pairs (key_of need) x.sets.ltp x.sets.cp c.sets.history c.pairs) is);
    lasts = subst (λ (x : Content). HasLasts (Asks need x) c.sets.history (shown view).sets.history)
        (sym (seen_is view c is)) lasts;
    predecessors = predecessors;
  }

-- over sound content a window of lists has the live row and the sizes
pub shows_sound : (need : Need) (view : View) (c : Content) → IsSound c → ShowsListed need view c → Shows need view c
shows_sound need view c sound shows = record {
  is = shows.is;
  lasts = shows.lasts;
  predecessors = shows.predecessors;
  live = shows.live sound.serials sound.keys;
  sizes = shows.sizes sound.serials;
}

pub sees_key : (key : KeyValue) (view : View) (c : Content) → Shows (Key key) view c
    → Sees (Some key) (ReadsKey (with_hidden (hidden_of c) view) key) (hidden_of c) view
sees_key key view c shows = sees (Key key) view c shows.is shows.lasts shows.predecessors

pub sees_plan : (only : Option (List ℕ)) (view : View) (c : Content) → Shows (LongTerm only) view c
    → Sees None (ReadsPlan only (with_hidden (hidden_of c) view)) (hidden_of c) view
sees_plan only view c shows = sees (LongTerm only) view c shows.is shows.lasts shows.predecessors

-- what a window shows of history stands there
pub shows_part : {key : Option KeyValue} (Asked : List ℕ → ℕ → Type 0) (hidden : Hidden) (view : View)
    → Sees key Asked hidden view → ShowsPart (with_hidden hidden view) view
shows_part Asked hidden view sees serial row there = (sees.lasts.only serial row there).0

-- a window of the long-term plan shows whether an operator deleted an occurrence of a key that arrives from the plan
-- end on
module _ (only : Option (List ℕ)) (view : View) (c : Content) (shows : Shows (LongTerm only) view c) (key : KeyValue)
  where
    shown_was : IsDeletedKey (shown view).sets key → IsDeletedKey c.sets key
    shown_was there =
        let (serial, deletion, at, reason, keyed) = subst (λ (x : Content). IsDeletedKey x.sets key) shows.is there in
        (serial, deletion, (kept_is (bars c.sets.bounds) (c.sets.deletions serial) deletion at).0, reason, keyed)

    pub shows_deleted : (b : Bounds) → c.sets.bounds ≡ Some b → b.plan_end ≤ key.ia
        → ShowsDeleted c view key
    shows_deleted b bounded late = (
      (λ (serial, deletion, at, reason, keyed).
          let from : b.plan_end ≤ deletion.row.key.ia = subst (λ (k : KeyValue). b.plan_end ≤ k.ia) (sym keyed) late in
          subst (λ (x : Content). IsDeletedKey x.sets key) (sym shows.is) (
            serial,
            deletion,
            is_kept (bars c.sets.bounds) (c.sets.deletions serial) deletion at
                (subst (λ o. bars o deletion ≡ true) (sym bounded) (bars_late b.plan_end deletion reason from)),
            reason,
            keyed,
          )),
      shown_was,
    )

    -- and so it does where nothing is planned
    pub shows_none_deleted : IsUnplanned c → ShowsDeleted c view key
    shows_none_deleted none = ((λ there. absurd (none_there there)), λ there. absurd (none_there (shown_was there)))
      where
        none_there : IsDeletedKey c.sets key → ⊥
        none_there (serial, deletion, at, reason, keyed) =
            let empty : c.sets.deletions serial ≡ None = ap (λ (s : Places). s.deletions) (none.rows serial) in
            cc
