-- A window of lists that have a part of history and of the deletions is one of the whole.
use Rattle.std.proofs.Common.{◌≡◌, ◌⊎◌, ◌+◌, ◌∙◌, ℕ, Bool, false, true, List, None, Option, Some, inl, inr, ap, arith}
use Rattle.std.proofs.Common.{refl, subst, sym}
use Rattle.std.specs.Prelude.{◌||◌, filter, if◌then◌else◌, is_some}
use Rattle.std.specs.List.{Contains}
use Rattle.std.proofs.lemmas.Bool.{false≢true}
use Rattle.occurrences.specs.declared.key.Key.{Key}
use Rattle.occurrences.specs.declared.place.Deletion.{Deletion}
use Rattle.occurrences.specs.declared.row.Row.{Row}
use Rattle.occurrences.proofs.KeyLemmas.{same_key}
use Rattle.external_dependencies.specs.declared.pairs.Pair.{Pair}
use Rattle.planner_machine.specs.Content.{Content}
use Rattle.planner_machine.specs.Moves.{has_key, keep}
use Rattle.planner_machine.specs.Sound.{IsSound}
use Rattle.plan_store_lists.proofs.KeyLemmas.{contains_filter, nothing}
use Rattle.plan_store.specs.HistoryReads.{ReadsKey, ReadsPlan, HasLast, HasLasts, IsLastOf, IsNoLater}
use Rattle.plan_store.specs.Parts.{IsPartOf, Knows, Rest, is_planned, with_rest}
use Rattle.plan_store.specs.Views.{ShowsListed, ShowsLive, TellsSizes, needed_pairs, needs_completed}
use Rattle.plan_store.specs.Views.{needs_pairs, needs_planned, bars, is_asked, is_of_key, named, shown}
use Rattle.plan_store.specs.Views.{with_these}
use Rattle.plan_store.specs.declared.stores.Need.{Need}
use Rattle.plan_store.specs.declared.stores.Need.TheVariants as need
use Rattle.plan_store.specs.declared.views.View.{View}
use Rattle.plan_tables_windows.specs.Windows.{IsReadyFor}
use Rattle.plan_tables_windows.proofs.PartLemmas.{part_is}
use Rattle.plan_tables_windows.proofs.SoundLemmas.{HasOwnRows, own_sound}

some_one : {X : Type 0} (o : Option X) (x y : X) → o ≡ Some x → o ≡ Some y → x ≡ y
some_one o x y a b = cc

-- of three rows each no later than the next, the first is no later than the last
no_later_still : (a b c : Row) → IsNoLater a b → IsNoLater b c → IsNoLater a c
no_later_still a b c (inl ab) (inl bc) = inl (omega arith)
no_later_still a b c (inl ab) (inr bc) = inl (omega (arith, bc.0))
no_later_still a b c (inr ab) (inl bc) = inl (omega (arith, ab.0))
no_later_still a b c (inr ab) (inr bc) = inr (ab.0 ∙ bc.0, omega (arith, ab.1, bc.1))

-- ---- what a window asks of history

-- the last of some that have the last of others is the last of those
module _ (history part : ℕ → Option Row)
    (of : (serial : ℕ) (row : Row) → part serial ≡ Some row → history serial ≡ Some row) where
  pub last_of_whole : (app : List ℕ) (minute : ℕ) (row : Row) → HasLast history part app minute
      → IsLastOf part app minute row → IsLastOf history app minute row
  last_of_whole app minute row has last = record {
    stands = of row.serial row last.stands;
    of_app = last.of_app;
    in_time = last.in_time;
    last = λ serial other stands of_app in_time.
        let r = has serial other stands of_app in_time in
        no_later_still other r.0 row r.4 (last.last r.0.serial r.0 r.1 r.2 r.3);
  }

  pub has_last_of_whole : (shown : ℕ → Option Row) (app : List ℕ) (minute : ℕ) → HasLast history part app minute
      → HasLast part shown app minute → HasLast history shown app minute
  has_last_of_whole shown app minute has shows serial row stands of_app in_time =
      let r = has serial row stands of_app in_time in
      let s = shows r.0.serial r.0 r.1 r.2 r.3 in
      (s.0, s.1, s.2, s.3, no_later_still row r.0 s.0 r.4 s.4)

  pub lasts_of_whole : (Asked : List ℕ → ℕ → Type 0) (shown : ℕ → Option Row)
      → ((app : List ℕ) (minute : ℕ) → Asked app minute → HasLast history part app minute)
      → HasLasts Asked part shown → HasLasts Asked history shown
  lasts_of_whole Asked shown has lasts = record {
    only = λ serial row is.
        let from = lasts.only serial row is in
        let (app, minute, asked, last) = from.1 in
        (of serial row from.0, (app, minute, asked, last_of_whole app minute row (has app minute asked) last));
    lasts = λ app minute asked. has_last_of_whole shown app minute (has app minute asked)
        (lasts.lasts app minute asked);
  }

-- nothing is asked for
no_lasts : (history part shown : ℕ → Option Row) → HasLasts (λ app minute. ⊥) part shown
    → HasLasts (λ app minute. ⊥) history shown
no_lasts history part shown lasts = record {
  only = λ serial row is. let from = lasts.only serial row is in absurd from.1.2;
  lasts = λ app minute asked. absurd asked;
}

-- ---- the live row of a key

-- where some have the last rows of the application of a key at its moment, they have each row of the key
module _ (history part : ℕ → Option Row) (key : Key)
    (of : (serial : ℕ) (row : Row) → part serial ≡ Some row → history serial ≡ Some row)
    (own : (m n : ℕ) (a b : Row) → history m ≡ Some a → history n ≡ Some b → a.key ≡ b.key → m ≡ n)
    (has : HasLast history part key.app (key.ia + 1)) where
  pub live_has : (serial : ℕ) (row : Row) → history serial ≡ Some row → row.key ≡ key → part serial ≡ Some row
  live_has serial row stands keyed =
      let app : row.key.app ≡ key.app = ap (λ (k : Key). k.app) keyed in
      let ia : row.key.ia ≡ key.ia = ap (λ (k : Key). k.ia) keyed in
      let (r, there, of_app, early, no_later) = has serial row stands app (omega arith) in
      let arrives : r.key.ia ≡ row.key.ia = elim no_later [
        | inl earlier ↦ absurd (omega (arith, early, earlier, ia))
        | inr tie ↦ sym tie.0
      ] in
      let of_one : r.key.app ≡ row.key.app = of_app ∙ sym app in
      let one : r.serial ≡ serial = own r.serial serial r row (of r.serial r there) stands
      (λ i. record { ia = arrives i; app = of_one i }) in
      let at : part serial ≡ Some r = subst (λ n. part n ≡ Some r) one there in
      let is : r ≡ row = some_one (history serial) r row (of serial r at) stands in
      subst (λ x. part serial ≡ Some x) is at

-- ---- the pairs that are asked for

no_key : (o : Option Row) → is_some (keep (is_of_key None) o) ≡ false
no_key None = refl
no_key (Some row) = refl

filter_same : {X : Type 0} (p q : X → Bool) → ((x : X) → p x ≡ q x) → (xs : List X) → filter p xs ≡ filter q xs
filter_same p q same xs i = filter (λ x. same x i) xs

-- whether the row under a serial is the live one of the key is told by the part that has that one
keeps_same : (key : Key) (part whole : Option Row) → ((row : Row) → part ≡ Some row → whole ≡ Some row)
    → ((row : Row) → whole ≡ Some row → row.key ≡ key → part ≡ Some row)
    → is_some (keep (has_key key) part) ≡ is_some (keep (has_key key) whole)
keeps_same key (Some row) whole of has = ap (λ o. is_some (keep (has_key key) o)) (sym (of row refl))
keeps_same key None None of has = refl
keeps_same key None (Some row) of has = elim (has_key key row) as (λ b. has_key key row ≡ b
    → false ≡ is_some (if b then Some row else None)) [
      | true ↦ λ same. absurd (let no : None ≡ Some row = has row refl (same_key row.key key same) in let h : ⊥ = cc no in h)
      | false ↦ λ _. refl
    ] refl

module _ (rest : Rest) (c : Content) where
  pairs_of_plan : needed_pairs None c.sets.ltp c.sets.cp c.sets.history c.pairs
      ≡ needed_pairs None c.sets.ltp c.sets.cp rest.history c.pairs
  pairs_of_plan = filter_same (λ (pair : Pair). needs_pairs None c.sets.ltp c.sets.cp c.sets.history pair.successor)
      (λ (pair : Pair). needs_pairs None c.sets.ltp c.sets.cp rest.history pair.successor)
      (λ pair. ap (λ b. needs_planned None c.sets.ltp c.sets.cp pair.successor || b)
      (no_key (c.sets.history pair.successor) ∙ sym (no_key (rest.history pair.successor)))) c.pairs

  module _ (part : IsPartOf rest c) (key : Key)
      (has : (serial : ℕ) (row : Row) → rest.history serial ≡ Some row → row.key ≡ key
      → c.sets.history serial ≡ Some row) where
    pairs_of_key : needed_pairs (Some key) c.sets.ltp c.sets.cp c.sets.history c.pairs
        ≡ needed_pairs (Some key) c.sets.ltp c.sets.cp rest.history c.pairs
    pairs_of_key = filter_same
        (λ (pair : Pair). needs_pairs (Some key) c.sets.ltp c.sets.cp c.sets.history pair.successor)
        (λ (pair : Pair). needs_pairs (Some key) c.sets.ltp c.sets.cp rest.history pair.successor)
        (λ pair. ap (λ b. needs_planned (Some key) c.sets.ltp c.sets.cp pair.successor || b)
        (keeps_same key (c.sets.history pair.successor) (rest.history pair.successor)
        (part.history pair.successor) (has pair.successor))) c.pairs

-- ---- the predecessors of the pairs that are asked for

kept_was : {X : Type 0} (p : X → Bool) (o : Option X) → is_some (keep p o) ≡ true → (x : X) × (o ≡ Some x) × (p x ≡ true)
kept_was p None is = absurd (false≢true is)
kept_was p (Some x) is = elim (p x) as (λ b. p x ≡ b → is_some (if b then Some x else None) ≡ true
    → (y : _) × (Some x ≡ Some y) × (p y ≡ true)) [
      | true ↦ λ passes _. (x, refl, passes)
      | false ↦ λ _ no. absurd (false≢true no)
    ] refl is

either_true : (a b : Bool) → (a || b) ≡ true → (a ≡ true) ⊎ (b ≡ true)
either_true true b is = inl refl
either_true false b is = inr is

or_true : (a b : Bool) → (a ≡ true) ⊎ (b ≡ true) → (a || b) ≡ true
or_true true b is = refl
or_true false b (inl is) = absurd (false≢true is)
or_true false b (inr is) = is

module _ (rest : Rest) (c : Content) (part : IsPartOf rest c) (key : Option Key)
    (live : (serial : ℕ) (row : Row) → c.sets.history serial ≡ Some row → is_of_key key row ≡ true → (pair : Pair)
    → Contains c.pairs pair → pair.successor ≡ serial → Knows rest c pair.predecessor) where
  planned_asked : (serial : ℕ) → needs_planned key c.sets.ltp c.sets.cp serial ≡ true → is_planned c.sets serial ≡ true
  planned_asked serial is = or_true (is_some (c.sets.ltp serial)) (is_some (c.sets.cp serial))
      (elim (either_true (is_some (c.sets.ltp serial)) (is_some (keep (is_asked key) (c.sets.cp serial))) is) [
        | inl in_ltp ↦ inl in_ltp
        | inr in_cp ↦ let was = kept_was (is_asked key) (c.sets.cp serial) in_cp in inr (ap is_some was.1)
      ])

  asked_known : (pair : Pair) → Contains (needed_pairs key c.sets.ltp c.sets.cp c.sets.history c.pairs) pair
      → Knows rest c pair.predecessor
  asked_known pair there =
      let is = contains_filter (λ (pair : Pair). needs_pairs key c.sets.ltp c.sets.cp c.sets.history pair.successor)
      c.pairs pair there in
      elim (either_true (needs_planned key c.sets.ltp c.sets.cp pair.successor)
      (needs_completed key c.sets.history pair.successor) is.1) [
        | inl planned ↦ part.named pair is.0 (planned_asked pair.successor planned)
        | inr completed ↦
            let was = kept_was (is_of_key key) (c.sets.history pair.successor) completed in
            live pair.successor was.0 was.1 was.2 pair is.0 refl
      ]

-- ---- the deletions that keep keys from being made

barring_same : (p : Deletion → Bool) (part whole : Option Deletion)
    → ((deletion : Deletion) → part ≡ Some deletion → whole ≡ Some deletion)
    → ((deletion : Deletion) → whole ≡ Some deletion → p deletion ≡ true → part ≡ Some deletion)
    → keep p part ≡ keep p whole
barring_same p (Some deletion) whole of has = ap (keep p) (sym (of deletion refl))
barring_same p None None of has = refl
barring_same p None (Some deletion) of has = elim (p deletion) as (λ b. p deletion ≡ b
    → None ≡ (if b then Some deletion else None)) [
      | true ↦ λ bar. has deletion refl bar
      | false ↦ λ _. refl
    ] refl

-- ---- the law of windows

no_some : {X : Type 0} (x : X) {A : Type 0} → None ≡ Some x → A
no_some x is = absurd (let no : ⊥ = cc is in no)

module _ (view : View) (rest : Rest) (c : Content) (sizes : TellsSizes c.sets view) (part : IsPartOf rest c) where
  sizes_of_whole : TellsSizes (with_rest rest c).sets view
  sizes_of_whole = record { ltp = sizes.ltp; cp = sizes.cp }

  definitions_of_whole : ShowsListed need.Definitions view c → ShowsListed need.Definitions view (with_rest rest c)
  definitions_of_whole shows = record {
    is = shows.is;
    lasts = no_lasts rest.history c.sets.history (shown view).sets.history shows.lasts;
    predecessors = λ pair there. absurd (nothing pair (subst (λ (x : Content). Contains x.pairs pair) shows.is there));
    live = λ _ _ serial row _ same. no_some row.key same;
    sizes = λ _. sizes_of_whole;
  }

  daily_of_whole : (t : ℕ) → ShowsListed (need.Daily t) view c → ShowsListed (need.Daily t) view (with_rest rest c)
  daily_of_whole t shows = record {
    is = shows.is;
    lasts = no_lasts rest.history c.sets.history (shown view).sets.history shows.lasts;
    predecessors = λ pair there. absurd (nothing pair (subst (λ (x : Content). Contains x.pairs pair) shows.is there));
    live = λ _ _ serial row _ same. no_some row.key same;
    sizes = λ _. sizes_of_whole;
  }

  module _ (key : Key) (ready : IsReadyFor rest (need.Key key) c) (own : HasOwnRows (with_rest rest c).sets)
      (shows : ShowsListed (need.Key key) view c) where
    key_lasts : HasLasts (ReadsKey c key) rest.history (shown view).sets.history
    key_lasts = lasts_of_whole rest.history c.sets.history part.history (ReadsKey c key) (shown view).sets.history ready.0
        shows.lasts

    key_has : (serial : ℕ) (row : Row) → rest.history serial ≡ Some row → row.key ≡ key
        → c.sets.history serial ≡ Some row
    key_has = live_has rest.history c.sets.history key part.history own.own (ready.0 key.app (key.ia + 1) (refl, inl refl))

    key_is : shown view ≡ named (need.Key key) (shown view).sets.history (with_rest rest c)
    key_is = shows.is ∙ (λ i. with_these (record {
      history = (shown view).sets.history;
      deletions = λ _. None;
      pairs = pairs_of_key rest c part key key_has i;
      jobs = λ _. None;
    }) c)

    key_known : (pair : Pair) → Contains (shown view).pairs pair → Knows rest c pair.predecessor
    key_known pair there = asked_known rest c part (Some key)
        (λ serial row stands keyed. ready.1 serial row (part.history serial row stands) (same_key row.key key keyed)) pair
        (subst (λ (x : Content). Contains x.pairs pair) shows.is there)

    key_live : ShowsLive (Some key) rest.history view
    key_live serial row stands same = live_has rest.history (shown view).sets.history key
        (λ n r is. (key_lasts.only n r is).0) own.own (key_lasts.lasts key.app (key.ia + 1) (refl, inl refl)) serial row
        stands (let is : row.key ≡ key = cc in is)

    key_of_whole : ShowsListed (need.Key key) view (with_rest rest c)
    key_of_whole = record {
      is = key_is;
      lasts = key_lasts;
      predecessors = λ pair there. shows.predecessors pair there ∙ key_known pair there;
      live = λ _ _. key_live;
      sizes = λ _. sizes_of_whole;
    }

  module _ (only : Option (List ℕ)) (ready : IsReadyFor rest (need.LongTerm only) c)
      (shows : ShowsListed (need.LongTerm only) view c) where
    plan_is : shown view ≡ named (need.LongTerm only) (shown view).sets.history (with_rest rest c)
    plan_is = shows.is ∙ (λ i. with_these (record {
      history = (shown view).sets.history;
      deletions = λ serial. barring_same (bars c.sets.bounds) (c.sets.deletions serial) (rest.deletions serial)
          (part.deletions serial) (part.bars serial) i;
      pairs = pairs_of_plan rest c i;
      jobs = λ _. None;
    }) c)

    plan_known : (pair : Pair) → Contains (shown view).pairs pair → Knows rest c pair.predecessor
    plan_known pair there = asked_known rest c part None (λ serial row stands no. absurd (false≢true no)) pair
        (subst (λ (x : Content). Contains x.pairs pair) shows.is there)

    plan_of_whole : ShowsListed (need.LongTerm only) view (with_rest rest c)
    plan_of_whole = record {
      is = plan_is;
      lasts = lasts_of_whole rest.history c.sets.history part.history (ReadsPlan only c) (shown view).sets.history ready
          shows.lasts;
      predecessors = λ pair there. shows.predecessors pair there ∙ plan_known pair there;
      live = λ _ _ serial row _ same. no_some row.key same;
      sizes = λ _. sizes_of_whole;
    }

-- a window of lists that are ready for a need, and that have a part of the whole, shows of the whole what the need names
pub window_of_part : (need : Need) (view : View) (rest : Rest) (c : Content) → ShowsListed need view c → TellsSizes c.sets view
    → ∥ IsPartOf rest c ∥₁ → IsReadyFor rest need c → ∥ IsSound (with_rest rest c) ∥₁
    → ShowsListed need view (with_rest rest c)
window_of_part need.Definitions view rest c shows sizes part ready sound =
    definitions_of_whole view rest c sizes (part_is rest c part) shows
window_of_part (need.Key key) view rest c shows sizes part ready sound =
    key_of_whole view rest c sizes (part_is rest c part) key ready (own_sound (with_rest rest c) sound) shows
window_of_part (need.LongTerm only) view rest c shows sizes part ready sound =
    plan_of_whole view rest c sizes (part_is rest c part) only ready shows
window_of_part (need.Daily t) view rest c shows sizes part ready sound = daily_of_whole view rest c sizes (part_is rest c part) t shows
