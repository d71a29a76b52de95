-- Listed intervals: what one entry gives, a step of the search for the next that meets a range, and that the whole
-- search finds just those.
use Rattle.std.proofs.Common.{◌≡◌, ℕ, zero, suc, ◌+◌, ◌-◌, ◌<◌, ◌≤◌, ◌↔◌, ◌⊎◌, max, Some, None, Option, Bool, true}
use Rattle.std.proofs.Common.{false, cond, List, [], ◌∷◌, length, get_or, drop, map, slice_get, IfSome, IsSome}
use Rattle.std.proofs.Common.{is_some, refl, sym, ◌∙◌, ap, subst, inl, inr, arith}
use Rattle.std.proofs.Math.Seq.{drop-cons}
use Rattle.std.proofs.lemmas.Bool.{false≢true, and_parts, and_from, leb-true, le-leb}
use Rattle.std.proofs.lemmas.List.{get_or-map, length-map}
use Rattle.std.proofs.lemmas.List.Kept.{AllPairs-filter, AllPairs-from_increasing}
use Rattle.std.proofs.lemmas.Option.{same_Some, none-some, slice_get_within, get_or_from_slice_get}
use Rattle.std.specs.List.{Contains, AllPairs, filter}
use Rattle.std.specs.List.Sorted.{IsStrictlyIncreasing}
use Rattle.work_calendars.specs.Day.{IsDay}
use Rattle.plan_periods.specs.Period.{Entry, IsSoundList, HasRisingOrigins, EndsFromOrigin}
use Rattle.plan_periods.specs.Interval.{IsInterval, MeetsRange, last_of_entry}
use Rattle.plan_periods.specs.Walk.{ListsMeeting}
use Rattle.plan_periods.specs.Places.{entry_interval, listed, ends_from, meets_range, met_from}
use Rattle.plan_periods.specs.declared.intervals.Interval.{Interval}
use Rattle.plan_periods.specs.declared.periods.Period.TheVariants.{Work, Listed}

-- ---- one entry

drop_at : (entries : List Entry) (place : ℕ) (e : Entry) → place < length entries →
    e ≡ get_or entries place e → drop place entries ≡ e ∷ drop (place + 1) entries
drop_at entries place e within is =
    let after : suc place ≡ place + 1 = omega arith in
    drop-cons entries place e within ∙ ap (λ x. x ∷ drop (suc place) entries) (sym is) ∙
    ap (λ k. e ∷ drop k entries) after

listed_at : (entries : List Entry) (place : ℕ) (e : Entry) → place < length entries → e ≡ get_or entries place e
    → listed (drop place entries) ≡ entry_interval e (drop (place + 1) entries) ∷ listed (drop (place + 1) entries)
listed_at entries place e within is = ap listed (drop_at entries place e within is)

next_entry : (entries : List Entry) (place : ℕ) (next : Entry) →
    place < length entries → next ≡ get_or entries place next → slice_get (drop place entries) 0 ≡ Some next
next_entry entries place next within is = ap (λ xs. slice_get xs 0) (drop_at entries place next within is)

-- the interval of an entry without an end ends on the day before the next origin
pub listed_to_next : (entries : List Entry) (place : ℕ) (e next : Entry) (last : Option ℕ) →
    place + 1 < length entries → e ≡ get_or entries place e → e.1 ≡ None
    → next ≡ get_or entries (place + 1) next → last ≡ Some (next.0 - 1)
    → listed (drop place entries) ≡ record { first = e.0; last = last } ∷ listed (drop (place + 1) entries)
listed_to_next entries place e next last within is endless next-is last-is =
    let behind : slice_get (drop (place + 1) entries) 0 ≡ Some next =
    next_entry entries (place + 1) next within next-is in
    let ends : last_of_entry e.1 (slice_get (drop (place + 1) entries) 0) ≡ last =
    ap (λ o. last_of_entry o (slice_get (drop (place + 1) entries) 0)) endless ∙
    ap (last_of_entry None) behind ∙ sym last-is in
    listed_at entries place e (omega arith) is ∙ ap (λ o. record {
      first =
          e.0;
      last = o;
    } ∷ listed (drop (place + 1) entries)) ends

pub no_end : (end : Option ℕ) → is_some end ≡ false → end ≡ None
no_end None h = refl
no_end (Some end) h = absurd (false≢true (sym h))

pub some_day : (made : Option ℕ) (number : ℕ) → IsSome made ↔
    IsDay number → IfSome made (λ day. day ≡ number) → IsDay number → made ≡ Some number
some_day None number valid value in_range = absurd (false≢true (valid.1 in_range))
some_day (Some day) number valid value in_range = ap Some value

-- ---- elements, by recursion

abbrev Is : Interval → List Interval → Type 0
Is x [] = ⊥
Is x (y ∷ ys) = (y ≡ x) ⊎ Is x ys

is_from_contains : (xs : List Interval) (x : Interval) → Contains xs x → Is x xs
is_from_contains [] x (i, within, is) = absurd (omega (arith, within))
is_from_contains (y ∷ ys) x (zero, within, is) = inl is
is_from_contains (y ∷ ys) x (suc i, within, is) = inr (is_from_contains ys x (i, omega (arith, within), is))

contains_from_is : (xs : List Interval) (x : Interval) → Is x xs → Contains xs x
contains_from_is [] x h = absurd h
contains_from_is (y ∷ ys) x (inl same) = (0, omega arith, same)
contains_from_is (y ∷ ys) x (inr h) = let c = contains_from_is ys x h in (suc c.0, omega (arith, c.1), c.2)

is_in_filter : (p : Interval → Bool) (xs : List Interval) (x : Interval) → Is x xs → p x ≡ true → Is x (filter p xs)
is_in_filter p [] x h pass = h
is_in_filter p (y ∷ ys) x (inl same) pass =
    let P : Bool → Type 0 = λ b. Is x (cond b (y ∷ filter p ys) (filter p ys)) in
    let tested : true ≡ p y = sym (ap p same ∙ pass) in subst P tested (inl same)
is_in_filter p (y ∷ ys) x (inr h) pass =
    let rest : Is x (filter p ys) = is_in_filter p ys x h pass in
    elim (p y) as (λ b. Is x (cond b (y ∷ filter p ys) (filter p ys))) [ true ↦ inr rest | false ↦ rest ]

is_from_cond : (p : Interval → Bool) (y : Interval) (ys : List Interval) (x : Interval) (b : Bool) →
    p y ≡ b → (Is x (filter p ys) → Is x ys × (p x ≡ true))
    → Is x (cond b (y ∷ filter p ys) (filter p ys)) → Is x (y ∷ ys) × (p x ≡ true)
is_from_cond p y ys x true tested rest (inl same) = (inl same, ap p (sym same) ∙ tested)
is_from_cond p y ys x true tested rest (inr h) = let r = rest h in (inr r.0, r.1)
is_from_cond p y ys x false tested rest h = let r = rest h in (inr r.0, r.1)

is_from_filter : (p : Interval → Bool) (xs : List Interval) (x : Interval) → Is x (filter p xs) → Is x xs × (p x ≡ true)
is_from_filter p [] x h = absurd h
is_from_filter p (y ∷ ys) x h = is_from_cond p y ys x (p y) refl (is_from_filter p ys x) h

interval_from_is : (entries : List Entry) (x : Interval) → Is x (listed entries) →
    IsInterval (Listed entries) x.first x.last
interval_from_is [] x h = absurd h
interval_from_is (e ∷ rest) x (inl same) =
    let P : Interval → Type 0 = λ y. IsInterval (Listed (e ∷ rest)) y.first y.last in subst P same (0, e.1, refl, refl)
interval_from_is (e ∷ rest) x (inr h) =
    let r = interval_from_is rest x h in
    let after : suc (r.0 + 1) ≡ suc r.0 + 1 = omega arith in
    (suc r.0, r.1, r.2, r.3 ∙ ap (λ k. last_of_entry r.1 (slice_get (e ∷ rest) k)) after)

is_from_interval : (entries : List Entry) (x : Interval) (i : ℕ) (end : Option ℕ) →
    slice_get entries i ≡ Some (x.first, end)
    → x.last ≡ last_of_entry end (slice_get entries (i + 1)) → Is x (listed entries)
is_from_interval [] x i end at last = absurd (none-some _ at)
is_from_interval (e ∷ rest) x zero end at last =
    inl (ap (λ d. entry_interval d rest) (same_Some _ _ at) ∙ ap (λ o. record { first = x.first; last = o }) (sym last))
is_from_interval (e ∷ rest) x (suc i) end at last =
    let after : suc i + 1 ≡ suc (i + 1) = omega arith in
    inr (is_from_interval rest x i end at (last ∙ ap (λ k. last_of_entry end (slice_get (e ∷ rest) k)) after))

-- ---- the test

ends_true : (o : Option ℕ) (from day : ℕ) → IfSome o (λ end. day ≤ end) → from ≤ day → ends_from from o ≡ true
ends_true None from day high after = refl
ends_true (Some end) from day high after = le-leb from end (omega (arith, high, after))

test_from_meets : (from to : ℕ) (x : Interval) → MeetsRange x.first x.last from to → meets_range from to x ≡ true
test_from_meets from to x (day, (low, high), after, before) =
    and_from _ _ (and_from _ _ (le-leb from to (omega arith)) (le-leb x.first to (omega arith)))
    (ends_true x.last from day high after)

ends_late : (o : Option ℕ) (first from : ℕ) → IfSome o (λ end. first ≤ end) →
    ends_from from o ≡ true → IfSome o (λ end. max from first ≤ end)
ends_late None first from days test = tt
ends_late (Some end) first from days test = let h : from ≤ end = leb-true from end test in omega (arith, h, days)

meets_from_test : (from to : ℕ) (x : Interval) → IfSome x.last (λ end. x.first ≤ end) →
    meets_range from to x ≡ true → MeetsRange x.first x.last from to
meets_from_test from to x days test =
    let parts = and_parts _ _ test in
    let begins = and_parts _ _ parts.0 in
    let range : from ≤ to = leb-true from to begins.0 in
    let first : x.first ≤ to = leb-true x.first to begins.1 in (
      max from x.first,
      (omega arith, ends_late x.last x.first from days parts.1),
      omega arith,
      omega (arith, range, first),
    )

-- ---- the list

days_to_next : (entries : List Entry) → HasRisingOrigins entries →
    (i first : ℕ) → slice_get entries i ≡ Some (first, None)
    → (o : Option Entry) → slice_get entries (i + 1) ≡ o → IfSome (last_of_entry None o) (λ end. first ≤ end)
days_to_next entries rising i first at None after = tt
days_to_next entries rising i first at (Some next) after =
    let within : i + 1 < length entries = slice_get_within entries (i + 1) next after in
    let low : (get_or entries i next).0 < (get_or entries (i + 1) next).0 = rising i next within in
    let here : (get_or entries i next).0 ≡ first = ap (λ e. e.0)
    (get_or_from_slice_get entries i (first, None) next at) in
    let there : (get_or entries (i + 1) next).0 ≡ next.0 = ap
    (λ e. e.0) (get_or_from_slice_get entries (i + 1) next next after) in
    omega (arith, low, here, there)

-- an interval of a sound list has days
has_days : (entries : List Entry) → IsSoundList entries → (i first : ℕ) (end : Option ℕ) →
    slice_get entries i ≡ Some (first, end)
    → IfSome (last_of_entry end (slice_get entries (i + 1))) (λ last. first ≤ last)
has_days entries sound i first None at = days_to_next entries sound.2 i first at (slice_get entries (i + 1)) refl
has_days entries sound i first (Some end) at =
    let P : Entry → Type 0 = EndsFromOrigin in
    subst P (get_or_from_slice_get entries i (first, Some end) (
      first,
      Some end,
    ) at) (sound.1 i (first, Some end) (slice_get_within entries i _ at))

interval_has_days : (entries : List Entry) → IsSoundList entries →
    (x : Interval) → IsInterval (Listed entries) x.first x.last → IfSome x.last (λ end. x.first ≤ end)
interval_has_days entries sound x (i, end, at, last) =
    let P : Option ℕ → Type 0 = λ o. IfSome o (λ day. x.first ≤ day) in
    subst P (sym last) (has_days entries sound i x.first end at)

firsts : (entries : List Entry) → map (λ x. x.first) (listed entries) ≡ map (λ e. e.0) entries
firsts [] = refl
firsts (e ∷ rest) = ap (λ xs. e.0 ∷ xs) (firsts rest)

origins_increase : (entries : List Entry) → HasRisingOrigins entries → IsStrictlyIncreasing (map (λ e. e.0) entries)
origins_increase entries rising k within =
    let long : k + 1 < length entries = omega (arith, within, length-map entries (λ e. e.0)) in
    rw (
      get_or-map (λ e. e.0) entries k (0, None) 0 (omega (arith, long)),
      get_or-map (λ e. e.0) entries (k + 1) (0, None) 0 long,
    ) (rising k (0, None) long)

listed_rises : (entries : List Entry) → HasRisingOrigins entries → AllPairs (λ x y. x.first < y.first) (listed entries)
listed_rises entries rising i j d above within =
    let increasing : IsStrictlyIncreasing (map (λ x. x.first) (listed entries)) =
    let P : List ℕ → Type 0 = IsStrictlyIncreasing in subst P (sym (firsts entries))
    (origins_increase entries rising) in
    let within_map : j < length (map (λ x. x.first) (listed entries)) =
    omega (arith, within, length-map (listed entries) (λ x. x.first)) in
    let below : i < length (listed entries) = omega (arith, within, above) in
    let h = AllPairs-from_increasing (map (λ x. x.first) (listed entries)) increasing i j 0 above within_map in
    rw (
      ← get_or-map (λ x. x.first) (listed entries) i d 0 below,
      ← get_or-map (λ x. x.first) (listed entries) j d 0 within,
    ) h

-- the search from the start finds the intervals that meet the range
pub lists_listed : (entries : List Entry) (from to : ℕ) → IsSoundList entries →
    ListsMeeting (Listed entries) from to (met_from entries from to 0)
lists_listed entries from to sound = record {
  each = λ x. (there x, back x);
  rising = AllPairs-filter (λ x y. x.first < y.first) _ _ (listed_rises entries sound.2);
} where
  there : (x : Interval) → Contains (met_from entries from to 0) x →
      IsInterval (Listed entries) x.first x.last × MeetsRange x.first x.last from to
  there x h =
      let found = is_from_filter (meets_range from to) (listed entries) x
      (is_from_contains (met_from entries from to 0) x h) in
      let interval = interval_from_is entries x found.0 in
      (interval, meets_from_test from to x (interval_has_days entries sound x interval) found.1)

  back : (x : Interval) → IsInterval (Listed entries) x.first x.last ×
      MeetsRange x.first x.last from to → Contains (met_from entries from to 0) x
  back x ((i, end, at, last), meets) =
      contains_from_is (met_from entries from to 0) x
      (is_in_filter (meets_range from to) (listed entries) x
      (is_from_interval entries x i end at last) (test_from_meets from to x meets))

-- a period of work days has no interval here
pub lists_none : (origin n from to : ℕ) → ListsMeeting (Work origin n) from to []
lists_none origin n from to =
    record {
      each = λ x. ((λ h. let within : h.0 < 0 = h.1 in absurd (omega (arith, within))), (λ h. absurd h.0));
      rising = λ i j d above within. let none : j < 0 = within in absurd (omega (arith, none));
    }
