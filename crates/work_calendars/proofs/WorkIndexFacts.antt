-- The tables of an index, as they are filled and as they are asked.
use Rattle.std.proofs.Common.{◌≡◌, ◌⊎◌, inl, inr, sym, ap, subst, ◌∙◌, refl, ℕ, ◌+◌, ◌-◌, ◌<◌, ◌≤◌, Bool, true, false}
use Rattle.std.proofs.Common.{cond, ◌&&◌, List, [], ◌∷◌, ◌++◌, length, slice_index, Option, Some, None, IsTrue}
use Rattle.std.proofs.Common.{IsFalse, IsSome, IsNone, IfSome, arith, length-append}
use Rattle.std.specs.List.{slice_index_or}
use Rattle.std.proofs.lemmas.Bool.{cases_lt}
use Rattle.std.proofs.lemmas.Bool.Decides.{nat_tests}
use Rattle.std.proofs.lemmas.List.{get_or_append_left}
use Rattle.std.proofs.Math.Seq.{get_or-append_seam}
use Rattle.std.proofs.lemmas.List.{append-nil}
use Rattle.work_calendars.specs.Day.{IsDay, is_day, first_day, last_day}
use Rattle.work_calendars.specs.Calendar.{CalendarEntries, is_work_day}
use Rattle.work_calendars.specs.WorkDay.{work_days_before, IsNthWorkDay, IsNextWorkDay, IsPreviousWorkDay}
use Rattle.work_calendars.specs.WorkDay.{HasNoWorkDayAfter, HasNoWorkDayBefore}
use Rattle.work_calendars.specs.WorkIndex.{is_work_in, AreStatuses, IsIndex}
use Rattle.work_calendars.proofs.Tables.{CountsUpTo}
use Rattle.work_calendars.proofs.CalendarFacts.{is_day-in_range}
use Rattle.work_calendars.proofs.WorkDayFacts.{work_days_before-none, work_days_before-same, work_days_before-work}
use Rattle.work_calendars.proofs.WorkDayFacts.{work_days_before-free, work_days_before-mono, IsNthWorkDay-same}
use Rattle.work_calendars.proofs.WorkDayFacts.{IsNextWorkDay-from_nth, IsPreviousWorkDay-from_nth}
use Rattle.work_calendars.proofs.WorkDayFacts.{HasNoWorkDayAfter-from_count, IsNthWorkDay-none, not_true}

-- ---- tests that are false outside the range

first_true : (a b : Bool) → (a && b) ≡ true → a ≡ true
first_true true b h = refl
first_true false b h = h

IsDay-is_day : (d : ℕ) → is_day d ≡ true → IsDay d
IsDay-is_day d h = grind (arith, nat_tests)

pub IsDay-work_in : (statuses : List Bool) (d : ℕ) → IsTrue (is_work_in statuses d) → IsDay d
unfolding is_work_in
IsDay-work_in statuses d h = IsDay-is_day d (first_true (is_day d) _ h)

pub IsDay-work_day : (c : CalendarEntries) (d : ℕ) → IsTrue (is_work_day c d) → IsDay d
unfolding is_work_day
IsDay-work_day c d h = IsDay-is_day d (first_true (is_day d) _ h)

pub is_work_in-past : (statuses : List Bool) (d : ℕ) → (last_day + 1) ≤ d → IsFalse (is_work_in statuses d)
is_work_in-past statuses d h =
    not_true (is_work_in statuses d) (λ w. let r : IsDay d = IsDay-work_in statuses d w in omega arith)

pub is_work_in-at : (statuses : List Bool) (d : ℕ) → IsDay d →
    is_work_in statuses d ≡ slice_index_or statuses (d - first_day) false
unfolding is_work_in
is_work_in-at statuses d h =
    ap (λ b. b && slice_index_or statuses (d - first_day) false) (is_day-in_range d h)

-- ---- filling the tables

-- what holds of each item and of one more holds of each with that one pushed
pub pushed : {X : Type 0} (P : ℕ → X → Type 0) (xs : List X) (x d : X) →
    ((k : ℕ) → k < length xs → P k (slice_index_or xs k d)) →
    P (length xs) x → (k : ℕ) → k < length (xs ++ x ∷ []) → P k (slice_index_or (xs ++ x ∷ []) k d)
pushed {X} P xs x d all here k h = by (cases_lt k (length xs))
  where
    by : (k < length xs) ⊎ (length xs ≤ k) → P k (slice_index_or (xs ++ x ∷ []) k d)
    by (inl l) = subst (P k) (sym (get_or_append_left xs (x ∷ []) d k l)) (all k l)
    by (inr g) =
        let n : length (xs ++ x ∷ []) ≡ length xs + 1 = length-append xs (x ∷ []) in
        let e : length xs ≡ k = omega arith in
        subst (λ j. P j (slice_index_or (xs ++ x ∷ []) j d)) e
        (subst (P (length xs)) (sym (get_or-append_seam xs x [] d)) here)

pub CountsUpTo-start : (work : ℕ → Bool) → ((x : ℕ) → IsTrue (work x) → IsDay x) → CountsUpTo work first_day [] []
CountsUpTo-start work range = record {
  ranks_len = refl;
  ranks_are = λ i h. absurd (omega arith);
  days_len = sym (work_days_before-none work first_day (λ x h. not_true (work x) (λ w.
      let r : IsDay x = range x w in
      omega arith)));
  days_are = λ k h. absurd (omega arith);
}

DaysUpTo : (ℕ → Bool) → ℕ → List ℕ → Type 0
DaysUpTo work end days = (length days ≡ work_days_before work end) ×
    ((k : ℕ) → k < length days → IsNthWorkDay work k (slice_index days k))

days_more : (work : ℕ → Bool) (end : ℕ) (days : List ℕ) (b : Bool) →
    length days ≡ work_days_before work end → ((k : ℕ) → k < length days → IsNthWorkDay work k (slice_index days k)) →
    b ≡ work end → DaysUpTo work (end + 1) (days ++ cond b (end ∷ []) [])
unfolding DaysUpTo
days_more work end days true len are is =
    let next = work_days_before-work work end (sym is) in
    let n : length (days ++ end ∷ []) ≡ length days + 1 = length-append days (end ∷ []) in
    (omega arith, pushed (IsNthWorkDay work) days end 0 are (record { is_work = sym is; place = sym len }))
days_more work end days false len are is =
    let next = work_days_before-free work end (sym is) in
    let same : days ≡ days ++ [] = sym (append-nil days) in
    subst (λ xs. (length xs ≡ work_days_before work (end + 1)) ×
    ((k : ℕ) → k < length xs → IsNthWorkDay work k (slice_index xs k))) same (len ∙ sym next, are)

pub CountsUpTo-more : (work : ℕ → Bool) (end : ℕ) (ranks days : List ℕ) (b : Bool) (n : ℕ) →
    CountsUpTo work end ranks days → b ≡ work end → n ≡ length days →
    CountsUpTo work (end + 1) (ranks ++ n ∷ []) (days ++ cond b (end ∷ []) [])
unfolding DaysUpTo
CountsUpTo-more work end ranks days b n t is count =
    let r : first_day + length ranks ≡ end = t.ranks_len in
    let r' : length (ranks ++ n ∷ []) ≡ length ranks + 1 = length-append ranks (n ∷ []) in
    let d = days_more work end days b t.days_len t.days_are is in
    record {
      ranks_len = omega arith;
      ranks_are = pushed (λ i v. v ≡ work_days_before work (first_day + i)) ranks n 0 t.ranks_are (count ∙
          t.days_len ∙ ap (work_days_before work) (sym r));
      days_len = d.0;
      days_are = d.1;
    }

pub is_work_in-statuses : (work : ℕ → Bool) (statuses : List Bool) →
    ((x : ℕ) → IsTrue (work x) → IsDay x) → AreStatuses work statuses → (d : ℕ) → is_work_in statuses d ≡ work d
is_work_in-statuses work statuses range t d = by (cases_lt d first_day) (cases_lt last_day d)
  where
    outside : (IsDay d → ⊥) → is_work_in statuses d ≡ work d
    outside out =
        not_true (is_work_in statuses d) (λ w. out (IsDay-work_in statuses d w))
        ∙ sym (not_true (work d) (λ w. out (range d w)))

    by : (d < first_day) ⊎ (first_day ≤ d) → (last_day < d) ⊎ (d ≤ last_day) → is_work_in statuses d ≡ work d
    by (inl l) _ = outside (λ r. omega arith)
    by (inr l) (inl g) = outside (λ r. omega arith)
    by (inr l) (inr g) = is_work_in-at statuses d (l, g) ∙ t.are d (l, g)

pub IsIndex-from_counts : (work : ℕ → Bool) (statuses : List Bool) (ranks days : List ℕ) (n : ℕ) →
    ((x : ℕ) → IsTrue (work x) → IsDay x) → AreStatuses work statuses →
    CountsUpTo work (last_day + 1) ranks days → n ≡ length days → IsIndex statuses (ranks ++ n ∷ []) days
IsIndex-from_counts work statuses ranks days n range s t count =
    let same = is_work_in-statuses work statuses range s in
    let counts = work_days_before-same work (is_work_in statuses) (λ d. sym (same d)) in
    let len : first_day + length statuses ≡ last_day + 1 = s.len in
    let r : first_day + length ranks ≡ last_day + 1 = t.ranks_len in
    let r' : length (ranks ++ n ∷ []) ≡ length ranks + 1 = length-append ranks (n ∷ []) in
    record {
      statuses_len = len;
      ranks_len = omega arith;
      ranks_are = pushed (λ i v. v ≡ work_days_before (is_work_in statuses) (first_day + i)) ranks n 0
          (λ i h. t.ranks_are i h ∙ counts (first_day + i)) (count ∙
          t.days_len ∙ counts (last_day + 1) ∙ ap (work_days_before (is_work_in statuses)) (sym r));
      days_len = t.days_len ∙ counts (last_day + 1);
      days_are = λ k h. IsNthWorkDay-same work (is_work_in statuses) (λ d. sym (same d)) k _ (t.days_are k h);
    }

-- ---- asking them

no_answer : {P : Type 0} (b : Bool) → b ≡ true → b ≡ false → P
no_answer b h g = let e : true ≡ false = sym h ∙ g in cc

module _ (work : ℕ → Bool) (end : ℕ) (past : (x : ℕ) → end ≤ x → IsFalse (work x)) where
  past_count : (k : ℕ) → (k < work_days_before work end → false ≡ true) → work_days_before work end ≤ k
  past_count k found = by (cases_lt k (work_days_before work end))
    where
      by : (k < work_days_before work end) ⊎ (work_days_before work end ≤ k) → work_days_before work end ≤ k
      by (inl l) = no_answer false (found l) refl
      by (inr g) = g

  pub none_is_nth : (k : ℕ) (r : Option ℕ) → (k < work_days_before work end → IsSome r) →
      IfSome r (IsNthWorkDay work k) → (IsNone r → (d : ℕ) → ¬ (IsNthWorkDay work k d)) ×
      (((d : ℕ) → ¬ (IsNthWorkDay work k d)) → IsNone r)
  none_is_nth k None found value =
      (λ _. IsNthWorkDay-none work k end past (past_count k found), λ _. refl)
  none_is_nth k (Some e) found value =
      (λ none. no_answer true refl none, λ none. absurd (none e value))

  pub none_is_next : (d k : ℕ) (r : Option ℕ) → k ≡ work_days_before work (d + 1) →
      (k < work_days_before work end → IsSome r) → IfSome r (IsNthWorkDay work k) →
      (IsNone r → HasNoWorkDayAfter work d) × (HasNoWorkDayAfter work d → IsNone r)
  none_is_next d k None e found value = (
    λ _. HasNoWorkDayAfter-from_count work d end past (subst
        (λ n. work_days_before work end ≤ n) e (past_count k found)),
    λ _. refl,
  )
  none_is_next d k (Some x) e found value =
      let next = IsNextWorkDay-from_nth work d x (subst (λ n. IsNthWorkDay work n x) e value) in
      (λ none. no_answer true refl none, λ none. no_answer (work x) next.is_work (none x next.later))

  pub value_is_next : (d k : ℕ) (r : Option ℕ) → k ≡ work_days_before work (d + 1) →
      IfSome r (IsNthWorkDay work k) → IfSome r (IsNextWorkDay work d)
  value_is_next d k None e value = tt
  value_is_next d k (Some x) e value =
      IsNextWorkDay-from_nth work d x (subst (λ n. IsNthWorkDay work n x) e value)

  pub none_is_previous : (d k : ℕ) (r : Option ℕ) → work_days_before work d ≡ k + 1 →
      d ≤ end → (k < work_days_before work end → IsSome r) →
      IfSome r (IsNthWorkDay work k) → (IsNone r → HasNoWorkDayBefore work d) × (HasNoWorkDayBefore work d → IsNone r)
  none_is_previous d k None e in_range found value =
      let a = work_days_before-mono work d end in_range in
      let b = past_count k found in
      absurd (omega arith)
  none_is_previous d k (Some x) e in_range found value =
      let previous = IsPreviousWorkDay-from_nth work d x k e value in
      (λ none. no_answer true refl none, λ none. no_answer (work x) previous.is_work (none x previous.earlier))

  pub value_is_previous : (d k : ℕ) (r : Option ℕ) → work_days_before work d ≡ k + 1 →
      IfSome r (IsNthWorkDay work k) → IfSome r (IsPreviousWorkDay work d)
  value_is_previous d k None e value = tt
  value_is_previous d k (Some x) e value = IsPreviousWorkDay-from_nth work d x k e value
