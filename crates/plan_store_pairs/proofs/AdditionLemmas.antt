-- An occurrence that is added by hand is what the machine adds.
use Rattle.std.proofs.Common.{◌≡◌, ◌≢◌, ◌⊎◌, ℕ, suc, ◌+◌, ◌<◌, ◌≤◌, true, false, [], ◌∷◌, refl, sym, ap}
use Rattle.std.proofs.Common.{subst, ◌∙◌, inl, inr, arith, Option, Some, None}
use Rattle.std.specs.Prelude.{nat_eq, unwrap_or, Ok, Err, if◌then◌else◌}
use Rattle.std.proofs.lemmas.Bool.{cases_eq, cases_lt, eqb-true, eqb-false}
use Rattle.work_calendars.specs.Minute.{minutes_per_day}
use Rattle.work_calendars.specs.Moment.{day_of_moment, minute_of_moment, moment_of}
use Rattle.occurrences.specs.Place.{IsLive, IsOpen}
use Rattle.occurrences.specs.Refusal.{refusal_number}
use Rattle.occurrences.specs.declared.key.Key.{Key}
use Rattle.occurrences.specs.declared.place.Place.{Place}
use Rattle.occurrences.specs.declared.place.Place.TheVariants.{LongTerm as InLongTerm, Current as InCurrent}
use Rattle.occurrences.specs.declared.refusal.Refusal.{Refusal}
use Rattle.occurrences.specs.declared.refusal.Refusal.TheVariants.{DatesOutOfRange, KeyIsLive, NoActiveApplication}
use Rattle.occurrences.specs.declared.refusal.Refusal.TheVariants.{NoPlan, TooManyRows}
use Rattle.occurrences.specs.declared.reply.Reply.TheVariants.{Numbered}
use Rattle.occurrences.specs.declared.row.Row.{Row}
use Rattle.occurrences.specs.declared.serial.TheConstants.{GREATEST_SERIAL}
use Rattle.occurrences.specs.declared.status.Status.TheVariants.{W, D}
use Rattle.external_dependencies.specs.declared.rows.PlacedRow.{PlacedRow}
use Rattle.planner_machine.specs.declared.content.Bounds.{Bounds}
use Rattle.planner_machine.specs.declared.limits.TheConstants.{MOST_PLANNED_ROWS}
use Rattle.planner_machine.specs.Add.{AddRefused, Adds, IsLiveKey, IsOutside, add}
use Rattle.planner_machine.specs.Content.{Content, Seat, Sets, IsOnlyAt, alone, empty_seat, seat}
use Rattle.planner_machine.specs.DailyPlan.{waiting}
use Rattle.planner_machine.specs.Drafts.{added}
use Rattle.planner_machine.specs.Fate.{Stays}
use Rattle.planner_machine.specs.InForce.{PutsNone}
use Rattle.planner_machine.specs.Laws.{Follows}
use Rattle.planner_machine.specs.Moves.{bit, numbered_row, or_else, size, with_made}
use Rattle.planner_machine.specs.Pairs.{ArePairs}
use Rattle.planner_machine.specs.Plans.{ChangesPlans, HoldTooMany, IsPlannedApp, planned}
use Rattle.planner_machine.specs.Sound.{IsSound}
use Rattle.planner_machine.proofs.AddLemmas.{add_sound}
use Rattle.planner_machine.proofs.MadeLemmas.{made_follows}
use Rattle.planner_machine.specs.RowsSound.{RowsSound}
use Rattle.planner_machine.proofs.SeatLemmas.{cases_issued, not_empty}
use Rattle.planner_machine.proofs.SoundLemmas.{rows_sound}
use Rattle.plan_store_lists.specs.Rows.{of_current, of_deletion, of_row}
use Rattle.plan_store.specs.Changes.{Fits, FitsSet, after, jobs_after, lists_after, moved_set, pairs_after, redefined}
use Rattle.plan_store.specs.Changes.{sets_after}
use Rattle.plan_store.specs.Verdicts.{VerdictIs}
use Rattle.plan_store.specs.declared.changes.Change.{Change}
use Rattle.plan_store.specs.declared.changes.Verdict.{Verdict}
use Rattle.plan_store.specs.declared.changes.Verdict.TheVariants.{Done, Refused}
use Rattle.plan_store.proofs.ViewLemmas.{size_same}
use Rattle.plan_store_pairs.specs.Additions.{AddsRow, HasRoomForOne, IsAddable, IsAdditionOf, IsNewRow}
use Rattle.plan_store_pairs.specs.Additions.{place_in}
use Rattle.plan_store_pairs.specs.declared.additions.Plan.{Plan}
use Rattle.plan_store_pairs.specs.declared.additions.Plan.TheVariants.{LongTerm, Current}
use Rattle.plan_store_pairs.proofs.OneMoreLemmas.{HasOneMore}
use Rattle.plan_store_pairs.proofs.SetLemmas.{fits_nothing, fits_one, moves_nothing, moves_one}

some_of : {X : Type 0} (o : Option X) → (o ≡ None → ⊥) → (x : X) × (o ≡ Some x)
some_of None some = absurd (some refl)
some_of (Some x) some = (x, refl)

-- one more serial
size_next : {X : Type 0} (f : ℕ → Option X) (n : ℕ) → size f (n + 1) ≡ size f n + bit (f (n + 1))
size_next f n = let same : suc n ≡ n + 1 = omega arith in
    subst (λ k. size f k ≡ size f n + bit (f k)) same refl

-- the sets with one row more, where no live row has its key
module _ (place : Place) (key : Key) (c : Sets) (sound : RowsSound c) (b : Bounds) (bounded : c.bounds ≡ Some b)
    (inside : IsOutside b key.ia place → ⊥) (free : IsLiveKey c key → ⊥) where
  abbrev row : Row
  row = numbered_row (c.issued + 1) (added key)

  abbrev new : PlacedRow
  new = record { row = row; place = place }

  abbrev c' : Sets
  c' = with_made place (added key ∷ []) c

  sound' : RowsSound c'
  sound' = add_sound place key c sound b bounded inside free

  follows : Follows place Stays (added key ∷ []) c c'
  follows = made_follows place c sound (added key ∷ [])

  new_stands : IsOnlyAt c' (c.issued + 1) new
  new_stands =
      let same : c.issued + 1 + 0 ≡ c.issued + 1 = omega arith in
      subst (λ n. IsOnlyAt c' n (record { row = numbered_row n (added key); place = place })) same
      (follows.new 0 (added key) refl)

  old_stands : (serial : ℕ) (p : PlacedRow) → IsOnlyAt c serial p → IsOnlyAt c' serial p
  old_stands serial p there = let (q, same, at) = follows.old serial p there in subst (IsOnlyAt c' serial) same at

  same_seat : (serial : ℕ) → serial ≢ c.issued + 1 → seat c' serial ≡ seat c serial
  same_seat serial other = elim (cases_issued c.issued serial) [
    | inl within ↦
        let (p, there) = sound.placed serial within.0 within.1 in
        old_stands serial p there ∙ sym there
    | inr past ↦ sound'.unissued serial (beyond past) ∙ sym (sound.unissued serial past)
  ]
    where
      beyond : (serial ≡ 0) ⊎ (c.issued < serial) → (serial ≡ 0) ⊎ (c'.issued < serial)
      beyond (inl zero) = inl zero
      beyond (inr past) = inr (omega arith)

  -- the sets with the new one have one live occurrence more
  pub more_with : IsLive place → HasOneMore c c' row place
  more_with lives = record {
    stands = new_stands;
    lives = lives;
    absent = λ p stands live. not_empty c (c.issued + 1) p stands (sound.unissued (c.issued + 1) (inr (omega arith)));
    others = λ serial other p. ((λ at. same_seat serial other ∙ at), λ at. sym (same_seat serial other) ∙ at);
    numbered = sound'.numbered;
    own_key = λ serial p stands live same.
        sound'.keys serial (c.issued + 1) p new stands new_stands live lives same;
  }

  -- a set that gets the row
  pub part_after : {X : Type 0} (part : Seat → X) (serial : ℕ)
      → (if nat_eq (c.issued + 1) serial then part (alone row place) else part (seat c serial)) ≡ part (seat c' serial)
  part_after part serial = elim (nat_eq (c.issued + 1) serial) as (λ b. nat_eq (c.issued + 1) serial ≡ b
      → (if b then part (alone row place) else part (seat c serial)) ≡ part (seat c' serial)) [
        | true ↦ λ e. ap part (sym (subst (λ n. IsOnlyAt c' n new) (eqb-true _ _ e) new_stands))
        | false ↦ λ e. ap part (sym (same_seat serial (λ same. eqb-false _ _ e (sym same))))
      ] refl

  -- a set that doesn't
  pub part_same : {X : Type 0} (part : Seat → Option X) → part (alone row place) ≡ None → part empty_seat ≡ None
      → (serial : ℕ) → part (seat c serial) ≡ part (seat c' serial)
  part_same part none none' serial = elim (cases_eq serial (c.issued + 1)) [
    | inl here ↦ ap part (sound.unissued serial (inr (omega arith))) ∙ none' ∙ sym none
        ∙ ap part (sym (subst (λ n. IsOnlyAt c' n new) (sym here) new_stands))
    | inr other ↦ ap part (sym (same_seat serial other))
  ]

  pub part_new : {X : Type 0} (part : Seat → Option X) → part empty_seat ≡ None → part (seat c (c.issued + 1)) ≡ None
  part_new part none = ap part (sound.unissued (c.issued + 1) (inr (omega arith))) ∙ none

  part_size : {X : Type 0} (part : Seat → Option X)
      → size (λ serial. part (seat c' serial)) (c.issued + 1)
      ≡ size (λ serial. part (seat c serial)) c.issued + bit (part (alone row place))
  part_size part =
      let before = size_same (λ serial. part (seat c' serial)) (λ serial. part (seat c serial)) c.issued
      (λ serial le. ap part (same_seat serial (λ same. omega (arith, same, le)))) in
      let own = ap (λ s. bit (part s)) new_stands in
      let next = size_next (λ serial. part (seat c' serial)) c.issued in
      omega (arith, before, own, next)

  pub one_more : bit (alone row place).ltp + bit (alone row place).cp ≡ 1 → planned c' ≡ planned c + 1
  one_more one =
      let first = part_size (λ (s : Seat). s.ltp) in
      let second = part_size (λ (s : Seat). s.cp) in
      omega (arith, first, second, one)

plan_takes_one : (plan : Plan) (row : Row)
    → bit (alone row (place_in plan)).ltp + bit (alone row (place_in plan)).cp ≡ 1
plan_takes_one LongTerm _ = refl
plan_takes_one Current _ = refl

pub plan_is_live : (plan : Plan) → IsLive (place_in plan)
plan_is_live LongTerm = tt
plan_is_live Current = λ is. let no : W ≡ D = is in cc

-- a day after the arrival
pub due_is : (ia day due minute deadline : ℕ) → deadline ≡ moment_of due minute → due ≡ day + 1
    → day ≡ day_of_moment ia → minute ≡ minute_of_moment ia → deadline ≡ ia + minutes_per_day
due_is ia day due minute deadline a b c d = omega arith

-- whether there is room for one more
module _ (s : Sets) where
  pub room : planned s < MOST_PLANNED_ROWS → s.issued < GREATEST_SERIAL → HasRoomForOne s
  room few left = record { rows = few; issued = left }

  no_room : (HasRoomForOne s → ⊥) → (MOST_PLANNED_ROWS ≤ planned s) ⊎ (GREATEST_SERIAL ≤ s.issued)
  no_room none = elim (cases_lt (planned s) MOST_PLANNED_ROWS) [
    | inl few ↦ elim (cases_lt s.issued GREATEST_SERIAL) [
      | inl left ↦ absurd (none (room few left))
      | inr used ↦ inr used
    ]
    | inr full ↦ inl full
  ]

-- the row that is added, or the least refusal
module _ (c : Content) (sound : IsSound c) (plan : Plan) (key : Key) where
  abbrev Refuses : Refusal → Type 0
  Refuses = AddRefused (place_in plan) key c

  -- no refusal of a lesser number
  at_least : (n : ℕ) → (c.sets.bounds ≡ None → n ≤ 20)
      → ((b : Bounds) → c.sets.bounds ≡ Some b → IsOutside b key.ia (place_in plan) → n ≤ 24)
      → ((IsPlannedApp c.definitions key.app → ⊥) → n ≤ 26) → (IsLiveKey c.sets key → n ≤ 27) → n ≤ 31
      → (q : Refusal) → Refuses q → n ≤ refusal_number q
  at_least n none out inactive live most NoPlan q = none q
  at_least n none out inactive live most DatesOutOfRange (b, is, q) = out b is q
  at_least n none out inactive live most NoActiveApplication q = inactive q
  at_least n none out inactive live most KeyIsLive q = live q
  at_least n none out inactive live most TooManyRows q = most
  at_least n none out inactive live most _ q = absurd q

  module _ (b : Bounds) (bounded : c.sets.bounds ≡ Some b) where
    planned_already : {n : ℕ} → c.sets.bounds ≡ None → n ≤ 20
    planned_already none = let no : None ≡ Some b = sym none ∙ bounded in absurd cc

    module _ (inside : IsOutside b key.ia (place_in plan) → ⊥) where
      inside_already : {n : ℕ} → (b' : Bounds) → c.sets.bounds ≡ Some b' → IsOutside b' key.ia (place_in plan) → n ≤ 24
      inside_already b' is out =
          let same : Some b ≡ Some b' = sym bounded ∙ is in
          let one : b' ≡ b = cc in
          absurd (inside (subst (λ (x : Bounds). IsOutside x key.ia (place_in plan)) one out))

      module _ (active : IsPlannedApp c.definitions key.app) where
        module _ (free : IsLiveKey c.sets key → ⊥) where
          more : planned (with_made (place_in plan) (added key ∷ []) c.sets) ≡ planned c.sets + 1
          more = one_more (place_in plan) key c.sets (rows_sound c sound) b bounded inside free
              (plan_takes_one plan (numbered_row (c.sets.issued + 1) (added key)))

          pub new_too_many : (HasRoomForOne c.sets → ⊥) → IsNewRow c plan key (Err TooManyRows)
          new_too_many none = (
            (Numbered (c.sets.issued + 1), with_made (place_in plan) (added key ∷ []) c.sets, (refl, refl), held),
            at_least 31 planned_already inside_already (λ no. absurd (no active)) (λ live. absurd (free live))
                (omega arith),
          )
            where
              held : HoldTooMany (with_made (place_in plan) (added key ∷ []) c.sets)
              held = elim (no_room c.sets none) [
                | inl full ↦ inl (omega (arith, more, full))
                | inr used ↦ inr (omega (arith, used))
              ]

          pub new_row : HasRoomForOne c.sets → IsNewRow c plan key (Ok (numbered_row (c.sets.issued + 1) (added key)))
          new_row one = (record { unrefused = none; numbered = refl }, refl)
            where
              none : (q : Refusal) → Refuses q → ⊥
              none NoPlan q = let no : None ≡ Some b = sym q ∙ bounded in cc
              none DatesOutOfRange (b', is, out) = absurd (omega (arith, inside_already {n = 25} b' is out))
              none NoActiveApplication q = q active
              none KeyIsLive q = free q
              none TooManyRows (reply, s, (replies, is), held) = elim (subst HoldTooMany is held) [
                | inl full ↦ absurd (omega (arith, more, one.rows, full))
                | inr used ↦ absurd (omega (arith, one.issued, used))
              ]
              none _ q = q

-- the change that adds the row
module _ (c : Content) (sound : IsSound c) (key : Key) where
  abbrev made_row : Row
  made_row = numbered_row (c.sets.issued + 1) (added key)

  module _ (b : Bounds) (bounded : c.sets.bounds ≡ Some b) (free : IsLiveKey c.sets key → ⊥) (change : Change) where
    rows : RowsSound c.sets
    rows = rows_sound c sound

    fits_planned : (plan : Plan) → IsAdditionOf c plan made_row change → (IsOutside b key.ia (place_in plan) → ⊥)
        → FitsSet of_row change.ltp c.sets.ltp
    fits_planned LongTerm is inside = fits_one of_row change.ltp c.sets.ltp made_row is.none_planned_gone
        is.none_planned_changed is.put.0
        (part_new InLongTerm key c.sets rows b bounded inside free (λ (s : Seat). s.ltp) refl)
    fits_planned Current is inside = fits_nothing of_row change.ltp c.sets.ltp
        (record { gone = is.none_planned_gone; changed = is.none_planned_changed; put = is.put.0 })

    fits_current : (plan : Plan) → IsAdditionOf c plan made_row change → (IsOutside b key.ia (place_in plan) → ⊥)
        → FitsSet of_current change.cp c.sets.cp
    fits_current LongTerm is inside = fits_nothing of_current change.cp c.sets.cp
        (record { gone = is.none_current_gone; changed = is.none_current_changed; put = is.put.1 })
    fits_current Current is inside = fits_one of_current change.cp c.sets.cp (waiting made_row) is.none_current_gone
        is.none_current_changed is.put.1
        (part_new (InCurrent W) key c.sets rows b bounded inside free (λ (s : Seat). s.cp) refl)

    planned_is : (plan : Plan) → IsAdditionOf c plan made_row change → (IsOutside b key.ia (place_in plan) → ⊥)
        → (serial : ℕ) → moved_set of_row change.ltp c.sets.ltp serial
        ≡ (seat (with_made (place_in plan) (added key ∷ []) c.sets) serial).ltp
    planned_is LongTerm is inside serial = moves_one of_row change.ltp c.sets.ltp made_row is.none_planned_gone
        is.none_planned_changed is.put.0 serial
        ∙ part_after InLongTerm key c.sets rows b bounded inside free (λ (s : Seat). s.ltp) serial
    planned_is Current is inside serial = moves_nothing of_row change.ltp c.sets.ltp
        (record { gone = is.none_planned_gone; changed = is.none_planned_changed; put = is.put.0 }) serial
        ∙ part_same (InCurrent W) key c.sets rows b bounded inside free (λ (s : Seat). s.ltp) refl refl serial

    current_is : (plan : Plan) → IsAdditionOf c plan made_row change → (IsOutside b key.ia (place_in plan) → ⊥)
        → (serial : ℕ) → moved_set of_current change.cp c.sets.cp serial
        ≡ (seat (with_made (place_in plan) (added key ∷ []) c.sets) serial).cp
    current_is LongTerm is inside serial = moves_nothing of_current change.cp c.sets.cp
        (record { gone = is.none_current_gone; changed = is.none_current_changed; put = is.put.1 }) serial
        ∙ part_same InLongTerm key c.sets rows b bounded inside free (λ (s : Seat). s.cp) refl refl serial
    current_is Current is inside serial = moves_one of_current change.cp c.sets.cp (waiting made_row)
        is.none_current_gone
        is.none_current_changed is.put.1 serial
        ∙ part_after (InCurrent W) key c.sets rows b bounded inside free (λ (s : Seat). s.cp) serial

    history_is : (plan : Plan) → (IsOutside b key.ia (place_in plan) → ⊥) → (serial : ℕ)
        → c.sets.history serial ≡ (seat (with_made (place_in plan) (added key ∷ []) c.sets) serial).history
    history_is LongTerm inside = part_same InLongTerm key c.sets rows b bounded inside free (λ (s : Seat). s.history)
        refl refl
    history_is Current inside = part_same (InCurrent W) key c.sets rows b bounded inside free (λ (s : Seat). s.history)
        refl refl

    deletions_are : (plan : Plan) → (IsOutside b key.ia (place_in plan) → ⊥) → (serial : ℕ)
        → c.sets.deletions serial ≡ (seat (with_made (place_in plan) (added key ∷ []) c.sets) serial).deletions
    deletions_are LongTerm inside = part_same InLongTerm key c.sets rows b bounded inside free
        (λ (s : Seat). s.deletions) refl refl
    deletions_are Current inside = part_same (InCurrent W) key c.sets rows b bounded inside free
        (λ (s : Seat). s.deletions) refl refl

    module _ (plan : Plan) (is : IsAdditionOf c plan made_row change) (inside : IsOutside b key.ia (place_in plan) → ⊥)
      where
        pub addition_fits : Fits change c
        addition_fits = record {
          ltp = fits_planned plan is inside;
          cp = fits_current plan is inside;
          history = fits_nothing of_row change.history c.sets.history is.history;
          deletions = fits_nothing of_deletion change.deletions c.sets.deletions is.deletions;
          job = λ job kept. let no : None ≡ Some job = sym is.job ∙ kept in cc;
        }

        sets_are : sets_after change c.sets ≡ with_made (place_in plan) (added key ∷ []) c.sets
        sets_are = λ i. record {
          bounds = ap (λ o. or_else o c.sets.bounds) is.bounds i;
          issued = ap (λ o. unwrap_or o c.sets.issued) is.issued i;
          ltp = λ serial. planned_is plan is inside serial i;
          cp = λ serial. current_is plan is inside serial i;
          history = λ serial. (moves_nothing of_row change.history c.sets.history is.history serial
              ∙ history_is plan inside serial) i;
          deletions = λ serial. (moves_nothing of_deletion change.deletions c.sets.deletions is.deletions serial
              ∙ deletions_are plan inside serial) i;
        }

        pub addition_does : ChangesPlans (Adds (place_in plan) key) PutsNone c (Numbered (c.sets.issued + 1))
            (after change c)
        addition_does = record {
          rows = (refl, sets_are);
          lists = ap (λ o. lists_after o c.in_force) is.in_force;
          pairs =
              let lists : lists_after change.in_force c.in_force ≡ c.in_force =
              ap (λ o. lists_after o c.in_force) is.in_force in
              subst (λ l. ArePairs c.pairs l (sets_after change c.sets) (pairs_after change.pairs c.pairs)) (sym lists)
              (subst (λ s. ArePairs c.pairs c.in_force s (pairs_after change.pairs c.pairs)) (sym sets_are) is.pairs);
          definitions = ap (λ d. redefined d c.definitions) is.definitions;
          jobs = ap (λ j. jobs_after j c.jobs) is.job;
        }

done_is : (c : Content) → IsSound c → (plan : Plan) (key : Key)
    → ((q : Refusal) → AddRefused (place_in plan) key c q → ⊥) → (verdict : Verdict)
    → AddsRow c plan (numbered_row (c.sets.issued + 1) (added key)) verdict
    → VerdictIs (add (place_in plan) key) c verdict
done_is c sound plan key none (Done change reply) (is, replies) =
    let (b, bounded) = some_of c.sets.bounds (λ h. none NoPlan h) in
    let inside = λ (out : IsOutside b key.ia (place_in plan)). none DatesOutOfRange (b, bounded, out) in
    let free = λ (live : IsLiveKey c.sets key). none KeyIsLive live in
    let does = addition_does c sound key b bounded free change plan is inside in (
      addition_fits c sound key b bounded free change plan is inside,
      (none, subst (λ r. ChangesPlans (Adds (place_in plan) key) PutsNone c r (after change c)) (sym replies) does),
      is.leads,
    )
done_is c sound plan key none (Refused refusal) is = absurd is

-- the verdict is what the machine decides
pub verdict_is : (c : Content) → IsSound c → (plan : Plan) (row : Row) → IsAddable c plan row → (verdict : Verdict)
    → AddsRow c plan row verdict → VerdictIs (add (place_in plan) row.key) c verdict
verdict_is c sound plan row able verdict adds =
    done_is c sound plan row.key able.unrefused verdict
    (subst (λ (r : Row). AddsRow c plan r verdict) able.numbered adds)

-- the sets with the row have one live occurrence more
pub addable_more : (c : Content) → IsSound c → (plan : Plan) (row : Row) → IsAddable c plan row
    → HasOneMore c.sets (with_made (place_in plan) (added row.key ∷ []) c.sets) row (place_in plan)
addable_more c sound plan row able =
    let (b, bounded) = some_of c.sets.bounds (λ h. able.unrefused NoPlan h) in
    let inside = λ (out : IsOutside b row.key.ia (place_in plan)). able.unrefused DatesOutOfRange (b, bounded, out) in
    let free = λ (live : IsLiveKey c.sets row.key). able.unrefused KeyIsLive live in
    let is = more_with (place_in plan) row.key c.sets (rows_sound c sound) b bounded inside free (plan_is_live plan) in
    subst (λ (r : Row). HasOneMore c.sets (with_made (place_in plan) (added row.key ∷ []) c.sets) r (place_in plan))
    (sym able.numbered) is

-- what is added is open
pub plan_is_open : (plan : Plan) → IsOpen (place_in plan)
plan_is_open LongTerm = tt
plan_is_open Current = refl
