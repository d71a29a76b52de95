-- The rows and pairs that a window of the long-term plan shows hold what a planning statement reaches.
use Rattle.std.proofs.Common.{◌≡◌, ◌≢◌, ◌↔◌, ◌⊎◌, ℕ, zero, suc, ◌+◌, ◌<◌, ◌≤◌, true, List, [], ◌∷◌, ◌++◌}
use Rattle.std.proofs.Common.{refl, sym, ap, subst, ◌∙◌, inl, inr, arith, Option, None, Some}
use Rattle.std.specs.List.{Contains}
use Rattle.std.proofs.lemmas.Bool.{cases_eq}
use Rattle.std.proofs.lemmas.List.Elements.{Contains-append_left}
use Rattle.occurrences.specs.Place.{IsLive, IsOpen}
use Rattle.occurrences.specs.declared.key.Key.{Key}
use Rattle.occurrences.specs.declared.place.CurrentRow.{CurrentRow}
use Rattle.occurrences.specs.declared.place.Place.{Place}
use Rattle.occurrences.specs.declared.place.Place.TheVariants.{LongTerm, Current, History, Deleted}
use Rattle.occurrences.specs.declared.row.Row.{Row}
use Rattle.occurrences.specs.declared.status.Status.TheVariants.{W}
use Rattle.external_dependencies.specs.Link.{Lists}
use Rattle.external_dependencies.specs.Nearest.{IsCandidate, IsLiveIn, IsNearest, arrival_of}
use Rattle.external_dependencies.specs.Reached.{HoldsReached, IsReachedIn}
use Rattle.external_dependencies.specs.Settled.{IsOnce}
use Rattle.external_dependencies.specs.Touch.{HasRowOf, MayReach}
use Rattle.external_dependencies.specs.declared.links.Link.{Link}
use Rattle.external_dependencies.specs.declared.live.Arrival.{Arrival}
use Rattle.external_dependencies.specs.declared.pairs.Pair.{Pair}
use Rattle.external_dependencies.specs.declared.rows.PlacedRow.{PlacedRow}
use Rattle.external_dependencies.specs.declared.touch.Touch.{Touch}
use Rattle.planner_machine.specs.Content.{Content, Seat, Sets, IsOnlyAt}
use Rattle.planner_machine.specs.DailyPlan.{waiting}
use Rattle.planner_machine.specs.RowsSound.{IsPlacedIn, RowsSound}
use Rattle.planner_machine.specs.Sound.{AreNumbered, IsSound}
use Rattle.planner_machine.specs.declared.content.Bounds.{Bounds}
use Rattle.planner_machine.proofs.SeatLemmas.{cases_issued, not_empty, one_place}
use Rattle.planner_machine.proofs.SoundLemmas.{rows_sound}
use Rattle.plan_store_lists.specs.Rows.{of_current, of_row}
use Rattle.plan_store.specs.HistoryReads.{ReachesApp, ReadsPlan, IsNoLater, ListsEither}
use Rattle.plan_store.specs.Views.{Hidden, IsAny, ListsSet, Sees, needs_pairs, shown, with_hidden}
use Rattle.plan_store.specs.declared.views.View.{View}
use Rattle.plan_store.proofs.PlaceLemmas.{stands_cp, stands_history}
use Rattle.plan_store_pairs.specs.LiveRows.{AreCompleted, AreLiveRows}
use Rattle.plan_store_pairs.specs.Planned.{IsOpenRow}
use Rattle.plan_store_pairs.specs.Turns.{AreKnownLinks, ArePlanned, IsInLists, IsTouchOf}
use Rattle.plan_store_pairs.proofs.ListLemmas.{first_or_later, further, here, none}
use Rattle.plan_store_pairs.proofs.PartLemmas.{asked_row, asked_shown}
use Rattle.plan_store_pairs.proofs.ScratchLemmas.{open_is_live}
use Rattle.plan_store_pairs.proofs.TurnLemmas.{AreListed}

-- ---- history as a list

module _ (s : Sets) (numbered : AreNumbered s) where
  record AreCompletedUpTo (count : ℕ) (rows : List Row) : Type 0 where
    all : (row : Row) → 1 ≤ row.serial → row.serial ≤ count → s.history row.serial ≡ Some row → Contains rows row
    only : (row : Row) → Contains rows row → s.history row.serial ≡ Some row

  has_serial : (serial : ℕ) (row : Row) → s.history serial ≡ Some row → row.serial ≡ serial
  has_serial serial row is = numbered.numbered serial (record { row = row; place = History })
      (stands_history s numbered serial row is)

  one_more : (count : ℕ) (rows : List Row) → AreCompletedUpTo count rows → (o : Option Row)
      → s.history (suc count) ≡ o → (new : List Row) × AreCompletedUpTo (suc count) new
  one_more count rows are None is = (
    rows,
    record {
      all = λ row above below at. elim (cases_eq row.serial (suc count)) [
        | inl last ↦ let no : None ≡ Some row = sym is ∙ subst (λ n. s.history n ≡ Some row) last at in cc
        | inr other ↦ are.all row above (omega arith) at
      ];
      only = are.only;
    },
  )
  one_more count rows are (Some x) is = (
    x ∷ rows,
    record {
      all = λ row above below at. elim (cases_eq row.serial (suc count)) [
        | inl last ↦
            let both : Some x ≡ Some row = sym is ∙ subst (λ n. s.history n ≡ Some row) last at in
            let same : x ≡ row = cc in
            subst (Contains (x ∷ rows)) same (here x rows)
        | inr other ↦ further x row rows (are.all row above (omega arith) at)
      ];
      only = λ row there. elim (first_or_later x row rows there) [
        | inl same ↦ subst (λ (r : Row). s.history r.serial ≡ Some r) same
            (subst (λ n. s.history n ≡ Some x) (sym (has_serial (suc count) x is)) is)
        | inr later ↦ are.only row later
      ];
    },
  )

  completed_up_to : (count : ℕ) → (rows : List Row) × AreCompletedUpTo count rows
  completed_up_to zero = (
    [],
    record { all = λ row above below at. absurd (omega arith); only = λ row there. absurd (none row there) },
  )
  completed_up_to (suc count) =
      let (rows, are) = completed_up_to count in one_more count rows are (s.history (suc count)) refl

  -- there is such a list
  pub completed_rows : (completed : List Row) × AreCompleted s completed
  completed_rows =
      let (rows, are) = completed_up_to s.issued in (
        rows,
        λ row. (
          are.only row,
          λ at. elim (cases_issued s.issued row.serial) [
            | inl within ↦ are.all row within.0 within.1 at
            | inr past ↦ absurd (not_empty s row.serial (record { row = row; place = History })
                (stands_history s numbered row.serial row at) (numbered.unissued row.serial past))
          ],
        ),
      )

-- ---- a part of the rows that has one for each that it lacks

-- a live one of the rows may precede the key in the application, and arrives no earlier
pub record IsBehind (rows : List PlacedRow) (key : Key) (app : List ℕ) (a b : Arrival) : Type 0 where
  pub live : IsLiveIn rows b
  pub candidate : IsCandidate key app None b
  pub ia : a.ia ≤ b.ia
  pub serial : a.ia ≡ b.ia → a.serial ≤ b.serial

-- each live one of all rows that may precede the key in the application has one among these
abbrev pub HasBehind : (now rows : List PlacedRow) → Key → List ℕ → Type 0
HasBehind now rows key app = (a : Arrival) → IsLiveIn now a → IsCandidate key app None a
    → (b : Arrival) × IsBehind rows key app a b

module _ (now rows : List PlacedRow) (part : (q : PlacedRow) → Contains rows q → Contains now q) (key : Key)
    (app : List ℕ) (behind : HasBehind now rows key app) where
  live_now : (a : Arrival) → IsLiveIn rows a → IsLiveIn now a
  live_now a (p, there, live, arrives) = (p, part p there, live, arrives)

  one_arrival : (a b : Arrival) → a.app ≡ b.app → a.ia ≡ b.ia → a.serial ≡ b.serial → a ≡ b
  one_arrival a b app ia serial = λ i. record { app = app i; ia = ia i; serial = serial i }

  nearest_kept : (near : Arrival) → IsNearest (IsLiveIn rows) key app None near
      → IsNearest (IsLiveIn now) key app None near
  nearest_kept near is = record {
    live = live_now near is.live;
    candidate = is.candidate;
    greatest = λ other live may.
        let (b, is_behind) = behind other live may in
        let le = is_behind.ia in
        let below = is.greatest b is_behind.live is_behind.candidate in
        omega (arith, le, below);
    last = λ other live may same.
        let (b, is_behind) = behind other live may in
        let le = is_behind.ia in
        let below = is.greatest b is_behind.live is_behind.candidate in
        let tie : b.ia ≡ near.ia = omega (arith, le, below, same) in
        let own = is_behind.serial (same ∙ sym tie) in
        let serials = is.last b is_behind.live is_behind.candidate tie in
        omega (arith, own, serials);
  }

  nearest_there : (near : Arrival) → IsNearest (IsLiveIn now) key app None near
      → IsNearest (IsLiveIn rows) key app None near
  nearest_there near is =
      let (b, is_behind) = behind near is.live is.candidate in
      let le = is_behind.ia in
      let below = is.greatest b (live_now b is_behind.live) is_behind.candidate in
      let tie : b.ia ≡ near.ia = omega (arith, le, below) in
      let own = is_behind.serial (sym tie) in
      let serials = is.last b (live_now b is_behind.live) is_behind.candidate tie in
      let one : b ≡ near = one_arrival b near (is_behind.candidate.of_app ∙ sym is.candidate.of_app) tie
      (omega (arith, own, serials)) in
      record {
        live = subst (IsLiveIn rows) one is_behind.live;
        candidate = is.candidate;
        greatest = λ other live. is.greatest other (live_now other live);
        last = λ other live. is.last other (live_now other live);
      }

  pub behind_nearest : (near : Arrival) → IsNearest (IsLiveIn rows) key app None near
      ↔ IsNearest (IsLiveIn now) key app None near
  behind_nearest near = (nearest_kept near, nearest_there near)

-- so the part holds what is reached, with the pairs of what is reached
pub shown_hold : (touch : Touch) (links : List Link) (now rows : List PlacedRow) (old pairs : List Pair)
    → ((q : PlacedRow) → Contains rows q → Contains now q)
    → ((q : PlacedRow) → Contains now q → IsOpen q.place → MayReach touch links q.row → Contains rows q
    × ((app : List ℕ) → Lists links q.row.key.app app → HasBehind now rows q.row.key app))
    → ((pair : Pair) → Contains pairs pair → Contains old pair)
    → ((pair : Pair) → Contains old pair → IsReachedIn touch links now pair.successor
    ⊎ HasRowOf touch.withdrawn.items pair.successor → Contains pairs pair)
    → HoldsReached touch links now old rows pairs
shown_hold touch links now rows old pairs part has stood had = record {
  rows_stand = part;
  reached = λ q there is_open reach. (has q there is_open reach).0;
  nearest = λ q there is_open reach app listed. behind_nearest now rows part q.row.key app
      ((has q there is_open reach).1 app listed);
  pairs_stood = stood;
  had = had;
}

-- ---- what a window of the long-term plan shows

-- a row of history is shown that may precede the key, and arrives no earlier than that one
pub record HasShown (lasts : List Row) (key : Key) (app : List ℕ) (row : Row) : Type 0 where
  pub r : Row
  pub there : Contains lasts r
  pub candidate : IsCandidate key app None (arrival_of r)
  pub no_later : IsNoLater row r

-- of the same bounds, history arrives before the long-term plan
before_planned : (o : Option Bounds) (row late : Row) → IsPlacedIn o (record { row = row; place = History })
    → IsPlacedIn o (record { row = late; place = LongTerm }) → row.key.ia < late.key.ia
before_planned None row late first second = absurd first
before_planned (Some b) row late first second =
    let end = first.1 in
    let begun = second.0 in
    omega (arith, end, begun)

before_end : (o : Option Bounds) (row : Row) → IsPlacedIn o (record { row = row; place = History })
    → (b : Bounds) × (o ≡ Some b) × (row.key.ia < b.plan_end)
before_end None row placed = absurd placed
before_end (Some b) row placed = (b, refl, placed.1)

-- from the content that a window of the long-term plan shows with what it hides, to the sets after a statement, which
-- leaves history and the current plan
module _ (only : Option (List ℕ)) (h : Hidden) (view : View) (sound : IsSound (with_hidden h view))
    (sees : Sees None (ReadsPlan only (with_hidden h view)) h view) (links : List Link)
    (known : AreKnownLinks (with_hidden h view) links) (s : Sets) (planned : List Row) (current : List CurrentRow)
    (current_are : ListsSet of_current (shown view).sets.cp IsAny current) (completed lasts : List Row)
    (lasts_are : ListsSet of_row (shown view).sets.history IsAny lasts)
    (completed_are : AreCompleted (with_hidden h view).sets completed) (sound_then : RowsSound s)
    (now : List PlacedRow) (live : AreLiveRows s now) (listed : AreListed planned current completed now) where
  abbrev c : Content
  c = with_hidden h view

  -- what lives after the statement arrives in the bounds then
  placed_then : (p : PlacedRow) → Contains now p → IsPlacedIn s.bounds p
  placed_then p there = sound_then.arrivals p.row.serial p (live.only p there).0

  history_placed : (row : Row) → h.history row.serial ≡ Some row
      → IsPlacedIn s.bounds (record { row = row; place = History })
  history_placed row at = placed_then (record { row = row; place = History })
      ((listed (record { row = row; place = History })).1 (inr (inr ((completed_are row).1 at, refl))))

  seen_part : (row : Row) → (shown view).sets.history row.serial ≡ Some row → h.history row.serial ≡ Some row
  seen_part row at = (sees.lasts.only row.serial row at).0

  in_lasts : (row : Row) → (shown view).sets.history row.serial ≡ Some row → Contains lasts row
  in_lasts row at = (lasts_are.exactly row).1 (at, tt)

  known_list : (app name : List ℕ) → Lists links app name → ListsEither c app name
  known_list app name (hours, there) = elim (known (record { app = app; predecessor = name; within = hours }) there) [
    | inl stood ↦ inl (hours, stood)
    | inr defined ↦ inr (hours, defined)
  ]

  -- before a row of the long-term plan
  near_planned : (late : Row) → ReachesApp only c.in_force late.key.app → Contains planned late → (app : List ℕ) → Lists links late.key.app app → (row : Row)
      → h.history row.serial ≡ Some row → row.key.app ≡ app → HasShown lasts late.key app row
  near_planned late reaches there app names row at of_app =
      let (b, bounded, early) = before_end c.sets.bounds row ((rows_sound c sound).arrivals row.serial
      (record { row = row; place = History }) (stands_history c.sets sound.serials row.serial row at)) in
      let (r, is_shown, of_one, early_too, no_later) = sees.lasts.lasts app (b.plan_end + 1)
      (late.key.app, reaches, inr (b, bounded, refl, known_list late.key.app app names)) row.serial row at of_app
      (omega (arith, early)) in
      let lt : r.key.ia < late.key.ia = before_planned s.bounds r late (history_placed r (seen_part r is_shown))
      (placed_then (record { row = late; place = LongTerm })
      ((listed (record { row = late; place = LongTerm })).1 (inl (there, refl)))) in
      record {
        r = r;
        there = in_lasts r is_shown;
        candidate = record {
          of_app = of_one;
          in_time = omega (arith, lt);
          before_own = λ _. lt;
          close = tt;
        };
        no_later = no_later;
      }

  -- a row of history has not the key of one that waits
  other_key : (late : Row) → c.sets.cp late.serial ≡ Some (waiting late) → (r : Row) → h.history r.serial ≡ Some r
      → r.key ≢ late.key
  other_key late stands r at same =
      let first : PlacedRow = record { row = r; place = History } in
      let second : PlacedRow = record { row = late; place = Current W } in
      let done = stands_history c.sets sound.serials r.serial r at in
      let waits = stands_cp c.sets sound.serials late.serial (waiting late) stands in
      let serial = sound.keys r.serial late.serial first second done waits tt (λ deleted. cc) same in
      let one = one_place c.sets late.serial first second (subst (λ n. IsOnlyAt c.sets n first) serial done) waits in
      let no : History ≡ Current W = ap (λ (p : PlacedRow). p.place) one in
      cc

  -- before a row that waits in the current plan
  near_waiting : (late : Row) → ReachesApp only c.in_force late.key.app → Contains current (waiting late) → (app : List ℕ) → Lists links late.key.app app
      → (row : Row) → h.history row.serial ≡ Some row → IsCandidate late.key app None (arrival_of row)
      → HasShown lasts late.key app row
  near_waiting late reaches there app names row at candidate =
      let stands = ((current_are.exactly (waiting late)).0 there).0 in
      let in_time : row.key.ia ≤ late.key.ia = candidate.in_time in
      let (r, is_shown, of_one, early, no_later) = sees.lasts.lasts app (late.key.ia + 1)
      (late.key.app, reaches, inl (late, stands, refl, refl, known_list late.key.app app names)) row.serial row at
      candidate.of_app
      (omega (arith, in_time)) in
      record {
        r = r;
        there = in_lasts r is_shown;
        candidate = record {
          of_app = of_one;
          in_time = omega (arith, early);
          before_own = λ own. elim (cases_eq r.key.ia late.key.ia) [
            | inl same ↦
                let app_same : r.key.app ≡ late.key.app = of_one ∙ own in
                let key : r.key ≡ late.key = λ i. record { app = app_same i; ia = same i } in
                absurd (other_key late stands r (seen_part r is_shown) key)
            | inr other ↦ omega (arith, early, other)
          ];
          close = tt;
        };
        no_later = no_later;
      }

  -- before what is open
  near_open : (q : PlacedRow) → ReachesApp only c.in_force q.row.key.app → Contains now q → IsOpen q.place → (app : List ℕ) → Lists links q.row.key.app app
      → (row : Row) → h.history row.serial ≡ Some row → IsCandidate q.row.key app None (arrival_of row)
      → HasShown lasts q.row.key app row
  near_open q reaches there is_open app names row at candidate = elim ((listed q).0 there) [
    | inl first ↦ near_planned q.row reaches first.0 app names row at candidate.of_app
    | inr (inl now) ↦
        let waits : now.status ≡ W = subst IsOpen now.placed is_open in
        near_waiting q.row reaches
        (subst (λ status. Contains current (record { row = q.row; status = status })) waits now.listed) app names row
        at candidate
    | inr (inr done) ↦ absurd (subst IsOpen done.1 is_open)
  ]

  -- rows of some applications: of the long-term plan and the current plan all, and of history what is shown
  module _ (touch : Touch) (Passes : List ℕ → Type 0) (rows : List PlacedRow)
      (are : (p : PlacedRow) → Contains rows p ↔ (IsInLists planned current lasts p × Passes p.row.key.app))
      (pass : (q : PlacedRow) → Contains now q → IsOpen q.place → MayReach touch links q.row
      → Passes q.row.key.app × ((app : List ℕ) → Lists links q.row.key.app app → Passes app))
      (within : (q : PlacedRow) → Contains now q → IsOpen q.place → MayReach touch links q.row
      → ReachesApp only c.in_force q.row.key.app) where
    pub rows_part : (q : PlacedRow) → Contains rows q → Contains now q
    rows_part q there = elim ((are q).0 there).0 [
      | inl first ↦ (listed q).1 (inl first)
      | inr (inl now) ↦ (listed q).1 (inr (inl now))
      | inr (inr last) ↦ (listed q).1 (inr (inr (
        (completed_are q.row).1 (seen_part q.row
            ((lasts_are.exactly q.row).0 last.0).0),
        last.1,
      )))
    ]

    pub open_in : (q : PlacedRow) → Contains now q → IsOpen q.place → Passes q.row.key.app → Contains rows q
    open_in q there is_open passes = elim ((listed q).0 there) [
      | inl first ↦ (are q).1 (inl first, passes)
      | inr (inl now) ↦ (are q).1 (inr (inl now), passes)
      | inr (inr done) ↦ absurd (subst IsOpen done.1 is_open)
    ]

    no_earlier : (row r : Row) → IsNoLater row r → (row.key.ia ≤ r.key.ia)
        × (row.key.ia ≡ r.key.ia → row.serial ≤ r.serial)
    no_earlier row r (inl lt) = (omega (arith, lt), λ tie. absurd (omega (arith, lt, tie)))
    no_earlier row r (inr (tie, le)) = (omega (arith, tie), λ _. le)

    itself : (key : Key) (app : List ℕ) (p : PlacedRow) → Contains rows p → IsLive p.place
        → IsCandidate key app None (arrival_of p.row)
        → (b : Arrival) × IsBehind rows key app (arrival_of p.row) b
    itself key app p there is_live candidate = (
      arrival_of p.row,
      record {
        live = (p, there, is_live, refl);
        candidate = candidate;
        ia = omega arith;
        serial = λ _. omega arith;
      },
    )

    behind_row : (q : PlacedRow) → ReachesApp only c.in_force q.row.key.app → Contains now q → IsOpen q.place → (app : List ℕ) → Lists links q.row.key.app app
        → Passes app → (p : PlacedRow) → Contains now p → IsLive p.place
        → IsCandidate q.row.key app None (arrival_of p.row)
        → (b : Arrival) × IsBehind rows q.row.key app (arrival_of p.row) b
    behind_row q reaches there is_open app names passes p there' is_live candidate =
        let own : Passes p.row.key.app = subst Passes (sym candidate.of_app) passes in
        elim ((listed p).0 there') [
          | inl first ↦ itself q.row.key app p ((are p).1 (inl first, own)) is_live candidate
          | inr (inl now) ↦ itself q.row.key app p ((are p).1 (inr (inl now), own)) is_live candidate
          | inr (inr done) ↦
              let has = near_open q reaches there is_open app names p.row ((completed_are p.row).0 done.0) candidate in
              let order = no_earlier p.row has.r has.no_later in
              let last : PlacedRow = record { row = has.r; place = History } in (
                arrival_of has.r,
                record {
                  live = (
                    last,
                    (are last).1 (inr (inr (has.there, refl)), subst Passes (sym has.candidate.of_app) passes),
                    tt,
                    refl,
                  );
                  candidate = has.candidate;
                  ia = order.0;
                  serial = order.1;
                },
              )
        ]

    pub has_behind : (q : PlacedRow) → ReachesApp only c.in_force q.row.key.app → Contains now q → IsOpen q.place → (app : List ℕ) → Lists links q.row.key.app app
        → Passes app → HasBehind now rows q.row.key app
    has_behind q reaches there is_open app names passes a (p, there', is_live, arrives) candidate =
        subst (λ (x : Arrival). (b : Arrival) × IsBehind rows q.row.key app x b) arrives
        (behind_row q reaches there is_open app names passes p there' is_live
        (subst (IsCandidate q.row.key app None) (sym arrives) candidate))

    -- hold what is reached, with its pairs
    pub seen_hold : (old pairs : List Pair) → ((pair : Pair) → Contains pairs pair → Contains old pair)
        → ((pair : Pair) → Contains old pair → IsReachedIn touch links now pair.successor
        ⊎ HasRowOf touch.withdrawn.items pair.successor → Contains pairs pair)
        → HoldsReached touch links now old rows pairs
    seen_hold old pairs = shown_hold touch links now rows old pairs rows_part (λ q there is_open reach. (
      open_in q there is_open (pass q there is_open reach).0,
      λ app names. has_behind q (within q there is_open reach) there is_open app names ((pass q there is_open reach).1 app names),
    ))

-- ---- the pairs of what is reached

-- the successor of a pair lives
pair_lives : (c : Content) → IsSound c → (pair : Pair) → Contains c.pairs pair
    → (p : PlacedRow) × IsOnlyAt c.sets pair.successor p × IsLive p.place
pair_lives c sound pair there = elim ((sound.pairs.settled.exactly pair).0 there) [
  | inl is ↦ (is.placed, is.stands, open_is_live is.placed.place is.waits)
  | inr is ↦ (is.placed, is.stands, is.live)
]

-- the successor of a pair that is reached, or withdrawn, was an open row, in an application that passes
module _ (c : Content) (sound : IsSound c) (rows stay gone made : List Row) (current : List CurrentRow)
    (current_are : ListsSet of_current c.sets.cp IsAny current) (completed : List Row)
    (completed_are : AreCompleted c.sets completed) (rows_are : ListsSet of_row c.sets.ltp IsAny rows)
    (plan : ArePlanned rows stay gone made) (now : List PlacedRow)
    (listed : AreListed (stay ++ made) current completed now) (once : IsOnce now) (touch : Touch)
    (was_links links : List Link) (is : IsTouchOf gone made was_links links touch) (Passes : List ℕ → Type 0)
    (reached_pass : (q : PlacedRow) → Contains now q → IsOpen q.place → MayReach touch links q.row
    → Passes q.row.key.app) (gone_pass : (row : Row) → Contains gone row → Passes row.key.app) where
  -- a row that was open has the serial, of an application that passes
  abbrev WasOpen : ℕ → Type 0
  WasOpen serial = (row : Row) × IsOpenRow c.sets row × Passes row.key.app × (row.serial ≡ serial)

  of_gone : (serial : ℕ) → HasRowOf touch.withdrawn.items serial → WasOpen serial
  of_gone serial (row, named, same) =
      let there = subst (λ rs. Contains rs row) is.goes named in
      (row, inl ((rows_are.exactly row).0 (plan.gone_stood row there)).0, gone_pass row there, same)

  module _ (q : PlacedRow) (there : Contains now q) (is_open : IsOpen q.place) (reach : MayReach touch links q.row) where
    passes : Passes q.row.key.app
    passes = reached_pass q there is_open reach

    by_place : (place : Place) (row : Row) → IsOnlyAt c.sets q.row.serial (record { row = row; place = place })
        → IsLive place → WasOpen q.row.serial
    by_place LongTerm row stands is_live =
        let numbered : row.serial ≡ q.row.serial = sound.serials.numbered q.row.serial
        (record { row = row; place = LongTerm }) stands in
        let at : c.sets.ltp row.serial ≡ Some row = subst (λ n. c.sets.ltp n ≡ Some row) (sym numbered)
        (ap (λ (x : Seat). x.ltp) stands) in (
          row,
          inl at,
          elim (plan.on row ((rows_are.exactly row).1 (at, tt))) [
            | inl (x, stays, serial, key) ↦
                let p : PlacedRow = record { row = x; place = LongTerm } in
                let one : p ≡ q = once p q ((listed p).1 (inl (Contains-append_left stay made x stays, refl))) there
                (serial ∙ numbered) in
                let app : q.row.key.app ≡ row.key.app = ap (λ (y : PlacedRow). y.row.key.app) (sym one)
                ∙ ap (λ (k : Key). k.app) key in
                subst Passes app passes
            | inr goes ↦ gone_pass row goes
          ],
          numbered,
        )
    by_place (Current status) row stands is_live =
        let p : PlacedRow = record { row = row; place = Current status } in
        let x : CurrentRow = record { row = row; status = status } in
        let numbered : row.serial ≡ q.row.serial = sound.serials.numbered q.row.serial p stands in
        let at : c.sets.cp row.serial ≡ Some x = subst (λ n. c.sets.cp n ≡ Some x) (sym numbered)
        (ap (λ (y : Seat). y.cp) stands) in
        let one : p ≡ q = once p q ((listed p).1 (inr (inl (record {
          status = status;
          listed = (current_are.exactly x).1 (at, tt);
          placed = refl;
          stays = is_live;
        })))) there numbered in
        let waits : status ≡ W = subst (λ (y : PlacedRow). IsOpen y.place) (sym one) is_open in (
          row,
          inr (subst (λ status'. c.sets.cp row.serial ≡ Some (record { row = row; status = status' })) waits at),
          subst Passes (ap (λ (y : PlacedRow). y.row.key.app) (sym one)) passes,
          numbered,
        )
    by_place History row stands is_live =
        let p : PlacedRow = record { row = row; place = History } in
        let numbered : row.serial ≡ q.row.serial = sound.serials.numbered q.row.serial p stands in
        let at : c.sets.history row.serial ≡ Some row = subst (λ n. c.sets.history n ≡ Some row) (sym numbered)
        (ap (λ (y : Seat). y.history) stands) in
        let one : p ≡ q = once p q ((listed p).1 (inr (inr ((completed_are row).1 at, refl)))) there numbered in
        absurd (subst (λ (y : PlacedRow). IsOpen y.place) (sym one) is_open)
    by_place (Deleted reason) row stands is_live = absurd is_live

  pub was_open : (pair : Pair) → Contains c.pairs pair → IsReachedIn touch links now pair.successor
      ⊎ HasRowOf touch.withdrawn.items pair.successor → WasOpen pair.successor
  was_open pair there (inr named) = of_gone pair.successor named
  was_open pair there (inl (q, in_now, same, is_open, reach)) =
      let (p, stands, is_live) = pair_lives c sound pair there in
      subst WasOpen same (by_place q in_now is_open reach p.place p.row
      (subst (λ n. IsOnlyAt c.sets n p) (sym same) stands) is_live)

-- so a window shows the pair, whatever its key
pub pair_shown : {key : Option Key} {Asked : List ℕ → ℕ → Type 0} (h : Hidden) (view : View)
    → Sees key Asked h view → (pair : Pair) → Contains h.pairs pair → (row : Row) → IsOpenRow (shown view).sets row
    → row.serial ≡ pair.successor → Contains (shown view).pairs pair
pair_shown {key} h view sees pair there row is_open same =
    let s = (with_hidden h view).sets in
    asked_shown key s (shown view).pairs h.pairs sees.pairs pair there
    (subst (λ n. needs_pairs key s.ltp s.cp s.history n ≡ true) same (asked_row key s row is_open))
