-- Rows from a moment on, and of each application the last one before it, hold what a statement reaches that only makes
-- rows.
use Rattle.std.proofs.Common.{◌≡◌, ◌↔◌, ◌⊎◌, ◌∙◌, ◌++◌, ◌≤◌, ℕ, List, [], None, Option, ap, arith, inl, inr, refl, subst, sym}
use Rattle.std.specs.List.{Contains}
use Rattle.std.proofs.lemmas.Bool.{cases_lt}
use Rattle.std.proofs.lemmas.List.Elements.{Contains-append_cases, Contains-append_left, Contains-append_right}
use Rattle.occurrences.specs.Place.{IsLive, IsOpen}
use Rattle.occurrences.specs.declared.key.Key.{Key}
use Rattle.occurrences.specs.declared.place.CurrentRow.{CurrentRow}
use Rattle.occurrences.specs.declared.place.Place.TheVariants.{LongTerm}
use Rattle.occurrences.specs.declared.row.Row.{Row}
use Rattle.external_dependencies.specs.Link.{Lists}
use Rattle.external_dependencies.specs.Nearest.{IsCandidate, arrival_of}
use Rattle.external_dependencies.specs.Reached.{HoldsReached, IsReachedIn}
use Rattle.external_dependencies.specs.Settled.{IsOnce}
use Rattle.external_dependencies.specs.Touch.{HasRowOf, MayReach}
use Rattle.external_dependencies.specs.declared.links.Link.{Link}
use Rattle.external_dependencies.specs.declared.live.Arrival.{Arrival}
use Rattle.external_dependencies.specs.declared.pairs.Pair.{Pair}
use Rattle.external_dependencies.specs.declared.rows.PlacedRow.{PlacedRow}
use Rattle.external_dependencies.specs.declared.touch.Touch.{Touch}
use Rattle.plan_store_lists.specs.Rows.{of_current, of_row}
use Rattle.plan_store_lists.proofs.KeyLemmas.{nothing}
use Rattle.planner_machine.specs.Content.{Content, Sets}
use Rattle.planner_machine.specs.Sound.{IsSound}
use Rattle.plan_store.specs.HistoryReads.{ReachesApp, ReadsPlan}
use Rattle.plan_store.specs.Views.{Hidden, IsAny, ListsSet, Sees, shown, with_hidden}
use Rattle.plan_store.specs.declared.views.View.{View}
use Rattle.plan_store_pairs.specs.Later.{AreLater, ReachesFrom}
use Rattle.plan_store_pairs.specs.Planned.{IsOpenRow, IsWaitingAt}
use Rattle.plan_store_pairs.specs.Turns.{AreKnownLinks, ArePlanned, IsInLists, IsTouchOf}
use Rattle.plan_store_pairs.proofs.PartLemmas.{shown_stood}
use Rattle.plan_store_pairs.proofs.SeenLemmas.{HasBehind, IsBehind, has_behind, open_in, pair_shown, rows_part}
use Rattle.plan_store_pairs.proofs.SeenLemmas.{shown_hold, was_open}
use Rattle.plan_store_pairs.proofs.TouchLemmas.{live_once}
use Rattle.plan_store_pairs.proofs.TurnLemmas.{IsTurnTo, list_of}
use Rattle.long_term_plan.specs.Modifying.{HavePlanned}
use Rattle.long_term_plan.proofs.HeldLemmas.{completed, history, turn_seen}

module _ (only : Option (List ℕ)) (h : Hidden) (view : View) (sound : IsSound (with_hidden h view))
    (sees : Sees None (ReadsPlan only (with_hidden h view)) h view) (links : List Link)
    (known : AreKnownLinks (with_hidden h view) links) (rows : List Row)
    (lists : ListsSet of_row (shown view).sets.ltp IsAny rows) (current : List CurrentRow)
    (current_are : ListsSet of_current (shown view).sets.cp IsAny current) (lasts : List Row)
    (lasts_are : ListsSet of_row (shown view).sets.history IsAny lasts) (s : Sets) (made : List Row)
    (have : HavePlanned (with_hidden h view).sets (rows ++ made) s) (plan : ArePlanned rows rows [] made)
    (touch : Touch) (touches : IsTouchOf [] made (with_hidden h view).in_force links touch) where
  abbrev c : Content
  c = with_hidden h view

  abbrev done : List Row
  done = completed only h view sound sees links known rows lists current current_are lasts lasts_are s rows [] made have
      plan touch touches

  abbrev turn : IsTurnTo c.sets s c.in_force links touch (rows ++ made) current done
  turn = turn_seen only h view sound sees links known rows lists current current_are lasts lasts_are s rows [] made have
      plan touch touches

  abbrev now : List PlacedRow
  now = turn.now

  once : IsOnce now
  once = live_once s now turn.turn.after

  abbrev planned_at : Row → PlacedRow
  planned_at row = record { row = row; place = LongTerm }

  made_now : (row : Row) → Contains made row → Contains now (planned_at row)
  made_now row there = (turn.listed (planned_at row)).1 (inl (Contains-append_right rows made row there, refl))

  stood_now : (row : Row) → Contains rows row → Contains now (planned_at row)
  stood_now row there = (turn.listed (planned_at row)).1 (inl (Contains-append_left rows made row there, refl))

  -- what is reached arrives at the moment or later
  late_reach : (moment : ℕ) → ReachesFrom touch moment → (q : PlacedRow) → Contains now q → MayReach touch links q.row
      → moment ≤ q.row.key.ia
  late_reach moment (inl none) q there reach = omega (arith, none)
  late_reach moment (inr makes) q there (inl (inl (row, came, same))) =
      let new = subst (λ (l : List Row). Contains l row) touches.comes came in
      let one : planned_at row ≡ q = once (planned_at row) q (made_now row new) there same in
      let ia : row.key.ia ≡ q.row.key.ia = ap (λ (p : PlacedRow). p.row.key.ia) one in
      let late = makes.made row came in
      omega (arith, ia, late)
  late_reach moment (inr makes) q there (inl (inr opened)) =
      absurd (nothing q.row.serial (subst (λ (l : List ℕ). Contains l q.row.serial) touches.none_opened opened))
  late_reach moment (inr makes) q there (inr (inl listed)) =
      absurd (nothing q.row.key.app (subst (λ (l : List (List ℕ)). Contains l q.row.key.app) makes.lists listed))
  late_reach moment (inr makes) q there (inr (inr (link, among, (app, (moved, inl came, candidate))))) =
      let late = makes.made moved came in
      let in_time : moved.key.ia ≤ q.row.key.ia = candidate.in_time in
      omega (arith, late, in_time)
  late_reach moment (inr makes) q there (inr (inr (link, among, (app, (moved, inr went, candidate))))) =
      absurd (nothing moved (subst (λ (l : List Row). Contains l moved) touches.goes went))

  module _ (within : (q : PlacedRow) → Contains now q → IsOpen q.place → MayReach touch links q.row
      → ReachesApp only c.in_force q.row.key.app) (later : List Row) (moment : ℕ) (from : ReachesFrom touch moment)
      (are : AreLater rows moment later) (live : List PlacedRow)
      (live_are : (p : PlacedRow) → Contains live p ↔ IsInLists (later ++ made) current lasts p) where
    abbrev AnyApp : List ℕ → Type 0
    AnyApp app = Unit {0}

    -- all that the window shows
    abbrev all : List PlacedRow
    all = (list_of (rows ++ made) current lasts).0

    all_are : (p : PlacedRow) → Contains all p ↔ IsInLists (rows ++ made) current lasts p
    all_are = (list_of (rows ++ made) current lasts).1

    all_pass : (p : PlacedRow) → Contains all p ↔ (IsInLists (rows ++ made) current lasts p × AnyApp p.row.key.app)
    all_pass p = ((λ there. ((all_are p).0 there, tt)), λ both. (all_are p).1 both.0)

    in_all : (p : PlacedRow) → Contains live p → Contains all p
    in_all p there = (all_are p).1 (elim ((live_are p).0 there) [
      | inl first ↦ inl (
        elim (Contains-append_cases later made p.row first.0) [
          | inl own ↦ Contains-append_left rows made p.row (are.stand p.row own)
          | inr new ↦ Contains-append_right rows made p.row new
        ],
        first.1,
      )
      | inr beside ↦ inr beside
    ])

    part : (p : PlacedRow) → Contains live p → Contains now p
    part p there = rows_part only h view sound sees links known s (rows ++ made) current current_are done lasts lasts_are
        (history only h view sound sees links known rows lists current current_are lasts lasts_are s rows [] made have plan
        touch touches).1 (have current current_are done (history only h view sound sees links known rows lists current
        current_are lasts lasts_are s rows [] made have plan touch touches).1).sound now turn.turn.after turn.listed touch
        AnyApp all all_pass (λ q there is_open reach. (tt, λ app names. tt)) within p (in_all p there)

    -- what is reached
    reached_in : (q : PlacedRow) → Contains now q → IsOpen q.place → MayReach touch links q.row → Contains live q
    reached_in q there is_open reach = elim ((all_are q).0 (open_in only h view sound sees links known s (rows ++ made)
        current current_are done lasts lasts_are (history only h view sound sees links known rows lists current
        current_are lasts lasts_are s rows [] made have plan touch touches).1 (have current current_are done (history only
        h view sound sees links known rows lists current current_are lasts lasts_are s rows [] made have plan touch
        touches).1).sound now turn.turn.after turn.listed touch AnyApp all all_pass
        (λ q there is_open reach. (tt, λ app names. tt)) within q there is_open tt)) [
          | inl first ↦ (live_are q).1 (inl (
            elim (Contains-append_cases rows made q.row first.0) [
              | inl stood ↦ Contains-append_left later made q.row (are.late q.row stood
                  (late_reach moment from q there reach))
              | inr new ↦ Contains-append_right later made q.row new
            ],
            first.1,
          ))
          | inr beside ↦ (live_are q).1 (inr beside)
        ]

    itself : (key : Key) (app : List ℕ) (p : PlacedRow) → Contains live p → IsLive p.place
        → IsCandidate key app None (arrival_of p.row) → (b : Arrival) × IsBehind live key app (arrival_of p.row) b
    itself key app p there is_live candidate = (
      arrival_of p.row,
      record {
        live = (p, there, is_live, refl);
        candidate = candidate;
        ia = omega arith;
        serial = λ _. omega arith;
      },
    )

    -- of all that is shown there is one in the part that is no earlier
    next : (key : Key) (app : List ℕ) → moment ≤ key.ia → (p : PlacedRow) → Contains all p → IsLive p.place
        → IsCandidate key app None (arrival_of p.row) → (b : Arrival) × IsBehind live key app (arrival_of p.row) b
    next key app late p there is_live candidate = elim ((all_are p).0 there) [
      | inl first ↦ elim (Contains-append_cases rows made p.row first.0) [
        | inl stood ↦ elim (cases_lt p.row.key.ia moment) [
          | inl early ↦
              let last = are.last p.row stood early in
              let b = last.0 in
              let is = last.2 in
              let before = is.before in (
                arrival_of b,
                record {
                  live = (
                    planned_at b,
                    (live_are (planned_at b)).1 (inl (Contains-append_left later made b last.1, refl)),
                    tt,
                    refl,
                  );
                  candidate = record {
                    of_app = is.app ∙ candidate.of_app;
                    in_time = omega (arith, before, late);
                    before_own = λ own. omega (arith, before, late);
                    close = tt;
                  };
                  ia = is.ia;
                  serial = is.serial;
                },
              )
          | inr past ↦ itself key app p ((live_are p).1 (inl (
            Contains-append_left later made p.row
                (are.late p.row stood (omega (arith, past))),
            first.1,
          ))) is_live candidate
        ]
        | inr new ↦ itself key app p ((live_are p).1 (inl (Contains-append_right later made p.row new, first.1))) is_live
            candidate
      ]
      | inr beside ↦ itself key app p ((live_are p).1 (inr beside)) is_live candidate
    ]

    behind : (q : PlacedRow) → Contains now q → IsOpen q.place → MayReach touch links q.row → (app : List ℕ)
        → Lists links q.row.key.app app → HasBehind now live q.row.key app
    behind q there is_open reach app names a is_live candidate =
        let first = has_behind only h view sound sees links known s (rows ++ made) current current_are done lasts
        lasts_are (history only h view sound sees links known rows lists current current_are lasts lasts_are s rows []
        made have plan touch touches).1 (have current current_are done (history only h view sound sees links known rows
        lists current current_are lasts lasts_are s rows [] made have plan touch touches).1).sound now turn.turn.after
        turn.listed touch AnyApp all all_pass (λ q there is_open reach. (tt, λ app names. tt)) within q
        (within q there is_open reach) there is_open app names tt a is_live candidate in
        let one = first.1 in
        let p = one.live.0 in
        let arrives = one.live.3 in
        let two = next q.row.key app (late_reach moment from q there reach) p one.live.1 one.live.2
        (subst (IsCandidate q.row.key app None) (sym arrives) one.candidate) in
        let last = subst (λ (x : Arrival). IsBehind live q.row.key app x two.0) arrives two.1 in
        let ia = one.ia in
        let ia' = last.ia in (
          two.0,
          record {
            live = last.live;
            candidate = last.candidate;
            ia = omega (arith, ia, ia');
            serial = λ tie.
                let low = one.serial (omega (arith, ia, ia', tie)) in
                let high = last.serial (omega (arith, ia, ia', tie)) in
                omega (arith, low, high);
          },
        )

    -- the pairs of what is reached
    pub later_held : (pairs : List Pair) → ((pair : Pair) → Contains pairs pair
        ↔ (Contains (shown view).pairs pair × (HasRowOf later pair.successor
        ⊎ IsWaitingAt (shown view).sets pair.successor)))
        → HoldsReached touch links now h.pairs live pairs
    later_held pairs pairs_are = shown_hold touch links now live h.pairs pairs part
        (λ q there is_open reach. (reached_in q there is_open reach, behind q there is_open reach))
        (λ pair there. shown_stood None c.sets (shown view).pairs h.pairs sees.pairs pair ((pairs_are pair).0 there).0)
        had
      where
        of_reached : (serial : ℕ) (row : Row) → row.serial ≡ serial → IsOpenRow c.sets row
            → IsReachedIn touch links now serial → HasRowOf later serial ⊎ IsWaitingAt c.sets serial
        of_reached serial row same (inr waits) reached = inr (row, waits, same)
        of_reached serial row same (inl at) (q, in_now, own, is_open, reach) =
            let stood = (lists.exactly row).1 (at, tt) in
            let one : planned_at row ≡ q = once (planned_at row) q (stood_now row stood) in_now (same ∙ sym own) in
            let ia : row.key.ia ≡ q.row.key.ia = ap (λ (p : PlacedRow). p.row.key.ia) one in
            let late = late_reach moment from q in_now reach in
            inl (row, are.late row stood (omega (arith, ia, late)), same)

        had : (pair : Pair) → Contains h.pairs pair → IsReachedIn touch links now pair.successor
            ⊎ HasRowOf touch.withdrawn.items pair.successor → Contains pairs pair
        had pair there reached =
            let was = was_open c sound rows rows [] made current current_are done (history only h view sound sees links
            known rows lists current current_are lasts lasts_are s rows [] made have plan touch touches).1 lists plan now
            turn.listed once touch c.in_force links touches AnyApp (λ q there is_open reach. tt) (λ row there. tt) pair
            there reached in
            (pairs_are pair).1 (
              pair_shown h view sees pair there was.0 was.1 was.3,
              elim reached [
                | inl is ↦ of_reached pair.successor was.0 was.3 was.1 is
                | inr gone ↦ absurd (nothing gone.0 (subst (λ (l : List Row). Contains l gone.0) touches.goes gone.1))
              ],
            )
