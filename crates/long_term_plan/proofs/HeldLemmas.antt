-- What a window shows holds what a statement on the long-term plan reaches.
use Rattle.std.proofs.Common.{◌≡◌, ◌↔◌, ◌⊎◌, ◌++◌, ℕ, List, None, Option, inl, inr}
use Rattle.std.specs.List.{Contains}
use Rattle.occurrences.specs.Place.{IsOpen}
use Rattle.occurrences.specs.declared.place.CurrentRow.{CurrentRow}
use Rattle.occurrences.specs.declared.place.Place.TheVariants.{LongTerm}
use Rattle.occurrences.specs.declared.row.Row.{Row}
use Rattle.external_dependencies.specs.Link.{Lists}
use Rattle.external_dependencies.specs.Reached.{HoldsReached}
use Rattle.external_dependencies.specs.Settled.{IsOnce}
use Rattle.external_dependencies.specs.Touch.{MayReach}
use Rattle.external_dependencies.specs.declared.links.Link.{Link}
use Rattle.external_dependencies.specs.declared.pairs.Pair.{Pair}
use Rattle.external_dependencies.specs.declared.rows.PlacedRow.{PlacedRow}
use Rattle.external_dependencies.specs.declared.touch.Touch.{Touch}
use Rattle.plan_store_lists.specs.Rows.{of_current, of_row}
use Rattle.planner_machine.specs.Content.{Content, Sets}
use Rattle.planner_machine.specs.InForce.{PutsAll, PutsOne}
use Rattle.planner_machine.specs.Sound.{IsSound}
use Rattle.plan_store.specs.Changes.{lists_after}
use Rattle.plan_store.specs.HistoryReads.{ReachesApp, ReadsPlan}
use Rattle.plan_store.specs.Views.{Hidden, IsAny, ListsSet, Sees, shown, with_hidden}
use Rattle.plan_store.specs.declared.changes.NewLists.{NewLists}
use Rattle.plan_store.specs.declared.views.View.{View}
use Rattle.plan_store_pairs.specs.ByApplications.{HasReached, HasWithList}
use Rattle.plan_store_pairs.specs.LiveRows.{AreCompleted, HasLists}
use Rattle.plan_store_pairs.specs.Planned.{IsOpenRow}
use Rattle.plan_store_pairs.specs.Turns.{AreKnownLinks, ArePlanned, IsBeside, IsInLists, IsTouchOf}
use Rattle.plan_store_pairs.proofs.GatheredLemmas.{gone_app, of_reached}
use Rattle.plan_store_pairs.proofs.PartLemmas.{shown_stood}
use Rattle.plan_store_pairs.proofs.SeenLemmas.{completed_rows, pair_shown, seen_hold, was_open}
use Rattle.plan_store_pairs.proofs.TouchLemmas.{live_once}
use Rattle.plan_store_pairs.proofs.TurnLemmas.{IsTurnTo}
use Rattle.long_term_plan.specs.Modifying.{AreOf, HavePlanned, Looks}
use Rattle.long_term_plan.specs.Reaching.{AreRowsOf, IsNewOf}
use Rattle.long_term_plan.proofs.ReachingLemmas.{may_reach}
use Rattle.long_term_plan.proofs.TurnedLemmas.{turned}

module _ (only : Option (List ℕ)) (h : Hidden) (view : View) (sound : IsSound (with_hidden h view))
    (sees : Sees None (ReadsPlan only (with_hidden h view)) h view) (links : List Link)
    (known : AreKnownLinks (with_hidden h view) links) (rows : List Row)
    (lists : ListsSet of_row (shown view).sets.ltp IsAny rows) (current : List CurrentRow)
    (current_are : ListsSet of_current (shown view).sets.cp IsAny current) (lasts : List Row)
    (lasts_are : ListsSet of_row (shown view).sets.history IsAny lasts) (s : Sets) (stay gone made : List Row)
    (have : HavePlanned (with_hidden h view).sets (stay ++ made) s) (plan : ArePlanned rows stay gone made)
    (touch : Touch) (touches : IsTouchOf gone made (with_hidden h view).in_force links touch) where
  abbrev c : Content
  c = with_hidden h view

  pub history : (completed : List Row) × AreCompleted c.sets completed
  history = completed_rows c.sets sound.serials

  abbrev pub completed : List Row
  completed = history.0

  has : HasLists s (stay ++ made) current completed
  has = have current current_are completed history.1

  -- the turn from the content to the sets, with all of history
  pub turn_seen : IsTurnTo c.sets s c.in_force links touch (stay ++ made) current completed
  turn_seen = turned c sound rows lists current current_are completed history.1 s stay gone made has plan touch links
      touches

  once : IsOnce turn_seen.now
  once = live_once s turn_seen.now turn_seen.turn.after

  -- rows of some applications, with their lists, and pairs of some applications
  pub held : (OfRows : List ℕ → Type 0) (live : List PlacedRow)
      → ((p : PlacedRow) → Contains live p ↔ (IsInLists (stay ++ made) current lasts p × OfRows p.row.key.app))
      → ((q : PlacedRow) → Contains turn_seen.now q → IsOpen q.place → MayReach touch links q.row
      → OfRows q.row.key.app × ((app : List ℕ) → Lists links q.row.key.app app → OfRows app))
      → ((q : PlacedRow) → Contains turn_seen.now q → IsOpen q.place → MayReach touch links q.row
      → ReachesApp only c.in_force q.row.key.app)
      → (OfPairs : List ℕ → Type 0) (pairs : List Pair)
      → ((q : PlacedRow) → Contains turn_seen.now q → IsOpen q.place → MayReach touch links q.row
      → OfPairs q.row.key.app) → ((row : Row) → Contains gone row → OfPairs row.key.app)
      → ((pair : Pair) → Contains pairs pair → Contains (shown view).pairs pair)
      → ((pair : Pair) → Contains (shown view).pairs pair → (row : Row) → IsOpenRow (shown view).sets row
      → OfPairs row.key.app → row.serial ≡ pair.successor → Contains pairs pair)
      → HoldsReached touch links turn_seen.now h.pairs live pairs
  held OfRows live are pass within OfPairs pairs reached_pass gone_pass part all =
      seen_hold only h view sound sees links known s (stay ++ made) current current_are completed lasts lasts_are history.1
      has.sound turn_seen.now turn_seen.turn.after turn_seen.listed touch OfRows live are pass within h.pairs pairs
      (λ pair there. shown_stood None (with_hidden h view).sets (shown view).pairs h.pairs sees.pairs pair
      (part pair there)) (λ pair there reached.
      let (row, is_open, passes, same) = was_open c sound rows stay gone made current current_are completed history.1
      lists
      plan turn_seen.now turn_seen.listed once touch c.in_force links touches OfPairs reached_pass gone_pass pair there
      reached in
      all pair (pair_shown h view sees pair there row is_open same) row is_open passes same)

  -- what is reached is of applications of which the window shows what is read
  pub may_held : (new : Option NewLists) → links ≡ lists_after new c.in_force → IsNewOf only new → AreRowsOf only gone
      → AreRowsOf only made → ((app : List ℕ) → Contains touch.lists.items app → Looks only app) → (q : PlacedRow)
      → Contains turn_seen.now q → IsOpen q.place → MayReach touch links q.row
      → ReachesApp only c.in_force q.row.key.app
  may_held new same of_new of_gone of_made of_lists q there is_open reach =
      may_reach touch c.in_force links gone made stay current completed turn_seen.now touches turn_seen.listed once only new
      same of_new of_gone of_made of_lists q there reach

  -- the applications that the change reaches
  module _ (apps : List (List ℕ)) (reached : HasReached touch links apps) where
    pub app_held : (q : PlacedRow) → Contains turn_seen.now q → IsOpen q.place → MayReach touch links q.row
        → HasWithList links apps q.row.key.app
    app_held q there is_open reach = of_reached touch c.in_force links gone made stay current completed turn_seen.now
        touches turn_seen.listed once apps reached q there reach

    pub gone_held : (row : Row) → Contains gone row → Contains apps row.key.app
    gone_held row there = gone_app touch c.in_force links gone made stay current completed turn_seen.now touches
        turn_seen.listed once apps reached row there

-- the lists that come into force stand in force, or are defined
pub known_all : (c : Content) (links : List Link) → PutsAll c.definitions c.in_force links → AreKnownLinks c links
known_all c links puts link there = inr ((puts.exactly link).0 there)

pub known_one : (app : List ℕ) (c : Content) (links : List Link) → PutsOne app c.definitions c.in_force links
    → AreKnownLinks c links
known_one app c links puts link there = elim ((puts.exactly link).0 there) [
  | inl own ↦ inr own.1
  | inr other ↦ inl other.1
]

-- the rows that are gathered of some applications
pub gathered_are : (apps : List (List ℕ)) (planned own : List Row) (current : List CurrentRow) (lasts : List Row)
    (live : List PlacedRow) → AreOf apps planned own
    → ((p : PlacedRow) → Contains live p ↔ ((Contains own p.row × (p.place ≡ LongTerm))
    ⊎ (IsBeside current lasts p × Contains apps p.row.key.app)))
    → (p : PlacedRow) → Contains live p ↔ (IsInLists planned current lasts p × Contains apps p.row.key.app)
gathered_are apps planned own current lasts live are_own are p = (
  (λ there. elim ((are p).0 there) [
    | inl first ↦ let both = (are_own p.row).0 first.0 in (inl (both.0, first.1), both.1)
    | inr beside ↦ (inr beside.0, beside.1)
  ]),
  λ both. elim both.0 [
    | inl first ↦ (are p).1 (inl ((are_own p.row).1 (first.0, both.1), first.1))
    | inr beside ↦ (are p).1 (inr (beside, both.1))
  ],
)
