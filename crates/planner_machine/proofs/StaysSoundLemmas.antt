-- Sound content stays sound, statement by statement.
use Rattle.std.proofs.Common.{◌≡◌, ℕ, ◌+◌, ◌<◌, ◌≤◌, ◌⊎◌, true, false, List, [], refl, sym, ap, subst, ◌∙◌, inl}
use Rattle.std.proofs.Common.{inr, arith, Option, None, Some}
use Rattle.std.specs.Prelude.{Bool, Contains, if◌then◌else◌, nat_lt}
use Rattle.std.specs.FinMap as map
use Rattle.work_calendars.specs.Day.{last_kept_day, first_day}
use Rattle.app_definition_records.specs.Applications.{FitsApplication, IsApplicationOf}
use Rattle.app_definition_records.specs.declared.applications.Application.{Application}
use Rattle.app_definitions.specs.declared.definitions.Definitions.{Definitions}
use Rattle.occurrences.specs.Key.{key_eq}
use Rattle.occurrences.specs.Place.{IsLive, IsOpen}
use Rattle.occurrences.specs.declared.key.Key.{Key}
use Rattle.occurrences.specs.declared.place.Place.{Place}
use Rattle.occurrences.specs.declared.place.Place.TheVariants.{LongTerm, Current, History, Deleted}
use Rattle.occurrences.specs.declared.place.Reason.TheVariants.{Operator, Plan, Withdrawn}
use Rattle.occurrences.specs.declared.reply.Reply.{Reply}
use Rattle.occurrences.specs.declared.row.Row.{Row}
use Rattle.occurrences.specs.declared.status.Action.{Action}
use Rattle.occurrences.specs.declared.status.Status.TheVariants.{W, S, E, C, D}
use Rattle.external_dependencies.specs.Loop.{OnLoop}
use Rattle.external_dependencies.specs.declared.links.Link.{Link}
use Rattle.external_dependencies.specs.declared.rows.PlacedRow.{PlacedRow}
use Rattle.planner_machine.specs.declared.content.Bounds.{Bounds}
use Rattle.planner_machine.specs.declared.content.Draft.{Draft}
use Rattle.planner_machine.specs.Content.{Content, IsOnlyAt, midnight}
use Rattle.planner_machine.specs.Drafts.{NamesWithin, added}
use Rattle.planner_machine.specs.Fate.{ModifyFate, Stays, place_after_action, place_after_daily_plan}
use Rattle.planner_machine.specs.Fate.{place_after_deletion}
use Rattle.planner_machine.specs.InForce.{PutsAll, PutsLists, PutsNone, PutsOne}
use Rattle.planner_machine.specs.Plans.{IsPlannedApp, MakesOfRows, WouldHoldTooMany, WouldLoop}
use Rattle.planner_machine.specs.Sound.{AreDefinitions, ArrivesIn, HaveSizes, IsLink, IsRow, IsSound}
use Rattle.planner_machine.proofs.FollowLemmas.{by_modify}
use Rattle.planner_machine.proofs.LoopLemmas.{no_loop_from}
use Rattle.planner_machine.proofs.PlannedLemmas.{within_sizes}
use Rattle.planner_machine.proofs.RangeLemmas.{DraftRanges, defined_name, is_moment, link_names, named_ranges}
use Rattle.planner_machine.proofs.SeatLemmas.{not_empty}
use Rattle.app_definition_records.specs.FieldCounts.{HasApplicationFields}

-- what the statements on the plans share

some_bounds : (o : Option Bounds) → (o ≡ None → ⊥) → (b : Bounds) × (o ≡ Some b)
some_bounds None there = absurd (there refl)
some_bounds (Some b) there = (b, refl)

pub plan_of : (c : Content) → (c.sets.bounds ≡ None → ⊥) → (b : Bounds) × (c.sets.bounds ≡ Some b)
plan_of c there = some_bounds c.sets.bounds there

-- lists in force have names, and no loop
pub links_none : (c : Content) → IsSound c → (after : List Link) → PutsNone c.definitions c.in_force after
    → (link : Link) → Contains after link → IsLink link
links_none c sound after puts link there = sound.ranges.links link (subst (λ l. Contains l link) puts there)

pub links_all : (c : Content) → IsSound c → (after : List Link) → PutsAll c.definitions c.in_force after
    → (link : Link) → Contains after link → IsLink link
links_all c sound after puts link there =
    link_names c.definitions sound.ranges.definitions link ((puts.exactly link).0 there)

pub links_one : (app : List ℕ) (c : Content) → IsSound c → (after : List Link)
    → PutsOne app c.definitions c.in_force after → (link : Link) → Contains after link → IsLink link
links_one app c sound after puts link there = elim ((puts.exactly link).0 there) [
  | inl own ↦ link_names c.definitions sound.ranges.definitions link own.1
  | inr other ↦ sound.ranges.links link other.1
]

pub loops_none : (c : Content) → IsSound c → (after : List Link) → PutsNone c.definitions c.in_force after
    → (app : List ℕ) → OnLoop after app → ⊥
loops_none c sound after puts app on = sound.lists app (subst (λ l. OnLoop l app) puts on)

pub loops_put : (Puts : PutsLists) (c : Content) (after : List Link) → Puts c.definitions c.in_force after
    → ((app : List ℕ) → WouldLoop Puts c app → ⊥) → (app : List ℕ) → OnLoop after app → ⊥
loops_put Puts c after puts none app on = no_loop_from after (λ least is. none least (after, puts, is)) app on

-- not too many rows
pub sizes_of : (Makes : MakesOfRows) (c c' : Content) (reply : Reply) → (WouldHoldTooMany Makes c → ⊥)
    → Makes c.definitions c.sets reply c'.sets → HaveSizes c'.sets
sizes_of Makes c c' reply few makes = within_sizes c'.sets (λ over. few (reply, c'.sets, makes, over))

-- the application of an accepted addition is defined
pub planned_app : (all : Definitions) (app : List ℕ) (o : Option Application) → map.get all.applications app ≡ o
    → ((IsPlannedApp all app → ⊥) → ⊥) → IsPlannedApp all app
planned_app all app None is there =
    absurd (there (λ planned. let (a, both) = planned in let at = both.0 in let wrong : None ≡ Some a = sym is ∙ at in
    cc))
planned_app all app (Some a) is there = by_test a.active refl
  where
    by_test : (b : Bool) → a.active ≡ b → IsPlannedApp all app
    by_test true on = (a, (is, on))
    by_test false off = absurd (there (λ planned. let (x, both) = planned in let at = both.0 in
        let same : Some a ≡ Some x = sym is ∙ at in let one : a ≡ x = cc in let wrong : false ≡ true = sym off
        ∙ ap (λ (z : Application). z.active) one ∙ both.1 in cc))

-- where rows stay as they are
pub row_stays : (go : Row → Place → Place) (p q : PlacedRow) → q ≡ record { row = p.row; place = go p.row p.place }
    → IsRow p.row → IsRow q.row
row_stays go p q is good = subst (λ (x : PlacedRow). IsRow x.row) (sym is) good

pub no_drafts : (P : Draft → Type 0) (draft : Draft) → Contains [] draft → P draft
no_drafts P draft (k, lt, is) = absurd (omega (arith, lt))

-- what each fate closes
pub stays_closes : (p q : PlacedRow) → Stays p q → IsLive q.place → (IsOpen q.place → ⊥) → IsLive p.place
    × (IsOpen p.place → ⊥)
stays_closes p q is live closed = (
  subst (λ (x : PlacedRow). IsLive x.place) is live,
  λ open'. closed (subst (λ (x : PlacedRow). IsOpen x.place) (sym is) open'),
)

pub going_closes : (go : Row → Place → Place)
    → ((row : Row) (was : Place) → IsLive (go row was) → (IsOpen (go row was) → ⊥) → IsLive was × (IsOpen was → ⊥))
    → (p q : PlacedRow) → q ≡ record { row = p.row; place = go p.row p.place } → IsLive q.place → (IsOpen q.place → ⊥)
    → IsLive p.place × (IsOpen p.place → ⊥)
going_closes go closes p q is live closed =
    closes p.row p.place (subst (λ (x : PlacedRow). IsLive x.place) is live)
    (λ open'. closed (subst (λ (x : PlacedRow). IsOpen x.place) (sym is) open'))

open_still : (b : Bool) → IsOpen (if b then Current W else LongTerm)
open_still true = refl
open_still false = tt

pub daily_closes : (t : ℕ) (row : Row) (was : Place) → IsLive (place_after_daily_plan t row was)
    → (IsOpen (place_after_daily_plan t row was) → ⊥) → IsLive was × (IsOpen was → ⊥)
daily_closes t row LongTerm live closed = absurd (closed (open_still (nat_lt row.key.ia t)))
daily_closes t row (Current W) live closed = (live, closed)
daily_closes t row (Current S) live closed = (live, closed)
daily_closes t row (Current E) live closed = (live, closed)
daily_closes t row (Current C) live closed = ((λ e. cc), λ e. cc)
daily_closes t row (Current D) live closed = absurd live
daily_closes t row History live closed = (live, closed)
daily_closes t row (Deleted reason) live closed = (live, closed)

not_closed : (b : Bool) → IsLive (if b then Deleted Operator else LongTerm)
    → (IsOpen (if b then Deleted Operator else LongTerm) → ⊥) → ⊥
not_closed true live closed = live
not_closed false live closed = closed tt

pub deletion_closes : (key : Key) (row : Row) (was : Place) → IsLive (place_after_deletion key row was)
    → (IsOpen (place_after_deletion key row was) → ⊥) → IsLive was × (IsOpen was → ⊥)
deletion_closes key row LongTerm live closed = absurd (not_closed (key_eq row.key key) live closed)
deletion_closes key row (Current status) live closed = (live, closed)
deletion_closes key row History live closed = (live, closed)
deletion_closes key row (Deleted reason) live closed = (live, closed)

pub modify_closes : (Looks : List ℕ → Type 0) (all : Definitions) (p q : PlacedRow) → ModifyFate Looks all p q
    → IsLive q.place → (IsOpen q.place → ⊥) → IsLive p.place × (IsOpen p.place → ⊥)
modify_closes Looks all =
    by_modify Looks all (λ p q. IsLive q.place → (IsOpen q.place → ⊥) → IsLive p.place
    × (IsOpen p.place → ⊥)) (λ row draft g h live closed. absurd (closed tt)) (λ row live closed. absurd live)
    (λ p live closed. (live, closed))

-- what an operator deleted stood there before, but for a deletion
pub daily_operator : (t : ℕ) (row : Row) (was : Place) → place_after_daily_plan t row was ≡ Deleted Operator
    → was ≡ Deleted Operator
daily_operator t row LongTerm is = absurd (by_test (nat_lt row.key.ia t) is)
  where
    by_test : (b : Bool) → (if b then Current W else LongTerm) ≡ Deleted Operator → ⊥
    by_test true is = cc
    by_test false is = cc
daily_operator t row (Current W) is = cc
daily_operator t row (Current S) is = cc
daily_operator t row (Current E) is = cc
daily_operator t row (Current C) is = cc
daily_operator t row (Current D) is = let no : Plan ≡ Operator = cc in cc
daily_operator t row History is = cc
daily_operator t row (Deleted reason) is = is

pub action_operator : (key : Key) (action : Action) (row : Row) (was : Place)
    → place_after_action key action row was ≡ Deleted Operator → was ≡ Deleted Operator
action_operator key action row LongTerm is = is
action_operator key action row (Current status) is = cc
action_operator key action row History is = is
action_operator key action row (Deleted reason) is = is

pub deletion_operator : (key : Key) (row : Row) (was : Place) → place_after_deletion key row was ≡ Deleted Operator
    → (was ≡ Deleted Operator) ⊎ (was ≡ LongTerm)
deletion_operator key row LongTerm is = inr refl
deletion_operator key row (Current status) is = inl is
deletion_operator key row History is = inl is
deletion_operator key row (Deleted reason) is = inl is

pub modify_operator : (Looks : List ℕ → Type 0) (all : Definitions) (p q : PlacedRow) → ModifyFate Looks all p q
    → q.place ≡ Deleted Operator → p.place ≡ Deleted Operator
modify_operator Looks all =
    by_modify Looks all (λ p q. q.place ≡ Deleted Operator
    → p.place ≡ Deleted Operator) (λ row draft g h is. cc) (λ row is. let no : Withdrawn ≡ Operator = cc in
    cc) (λ p is. is)

-- days that plans have
pub days_fit : (c : Content) → IsSound c → (b : Bounds) → c.sets.bounds ≡ Some b → (midnight first_day ≤ b.plan_end)
    × (b.plan_end ≤ midnight (last_kept_day + 1)) × (midnight first_day ≤ midnight b.first_day)
    × (midnight (b.last_day + 1) ≤ midnight (last_kept_day + 1))
days_fit c sound b is =
    let are = sound.bounds.after b is in let (first, last, end) = sound.ranges.days b is in
    let low = first.0 in let begun = are.begun in let ended = are.ended in let most = are.last in
    (omega arith, omega arith, omega arith, omega arith)

-- a row that a modify statement stamps keeps its ranges
pub modified_row : (Looks : List ℕ → Type 0) (c : Content) → IsSound c → (serial : ℕ) (p q : PlacedRow)
    → IsOnlyAt c.sets serial p → ModifyFate Looks c.definitions p q → IsRow p.row → IsRow q.row
modified_row Looks c sound serial p q there (inr (apart, is)) good =
    subst (λ (x : PlacedRow). IsRow x.row) (sym is) good
modified_row Looks c sound serial p q there (inl (at, inr withdrawn)) good =
    subst (λ (x : PlacedRow). IsRow x.row) (sym withdrawn.goes) good
modified_row Looks c sound serial p q there (inl (at, inl named)) good =
    let (b, is) = plan_of c (λ none. placed_somewhere none) in
    let fit = days_fit c sound b is in
    let arrives : ArrivesIn b p.row.key.ia LongTerm =
    subst (ArrivesIn b p.row.key.ia) at.0 (sound.arrivals.in_bounds b is serial p there) in
    let same = ap (λ (k : Key). k.ia) named.keyed in
    let ranges = named_ranges c.definitions sound.ranges.definitions named.draft named.named (omega (
      arith,
      same,
      fit.0,
      arrives.0,
    )) (omega (arith, same, fit.3, arrives.1)) in
    subst (λ (x : PlacedRow). IsRow x.row) (sym named.stays) (record {
      app = good.app;
      ia = good.ia;
      deadline = ranges.deadline;
      origin = ranges.origin;
    })
  where
    placed_somewhere : c.sets.bounds ≡ None → ⊥
    placed_somewhere none = not_empty c.sets serial p there ((sound.bounds.before none).rows serial)

-- what is named within days of the plan has its ranges
pub within_ranges : (all : Definitions) → AreDefinitions all → (first end : ℕ) → midnight first_day ≤ first
    → end ≤ midnight (last_kept_day + 1) → (draft : Draft) → NamesWithin all first end draft → DraftRanges draft
within_ranges all are first end low high draft is =
    named_ranges all are draft is.0 (omega (arith, is.1)) (omega (arith, is.2))

-- an added occurrence has its ranges
pub added_ranges : (c : Content) → IsSound c → (key : Key) → IsPlannedApp c.definitions key.app
    → midnight first_day ≤ key.ia
    → key.ia < midnight (last_kept_day + 1) → DraftRanges (added key)
added_ranges c sound key (a, active) low high = record {
  app = defined_name HasApplicationFields FitsApplication IsApplicationOf
      (map.get c.definitions.applications) sound.ranges.definitions.applications key.app a active.0;
  ia = is_moment key.ia low (omega arith);
  deadline = is_moment _ (omega arith) (omega arith);
  origin = tt;
}
