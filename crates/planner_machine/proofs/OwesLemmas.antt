-- What statements have in common of what they owe so that sound content stays sound.
use Rattle.std.proofs.Common.{None, Some, [], ap, arith, inl, inr, subst, sym, ℕ, ◌+◌, ◌∙◌, ◌≡◌, ◌≤◌}
use Rattle.std.proofs.lemmas.Bool.{cases_lt}
use Rattle.std.specs.Prelude.{option_map}
use Rattle.external_dependencies.specs.declared.rows.PlacedRow.{PlacedRow}
use Rattle.occurrences.specs.declared.place.Place.TheVariants.{Deleted, LongTerm}
use Rattle.occurrences.specs.declared.place.Reason.TheVariants.{Operator}
use Rattle.occurrences.specs.declared.reply.Reply.{Reply}
use Rattle.work_calendars.specs.Day.{IsDay, first_day}
use Rattle.planner_machine.specs.Content.{Content, Sets, midnight}
use Rattle.planner_machine.specs.DailyExtend.{IsBadPlanEnd}
use Rattle.planner_machine.specs.DailyPlan.{daily}
use Rattle.planner_machine.specs.Fate.{DailyFate, Stays, place_after_daily_plan}
use Rattle.planner_machine.specs.InForce.{PutsLists, PutsNone}
use Rattle.planner_machine.specs.Plans.{ChangesPlans, MakesOfRows}
use Rattle.planner_machine.specs.RowsSound.{RowsSound}
use Rattle.planner_machine.specs.Sound.{IsRow, IsSound}
use Rattle.planner_machine.specs.declared.content.Bounds.{Bounds}
use Rattle.planner_machine.proofs.AssembleLemmas.{LeavesPlan, Owes}
use Rattle.planner_machine.proofs.DailyLemmas.{daily_sound}
use Rattle.planner_machine.proofs.FollowLemmas.{daily_keeps}
use Rattle.planner_machine.proofs.FreshPlansLemmas.{planned_follows}
use Rattle.planner_machine.proofs.PlannedLemmas.{sizes_stay}
use Rattle.planner_machine.proofs.RangeLemmas.{DraftRanges}
use Rattle.planner_machine.proofs.SoundLemmas.{rows_sound}
use Rattle.planner_machine.proofs.StaysSoundLemmas.{daily_closes, daily_operator, going_closes, links_none}
use Rattle.planner_machine.proofs.StaysSoundLemmas.{loops_none, no_drafts, row_stays}

planned_by : (c' : Content) (b : Bounds) → c'.sets.bounds ≡ Some b → c'.sets.bounds ≡ None → ⊥
planned_by c' b is none = let no : Some b ≡ None = sym is ∙ none in cc

first_by : (c' : Content) (b : Bounds) → c'.sets.bounds ≡ Some b → IsDay b.first_day → (x : Bounds)
    → c'.sets.bounds ≡ Some x → IsDay x.first_day
first_by c' b is day x at = let whole : Some b ≡ Some x = sym is ∙ at in let same : b ≡ x = cc in
    subst (λ (z : Bounds). IsDay z.first_day) same day

pub leaves_plan : (Makes : MakesOfRows) (Puts : PutsLists) (c c' : Content) (reply : Reply)
    → ChangesPlans Makes Puts c reply c' → (b : Bounds) → c'.sets.bounds ≡ Some b → IsDay b.first_day → LeavesPlan c c'
leaves_plan Makes Puts c c' reply d b is day = record {
  pairs = d.pairs;
  definitions = d.definitions;
  jobs = d.jobs;
  planned = planned_by c' b is;
  first = first_by c' b is day;
}

pub stay_row : (p q : PlacedRow) → Stays p q → IsRow p.row → IsRow q.row
stay_row p q is good = subst (λ (x : PlacedRow). IsRow x.row) (sym is) good

pub stay_operator : (p q : PlacedRow) → Stays p q → q.place ≡ Deleted Operator → p.place ≡ Deleted Operator
stay_operator p q is deleted = ap (λ (x : PlacedRow). x.place) (sym is) ∙ deleted

-- a daily plan to t, by `dp-extend` or `dp-replan`
pub daily_owes : (Makes : MakesOfRows) (t : ℕ) (b : Bounds) (c c' : Content) (reply : Reply) → IsSound c
    → c.sets.bounds ≡ Some b → b.plan_end ≤ t → t ≤ midnight (b.last_day + 1) → c'.sets ≡ daily t c.sets
    → ChangesPlans Makes PutsNone c reply c' → Owes LongTerm (DailyFate t) [] c c'
daily_owes Makes t b c c' reply sound is later within becomes d =
    let sound' = rows_sound c sound in
    let bounds : c'.sets.bounds ≡ Some (record b { plan_end = t }) = ap (λ (s : Sets). s.bounds) becomes
    ∙ ap (option_map (λ (x : Bounds). record x { plan_end = t })) is in
    let follows = planned_follows t c c' sound becomes in
    record {
      follows = follows;
      rows = subst RowsSound (sym becomes) (daily_sound t c.sets b sound' is later within);
      keeps = daily_keeps t;
      opens = tt;
      closes = λ serial p q at goes live closed. inl
          (going_closes (place_after_daily_plan t) (daily_closes t) p q goes live closed);
      plan = leaves_plan Makes PutsNone c c' reply d (record b { plan_end = t }) bounds (sound.ranges.days b is).0;
      stays_row = λ serial p q at goes good. row_stays (place_after_daily_plan t) p q goes good;
      drafts_in_range = no_drafts DraftRanges;
      drafts_free = λ draft at generated other deletion there operator same. no_drafts (λ x. ⊥) draft at;
      by_operator = λ p q goes deleted. inl
          (daily_operator t p.row p.place (ap (λ (x : PlacedRow). x.place) (sym goes) ∙ deleted));
      sizes = sizes_stay LongTerm (DailyFate t) c.sets c'.sets sound' (daily_keeps t) follows sound.sizes;
      links = links_none c sound c'.in_force d.lists;
      no_loop = loops_none c sound c'.in_force d.lists;
    }

-- a plan end that is not refused
pub good_end : (b : Bounds) (hours t : ℕ) → (IsBadPlanEnd b hours t → ⊥) → (b.plan_end ≤ t)
    × (t ≤ midnight (b.last_day + 1))
good_end b hours t good = (
  elim (cases_lt t b.plan_end) [ inl early ↦ absurd (good (inl (omega arith))) | inr h ↦ h ],
  elim (cases_lt (midnight (b.last_day + 1)) t) [ inl past ↦ absurd (good (inr (inl past))) | inr h ↦ h ],
)
