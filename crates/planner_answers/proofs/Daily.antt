-- Daily plans.
use Rattle.std.proofs.Common.{◌≡◌, ℕ, suc, ◌+◌, ◌*◌, ◌<◌, ◌≤◌, refl, sym}
use Rattle.std.proofs.Common.{inl, inr, arith}
use Rattle.work_calendars.specs.Day.{first_day, last_day}
use Rattle.work_calendars.specs.Moment.{day_of_moment, minute_of_moment, moment_of}
use Rattle.work_calendars.specs.WorkDay.{work_days_before}
use Rattle.occurrences.specs.declared.refusal.Refusal.TheVariants.{NoPlan, PlanEndOutOfRange}
use Rattle.app_definitions.specs.declared.definitions.Definitions.{Definitions}
use Rattle.planner_machine.specs.declared.content.Bounds.{Bounds}
use Rattle.planner_machine.specs.declared.counts.Count.{Count}
use Rattle.planner_machine.specs.declared.counts.Count.TheVariants.{AllDays, WorkDays}
use Rattle.planner_machine.specs.Content.{Content, midnight}
use Rattle.planner_machine.specs.DailyExtend.{DailyExtendRefused, ExtendsDaily, IsBadPlanEnd, dp_extend}
use Rattle.planner_machine.specs.DailyExtendBy.{DailyExtendByRefused, ExtendsDailyBy, dp_extend_by}
use Rattle.planner_machine.specs.DailyPlan.{daily, daily_move, daily_reply}
use Rattle.planner_machine.specs.InForce.{PutsNone}
use Rattle.planner_machine.specs.NewEnd.{IsNewDay, IsNewEnd, IsNthFrom, default_work}
use Rattle.planner_machine.specs.Replan.{ReplanRefused, Replans, dp_replan}
use Rattle.planner_machine.specs.Sound.{IsSound}
use Rattle.planner_answers.proofs.Finite.{Decided, Finite, decided_all, decided_any, decided_both, decided_either, decided_le}
use Rattle.planner_answers.proofs.Finite.{decided_lt, decided_number, decided_so, finite_below, finite_from}
use Rattle.planner_answers.proofs.Finite.{finite_if, finite_made, finite_so, some_or_all}
use Rattle.planner_answers.proofs.Equal.{decided_true}
use Rattle.planner_answers.proofs.Names.{decided_none}
use Rattle.planner_answers.proofs.Rows.{IsEnded, each_ends, sound_ends}
use Rattle.planner_answers.proofs.Decisions.{AreDecided, IsAnswered, answered}
use Rattle.planner_answers.proofs.Plans.{decided_bounds, plan_of, plans_done}

decided_bad_end : (b : Bounds) (hours t : ℕ) → Decided (IsBadPlanEnd b hours t)
decided_bad_end b hours t =
    decided_either (decided_le t b.plan_end)
    (decided_either (decided_lt (midnight (b.last_day + 1)) t) (decided_lt (b.plan_end + hours * 60) t))

module _ (c : Content) (sound : IsSound c) where
  daily_ends : (t : ℕ) → IsEnded (daily t c.sets) c.sets.issued
  daily_ends t = each_ends (daily_move t) c.sets c.sets.issued refl (sound_ends c sound)

  -- `dp-extend`

  daily_decided : (t : ℕ) → AreDecided (DailyExtendRefused t c)
  daily_decided t = record {
    not_a_statement = inr (λ h. h);
    faulty_data = inr (λ h. h.1);
    another_text = inr (λ h. h);
    not_defined = inr (λ h. h);
    no_plan = decided_none c.sets.bounds;
    plan_exists = inr (λ h. h);
    calendar = inr (λ h. h.1);
    period = inr (λ h. h.1);
    dates = inr (λ h. h);
    loop = inr (λ h. h.1);
    no_application = inr (λ h. h);
    key_is_live = inr (λ h. h);
    no_occurrence = inr (λ h. h);
    status = inr (λ h. h);
    predecessor = inr (λ h. h.1);
    too_many = inr (λ h. h);
    plan_end = decided_bounds c.sets.bounds (λ b. IsBadPlanEnd b c.definitions.options.max_extension_hours t)
        (λ b. decided_bad_end b c.definitions.options.max_extension_hours t);
  }

  pub daily_answered : (t : ℕ) → IsAnswered (dp_extend t) c
  daily_answered t =
      answered (dp_extend t) c (daily_decided t) (λ none.
      plans_done (ExtendsDaily t) PutsNone c (daily_reply t c.sets) (daily t c.sets) c.sets.issued (refl, refl)
      (daily_ends t) c.in_force refl)

  -- `dp-replan`

  replan_decided : AreDecided (ReplanRefused c)
  replan_decided = record {
    not_a_statement = inr (λ h. h);
    faulty_data = inr (λ h. h.1);
    another_text = inr (λ h. h);
    not_defined = inr (λ h. h);
    no_plan = decided_none c.sets.bounds;
    plan_exists = inr (λ h. h);
    calendar = inr (λ h. h.1);
    period = inr (λ h. h.1);
    dates = inr (λ h. h);
    loop = inr (λ h. h.1);
    no_application = inr (λ h. h);
    key_is_live = inr (λ h. h);
    no_occurrence = inr (λ h. h);
    status = inr (λ h. h);
    predecessor = inr (λ h. h.1);
    too_many = inr (λ h. h);
    plan_end = inr (λ h. h);
  }

  pub replan_answered : IsAnswered dp_replan c
  replan_answered =
      answered dp_replan c replan_decided (λ none. let (b, had) = plan_of c (none NoPlan) in
      plans_done Replans PutsNone c (daily_reply b.plan_end c.sets) (daily b.plan_end c.sets) c.sets.issued
      (b, had, (refl, refl)) (daily_ends b.plan_end) c.in_force refl)

-- `dp-extend` by days

module _ (all : Definitions) (plan_end n : ℕ) where
  decided_nth : (x : ℕ) → Decided (IsNthFrom (default_work all) (day_of_moment plan_end) n x)
  decided_nth x =
      decided_so (λ (is, place). record { is_work = is; place = place }) (λ h. (h.is_work, h.place))
      (decided_both (decided_true (default_work all x))
      (decided_number (work_days_before (default_work all) x + 1)
      (work_days_before (default_work all) (day_of_moment plan_end) + n)))

  decided_new_day : (count : Count) (day : ℕ) → Decided (IsNewDay all (day_of_moment plan_end) n count day)
  decided_new_day AllDays day = decided_number day (day_of_moment plan_end + n)
  decided_new_day WorkDays day =
      decided_so
      (λ (x, lt, both). (x, both.0, both.1))
      (λ (x, nth, after). (x, omega (arith, after), (nth, after)))
      (decided_any (finite_below day) (λ x lt. decided_both (decided_nth x) (decided_number day (x + 1))))

  pub finite_new_ends : (count : Count) → Finite (IsNewEnd all plan_end n count)
  finite_new_ends count =
      finite_so to back
      (finite_made (λ day. moment_of day (minute_of_moment plan_end))
      (finite_if (finite_from first_day (suc last_day)) (λ day within. decided_new_day count day)))
    where
      to : (t : ℕ)
          → ((day : ℕ)
          × (((day < suc last_day) × (first_day ≤ day)) × IsNewDay all (day_of_moment plan_end) n count day)
          × (moment_of day (minute_of_moment plan_end) ≡ t))
          → IsNewEnd all plan_end n count t
      to t (day, (within, new), same) =
          let below = within.0 in
          record { day = day; is_new = new; in_range = (within.1, omega (arith, below)); end = sym same }

      back : (t : ℕ) → IsNewEnd all plan_end n count t
          → (day : ℕ)
          × (((day < suc last_day) × (first_day ≤ day)) × IsNewDay all (day_of_moment plan_end) n count day)
          × (moment_of day (minute_of_moment plan_end) ≡ t)
      back t is = let top = is.in_range.1 in
          (is.day, ((omega (arith, top), is.in_range.0), is.is_new), sym is.end)

module _ (n : ℕ) (count : Count) (c : Content) (sound : IsSound c) where
  abbrev Refusing : Bounds → Type 0
  Refusing b = (t : ℕ) → IsNewEnd c.definitions b.plan_end n count t
      → IsBadPlanEnd b c.definitions.options.max_extension_hours t

  decided_refusing : (b : Bounds) → Decided (Refusing b)
  decided_refusing b = decided_all (finite_new_ends c.definitions b.plan_end n count)
      (λ t is. decided_bad_end b c.definitions.options.max_extension_hours t)

  daily_by_decided : AreDecided (DailyExtendByRefused n count c)
  daily_by_decided = record {
    not_a_statement = inr (λ h. h);
    faulty_data = inr (λ h. h.1);
    another_text = inr (λ h. h);
    not_defined = inr (λ h. h);
    no_plan = decided_none c.sets.bounds;
    plan_exists = inr (λ h. h);
    calendar = inr (λ h. h.1);
    period = inr (λ h. h.1);
    dates = inr (λ h. h);
    loop = inr (λ h. h.1);
    no_application = inr (λ h. h);
    key_is_live = inr (λ h. h);
    no_occurrence = inr (λ h. h);
    status = inr (λ h. h);
    predecessor = inr (λ h. h.1);
    too_many = inr (λ h. h);
    plan_end = decided_bounds c.sets.bounds Refusing decided_refusing;
  }

  pub daily_by_answered : IsAnswered (dp_extend_by n count) c
  daily_by_answered =
      answered (dp_extend_by n count) c daily_by_decided (λ none.
      let (b, had) = plan_of c (none NoPlan) in
      elim (some_or_all (finite_new_ends c.definitions b.plan_end n count)
      (λ t is. decided_bad_end b c.definitions.options.max_extension_hours t)) [
        | inl found ↦
            plans_done (ExtendsDailyBy n count) PutsNone c (daily_reply found.0 c.sets) (daily found.0 c.sets)
            c.sets.issued (b, had, (found.0, found.1, (refl, refl))) (daily_ends c sound found.0) c.in_force refl
        | inr bad ↦ absurd (none PlanEndOutOfRange (b, had, bad))
      ])
