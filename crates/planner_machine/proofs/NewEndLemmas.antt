-- A daily plan by days is the daily plan to the new end that they give, and they give one at most.
use Rattle.std.proofs.Common.{◌≡◌, ◌↔◌, ℕ, ◌+◌, Bool, refl, sym, ap, subst, ◌∙◌, arith, Some}
use Rattle.std.specs.Prelude.{Ok, Err}
use Rattle.work_calendars.proofs.WorkDayFacts.{IsNthWorkDay-unique}
use Rattle.work_calendars.specs.Moment.{day_of_moment, minute_of_moment, moment_of}
use Rattle.work_calendars.specs.WorkDay.{work_days_before}
use Rattle.app_definitions.specs.declared.definitions.Definitions.{Definitions}
use Rattle.occurrences.specs.declared.refusal.Refusal.{Refusal}
use Rattle.occurrences.specs.declared.refusal.Refusal.TheVariants.{NoPlan, PlanEndOutOfRange}
use Rattle.occurrences.specs.declared.reply.Reply.{Reply}
use Rattle.planner_machine.specs.declared.content.Bounds.{Bounds}
use Rattle.planner_machine.specs.declared.counts.Count.{Count}
use Rattle.planner_machine.specs.declared.counts.Count.TheVariants.{AllDays, WorkDays}
use Rattle.planner_machine.specs.Content.{Content, Sets}
use Rattle.planner_machine.specs.DailyExtend.{DailyExtendRefused, ExtendsDaily, IsBadPlanEnd}
use Rattle.planner_machine.specs.DailyExtendBy.{DailyExtendByRefused, ExtendsDailyBy}
use Rattle.planner_machine.specs.DailyPlan.{PlansDaily}
use Rattle.planner_machine.specs.InForce.{PutsNone}
use Rattle.planner_machine.specs.Laws.{DailyByIsToEnd}
use Rattle.planner_machine.specs.NewEnd.{IsNewDay, IsNewEnd, IsNthFrom, default_work}
use Rattle.planner_machine.specs.Plans.{ChangesPlans}

pub one_nth : (work : ℕ → Bool) (d n x y : ℕ) → IsNthFrom work d n x → IsNthFrom work d n y → x ≡ y
one_nth work d n x y p q =
    let at_x = p.place in
    let at_y = q.place in
    IsNthWorkDay-unique work (work_days_before work x) x y (record { is_work = p.is_work; place = refl })
    (record { is_work = q.is_work; place = omega arith })

one_day : (all : Definitions) (d n : ℕ) (count : Count) (x y : ℕ) → IsNewDay all d n count x → IsNewDay all d n count y
    → x ≡ y
one_day all d n AllDays x y p q = p ∙ sym q
one_day all d n WorkDays x y (u, nth_u, p) (v, nth_v, q) =
    p ∙ ap (λ z. z + 1) (one_nth (default_work all) d n u v nth_u nth_v) ∙ sym q

pub one_end : (all : Definitions) (end n : ℕ) (count : Count) (t u : ℕ) → IsNewEnd all end n count t
    → IsNewEnd all end n count u → t ≡ u
one_end all end n count t u p q =
    p.end ∙ ap (λ day. moment_of day (minute_of_moment end))
    (one_day all (day_of_moment end) n count p.day q.day p.is_new q.is_new) ∙ sym q.end

module _ (n : ℕ) (count : Count) (c : Content) (b : Bounds) (t : ℕ) (is : c.sets.bounds ≡ Some b)
    (new : IsNewEnd c.definitions b.plan_end n count t) where
  same_bounds : (x : Bounds) → c.sets.bounds ≡ Some x → x ≡ b
  same_bounds x at = let whole : Some x ≡ Some b = sym at ∙ is in cc

  -- the new end of the plan end that the bounds have
  is_end : (x : Bounds) → c.sets.bounds ≡ Some x → IsNewEnd c.definitions x.plan_end n count t
  is_end x at = subst (λ (y : Bounds). IsNewEnd c.definitions y.plan_end n count t) (sym (same_bounds x at)) new

  refuses : (q : Refusal) → DailyExtendByRefused n count c q ↔ DailyExtendRefused t c q
  refuses NoPlan = ((λ h. h), λ h. h)
  refuses PlanEndOutOfRange = (
    (λ h. (h.0, h.1, h.2 t (is_end h.0 h.1))),
    λ h. (
      h.0,
      h.1,
      λ u end. subst (λ x. IsBadPlanEnd h.0 c.definitions.options.max_extension_hours x)
          (one_end c.definitions h.0.plan_end n count t u (is_end h.0 h.1) end) h.2,
    ),
  )
  refuses _ = ((λ h. h), λ h. h)

  makes : (reply : Reply) (s' : Sets) → ExtendsDailyBy n count c.definitions c.sets reply s'
      ↔ ExtendsDaily t c.definitions c.sets reply s'
  makes reply s' = (
    (λ h. subst (λ x. PlansDaily x c.sets reply s')
        (one_end c.definitions h.0.plan_end n count h.2.0 t h.2.1 (is_end h.0 h.1)) h.2.2),
    λ h. (b, is, (t, new, h)),
  )

  does : (reply : Reply) (c' : Content) → ChangesPlans (ExtendsDailyBy n count) PutsNone c reply c'
      ↔ ChangesPlans (ExtendsDaily t) PutsNone c reply c'
  does reply c' = (
    (λ d. record {
      rows = (makes reply c'.sets).0 d.rows;
      lists = d.lists;
      pairs = d.pairs;
      definitions = d.definitions;
      jobs = d.jobs;
    }),
    λ d. record {
      rows = (makes reply c'.sets).1 d.rows;
      lists = d.lists;
      pairs = d.pairs;
      definitions = d.definitions;
      jobs = d.jobs;
    },
  )

pub by_end : DailyByIsToEnd
by_end n count c b t is new (Ok reply) c' = (
  (λ d. ((λ q h. d.0 q ((refuses n count c b t is new q).1 h)), (does n count c b t is new reply c').0 d.1)),
  λ d. ((λ q h. d.0 q ((refuses n count c b t is new q).0 h)), (does n count c b t is new reply c').1 d.1),
)
by_end n count c b t is new (Err r) c' = (
  (λ d. (
    ((refuses n count c b t is new r).0 d.0.0, λ q h. d.0.1 q ((refuses n count c b t is new q).1 h)),
    d.1,
  )),
  λ d. (
    ((refuses n count c b t is new r).1 d.0.0, λ q h. d.0.1 q ((refuses n count c b t is new q).0 h)),
    d.1,
  ),
)
