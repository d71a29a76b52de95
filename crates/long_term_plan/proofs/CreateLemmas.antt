-- Creation of the long-term plan is what the machine decides.
use Rattle.std.proofs.Common.{◌≡◌, ℕ, ◌<◌, ◌≤◌, List, length, refl, sym, subst, inl, inr, arith, None, Some}
use Rattle.std.proofs.lemmas.Bool.{cases_lt}
use Rattle.app_occurrences.specs.Active.{HasNoCalendar, HasNoPeriod}
use Rattle.occurrences.specs.Refusal.{refusal_number}
use Rattle.occurrences.specs.declared.refusal.Refusal.{Refusal}
use Rattle.occurrences.specs.declared.refusal.Refusal.TheVariants.{CalendarUndefined, DatesOutOfRange, Loop}
use Rattle.occurrences.specs.declared.refusal.Refusal.TheVariants.{PeriodUndefined, PlanExists, TooManyRows}
use Rattle.occurrences.specs.declared.reply.Reply.TheVariants.{Made}
use Rattle.external_dependencies.specs.Loop.{IsLeastOnLoop}
use Rattle.external_dependencies.specs.declared.links.Link.{Link}
use Rattle.planner_machine.specs.declared.content.Draft.{Draft}
use Rattle.planner_machine.specs.Content.{Content, midnight}
use Rattle.planner_machine.specs.Create.{AreBadPlanDays, CreateRefused, Creates, create, first_bounds}
use Rattle.planner_machine.specs.Decision.{IsLeastRefusal}
use Rattle.planner_machine.specs.InForce.{AreLinks, IsDefinedLink, PutsAll}
use Rattle.planner_machine.specs.Plans.{HoldTooMany, WouldLoop}
use Rattle.planner_machine.specs.Sound.{IsSound}
use Rattle.planner_machine.proofs.CreateLemmas.{create_does_one, create_sound, good_days}
use Rattle.planner_machine.proofs.LinkLemmas.{all_is_one}
use Rattle.planner_machine.proofs.SoundLemmas.{rows_sound}
use Rattle.plan_store.specs.Verdicts.{VerdictIs}
use Rattle.plan_store.specs.declared.changes.Verdict.{Verdict}
use Rattle.plan_store.specs.declared.changes.Verdict.TheVariants.{Done, Refused}
use Rattle.long_term_plan.specs.Making.{AddsDays, AreDaysAdded, IsMadeOrTooMany, KeepsRowsSound, LacksDefinition}
use Rattle.long_term_plan.specs.Making.{planned_sets}
use Rattle.long_term_plan.proofs.MakingLemmas.{changes_plans}
use Rattle.long_term_plan.proofs.RefusalLemmas.{no_loop}

module _ (from to : ℕ) (c : Content) where
  abbrev Holds : Refusal → Type 0
  Holds = CreateRefused from to c

  -- where none holds of a number below n, n is the least
  from_number : (n : ℕ) → n ≤ 31 → (21 < n → c.sets.bounds ≡ None)
      → (22 < n → (app : List ℕ) → HasNoCalendar c.definitions app → ⊥)
      → (23 < n → (app : List ℕ) → HasNoPeriod c.definitions app → ⊥) → (24 < n → AreBadPlanDays from to → ⊥)
      → (25 < n → (app : List ℕ) → WouldLoop PutsAll c app → ⊥) → (q : Refusal) → Holds q → n ≤ refusal_number q
  from_number n le p21 p22 p23 p24 p25 PlanExists is =
      elim (cases_lt 21 n) [ inl lt ↦ absurd (is (p21 lt)) | inr ge ↦ ge ]
  from_number n le p21 p22 p23 p24 p25 (CalendarUndefined app) is =
      elim (cases_lt 22 n) [ inl lt ↦ absurd (p22 lt app is.0) | inr ge ↦ ge ]
  from_number n le p21 p22 p23 p24 p25 (PeriodUndefined app) is =
      elim (cases_lt 23 n) [ inl lt ↦ absurd (p23 lt app is.0) | inr ge ↦ ge ]
  from_number n le p21 p22 p23 p24 p25 DatesOutOfRange is =
      elim (cases_lt 24 n) [ inl lt ↦ absurd (p24 lt is) | inr ge ↦ ge ]
  from_number n le p21 p22 p23 p24 p25 (Loop app) is =
      elim (cases_lt 25 n) [ inl lt ↦ absurd (p25 lt app is) | inr ge ↦ ge ]
  from_number n le p21 p22 p23 p24 p25 TooManyRows is = le
  from_number n le p21 p22 p23 p24 p25 _ is = absurd is

  module _ (unplanned : c.sets.bounds ≡ None) where
    pub lacks : (refusal : Refusal) → LacksDefinition c.definitions (Some refusal) → IsLeastRefusal Holds refusal
    lacks (CalendarUndefined app) is = (
      is,
      from_number 22 (omega arith) (λ lt. unplanned) (λ lt. absurd (omega (arith, lt)))
          (λ lt. absurd (omega (arith, lt))) (λ lt. absurd (omega (arith, lt))) (λ lt. absurd (omega (arith, lt))),
    )
    lacks (PeriodUndefined app) is = (
      is.1,
      from_number 23 (omega arith) (λ lt. unplanned) (λ lt. is.0) (λ lt. absurd (omega (arith, lt)))
          (λ lt. absurd (omega (arith, lt))) (λ lt. absurd (omega (arith, lt))),
    )
    lacks _ is = absurd is

    module _ (defined : LacksDefinition c.definitions None) where
      pub bad_days : AreBadPlanDays from to → IsLeastRefusal Holds DatesOutOfRange
      bad_days bad = (
        bad,
        from_number 24 (omega arith) (λ lt. unplanned) (λ lt. defined.0) (λ lt. defined.1)
            (λ lt. absurd (omega (arith, lt))) (λ lt. absurd (omega (arith, lt))),
      )

      module _ (good : AreBadPlanDays from to → ⊥) (links : List Link)
          (puts : AreLinks (IsDefinedLink c.definitions) links) where
        pub loops : (app : List ℕ) → IsLeastOnLoop links (Some app) → IsLeastRefusal Holds (Loop app)
        loops app least = (
          (links, puts, least),
          from_number 25 (omega arith) (λ lt. unplanned) (λ lt. defined.0) (λ lt. defined.1) (λ lt. good)
              (λ lt. absurd (omega (arith, lt))),
        )

        module _ (sound : IsSound c) (none : IsLeastOnLoop links None) where
          pub keeps_sound : (new : List Draft) → AreDaysAdded c (first_bounds from to) (midnight from) new
              → KeepsRowsSound c (first_bounds from to) new
          keeps_sound new are =
              let days = good_days from to good in
              create_sound from to c.definitions c.sets (rows_sound c sound) unplanned days.0 days.1 new are

          creates : (new : List Draft) → AreDaysAdded c (first_bounds from to) (midnight from) new
              → Creates from to c.definitions c.sets (Made (length new) 0)
              (planned_sets (first_bounds from to) new c.sets)
          creates new are = record { new = new; are_new = are; replies = refl; becomes = refl }

          none_holds : (new : List Draft) → AreDaysAdded c (first_bounds from to) (midnight from) new
              → (HoldTooMany (planned_sets (first_bounds from to) new c.sets) → ⊥) → (q : Refusal) → Holds q → ⊥
          none_holds new are few PlanExists is = is unplanned
          none_holds new are few (CalendarUndefined app) is = defined.0 app is.0
          none_holds new are few (PeriodUndefined app) is = defined.1 app is.0
          none_holds new are few DatesOutOfRange is = good is
          none_holds new are few (Loop app) is = no_loop PutsAll all_is_one c links puts none app is
          none_holds new are few TooManyRows (reply, s, makes, over) =
              let same = create_does_one from to c.definitions c.sets reply (Made (length new) 0) s
              (planned_sets (first_bounds from to) new c.sets) (rows_sound c sound) makes (creates new are) in
              few (subst HoldTooMany same.1 over)
          none_holds new are few _ is = is

          decided : (new : List Draft) → AreDaysAdded c (first_bounds from to) (midnight from) new
              → (verdict : Verdict) → IsMadeOrTooMany c (first_bounds from to) links new verdict
              → VerdictIs (create from to) c verdict
          decided new are (Refused refusal) (over, same) =
              subst (λ r. VerdictIs (create from to) c (Refused r)) (sym same) (
                (
                  (Made (length new) 0, planned_sets (first_bounds from to) new c.sets, creates new are, over),
                  from_number 31 (omega arith) (λ lt. unplanned) (λ lt. defined.0) (λ lt. defined.1) (λ lt. good)
                      (λ lt. no_loop PutsAll all_is_one c links puts none),
                ),
                refl,
              )
          decided new are (Done change reply) (few, made) = (
            made.0.fits,
            (
              none_holds new are few,
              changes_plans (Creates from to) PutsAll c (planned_sets (first_bounds from to) new c.sets) links change
                  reply made.0 (subst (λ r. Creates from to c.definitions c.sets r
                  (planned_sets (first_bounds from to) new c.sets)) (sym made.1) (creates new are)) puts,
            ),
            made.0.leads,
          )

          pub verdict_is : (verdict : Verdict) → AddsDays c (first_bounds from to) (midnight from) links verdict
              → VerdictIs (create from to) c verdict
          verdict_is verdict is = decided is.new is.are_new verdict is.outcome
