-- Extension of the long-term plan is what the machine decides.
use Rattle.std.proofs.Common.{◌≡◌, ◌≢◌, ◌∙◌, ℕ, ◌+◌, ◌<◌, ◌≤◌, List, length, refl, sym, subst, inl, inr, arith, None}
use Rattle.std.proofs.Common.{Some}
use Rattle.std.proofs.lemmas.Bool.{cases_lt}
use Rattle.app_occurrences.specs.Active.{HasNoCalendar, HasNoPeriod}
use Rattle.occurrences.specs.Refusal.{refusal_number}
use Rattle.occurrences.specs.declared.refusal.Refusal.{Refusal}
use Rattle.occurrences.specs.declared.refusal.Refusal.TheVariants.{CalendarUndefined, DatesOutOfRange, Loop, NoPlan}
use Rattle.occurrences.specs.declared.refusal.Refusal.TheVariants.{PeriodUndefined, TooManyRows}
use Rattle.occurrences.specs.declared.reply.Reply.TheVariants.{Made}
use Rattle.external_dependencies.specs.Loop.{IsLeastOnLoop}
use Rattle.external_dependencies.specs.declared.links.Link.{Link}
use Rattle.planner_machine.specs.declared.content.Bounds.{Bounds}
use Rattle.planner_machine.specs.declared.content.Draft.{Draft}
use Rattle.planner_machine.specs.Content.{Content, midnight}
use Rattle.planner_machine.specs.Extend.{ExtendRefused, Extends, IsBadLastDay, extend, later_bounds}
use Rattle.planner_machine.specs.Decision.{IsLeastRefusal}
use Rattle.planner_machine.specs.InForce.{AreLinks, IsDefinedLink, PutsAll}
use Rattle.planner_machine.specs.Plans.{HoldTooMany, WouldLoop}
use Rattle.planner_machine.specs.Sound.{IsSound}
use Rattle.planner_machine.proofs.CreateLemmas.{extend_does_one, extend_sound, good_last}
use Rattle.planner_machine.proofs.LinkLemmas.{all_is_one}
use Rattle.planner_machine.proofs.SoundLemmas.{rows_sound}
use Rattle.plan_store.specs.Verdicts.{VerdictIs}
use Rattle.plan_store.specs.declared.changes.Verdict.{Verdict}
use Rattle.plan_store.specs.declared.changes.Verdict.TheVariants.{Done, Refused}
use Rattle.long_term_plan.specs.Making.{AddsDays, AreDaysAdded, IsMadeOrTooMany, KeepsRowsSound, LacksDefinition}
use Rattle.long_term_plan.specs.Making.{planned_sets}
use Rattle.long_term_plan.proofs.MakingLemmas.{changes_plans}
use Rattle.long_term_plan.proofs.RefusalLemmas.{no_loop}

module _ (to : ℕ) (c : Content) where
  abbrev Holds : Refusal → Type 0
  Holds = ExtendRefused to c

  -- where none holds of a number below n, n is the least
  from_number : (n : ℕ) → n ≤ 31 → (20 < n → c.sets.bounds ≢ None)
      → (22 < n → (app : List ℕ) → HasNoCalendar c.definitions app → ⊥)
      → (23 < n → (app : List ℕ) → HasNoPeriod c.definitions app → ⊥)
      → (24 < n → (b : Bounds) → c.sets.bounds ≡ Some b → IsBadLastDay b to → ⊥)
      → (25 < n → (app : List ℕ) → WouldLoop PutsAll c app → ⊥) → (q : Refusal) → Holds q → n ≤ refusal_number q
  from_number n le p20 p22 p23 p24 p25 NoPlan is =
      elim (cases_lt 20 n) [ inl lt ↦ absurd (p20 lt is) | inr ge ↦ ge ]
  from_number n le p20 p22 p23 p24 p25 (CalendarUndefined app) is =
      elim (cases_lt 22 n) [ inl lt ↦ absurd (p22 lt app is.0) | inr ge ↦ ge ]
  from_number n le p20 p22 p23 p24 p25 (PeriodUndefined app) is =
      elim (cases_lt 23 n) [ inl lt ↦ absurd (p23 lt app is.0) | inr ge ↦ ge ]
  from_number n le p20 p22 p23 p24 p25 DatesOutOfRange (b, is, bad) =
      elim (cases_lt 24 n) [ inl lt ↦ absurd (p24 lt b is bad) | inr ge ↦ ge ]
  from_number n le p20 p22 p23 p24 p25 (Loop app) is =
      elim (cases_lt 25 n) [ inl lt ↦ absurd (p25 lt app is) | inr ge ↦ ge ]
  from_number n le p20 p22 p23 p24 p25 TooManyRows is = le
  from_number n le p20 p22 p23 p24 p25 _ is = absurd is

  pub no_plan : c.sets.bounds ≡ None → IsLeastRefusal Holds NoPlan
  no_plan none = (
    none,
    from_number 20 (omega arith) (λ lt. absurd (omega (arith, lt))) (λ lt. absurd (omega (arith, lt)))
        (λ lt. absurd (omega (arith, lt))) (λ lt. absurd (omega (arith, lt))) (λ lt. absurd (omega (arith, lt))),
  )

  module _ (b : Bounds) (planned : c.sets.bounds ≡ Some b) where
    some : c.sets.bounds ≢ None
    some none = let no : Some b ≡ None = sym planned ∙ none in cc

    pub lacks : (refusal : Refusal) → LacksDefinition c.definitions (Some refusal) → IsLeastRefusal Holds refusal
    lacks (CalendarUndefined app) is = (
      is,
      from_number 22 (omega arith) (λ lt. some) (λ lt. absurd (omega (arith, lt)))
          (λ lt. absurd (omega (arith, lt))) (λ lt. absurd (omega (arith, lt))) (λ lt. absurd (omega (arith, lt))),
    )
    lacks (PeriodUndefined app) is = (
      is.1,
      from_number 23 (omega arith) (λ lt. some) (λ lt. is.0) (λ lt. absurd (omega (arith, lt)))
          (λ lt. absurd (omega (arith, lt))) (λ lt. absurd (omega (arith, lt))),
    )
    lacks _ is = absurd is

    module _ (defined : LacksDefinition c.definitions None) where
      pub bad_day : IsBadLastDay b to → IsLeastRefusal Holds DatesOutOfRange
      bad_day bad = (
        (b, planned, bad),
        from_number 24 (omega arith) (λ lt. some) (λ lt. defined.0) (λ lt. defined.1)
            (λ lt. absurd (omega (arith, lt))) (λ lt. absurd (omega (arith, lt))),
      )

      module _ (good : IsBadLastDay b to → ⊥) (links : List Link)
          (puts : AreLinks (IsDefinedLink c.definitions) links) where
        never_bad : (x : Bounds) → c.sets.bounds ≡ Some x → IsBadLastDay x to → ⊥
        never_bad x is bad =
            let both : Some x ≡ Some b = sym is ∙ planned in
            let same : x ≡ b = cc in
            good (subst (λ (y : Bounds). IsBadLastDay y to) same bad)

        pub loops : (app : List ℕ) → IsLeastOnLoop links (Some app) → IsLeastRefusal Holds (Loop app)
        loops app least = (
          (links, puts, least),
          from_number 25 (omega arith) (λ lt. some) (λ lt. defined.0) (λ lt. defined.1) (λ lt. never_bad)
              (λ lt. absurd (omega (arith, lt))),
        )

        module _ (sound : IsSound c) (none : IsLeastOnLoop links None) where
          pub keeps_sound : (new : List Draft) → AreDaysAdded c (later_bounds b to) (midnight (b.last_day + 1)) new
              → KeepsRowsSound c (later_bounds b to) new
          keeps_sound new are =
              let days = good_last b to good in
              extend_sound to c.definitions c.sets (rows_sound c sound) b planned days.0 days.1 new are

          extends : (new : List Draft) → AreDaysAdded c (later_bounds b to) (midnight (b.last_day + 1)) new
              → Extends to c.definitions c.sets (Made (length new) 0) (planned_sets (later_bounds b to) new c.sets)
          extends new are =
              record { bounds = b; had = planned; new = new; are_new = are; replies = refl; becomes = refl }

          none_holds : (new : List Draft) → AreDaysAdded c (later_bounds b to) (midnight (b.last_day + 1)) new
              → (HoldTooMany (planned_sets (later_bounds b to) new c.sets) → ⊥) → (q : Refusal) → Holds q → ⊥
          none_holds new are few NoPlan is = some is
          none_holds new are few (CalendarUndefined app) is = defined.0 app is.0
          none_holds new are few (PeriodUndefined app) is = defined.1 app is.0
          none_holds new are few DatesOutOfRange (x, is, bad) = never_bad x is bad
          none_holds new are few (Loop app) is = no_loop PutsAll all_is_one c links puts none app is
          none_holds new are few TooManyRows (reply, s, makes, over) =
              let same = extend_does_one to c.definitions c.sets reply (Made (length new) 0) s
              (planned_sets (later_bounds b to) new c.sets) (rows_sound c sound) makes (extends new are) in
              few (subst HoldTooMany same.1 over)
          none_holds new are few _ is = is

          decided : (new : List Draft) → AreDaysAdded c (later_bounds b to) (midnight (b.last_day + 1)) new
              → (verdict : Verdict) → IsMadeOrTooMany c (later_bounds b to) links new verdict
              → VerdictIs (extend to) c verdict
          decided new are (Refused refusal) (over, same) =
              subst (λ r. VerdictIs (extend to) c (Refused r)) (sym same) (
                (
                  (Made (length new) 0, planned_sets (later_bounds b to) new c.sets, extends new are, over),
                  from_number 31 (omega arith) (λ lt. some) (λ lt. defined.0) (λ lt. defined.1) (λ lt. never_bad)
                      (λ lt. no_loop PutsAll all_is_one c links puts none),
                ),
                refl,
              )
          decided new are (Done change reply) (few, made) = (
            made.0.fits,
            (
              none_holds new are few,
              changes_plans (Extends to) PutsAll c (planned_sets (later_bounds b to) new c.sets) links change
                  reply made.0 (subst (λ r. Extends to c.definitions c.sets r
                  (planned_sets (later_bounds b to) new c.sets)) (sym made.1) (extends new are)) puts,
            ),
            made.0.leads,
          )

          pub verdict_is : (verdict : Verdict)
              → AddsDays c (later_bounds b to) (midnight (b.last_day + 1)) links verdict
              → VerdictIs (extend to) c verdict
          verdict_is verdict is = decided is.new is.are_new verdict is.outcome
