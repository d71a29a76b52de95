-- Modification of one application's part of the long-term plan is what the machine decides.
use Rattle.std.proofs.Common.{◌≡◌, ◌≢◌, ◌∙◌, ℕ, ◌<◌, ◌≤◌, List, refl, sym, subst, inl, inr, arith, None, Some}
use Rattle.std.proofs.lemmas.Bool.{cases_lt}
use Rattle.app_occurrences.specs.Active.{HasNoCalendar, HasNoPeriod}
use Rattle.occurrences.specs.Refusal.{refusal_number}
use Rattle.occurrences.specs.declared.refusal.Refusal.{Refusal}
use Rattle.occurrences.specs.declared.refusal.Refusal.TheVariants.{CalendarUndefined, Loop, NoActiveApplication, NoPlan}
use Rattle.occurrences.specs.declared.refusal.Refusal.TheVariants.{PeriodUndefined, TooManyRows}
use Rattle.external_dependencies.specs.Loop.{IsLeastOnLoop}
use Rattle.external_dependencies.specs.declared.links.Link.{Link}
use Rattle.planner_machine.specs.declared.content.Bounds.{Bounds}
use Rattle.planner_machine.specs.declared.content.Draft.{Draft}
use Rattle.planner_machine.specs.Content.{Content, Sets}
use Rattle.planner_machine.specs.Decision.{IsLeastRefusal}
use Rattle.planner_machine.specs.Drafts.{AreDrafts, IsMade}
use Rattle.planner_machine.specs.InForce.{PutsOne}
use Rattle.planner_machine.specs.ModifyOne.{IsThatApp, ModifiesOne, ModifyOneRefused, is_that_app, modify_one}
use Rattle.planner_machine.specs.Plans.{HoldTooMany, IsPlannedApp, WouldLoop}
use Rattle.planner_machine.specs.Sound.{IsSound}
use Rattle.planner_machine.proofs.LinkLemmas.{one_is_one}
use Rattle.planner_machine.proofs.ModifyLemmas.{modify_does_one, that_tests}
use Rattle.planner_machine.proofs.SoundLemmas.{rows_sound}
use Rattle.plan_store.specs.Verdicts.{VerdictIs}
use Rattle.plan_store.specs.declared.changes.Verdict.{Verdict}
use Rattle.plan_store.specs.declared.changes.Verdict.TheVariants.{Done, Refused}
use Rattle.long_term_plan.specs.Making.{LacksOwnDefinition}
use Rattle.long_term_plan.specs.Modifying.{IsModifiedOrTooMany, ModifiesPlan, NamesThen, modified_reply, modified_sets}
use Rattle.long_term_plan.proofs.MakingLemmas.{changes_plans}
use Rattle.long_term_plan.proofs.ModifyPlanLemmas.{modifies}
use Rattle.long_term_plan.proofs.RefusalLemmas.{no_loop}

module _ (app : List ℕ) (c : Content) where
  abbrev Holds : Refusal → Type 0
  Holds = ModifyOneRefused app c

  -- where none holds of a number below n, n is the least
  from_number : (n : ℕ) → n ≤ 31 → (20 < n → c.sets.bounds ≢ None) → (22 < n → HasNoCalendar c.definitions app → ⊥)
      → (23 < n → HasNoPeriod c.definitions app → ⊥)
      → (25 < n → (least : List ℕ) → WouldLoop (PutsOne app) c least → ⊥)
      → (26 < n → IsPlannedApp c.definitions app) → (q : Refusal) → Holds q → n ≤ refusal_number q
  from_number n le p20 p22 p23 p25 p26 NoPlan is =
      elim (cases_lt 20 n) [ inl lt ↦ absurd (p20 lt is) | inr ge ↦ ge ]
  from_number n le p20 p22 p23 p25 p26 (CalendarUndefined least) is =
      elim (cases_lt 22 n) [ inl lt ↦ absurd (p22 lt is.1) | inr ge ↦ ge ]
  from_number n le p20 p22 p23 p25 p26 (PeriodUndefined least) is =
      elim (cases_lt 23 n) [ inl lt ↦ absurd (p23 lt is.1) | inr ge ↦ ge ]
  from_number n le p20 p22 p23 p25 p26 (Loop least) is =
      elim (cases_lt 25 n) [ inl lt ↦ absurd (p25 lt least is) | inr ge ↦ ge ]
  from_number n le p20 p22 p23 p25 p26 NoActiveApplication is =
      elim (cases_lt 26 n) [ inl lt ↦ absurd (is (p26 lt)) | inr ge ↦ ge ]
  from_number n le p20 p22 p23 p25 p26 TooManyRows is = le
  from_number n le p20 p22 p23 p25 p26 _ is = absurd is

  module _ (b : Bounds) (planned : c.sets.bounds ≡ Some b) where
    some : c.sets.bounds ≢ None
    some none = let no : Some b ≡ None = sym planned ∙ none in cc

    pub lacks : (refusal : Refusal) → LacksOwnDefinition c.definitions app (Some refusal) → IsLeastRefusal Holds refusal
    lacks (CalendarUndefined least) is = (
      is,
      from_number 22 (omega arith) (λ lt. some) (λ lt. absurd (omega (arith, lt))) (λ lt. absurd (omega (arith, lt)))
          (λ lt. absurd (omega (arith, lt))) (λ lt. absurd (omega (arith, lt))),
    )
    lacks (PeriodUndefined least) is = (
      (is.1, is.2),
      from_number 23 (omega arith) (λ lt. some) (λ lt. is.0) (λ lt. absurd (omega (arith, lt)))
          (λ lt. absurd (omega (arith, lt))) (λ lt. absurd (omega (arith, lt))),
    )
    lacks _ is = absurd is

    module _ (defined : LacksOwnDefinition c.definitions app None) (links : List Link)
        (puts : PutsOne app c.definitions c.in_force links) where
      pub loops : (least : List ℕ) → IsLeastOnLoop links (Some least) → IsLeastRefusal Holds (Loop least)
      loops least is = (
        (links, puts, is),
        from_number 25 (omega arith) (λ lt. some) (λ lt. defined.0) (λ lt. defined.1)
            (λ lt. absurd (omega (arith, lt))) (λ lt. absurd (omega (arith, lt))),
      )

      pub not_active : IsLeastOnLoop links None → (IsPlannedApp c.definitions app → ⊥)
          → IsLeastRefusal Holds NoActiveApplication
      not_active none inactive = (
        inactive,
        from_number 26 (omega arith) (λ lt. some) (λ lt. defined.0) (λ lt. defined.1)
            (λ lt. no_loop (PutsOne app) (one_is_one app) c links puts none) (λ lt. absurd (omega (arith, lt))),
      )

      module _ (sound : IsSound c) (none : IsLeastOnLoop links None) (active : IsPlannedApp c.definitions app)
          (named new : List Draft) (are_named : AreDrafts (NamesThen c (Some app)) named)
          (are_new : AreDrafts (IsMade (NamesThen c (Some app)) c.sets) new) where
        abbrev target : Sets
        target = modified_sets (Some app) named new c.sets

        does : ModifiesOne app c.definitions c.sets (modified_reply (Some app) named new c.sets) target
        does = modifies c sound (Some app) named new are_named are_new

        none_holds : (HoldTooMany target → ⊥) → (q : Refusal) → Holds q → ⊥
        none_holds few NoPlan is = some is
        none_holds few (CalendarUndefined least) is = defined.0 is.1
        none_holds few (PeriodUndefined least) is = defined.1 is.1
        none_holds few (Loop least) is = no_loop (PutsOne app) (one_is_one app) c links puts none least is
        none_holds few NoActiveApplication is = is active
        none_holds few TooManyRows (reply, s, makes, over) =
            let same = modify_does_one (is_that_app app) (IsThatApp app) (that_tests app) c.definitions c.sets reply
            (modified_reply (Some app) named new c.sets) s target (rows_sound c sound) makes does in
            few (subst HoldTooMany same.1 over)
        none_holds few _ is = is

        decided : (verdict : Verdict) → IsModifiedOrTooMany c links (Some app) named new verdict
            → VerdictIs (modify_one app) c verdict
        decided (Refused refusal) (over, same) =
            subst (λ r. VerdictIs (modify_one app) c (Refused r)) (sym same) (
              (
                (modified_reply (Some app) named new c.sets, target, does, over),
                from_number 31 (omega arith) (λ lt. some) (λ lt. defined.0) (λ lt. defined.1)
                    (λ lt. no_loop (PutsOne app) (one_is_one app) c links puts none) (λ lt. active),
              ),
              refl,
            )
        decided (Done change reply) (few, made) = (
          made.0.fits,
          (
            none_holds few,
            changes_plans (ModifiesOne app) (PutsOne app) c target links change reply made.0
                (subst (λ r. ModifiesOne app c.definitions c.sets r target) (sym made.1) does) puts,
          ),
          made.0.leads,
        )

      pub verdict_is : IsSound c → IsLeastOnLoop links None → IsPlannedApp c.definitions app → (verdict : Verdict)
          → ModifiesPlan c (Some app) links verdict → VerdictIs (modify_one app) c verdict
      verdict_is sound none active verdict is =
          decided sound none active is.named is.new is.are_named is.are_new verdict is.outcome
