-- Modification of the long-term plan is what the machine decides.
use Rattle.std.proofs.Common.{◌≡◌, ◌≢◌, ◌∙◌, ℕ, ◌<◌, ◌≤◌, List, refl, sym, subst, inl, inr, arith, None, Some}
use Rattle.std.proofs.lemmas.Bool.{cases_lt}
use Rattle.app_occurrences.specs.Active.{HasNoCalendar, HasNoPeriod}
use Rattle.occurrences.specs.Refusal.{refusal_number}
use Rattle.occurrences.specs.declared.refusal.Refusal.{Refusal}
use Rattle.occurrences.specs.declared.refusal.Refusal.TheVariants.{CalendarUndefined, Loop, NoPlan, PeriodUndefined}
use Rattle.occurrences.specs.declared.refusal.Refusal.TheVariants.{TooManyRows}
use Rattle.external_dependencies.specs.Loop.{IsLeastOnLoop}
use Rattle.external_dependencies.specs.declared.links.Link.{Link}
use Rattle.planner_machine.specs.declared.content.Bounds.{Bounds}
use Rattle.planner_machine.specs.declared.content.Draft.{Draft}
use Rattle.planner_machine.specs.Content.{Content, Sets}
use Rattle.planner_machine.specs.Decision.{IsLeastRefusal}
use Rattle.planner_machine.specs.Drafts.{AreDrafts, IsMade}
use Rattle.planner_machine.specs.InForce.{AreLinks, IsDefinedLink, PutsAll}
use Rattle.planner_machine.specs.ModifyAll.{IsAnyApp, ModifiesAll, ModifyAllRefused, is_any_app, modify_all}
use Rattle.planner_machine.specs.Plans.{HoldTooMany, WouldLoop}
use Rattle.planner_machine.specs.Sound.{IsSound}
use Rattle.planner_machine.proofs.LinkLemmas.{all_is_one}
use Rattle.planner_machine.proofs.ModifyLemmas.{any_tests, modify_does_one}
use Rattle.planner_machine.proofs.SoundLemmas.{rows_sound}
use Rattle.plan_store.specs.Verdicts.{VerdictIs}
use Rattle.plan_store.specs.declared.changes.Verdict.{Verdict}
use Rattle.plan_store.specs.declared.changes.Verdict.TheVariants.{Done, Refused}
use Rattle.long_term_plan.specs.Making.{LacksDefinition}
use Rattle.long_term_plan.specs.Modifying.{IsModifiedOrTooMany, ModifiesPlan, NamesThen, modified_reply, modified_sets}
use Rattle.long_term_plan.proofs.MakingLemmas.{changes_plans}
use Rattle.long_term_plan.proofs.ModifyPlanLemmas.{modifies}
use Rattle.long_term_plan.proofs.RefusalLemmas.{no_loop}

module _ (c : Content) where
  abbrev Holds : Refusal → Type 0
  Holds = ModifyAllRefused c

  -- where none holds of a number below n, n is the least
  from_number : (n : ℕ) → n ≤ 31 → (20 < n → c.sets.bounds ≢ None)
      → (22 < n → (app : List ℕ) → HasNoCalendar c.definitions app → ⊥)
      → (23 < n → (app : List ℕ) → HasNoPeriod c.definitions app → ⊥)
      → (25 < n → (app : List ℕ) → WouldLoop PutsAll c app → ⊥) → (q : Refusal) → Holds q → n ≤ refusal_number q
  from_number n le p20 p22 p23 p25 NoPlan is =
      elim (cases_lt 20 n) [ inl lt ↦ absurd (p20 lt is) | inr ge ↦ ge ]
  from_number n le p20 p22 p23 p25 (CalendarUndefined app) is =
      elim (cases_lt 22 n) [ inl lt ↦ absurd (p22 lt app is.0) | inr ge ↦ ge ]
  from_number n le p20 p22 p23 p25 (PeriodUndefined app) is =
      elim (cases_lt 23 n) [ inl lt ↦ absurd (p23 lt app is.0) | inr ge ↦ ge ]
  from_number n le p20 p22 p23 p25 (Loop app) is =
      elim (cases_lt 25 n) [ inl lt ↦ absurd (p25 lt app is) | inr ge ↦ ge ]
  from_number n le p20 p22 p23 p25 TooManyRows is = le
  from_number n le p20 p22 p23 p25 _ is = absurd is

  module _ (b : Bounds) (planned : c.sets.bounds ≡ Some b) where
    some : c.sets.bounds ≢ None
    some none = let no : Some b ≡ None = sym planned ∙ none in cc

    pub lacks : (refusal : Refusal) → LacksDefinition c.definitions (Some refusal) → IsLeastRefusal Holds refusal
    lacks (CalendarUndefined app) is = (
      is,
      from_number 22 (omega arith) (λ lt. some) (λ lt. absurd (omega (arith, lt))) (λ lt. absurd (omega (arith, lt)))
          (λ lt. absurd (omega (arith, lt))),
    )
    lacks (PeriodUndefined app) is = (
      is.1,
      from_number 23 (omega arith) (λ lt. some) (λ lt. is.0) (λ lt. absurd (omega (arith, lt)))
          (λ lt. absurd (omega (arith, lt))),
    )
    lacks _ is = absurd is

    module _ (defined : LacksDefinition c.definitions None) (links : List Link)
        (puts : AreLinks (IsDefinedLink c.definitions) links) where
      pub loops : (app : List ℕ) → IsLeastOnLoop links (Some app) → IsLeastRefusal Holds (Loop app)
      loops app least = (
        (links, puts, least),
        from_number 25 (omega arith) (λ lt. some) (λ lt. defined.0) (λ lt. defined.1)
            (λ lt. absurd (omega (arith, lt))),
      )

      module _ (sound : IsSound c) (none : IsLeastOnLoop links None) (named new : List Draft)
          (are_named : AreDrafts (NamesThen c None) named) (are_new : AreDrafts (IsMade (NamesThen c None) c.sets) new)
        where
          abbrev target : Sets
          target = modified_sets None named new c.sets

          does : ModifiesAll c.definitions c.sets (modified_reply None named new c.sets) target
          does = modifies c sound None named new are_named are_new

          none_holds : (HoldTooMany target → ⊥) → (q : Refusal) → Holds q → ⊥
          none_holds few NoPlan is = some is
          none_holds few (CalendarUndefined app) is = defined.0 app is.0
          none_holds few (PeriodUndefined app) is = defined.1 app is.0
          none_holds few (Loop app) is = no_loop PutsAll all_is_one c links puts none app is
          none_holds few TooManyRows (reply, s, makes, over) =
              let same = modify_does_one is_any_app IsAnyApp any_tests c.definitions c.sets reply
              (modified_reply None named new c.sets) s target (rows_sound c sound) makes does in
              few (subst HoldTooMany same.1 over)
          none_holds few _ is = is

          decided : (verdict : Verdict) → IsModifiedOrTooMany c links None named new verdict
              → VerdictIs modify_all c verdict
          decided (Refused refusal) (over, same) =
              subst (λ r. VerdictIs modify_all c (Refused r)) (sym same) (
                (
                  (modified_reply None named new c.sets, target, does, over),
                  from_number 31 (omega arith) (λ lt. some) (λ lt. defined.0) (λ lt. defined.1)
                      (λ lt. no_loop PutsAll all_is_one c links puts none),
                ),
                refl,
              )
          decided (Done change reply) (few, made) = (
            made.0.fits,
            (
              none_holds few,
              changes_plans ModifiesAll PutsAll c target links change reply made.0
                  (subst (λ r. ModifiesAll c.definitions c.sets r target) (sym made.1) does) puts,
            ),
            made.0.leads,
          )

      pub verdict_is : IsSound c → IsLeastOnLoop links None → (verdict : Verdict) → ModifiesPlan c None links verdict
          → VerdictIs modify_all c verdict
      verdict_is sound none verdict is =
          decided sound none is.named is.new is.are_named is.are_new verdict is.outcome
