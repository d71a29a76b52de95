use Rattle.std.proofs.Common.{◌≡◌, ◌∙◌, ℕ, false, refl, subst, sym, List, Option, None, Some, Result, Ok, Err}
use Rattle.std.specs.Prelude.{IfOk, is_some}
use Rattle.external_dependencies.specs.Loop.{IsLeastOnLoop}
use Rattle.app_definitions.specs.declared.definitions.Definitions.{Definitions}
use Rattle.planner_machine.specs.declared.content.Bounds.{Bounds}
use Rattle.planner_machine.specs.declared.content.Draft.{Draft}
use Rattle.planner_machine.specs.Content.{Content}
use Rattle.planner_machine.specs.Create.{AreBadPlanDays, create}
use Rattle.planner_machine.specs.InForce.{AreLinks, IsDefinedLink}
use Rattle.planner_machine.specs.Sound.{IsSound}
use Rattle.plan_store.specs.Verdicts.{VerdictIs}
use Rattle.plan_store.specs.Views.{hidden_of, with_hidden}
use Rattle.plan_store.proofs.WindowLemmas.{seen_is, sees_plan, shows_none_deleted}
use Rattle.plan_store.specs.declared.changes.Verdict.TheVariants.{Refused}
use Rattle.occurrences.specs.declared.refusal.Refusal.TheVariants.{DatesOutOfRange, Loop}
use Rattle.std.proofs.lemmas.Bool.{false≢true}
use Rattle.long_term_plan.specs.Making.{AddsDays, AreDaysAdded, KeepsRowsSound, LacksDefinition}
use Rattle.long_term_plan.proofs.HeldLemmas.{known_all}
use Rattle.long_term_plan.proofs.CreateLemmas.{bad_days, keeps_sound, lacks, loops, verdict_is}
use Rattle.long_term_plan.proofs.creation.create.Goals as goal

weaker : {A E : Type 0} (r : Result A E) (P Q : A → Type 0) → ((a : A) → P a → Q a) → IfOk r P → IfOk r Q
weaker (Ok a) P Q f is = f a is
weaker (Err e) P Q f is = tt

none_is : {X : Type 0} (o : Option X) → is_some o ≡ false → o ≡ None
none_is None is = refl
none_is (Some x) is = cc

pub returns-in-Some : goal.returns-in-Some
returns-in-Some c content shows sound =
    let view = with_hidden (hidden_of content) c.args.view.now in
    let unplanned : view.sets.bounds ≡ None = sym c.bounds.ensures
    ∙ none_is c.bounds.result (sym c.if-is_some.ensures) in
    let lacking : LacksDefinition view.definitions (Some c.in-Some.refusal) =
    subst (λ (all : Definitions). LacksDefinition all (Some c.in-Some.refusal)) c.definitions.ensures
    c.in-Some.ensures in
    subst (λ x. VerdictIs (create c.args.from c.args.to) x (Refused c.in-Some.refusal))
    (seen_is c.args.view.now content shows.is)
    (lacks c.args.from c.args.to view unplanned c.in-Some.refusal lacking, refl)

pub returns-then-are_bad_days : goal.returns-then-are_bad_days
returns-then-are_bad_days c content shows sound =
    let view = with_hidden (hidden_of content) c.args.view.now in
    let unplanned : view.sets.bounds ≡ None =
    sym c.bounds.ensures ∙ none_is c.bounds.result (sym c.if-is_some.ensures) in
    let defined : LacksDefinition view.definitions None =
    subst (λ (all : Definitions). LacksDefinition all None) c.definitions.ensures c.in_default.ensures in
    subst (λ x. VerdictIs (create c.args.from c.args.to) x (Refused DatesOutOfRange))
    (seen_is c.args.view.now content shows.is)
    (bad_days c.args.from c.args.to view unplanned defined (c.are_bad_days.ensures.0 c.if-are_bad_days.true), refl)

pub returns-in-Some-2 : goal.returns-in-Some-2
returns-in-Some-2 c content shows sound =
    let view = with_hidden (hidden_of content) c.args.view.now in
    let unplanned : view.sets.bounds ≡ None =
    sym c.bounds.ensures ∙ none_is c.bounds.result (sym c.if-is_some.ensures) in
    let defined : LacksDefinition view.definitions None =
    subst (λ (all : Definitions). LacksDefinition all None) c.definitions.ensures c.in_default.ensures in
    let good : AreBadPlanDays c.args.from c.args.to → ⊥ =
    λ bad. false≢true (sym c.if-are_bad_days.false ∙ c.are_bad_days.ensures.1 bad) in
    let puts : AreLinks (IsDefinedLink view.definitions) c.in_ok-links.links =
    subst (λ (all : Definitions). AreLinks (IsDefinedLink all) c.in_ok-links.links) c.definitions-2.ensures
    c.in_ok-links.ensures in
    let least : IsLeastOnLoop c.in_ok-links.links (Some c.in-Some-2.app) =
    subst (λ (o : Option (List ℕ)). IsLeastOnLoop c.in_ok-links.links o) c.in-Some-2.is c.in_ok-app.ensures in
    subst (λ x. VerdictIs (create c.args.from c.args.to) x (Refused (Loop c.in-Some-2.app)))
    (seen_is c.args.view.now content shows.is)
    (loops c.args.from c.args.to view unplanned defined good c.in_ok-links.links puts c.in-Some-2.app least, refl)

pub returns : goal.returns
returns c = weaker c.add_days.result _ _ (λ verdict adds content shows sound.
    let view = with_hidden (hidden_of content) c.args.view.now in
    let sound_view : IsSound view = subst IsSound (sym (seen_is c.args.view.now content shows.is)) sound in
    let unplanned : view.sets.bounds ≡ None =
    sym c.bounds.ensures ∙ none_is c.bounds.result (sym c.if-is_some.ensures) in
    let defined : LacksDefinition view.definitions None =
    subst (λ (all : Definitions). LacksDefinition all None) c.definitions.ensures c.in_default.ensures in
    let good : AreBadPlanDays c.args.from c.args.to → ⊥ =
    λ bad. false≢true (sym c.if-are_bad_days.false ∙ c.are_bad_days.ensures.1 bad) in
    let puts : AreLinks (IsDefinedLink view.definitions) c.in_ok-links.links =
    subst (λ (all : Definitions). AreLinks (IsDefinedLink all) c.in_ok-links.links) c.definitions-2.ensures
    c.in_ok-links.ensures in
    let none : IsLeastOnLoop c.in_ok-links.links None =
    subst (λ (o : Option (List ℕ)). IsLeastOnLoop c.in_ok-links.links o) c.in_default-2.is c.in_ok-app.ensures in
    let b : ℕ → Bounds = λ m. record { first_day = c.args.from; last_day = c.args.to; plan_end = m } in
    let P : ℕ → Type 0 = λ m. ((new : List Draft) → AreDaysAdded view (b m) m new → KeepsRowsSound view (b m) new)
    → AddsDays view (b m) m c.in_ok-links.links verdict in
    let added = subst P c.midnight-plan_end.ensures (adds (hidden_of content) sound_view (sees_plan None c.args.view.now content shows)
    (known_all view c.in_ok-links.links puts)
    (λ key late. shows_none_deleted None c.args.view.now content shows key (sound.bounds.before
    (subst (λ (x : Content). x.sets.bounds ≡ None) (seen_is c.args.view.now content shows.is) unplanned))))
    (keeps_sound c.args.from c.args.to view unplanned defined good c.in_ok-links.links puts sound_view none) in
    subst (λ x. VerdictIs (create c.args.from c.args.to) x verdict) (seen_is c.args.view.now content shows.is)
    (verdict_is c.args.from c.args.to view unplanned defined good c.in_ok-links.links puts sound_view none verdict
    added)) c.add_days.ensures
