use Rattle.std.proofs.Common.{◌≡◌, ◌≤◌, ◌∙◌, ◌+◌, ℕ, ap, arith, refl, subst, sym, List, Option, None, Some, Result}
use Rattle.std.proofs.Common.{Ok, Err}
use Rattle.std.specs.Prelude.{IfOk}
use Rattle.std.proofs.lemmas.Bool.{false≢true}
use Rattle.app_definitions.specs.declared.definitions.Definitions.{Definitions}
use Rattle.occurrences.specs.declared.refusal.Refusal.TheVariants.{DatesOutOfRange, Loop, NoPlan}
use Rattle.external_dependencies.specs.Loop.{IsLeastOnLoop}
use Rattle.planner_machine.specs.declared.content.Bounds.{Bounds}
use Rattle.planner_machine.specs.declared.content.Draft.{Draft}
use Rattle.planner_machine.specs.Content.{Content, midnight}
use Rattle.planner_machine.specs.Extend.{IsBadLastDay, extend, later_bounds}
use Rattle.planner_machine.specs.InForce.{AreLinks, IsDefinedLink}
use Rattle.planner_machine.specs.Sound.{IsSound}
use Rattle.plan_store.specs.Verdicts.{VerdictIs}
use Rattle.plan_store.specs.Views.{hidden_of, with_hidden}
use Rattle.plan_store.proofs.WindowLemmas.{seen_is, sees_plan, shows_deleted}
use Rattle.plan_store.specs.declared.changes.Verdict.TheVariants.{Refused}
use Rattle.long_term_plan.specs.Making.{AddsDays, AreDaysAdded, KeepsRowsSound, LacksDefinition}
use Rattle.long_term_plan.proofs.HeldLemmas.{known_all}
use Rattle.long_term_plan.proofs.ExtendLemmas.{bad_day, keeps_sound, lacks, loops, no_plan, verdict_is}
use Rattle.long_term_plan.proofs.extension.extend.Goals as goal

weaker : {A E : Type 0} (r : Result A E) (P Q : A → Type 0) → ((a : A) → P a → Q a) → IfOk r P → IfOk r Q
weaker (Ok a) P Q f is = f a is
weaker (Err e) P Q f is = tt

pub returns-in_default : goal.returns-in_default
returns-in_default c content shows sound =
    let view = with_hidden (hidden_of content) c.args.view.now in
    subst (λ x. VerdictIs (extend c.args.to) x (Refused NoPlan)) (seen_is c.args.view.now content shows.is)
    (no_plan c.args.to view (sym c.bounds.ensures ∙ c.in_default.is), refl)

pub returns-in-Some-lacking_definition : goal.returns-in-Some-lacking_definition
returns-in-Some-lacking_definition c content shows sound =
    let view = with_hidden (hidden_of content) c.args.view.now in
    let planned : view.sets.bounds ≡ Some c.in-Some.bounds = sym c.bounds.ensures ∙ c.in-Some.is in
    let lacking : LacksDefinition view.definitions (Some c.in-Some-lacking_definition.refusal) =
    subst (λ (all : Definitions). LacksDefinition all (Some c.in-Some-lacking_definition.refusal)) c.definitions.ensures
    c.in-Some-lacking_definition.ensures in
    subst (λ x. VerdictIs (extend c.args.to) x (Refused c.in-Some-lacking_definition.refusal))
    (seen_is c.args.view.now content shows.is)
    (lacks c.args.to view c.in-Some.bounds planned c.in-Some-lacking_definition.refusal lacking, refl)

pub returns-then-is_bad_last_day : goal.returns-then-is_bad_last_day
returns-then-is_bad_last_day c content shows sound =
    let view = with_hidden (hidden_of content) c.args.view.now in
    let planned : view.sets.bounds ≡ Some c.in-Some.bounds = sym c.bounds.ensures ∙ c.in-Some.is in
    let defined : LacksDefinition view.definitions None =
    subst (λ (all : Definitions). LacksDefinition all None) c.definitions.ensures
    c.in_default-lacking_definition.ensures in
    subst (λ x. VerdictIs (extend c.args.to) x (Refused DatesOutOfRange)) (seen_is c.args.view.now content shows.is) (
      bad_day c.args.to view c.in-Some.bounds planned defined (c.is_bad_last_day.ensures.0 c.if-is_bad_last_day.true),
      refl,
    )

pub returns-in-Some-2 : goal.returns-in-Some-2
returns-in-Some-2 c content shows sound =
    let view = with_hidden (hidden_of content) c.args.view.now in
    let planned : view.sets.bounds ≡ Some c.in-Some.bounds = sym c.bounds.ensures ∙ c.in-Some.is in
    let defined : LacksDefinition view.definitions None =
    subst (λ (all : Definitions). LacksDefinition all None) c.definitions.ensures
    c.in_default-lacking_definition.ensures in
    let good : IsBadLastDay c.in-Some.bounds c.args.to → ⊥ =
    λ bad. false≢true (sym c.if-is_bad_last_day.false ∙ c.is_bad_last_day.ensures.1 bad) in
    let puts : AreLinks (IsDefinedLink view.definitions) c.in_ok-links.links =
    subst (λ (all : Definitions). AreLinks (IsDefinedLink all) c.in_ok-links.links) c.definitions-2.ensures
    c.in_ok-links.ensures in
    let least : IsLeastOnLoop c.in_ok-links.links (Some c.in-Some-2.app) =
    subst (λ (o : Option (List ℕ)). IsLeastOnLoop c.in_ok-links.links o) c.in-Some-2.is c.in_ok-app.ensures in
    subst (λ x. VerdictIs (extend c.args.to) x (Refused (Loop c.in-Some-2.app))) (seen_is c.args.view.now content shows.is)
    (loops c.args.to view c.in-Some.bounds planned defined good c.in_ok-links.links puts c.in-Some-2.app least, refl)

pub returns : goal.returns
returns c = weaker c.add_days.result _ _ (λ verdict adds content shows sound.
    let view = with_hidden (hidden_of content) c.args.view.now in
    let b = c.in-Some.bounds in
    let sound_view : IsSound view = subst IsSound (sym (seen_is c.args.view.now content shows.is)) sound in
    let planned : view.sets.bounds ≡ Some b = sym c.bounds.ensures ∙ c.in-Some.is in
    let defined : LacksDefinition view.definitions None =
    subst (λ (all : Definitions). LacksDefinition all None) c.definitions.ensures
    c.in_default-lacking_definition.ensures in
    let good : IsBadLastDay b c.args.to → ⊥ =
    λ bad. false≢true (sym c.if-is_bad_last_day.false ∙ c.is_bad_last_day.ensures.1 bad) in
    let puts : AreLinks (IsDefinedLink view.definitions) c.in_ok-links.links =
    subst (λ (all : Definitions). AreLinks (IsDefinedLink all) c.in_ok-links.links) c.definitions-2.ensures
    c.in_ok-links.ensures in
    let none : IsLeastOnLoop c.in_ok-links.links None =
    subst (λ (o : Option (List ℕ)). IsLeastOnLoop c.in_ok-links.links o) c.in_default-2.is c.in_ok-app.ensures in
    let later : Bounds = later_bounds b c.args.to in
    let first : c.midnight.result ≡ midnight (b.last_day + 1) =
    c.midnight.ensures ∙ ap midnight c.in-Some-next.ensures.value in
    let P : ℕ → Type 0 = λ m. ((new : List Draft) → AreDaysAdded view later m new → KeepsRowsSound view later new)
    → AddsDays view later m c.in_ok-links.links verdict in
    let seen = seen_is c.args.view.now content shows.is in
    let bounded : content.sets.bounds ≡ Some b = subst (λ (x : Content). x.sets.bounds ≡ Some b) seen planned in
    let ended : b.plan_end ≤ c.midnight.result = subst (λ m. b.plan_end ≤ m) (sym first)
    (sound.bounds.after b bounded).ended in
    let added = subst P first (adds (hidden_of content) sound_view (sees_plan None c.args.view.now content shows)
    (known_all view c.in_ok-links.links puts)
    (λ key late. shows_deleted None c.args.view.now content shows key b bounded (omega (arith, ended, late))))
    (keeps_sound c.args.to view b planned defined good c.in_ok-links.links puts sound_view none) in
    subst (λ x. VerdictIs (extend c.args.to) x verdict) (seen_is c.args.view.now content shows.is)
    (verdict_is c.args.to view b planned defined good c.in_ok-links.links puts sound_view none verdict
    added)) c.add_days.ensures
