use Rattle.std.proofs.Common.{◌≡◌, ◌∙◌, ℕ, refl, subst, sym, List, Option, None, Some, Result, Ok, Err}
use Rattle.std.specs.Prelude.{IfOk}
use Rattle.app_definitions.specs.declared.definitions.Definitions.{Definitions}
use Rattle.occurrences.specs.declared.refusal.Refusal.TheVariants.{Loop}
use Rattle.external_dependencies.specs.Loop.{IsLeastOnLoop}
use Rattle.planner_machine.specs.InForce.{AreLinks, IsDefinedLink}
use Rattle.planner_machine.specs.ModifyAll.{modify_all}
use Rattle.planner_machine.specs.Content.{Content}
use Rattle.planner_machine.specs.Sound.{IsSound}
use Rattle.plan_store.specs.Verdicts.{VerdictIs}
use Rattle.plan_store.specs.Views.{hidden_of, with_hidden}
use Rattle.plan_store.proofs.WindowLemmas.{seen_is, sees_plan, shows_deleted}
use Rattle.plan_store.specs.declared.changes.Verdict.TheVariants.{Refused}
use Rattle.long_term_plan.specs.Making.{LacksDefinition}
use Rattle.long_term_plan.proofs.HeldLemmas.{known_all}
use Rattle.long_term_plan.proofs.ModifyAllLemmas.{lacks, loops, verdict_is}
use Rattle.long_term_plan.proofs.modification.modify_all.Goals as goal

weaker : {A E : Type 0} (r : Result A E) (P Q : A → Type 0) → ((a : A) → P a → Q a) → IfOk r P → IfOk r Q
weaker (Ok a) P Q f is = f a is
weaker (Err e) P Q f is = tt

pub returns-in-Some-lacking_definition : goal.returns-in-Some-lacking_definition
returns-in-Some-lacking_definition c content shows sound =
    let view = with_hidden (hidden_of content) c.args.view.now in
    let planned : view.sets.bounds ≡ Some c.in-Some.bounds = sym c.bounds.ensures ∙ c.in-Some.is in
    let lacking : LacksDefinition view.definitions (Some c.in-Some-lacking_definition.refusal) =
    subst (λ (all : Definitions). LacksDefinition all (Some c.in-Some-lacking_definition.refusal)) c.definitions.ensures
    c.in-Some-lacking_definition.ensures in
    subst (λ x. VerdictIs modify_all x (Refused c.in-Some-lacking_definition.refusal))
    (seen_is c.args.view.now content shows.is)
    (lacks view c.in-Some.bounds planned c.in-Some-lacking_definition.refusal lacking, refl)

pub returns-in-Some-2 : goal.returns-in-Some-2
returns-in-Some-2 c content shows sound =
    let view = with_hidden (hidden_of content) c.args.view.now in
    let planned : view.sets.bounds ≡ Some c.in-Some.bounds = sym c.bounds.ensures ∙ c.in-Some.is in
    let defined : LacksDefinition view.definitions None =
    subst (λ (all : Definitions). LacksDefinition all None) c.definitions.ensures
    c.in_default-lacking_definition.ensures in
    let puts : AreLinks (IsDefinedLink view.definitions) c.in_ok-links.links =
    subst (λ (all : Definitions). AreLinks (IsDefinedLink all) c.in_ok-links.links) c.definitions-2.ensures
    c.in_ok-links.ensures in
    let least : IsLeastOnLoop c.in_ok-links.links (Some c.in-Some-2.app) =
    subst (λ (o : Option (List ℕ)). IsLeastOnLoop c.in_ok-links.links o) c.in-Some-2.is c.in_ok-app.ensures in
    subst (λ x. VerdictIs modify_all x (Refused (Loop c.in-Some-2.app))) (seen_is c.args.view.now content shows.is)
    (loops view c.in-Some.bounds planned defined c.in_ok-links.links puts c.in-Some-2.app least, refl)

pub returns : goal.returns
returns c = weaker c.modify.result _ _ (λ verdict modifies_lists content shows sound.
    let modifies = rw c.in_ok-lists.ensures at modifies_lists in
    let view = with_hidden (hidden_of content) c.args.view.now in
    let sound_view : IsSound view = subst IsSound (sym (seen_is c.args.view.now content shows.is)) sound in
    let planned : view.sets.bounds ≡ Some c.in-Some.bounds = sym c.bounds.ensures ∙ c.in-Some.is in
    let defined : LacksDefinition view.definitions None =
    subst (λ (all : Definitions). LacksDefinition all None) c.definitions.ensures
    c.in_default-lacking_definition.ensures in
    let puts : AreLinks (IsDefinedLink view.definitions) c.in_ok-links.links =
    subst (λ (all : Definitions). AreLinks (IsDefinedLink all) c.in_ok-links.links) c.definitions-2.ensures
    c.in_ok-links.ensures in
    let none : IsLeastOnLoop c.in_ok-links.links None =
    subst (λ (o : Option (List ℕ)). IsLeastOnLoop c.in_ok-links.links o) c.in_default-2.is c.in_ok-app.ensures in
    subst (λ x. VerdictIs modify_all x verdict) (seen_is c.args.view.now content shows.is)
    (verdict_is view c.in-Some.bounds planned defined c.in_ok-links.links puts sound_view none verdict
    (modifies (hidden_of content) sound_view (sees_plan None c.args.view.now content shows)
    (known_all view c.in_ok-links.links puts) planned
    (λ key. shows_deleted None c.args.view.now content shows key c.in-Some.bounds
    (subst (λ (x : Content). x.sets.bounds ≡ Some c.in-Some.bounds)
    (seen_is c.args.view.now content shows.is) planned))))) (c.modify.ensures tt)
