use Rattle.std.proofs.Common.{◌≡◌, ◌∙◌, ℕ, true, false, refl, subst, sym, List, Option, None, Some, Result, Ok, Err}
use Rattle.std.specs.Prelude.{IfNone, IfOk, IfSome, is_some}
use Rattle.app_occurrences.specs.Active.{IsActive}
use Rattle.app_definition_records.specs.declared.applications.Application.{Application}
use Rattle.app_definitions.specs.declared.definitions.Definitions.{Definitions}
use Rattle.occurrences.specs.declared.refusal.Refusal.TheVariants.{Loop, NoActiveApplication}
use Rattle.external_dependencies.specs.Loop.{IsLeastOnLoop}
use Rattle.external_dependencies.specs.declared.links.Link.{Link}
use Rattle.planner_machine.specs.InForce.{PutsOne}
use Rattle.planner_machine.specs.ModifyOne.{modify_one}
use Rattle.planner_machine.specs.Plans.{IsPlannedApp}
use Rattle.planner_machine.specs.Content.{Content}
use Rattle.planner_machine.specs.Sound.{IsSound}
use Rattle.plan_store.specs.Changes.{lists_after}
use Rattle.plan_store.specs.Verdicts.{VerdictIs}
use Rattle.plan_store.specs.Views.{hidden_of, with_hidden}
use Rattle.plan_store.proofs.WindowLemmas.{seen_is, sees_plan, shows_deleted}
use Rattle.plan_store.specs.declared.changes.NewLists.{NewLists}
use Rattle.plan_store.specs.declared.changes.Verdict.TheVariants.{Refused}
use Rattle.long_term_plan.specs.Making.{LacksOwnDefinition}
use Rattle.long_term_plan.proofs.HeldLemmas.{known_one}
use Rattle.long_term_plan.proofs.ModifyOneLemmas.{lacks, loops, not_active, verdict_is}
use Rattle.long_term_plan.proofs.modification.modify_one.Goals as goal

weaker : {A E : Type 0} (r : Result A E) (P Q : A → Type 0) → ((a : A) → P a → Q a) → IfOk r P → IfOk r Q
weaker (Ok a) P Q f is = f a is
weaker (Err e) P Q f is = tt

no_active : (all : Definitions) (app : List ℕ) (o : Option Application) → is_some o ≡ false
    → IfNone o ((a : Application) → IsActive all app a → ⊥) → IsPlannedApp all app → ⊥
no_active all app None is none (a, active) = none a active
no_active all app (Some a) is none planned = cc

one_active : (all : Definitions) (app : List ℕ) (o : Option Application) → is_some o ≡ true
    → IfSome o (IsActive all app) → IsPlannedApp all app
one_active all app None is found = cc
one_active all app (Some a) is found = (a, found)

puts_in : (app : List ℕ) (all all' : Definitions) (before before' : List Link) (new : Option NewLists) → all ≡ all'
    → before ≡ before' → PutsOne app all before (lists_after new before) → PutsOne app all' before' (lists_after new before')
puts_in app all all' before before' new same same' puts =
    subst (λ (ds : Definitions). PutsOne app ds before' (lists_after new before')) same
    (subst (λ (ls : List Link). PutsOne app all ls (lists_after new ls)) same' puts)

pub returns-in-Some-lacking_own_definition : goal.returns-in-Some-lacking_own_definition
returns-in-Some-lacking_own_definition c content shows sound =
    let view = with_hidden (hidden_of content) c.args.view.now in
    let app = c.args.app.now in
    let planned : view.sets.bounds ≡ Some c.in-Some.bounds = sym c.bounds.ensures ∙ c.in-Some.is in
    let refusal = c.in-Some-lacking_own_definition.refusal in
    let lacking : LacksOwnDefinition view.definitions app (Some refusal) =
    subst (λ (all : Definitions). LacksOwnDefinition all app (Some refusal)) c.definitions-all.ensures
    c.in-Some-lacking_own_definition.ensures in
    subst (λ x. VerdictIs (modify_one app) x (Refused refusal)) (seen_is c.args.view.now content shows.is)
    (lacks app view c.in-Some.bounds planned refusal lacking, refl)

pub returns-in-Some-2 : goal.returns-in-Some-2
returns-in-Some-2 c content shows sound =
    let view = with_hidden (hidden_of content) c.args.view.now in
    let app = c.args.app.now in
    let planned : view.sets.bounds ≡ Some c.in-Some.bounds = sym c.bounds.ensures ∙ c.in-Some.is in
    let defined : LacksOwnDefinition view.definitions app None =
    subst (λ (all : Definitions). LacksOwnDefinition all app None) c.definitions-all.ensures
    c.in_default-lacking_own_definition.ensures in
    let puts = puts_in app c.definitions-all.result.now view.definitions c.in_force.result.now.items view.in_force
    c.in_ok-new.new c.definitions-all.ensures c.in_force.ensures c.in_ok-new.ensures.puts in
    let links = lists_after c.in_ok-new.new view.in_force in
    let sound_view : IsSound view = subst IsSound (sym (seen_is c.args.view.now content shows.is)) sound in
    let least : IsLeastOnLoop links (Some c.in-Some-2.least) =
    subst (λ (o : Option (List ℕ)). IsLeastOnLoop links o) c.in-Some-2.is
    (c.in_ok-least.ensures view.definitions puts sound_view.lists) in
    subst (λ x. VerdictIs (modify_one app) x (Refused (Loop c.in-Some-2.least))) (seen_is c.args.view.now content shows.is)
    (loops app view c.in-Some.bounds planned defined links puts c.in-Some-2.least least, refl)

pub returns-then-is_none : goal.returns-then-is_none
returns-then-is_none c content shows sound =
    let view = with_hidden (hidden_of content) c.args.view.now in
    let app = c.args.app.now in
    let planned : view.sets.bounds ≡ Some c.in-Some.bounds = sym c.bounds.ensures ∙ c.in-Some.is in
    let defined : LacksOwnDefinition view.definitions app None =
    subst (λ (all : Definitions). LacksOwnDefinition all app None) c.definitions-all.ensures
    c.in_default-lacking_own_definition.ensures in
    let puts = puts_in app c.definitions-all.result.now view.definitions c.in_force.result.now.items view.in_force
    c.in_ok-new.new c.definitions-all.ensures c.in_force.ensures c.in_ok-new.ensures.puts in
    let links = lists_after c.in_ok-new.new view.in_force in
    let sound_view : IsSound view = subst IsSound (sym (seen_is c.args.view.now content shows.is)) sound in
    let none : IsLeastOnLoop links None =
    subst (λ (o : Option (List ℕ)). IsLeastOnLoop links o) c.in_default-2.is
    (c.in_ok-least.ensures view.definitions puts sound_view.lists) in
    let inactive : IsPlannedApp view.definitions app → ⊥ =
    subst (λ (all : Definitions). IsPlannedApp all app → ⊥) c.definitions-all.ensures
    (no_active c.definitions-all.result.now app c.active.result c.if-is_none.ensures c.active.ensures.none) in
    subst (λ x. VerdictIs (modify_one app) x (Refused NoActiveApplication)) (seen_is c.args.view.now content shows.is)
    (not_active app view c.in-Some.bounds planned defined links puts none inactive, refl)

pub returns : goal.returns
returns c = weaker c.modify.result _ _ (λ verdict modifies content shows sound.
    let view = with_hidden (hidden_of content) c.args.view.now in
    let app = c.args.app.now in
    let sound_view : IsSound view = subst IsSound (sym (seen_is c.args.view.now content shows.is)) sound in
    let planned : view.sets.bounds ≡ Some c.in-Some.bounds = sym c.bounds.ensures ∙ c.in-Some.is in
    let defined : LacksOwnDefinition view.definitions app None =
    subst (λ (all : Definitions). LacksOwnDefinition all app None) c.definitions-all.ensures
    c.in_default-lacking_own_definition.ensures in
    let puts = puts_in app c.definitions-all.result.now view.definitions c.in_force.result.now.items view.in_force
    c.in_ok-new.new c.definitions-all.ensures c.in_force.ensures c.in_ok-new.ensures.puts in
    let links = lists_after c.in_ok-new.new view.in_force in
    let none : IsLeastOnLoop links None =
    subst (λ (o : Option (List ℕ)). IsLeastOnLoop links o) c.in_default-2.is
    (c.in_ok-least.ensures view.definitions puts sound_view.lists) in
    let active : IsPlannedApp view.definitions app =
    subst (λ (all : Definitions). IsPlannedApp all app) c.definitions-all.ensures
    (one_active c.definitions-all.result.now app c.active.result c.if-is_none.ensures c.active.ensures.found) in
    subst (λ x. VerdictIs (modify_one app) x verdict) (seen_is c.args.view.now content shows.is)
    (verdict_is app view c.in-Some.bounds planned defined links puts sound_view none active verdict
    (modifies (hidden_of content) sound_view (sees_plan (Some app) c.args.view.now content shows)
    (known_one app view links puts) planned
    (λ key. shows_deleted (Some app) c.args.view.now content shows key c.in-Some.bounds
    (subst (λ (x : Content). x.sets.bounds ≡ Some c.in-Some.bounds)
    (seen_is c.args.view.now content shows.is) planned))))) (c.modify.ensures c.in_ok-new.ensures.own)
