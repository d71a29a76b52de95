use Rattle.std.proofs.Common.{◌≡◌, ◌≢◌, ◌∙◌, true, false, refl, subst, sym, Option, None, Some}
use Rattle.std.specs.Prelude.{IfOk, Result, Ok, Err, is_some}
use Rattle.occurrences.specs.declared.key.Key.{Key}
use Rattle.planner_machine.specs.Act.{cp_action as decided}
use Rattle.planner_machine.specs.Content.{Content}
use Rattle.planner_machine.specs.Sound.{IsSound}
use Rattle.plan_store.specs.Verdicts.{VerdictIs}
use Rattle.plan_store.specs.HistoryReads.{ReadsKey}
use Rattle.plan_store.specs.Views.{IsCurrentRow, Sees, hidden_of, shown, with_hidden}
use Rattle.plan_store.proofs.WindowLemmas.{seen_is, sees_key}
use Rattle.daily_planning.proofs.ActLemmas.{refused_no_plan, refused_no_row}
use Rattle.daily_planning.proofs.actions.cp_action.Goals as goal

weaker : {A E : Type 0} (r : Result A E) (P Q : A → Type 0) → ((a : A) → P a → Q a) → IfOk r P → IfOk r Q
weaker (Ok a) P Q f is = f a is
weaker (Err e) P Q f is = tt

none_is : {X : Type 0} (o : Option X) → is_some o ≡ false → o ≡ None
none_is None is = refl
none_is (Some x) is = cc

some_is : {X : Type 0} (o : Option X) → is_some o ≡ true → o ≢ None
some_is None is same = cc
some_is (Some x) is same = cc

pub returns-then-is_none : goal.returns-then-is_none
returns-then-is_none c content shows sound =
    let none = sym c.bounds.ensures ∙ none_is c.bounds.result c.if-is_none.ensures in
    refused_no_plan c.args.key.now c.args.action content (subst (λ (x : Content). x.sets.bounds ≡ None) shows.is none)

pub returns-in_default : goal.returns-in_default
returns-in_default c content shows sound =
    let some : (shown c.args.view.now).sets.bounds ≢ None =
    λ none. some_is c.bounds.result c.if-is_none.ensures (c.bounds.ensures ∙ none) in
    refused_no_row c.args.key.now c.args.action content (subst (λ (x : Content). x.sets.bounds ≢ None) shows.is some)
    (subst (λ (x : Content). IsCurrentRow x.sets c.args.key.now None) shows.is c.in_default.ensures)

pub returns : goal.returns
returns c = weaker c.act.result _ _ (λ verdict done content shows sound.
    let some : (shown c.args.view.now).sets.bounds ≢ None =
    λ none. some_is c.bounds.result c.if-is_none.ensures (c.bounds.ensures ∙ none) in
    let P : Content → Type 0 = λ x. IsSound x → VerdictIs (decided c.args.key.now c.args.action) x verdict in
    let h = hidden_of content in
    let view = c.args.view.now in
    let sees = subst (λ (k : Key). Sees (Some k) (ReadsKey (with_hidden h view) k) h view) (sym c.in-Some.ensures.1)
    (sees_key c.args.key.now view content shows) in
    subst P (seen_is view content shows.is) (λ is.
    subst (λ (k : Key). VerdictIs (decided k c.args.action) (with_hidden h c.args.view.now) verdict)
    c.in-Some.ensures.1
    (done h is sees some (c.in-Some.ensures.0, refl, c.in-Some.ensures.2))) sound) c.act.ensures
