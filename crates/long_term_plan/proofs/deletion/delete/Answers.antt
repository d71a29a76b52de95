use Rattle.std.proofs.Common.{◌≡◌, ◌≢◌, ◌∙◌, true, false, refl, subst, sym, Option, None, Some}
use Rattle.std.specs.Prelude.{IfOk, Result, Ok, Err, is_some}
use Rattle.occurrences.specs.declared.key.Key.{Key}
use Rattle.planner_machine.specs.Content.{Content}
use Rattle.planner_machine.specs.Delete.{ltp_delete}
use Rattle.planner_machine.specs.Sound.{IsSound}
use Rattle.plan_store.specs.Verdicts.{VerdictIs}
use Rattle.plan_store.specs.HistoryReads.{ReadsKey}
use Rattle.plan_store.specs.Views.{IsPlannedRow, Sees, hidden_of, shown, with_hidden}
use Rattle.plan_store.proofs.WindowLemmas.{seen_is, sees_key}
use Rattle.long_term_plan.proofs.DeleteLemmas.{least_no_plan, least_no_row, no_row, verdict_is}
use Rattle.long_term_plan.proofs.deletion.delete.Goals as goal

weaker : {A E : Type 0} (r : Result A E) (P Q : A → Type 0) → ((a : A) → P a → Q a) → IfOk r P → IfOk r Q
weaker (Ok a) P Q f is = f a is
weaker (Err e) P Q f is = tt

none_is : {X : Type 0} (o : Option X) → is_some o ≡ false → o ≡ None
none_is None is = refl
none_is (Some x) is = cc

some_is : {X : Type 0} (o : Option X) → is_some o ≡ true → o ≢ None
some_is None is same = cc
some_is (Some x) is same = cc

pub returns-then-is_none : goal.returns-then-is_none
returns-then-is_none c content shows sound =
    let none = sym c.bounds.ensures ∙ none_is c.bounds.result c.if-is_none.ensures in
    ((subst (λ (x : Content). x.sets.bounds ≡ None) shows.is none, least_no_plan c.args.key.now content), refl)

pub returns-in_default : goal.returns-in_default
returns-in_default c content shows sound =
    let some : (shown c.args.view.now).sets.bounds ≢ None =
    λ none. some_is c.bounds.result c.if-is_none.ensures (c.bounds.ensures ∙ none) in
    let bounded = subst (λ (x : Content). x.sets.bounds ≢ None) shows.is some in (
      (
        no_row content c.args.key.now (subst (λ (x : Content). IsPlannedRow x.sets c.args.key.now None) shows.is
            c.in_default.ensures),
        least_no_row c.args.key.now content bounded,
      ),
      refl,
    )

pub returns : goal.returns
returns c = weaker c.delete_row.result _ _ (λ verdict done content shows sound.
    let some : (shown c.args.view.now).sets.bounds ≢ None =
    λ none. some_is c.bounds.result c.if-is_none.ensures (c.bounds.ensures ∙ none) in
    let P : Content → Type 0 = λ x. IsSound x → VerdictIs (ltp_delete c.args.key.now) x verdict in
    let h = hidden_of content in
    let sees : Sees (Some c.in-Some.row.key) (ReadsKey (with_hidden h c.args.view.now) c.in-Some.row.key) h
    c.args.view.now =
    subst (λ (k : Key). Sees (Some k) (ReadsKey (with_hidden h c.args.view.now) k) h c.args.view.now)
    (sym c.in-Some.ensures.1) (sees_key c.args.key.now c.args.view.now content shows) in
    subst P (seen_is c.args.view.now content shows.is) (λ is.
    verdict_is (with_hidden h c.args.view.now) is c.args.key.now c.in-Some.row some c.in-Some.ensures.0
    c.in-Some.ensures.1 verdict (done h is sees c.in-Some.ensures.0)) sound) c.delete_row.ensures
