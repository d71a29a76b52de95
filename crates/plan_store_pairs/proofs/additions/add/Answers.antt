use Rattle.std.proofs.Common.{Some, refl, subst, sym}
use Rattle.std.specs.Prelude.{IfOk, Result, Ok, Err}
use Rattle.occurrences.specs.declared.key.Key.{Key}
use Rattle.planner_machine.specs.Add.{add as decided}
use Rattle.planner_machine.specs.Content.{Content}
use Rattle.planner_machine.specs.Sound.{IsSound}
use Rattle.plan_store.specs.Verdicts.{VerdictIs}
use Rattle.plan_store.specs.HistoryReads.{ReadsKey}
use Rattle.plan_store.specs.Views.{Sees, hidden_of, with_hidden}
use Rattle.plan_store.proofs.WindowLemmas.{seen_is, sees_key}
use Rattle.plan_store_pairs.specs.Additions.{IsNewRow, place_in}
use Rattle.plan_store_pairs.proofs.AdditionLemmas.{verdict_is}
use Rattle.plan_store_pairs.proofs.additions.add.Goals as goal

weaker : {A E : Type 0} (r : Result A E) (P Q : A → Type 0) → ((a : A) → P a → Q a) → IfOk r P → IfOk r Q
weaker (Ok a) P Q f is = f a is
weaker (Err e) P Q f is = tt

pub returns-in-Ok : goal.returns-in-Ok
returns-in-Ok c = weaker c.add_row.result _ _ (λ verdict done content shows sound.
    let P : Content → Type 0 = λ x. IsSound x → VerdictIs (decided (place_in c.args.plan) c.args.key.now) x verdict in
    let view = c.args.view.now in
    let h = hidden_of content in
    let seen = with_hidden h view in
    let sees = sees_key c.args.key.now view content shows in
    subst P (seen_is view content shows.is) (λ is.
    let new = c.in-Ok.ensures h is sees in
    let own = subst (λ (k : Key). Sees (Some k) (ReadsKey seen k) h view) (sym new.1) sees in
    subst (λ (k : Key). VerdictIs (decided (place_in c.args.plan) k) seen verdict) new.1
    (verdict_is seen is c.args.plan c.in-Ok.row new.0 verdict (done h is own new.0))) sound)
    c.add_row.ensures

pub returns-in-Err : goal.returns-in-Err
returns-in-Err c content shows sound =
    let P : Content → Type 0 = λ x. IsSound x → IsNewRow x c.args.plan c.args.key.now (Err c.in-Err.refusal) in
    let view = c.args.view.now in
    let sees = sees_key c.args.key.now view content shows in
    (subst P (seen_is view content shows.is) (λ is. c.in-Err.ensures (hidden_of content) is sees) sound, refl)
