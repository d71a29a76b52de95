use Rattle.std.proofs.Common.{◌≡◌, ◌≢◌, ◌∙◌, List, ℕ, refl, subst, sym, Result, Ok, Err}
use Rattle.std.specs.Prelude.{IfOk}
use Rattle.std.specs.List.{AllPairs}
use Rattle.std.proofs.lemmas.Bool.{false≢true}
use Rattle.app_definition_records.proofs.RisingLemmas.{own_names}
use Rattle.external_dependencies.specs.declared.links.Link.{Link}
use Rattle.planner_machine.specs.declared.content.Draft.{Draft}
use Rattle.planner_machine.specs.declared.content.Bounds.{Bounds}
use Rattle.planner_machine.specs.Content.{Content}
use Rattle.planner_machine.specs.Plans.{HoldTooMany}
use Rattle.plan_store.specs.Views.{with_hidden}
use Rattle.plan_store.specs.declared.changes.Verdict.{Verdict}
use Rattle.plan_store.specs.declared.changes.Verdict.TheVariants.{Done, Refused}
use Rattle.long_term_plan.specs.Making.{IsMadeOrTooMany, MakesDrafts, planned_sets}
use Rattle.long_term_plan.proofs.DraftingLemmas.{named_late}
use Rattle.long_term_plan.proofs.MakingLemmas.{days_added}
use Rattle.long_term_plan.proofs.making.add_days.Goals as goal

weaker : {A E : Type 0} (r : Result A E) (P Q : A → Type 0) → ((a : A) → P a → Q a) → IfOk r P → IfOk r Q
weaker (Ok a) P Q f is = f a is
weaker (Err e) P Q f is = tt

pub named_drafts-requires-clause-apart : goal.named_drafts-requires-clause-apart
named_drafts-requires-clause-apart c =
    subst (λ (apps : List (List ℕ)). AllPairs (λ (a b : List ℕ). a ≢ b) apps) (sym c.as_slice.ensures.value)
    (own_names (λ (name : List ℕ). name) c.in_ok-apps.apps.items c.in_ok-apps.ensures.rising)

pub returns-then-would_hold_too_many : goal.returns-then-would_hold_too_many
returns-then-would_hold_too_many c h sound sees known deleted keeps =
    let content = with_hidden h c.args.view.now in
    let new = c.as_slice-3.result.now in
    let are_new = c.in_ok-new.ensures h (λ draft there. deleted draft.key (named_late content sound
    c.definitions-all.result.now c.definitions-all.ensures c.as_slice.result.now c.args.first _
    c.in_ok-named.named.items c.as_slice-2.result.now c.in_ok-named.ensures c.as_slice-2.ensures.value draft there)) in
    record {
      new = new;
      are_new = days_added content sound c.args.bounds.now c.args.first c.definitions-all.result.now
          c.definitions-all.ensures c.in_ok-apps.apps.items c.as_slice.result.now c.in_ok-apps.ensures
          c.as_slice.ensures.value c.in_ok-named.named.items c.as_slice-2.result.now c.in_ok-named.ensures
          c.as_slice-2.ensures.value c.in_ok-new.new.items new are_new c.as_slice-3.ensures.value;
      outcome = ((c.would_hold_too_many.ensures.too_many h sound).0 c.if-would_hold_too_many.true, refl);
    }

outcome : (c : Content) (b : Bounds) (links : List Link) (new : List Draft) (verdict : Verdict)
    → (HoldTooMany (planned_sets b new c.sets) → ⊥) → MakesDrafts c b links new verdict
    → IsMadeOrTooMany c b links new verdict
outcome c b links new (Done change reply) few made = (few, made)
outcome c b links new (Refused refusal) few made = absurd made

pub returns : goal.returns
returns c = weaker c.make_drafts.result _ _ (λ verdict made h sound sees known deleted keeps.
    let content = with_hidden h c.args.view.now in
    let b = c.args.bounds.now in
    let new = c.in_ok-new.new.items in
    let tested : new ≡ c.as_slice-3.result.now = sym c.as_slice-3.ensures.value in
    let are_new = c.in_ok-new.ensures h (λ draft there. deleted draft.key (named_late content sound
    c.definitions-all.result.now c.definitions-all.ensures c.as_slice.result.now c.args.first _
    c.in_ok-named.named.items c.as_slice-2.result.now c.in_ok-named.ensures c.as_slice-2.ensures.value draft there)) in
    let are = days_added content sound b c.args.first c.definitions-all.result.now
    c.definitions-all.ensures c.in_ok-apps.apps.items c.as_slice.result.now c.in_ok-apps.ensures
    c.as_slice.ensures.value c.in_ok-named.named.items c.as_slice-2.result.now c.in_ok-named.ensures
    c.as_slice-2.ensures.value c.in_ok-new.new.items new are_new refl in
    record {
      new = new;
      are_new = are;
      outcome = outcome content b c.args.links new verdict
          (λ over. false≢true (sym c.if-would_hold_too_many.false ∙ (c.would_hold_too_many.ensures.too_many h sound).1
          (subst (λ (ds : List Draft). HoldTooMany (planned_sets b ds content.sets)) tested over)))
          (made h sound sees known (keeps new are));
    }) c.make_drafts.ensures
