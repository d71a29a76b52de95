use Rattle.std.proofs.Common.{◌++◌, ◌∙◌, [], ℕ, ap, subst, sym, Result, Ok, Err}
use Rattle.std.specs.Prelude.{OnOk}
use Rattle.std.proofs.lemmas.List.{append-nil}
use Rattle.app_occurrences.specs.NamedOccurrences.{ListsNamed}
use Rattle.long_term_plan.specs.Drafting.{drafts_from}
use Rattle.long_term_plan.proofs.DraftingLemmas.{drafts_are, no_drafts}
use Rattle.long_term_plan.proofs.drafts.add_drafts.Goals as goal

weaker : {A E : Type 0} (r : Result A E) (P Q : Type 0) → (P → Q) → OnOk r P → OnOk r Q
weaker (Ok a) P Q f is = f is
weaker (Err e) P Q f is = tt

pub returns-in_default-clause-added : goal.returns-in_default-clause-added
returns-in_default-clause-added c = record {
  more = [];
  are = no_drafts c.args.all.now c.args.app.now c.args.first c.args.last c.in_default.ensures.none;
  added = sym (append-nil c.args.drafts.now.items);
}

pub returns-clause-added : goal.returns-clause-added
returns-clause-added c = weaker c.push_drafts.result _ _ (λ is. record {
  more = drafts_from c.args.app.now c.args.first c.in_ok-named.named.items;
  are = drafts_are c.args.all.now c.args.app.now c.in-Some.application c.in-Some.ensures.found c.args.first c.args.last
      c.in_ok-named.named.items
      (subst (λ (from : ℕ). ListsNamed c.args.all.now c.args.app.now c.in-Some.application from c.args.last
      c.in_ok-named.named.items) c.day.ensures.value c.in_ok-named.ensures.listed);
  added = is ∙ ap (λ named. c.args.drafts.now.items ++ drafts_from c.args.app.now c.args.first named)
      c.as_slice.ensures.value;
}) c.push_drafts.ensures
