use Rattle.std.proofs.Common.{◌≡◌, ◌+◌, ◌++◌, ◌∷◌, ◌∙◌, [], Option, false, length, replicate, ap}
use Rattle.std.proofs.Common.{arith, filter, refl, rules, subst, sym, take, None, Some}
use Rattle.std.specs.Prelude.{is_none}
use Rattle.std.proofs.lemmas.Bool.{false≢true}
use Rattle.std.proofs.lemmas.List.{length-replicate, take_all, take_more}
use Rattle.occurrences.specs.declared.row.Row.{Row}
use Rattle.planner_machine.specs.declared.content.Draft.{Draft}
use Rattle.long_term_plan.specs.Drafting.{DraftsRise}
use Rattle.long_term_plan.specs.Modifying.{AreChanged, AreMet, outcome, outcome_with}
use Rattle.long_term_plan.proofs.MetLemmas.{met_none}
use Rattle.long_term_plan.proofs.PartingLemmas.{changed_more, changed_none, changed_skip, gone_comes, gone_stays}
use Rattle.long_term_plan.proofs.parting.parted_rows.Goals as goal
use Rattle.long_term_plan.proofs.parting.parted_rows.Goals.{in-Some+then-not-is_same+in_ok-push-in-Some}
use Rattle.long_term_plan.proofs.parting.parted_rows.Goals.{in-Some+else-not-is_same, in-None+in_ok-push-in-None}

pub loop-row-init : goal.loop-row-init
loop-row-init c =
    let named = c.args.named.now in
    let f = outcome c.args.only.now named in
    let is : c.in_ok-met.met.items ≡ replicate (length named) false =
    c.in_ok-met.ensures.items_if_clones_equal (λ y same. same) in
    record {
      count = ap length is ∙ length-replicate (length named) false;
      gone = λ order. c.new-gone.ensures.items;
      changed = λ order. subst (AreChanged f []) (sym c.new-changed.ensures.items) (changed_none f);
      met = λ order. met_none named c.in_ok-met.met.items is;
    }

-- one more row
pub loop-row-preserved : goal.loop-row-preserved
loop-row-preserved c =
    let rows = c.args.rows.now in
    let only = c.args.only.now in
    let named = c.args.named.now in
    let f = outcome only named in
    let row = c.row-item.result in
    let index = c.loop-row.row-index in
    let so_far = take index rows in
    let front : take (index + 1) rows ≡ so_far ++ row ∷ [] =
    take_more rows index row c.loop-row-test.true ∙ ap (λ x. so_far ++ x ∷ []) (sym c.row-item.is) in
    let becomes : DraftsRise named → f row ≡ c.outcome_with.result = λ order.
    sym (c.outcome_with.ensures
    ∙ ap (λ (o : Option Draft). outcome_with only o row) (c.met_draft-draft.ensures.draft order)) in
    let gone : DraftsRise named → c.match-outcome_with.gone.items ≡ filter (λ (r : Row). is_none (f r))
    (so_far ++ row ∷ []) = λ order. elim c.match-outcome_with.branch [
      | in-Some+then-not-is_same+in_ok-push-in-Some w ↦ rw w.gone-is
          (gone_stays f so_far row c.loop-row.gone.items w.in-Some.now (c.loop-row.invariant.gone order)
          (becomes order ∙ w.in-Some.is))
      | in-Some+else-not-is_same w ↦ rw w.gone-is
          (gone_stays f so_far row c.loop-row.gone.items w.in-Some.now (c.loop-row.invariant.gone order)
          (becomes order ∙ w.in-Some.is))
      | in-None+in_ok-push-in-None w ↦ rw (w.gone-is, w.in_ok-push-in-None.ensures.items)
          (gone_comes f so_far row c.loop-row.gone.items (c.loop-row.invariant.gone order)
          (becomes order ∙ w.in-None.is))
    ] in
    let changed : DraftsRise named → AreChanged f (so_far ++ row ∷ []) c.match-outcome_with.changed.items =
    λ order. elim c.match-outcome_with.branch [
      | in-Some+then-not-is_same+in_ok-push-in-Some w ↦
          let other : w.is_same.result ≡ false = search rules in
          rw (w.changed-is, w.in_ok-push-in-Some.ensures.items)
          (changed_more f so_far row c.loop-row.changed.items (c.loop-row.invariant.changed order) w.in-Some.now
          (becomes order ∙ w.in-Some.is) (λ same. false≢true (sym other ∙ w.is_same.ensures.1 same)))
      | in-Some+else-not-is_same w ↦
          let same : w.in-Some.now ≡ row = w.is_same.ensures.0 (search rules) in
          rw w.changed-is (changed_skip f so_far row c.loop-row.changed.items (c.loop-row.invariant.changed order)
          (λ x is. let both : Some x ≡ Some w.in-Some.now = sym is ∙ becomes order ∙ w.in-Some.is in cc))
      | in-None+in_ok-push-in-None w ↦ rw w.changed-is
          (changed_skip f so_far row c.loop-row.changed.items (c.loop-row.invariant.changed order)
          (λ x is. let no : Some x ≡ None = sym is ∙ becomes order ∙ w.in-None.is in cc))
    ] in
    record {
      count = c.met_draft-draft.ensures.count ∙ c.loop-row.invariant.count;
      gone = λ order. gone order ∙ ap (filter (λ (r : Row). is_none (f r))) (sym front);
      changed = λ order. subst (λ rs. AreChanged f rs c.match-outcome_with.changed.items) (sym front) (changed order);
      met = λ order. subst (λ rs. AreMet rs named c.met_draft-draft.new.met.items) (sym front)
          (c.met_draft-draft.ensures.met order so_far row refl (c.loop-row.invariant.met order));
    }

pub returns : goal.returns
returns c =
    let whole = take_all c.loop-row.row-index c.args.rows.now (omega arith) in
    let f = outcome c.args.only.now c.args.named.now in
    record {
      gone = λ order. c.loop-row.invariant.gone order ∙ ap (filter (λ (row : Row). is_none (f row))) whole;
      changed = λ order. subst (λ rs. AreChanged f rs c.loop-row.changed.items) whole
          (c.loop-row.invariant.changed order);
      met = λ order. subst (λ rs. AreMet rs c.args.named.now c.loop-row.met.items) whole
          (c.loop-row.invariant.met order);
      count = c.loop-row.invariant.count;
    }
