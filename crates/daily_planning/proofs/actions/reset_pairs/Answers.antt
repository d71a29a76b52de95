use Rattle.std.proofs.Common.{◌≡◌, ◌↔◌, ◌++◌, ◌∙◌, List, Some, ap, subst}
use Rattle.std.specs.Prelude.{IfOk, Result, Ok, Err}
use Rattle.std.specs.List.{Contains}
use Rattle.external_dependencies.specs.declared.pairs.Pair.{Pair}
use Rattle.plan_store.specs.Views.{shown, with_hidden}
use Rattle.plan_store_pairs.proofs.PartLemmas.{pairs_are}
use Rattle.daily_planning.proofs.ReadLemmas.{live_asked, live_shows}
use Rattle.daily_planning.proofs.actions.reset_pairs.Goals as goal

weaker : {A E : Type 0} (r : Result A E) (P Q : A → Type 0) → ((a : A) → P a → Q a) → IfOk r P → IfOk r Q
weaker (Ok a) P Q f is = f a is
weaker (Err e) P Q f is = tt

pub returns : goal.returns
returns c = weaker c.between.result _ _ (λ change leads h sound sees stands. record {
  had = c.from_vec-had.result;
  had_are = λ pair.
      let view = c.args.view.now in
      let content = with_hidden h view in
      let row = c.args.row.now in
      let slice = c.pairs_of_successor.result.now in
      let items : c.extend_from_slice.new.self.items ≡ slice = c.in_ok-extend_from_slice.ensures.items
      ∙ ap (λ (l : List Pair). l ++ slice) c.new-had.ensures.items in
      let is = subst (λ (l : List Pair). Contains c.from_vec-had.result pair ↔ Contains l pair) items
      (c.from_vec-had.ensures pair) in
      let of = pairs_are (Some row.key) content.sets (shown view).pairs content.pairs slice sees.pairs row.serial
      (live_asked content.sets row stands) c.pairs_of_successor.ensures.all pair in
      ((λ there. of.0 (is.0 there)), λ both. is.1 (of.1 both));
  now = c.in_ok-now.now;
  now_are = c.in_ok-now.ensures h sound.serials (λ serial row there. (sees.lasts.only serial row there).0)
      (live_shows h c.args.view.now c.args.row.now sound sees stands);
  leads = leads;
}) c.between.ensures
