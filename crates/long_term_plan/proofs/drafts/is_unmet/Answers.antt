use Rattle.std.proofs.Common.{◌≡◌, ◌∙◌, ◌↔◌, false, true, rules, subst, sym}
use Rattle.std.specs.Prelude.{IsTrue, not}
use Rattle.std.proofs.lemmas.Bool.{false≢true}
use Rattle.plan_store.specs.Views.{with_hidden}
use Rattle.long_term_plan.specs.Drafting.{IsNewKey}
use Rattle.long_term_plan.proofs.MetLemmas.{met_key, unmet_key}
use Rattle.long_term_plan.proofs.drafts.is_unmet.Goals as goal

pub returns-then-not-met : goal.returns-then-not-met
returns-then-not-met c h shows planned =
    let no : c.args.met ≡ false = search rules in
    let tells = c.is_deleted_by_operator.ensures in
    unmet_key (with_hidden h c.args.view.now).sets c.args.key.now (λ there. false≢true (sym no ∙ planned.1 there))
    c.is_deleted_by_operator.result ((λ yes. shows.1 (tells.0 yes)), λ there. tells.1 (shows.0 there))

pub returns-else-not-met : goal.returns-else-not-met
returns-else-not-met c h shows planned =
    let yes : c.args.met ≡ true = search rules in
    let s = (with_hidden h c.args.view.now).sets in
    subst (λ b. IsTrue (not b) ↔ IsNewKey s c.args.key.now) (sym yes) (met_key s c.args.key.now (planned.0 yes))
