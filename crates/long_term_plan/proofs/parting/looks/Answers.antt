use Rattle.std.proofs.Common.{◌≡◌, ◌∙◌, ℕ, List, Option, sym, subst}
use Rattle.std.specs.Cmp.Lexicographic.{texts_ties}
use Rattle.long_term_plan.specs.Modifying.{looks}
use Rattle.long_term_plan.proofs.parting.looks.Goals as goal

pub returns-in-Some : goal.returns-in-Some
returns-in-Some c =
    subst (λ (o : Option (List ℕ)). c.eq.result ≡ looks o c.args.app.now) (sym c.in-Some.is)
    (c.eq.ensures ∙ texts_ties c.args.app.now c.in-Some.one)
