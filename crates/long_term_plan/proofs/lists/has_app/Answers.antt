use Rattle.std.proofs.Common.{◌≡◌, ℕ, List, Result, Ok, Err, get_or, length, subst}
use Rattle.std.specs.Bool.{IsTrue}
use Rattle.std.specs.Cmp.Lexicographic.{slice_cmp}
use Rattle.std.specs.List.{Contains, HoldsAt}
use Rattle.std.specs.List.Sorted.{IsSearchInRange}
use Rattle.std.specs.Ordering.{nat_cmp}
use Rattle.std.specs.Prelude.{IfOk}
use Rattle.std.specs.Result.{is_ok}
use Rattle.std.specs.declared.cmp.Ordering.TheVariants.{Equal}
use Rattle.external_dependencies.proofs.OrderLemmas.{name_ties}
use Rattle.long_term_plan.proofs.lists.has_app.Goals as goal

found : (names : List (List ℕ)) (app : List ℕ) (r : Result ℕ ℕ) → IsSearchInRange r (length names)
    → IfOk r (HoldsAt (λ y. slice_cmp nat_cmp y app ≡ Equal) names) → IsTrue (is_ok r) → Contains names app
found names app (Ok k) bound at holds = (k, bound, name_ties (get_or names k app) app (at app))
found names app (Err k) bound at holds = cc

pub returns : goal.returns
returns c holds = found c.args.names.now c.args.app.now c.binary_search.result c.binary_search.ensures.bound
    c.binary_search.ensures.ok (subst IsTrue c.is_ok.ensures.value holds)
