use Rattle.std.proofs.Common.{◌++◌, List, subst, sym}
use Rattle.std.specs.List.{filter_map}
use Rattle.occurrences.specs.declared.row.Row.{Row}
use Rattle.long_term_plan.specs.Modifying.{AreOf, outcome}
use Rattle.long_term_plan.proofs.LookedLemmas.{with_made_of}
use Rattle.long_term_plan.proofs.modification.planned_of.Goals as goal

pub returns : goal.returns
returns c order rows lists of_made =
    let stay = filter_map (outcome c.args.only.now c.args.named.now) rows in
    let put = c.args.put.now in
    subst (λ (l : List Row). AreOf c.args.apps.now (stay ++ put) l) (sym c.in_ok-extend_from_slice.ensures.items)
    (with_made_of c.args.apps.now stay c.in_ok-planned.planned.items put (c.in_ok-planned.ensures order rows lists)
    of_made)
