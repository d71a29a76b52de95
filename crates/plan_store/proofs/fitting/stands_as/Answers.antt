use Rattle.std.proofs.Common.{◌≡◌, ◌↔◌, IsTrue, subst}
use Rattle.occurrences.specs.declared.row.Row.{Row}
use Rattle.external_dependencies.specs.Nearest.{arrival_of}
use Rattle.plan_store.proofs.FittingLemmas.{stands_as_is, stands_as_not}
use Rattle.plan_store.proofs.fitting.stands_as.Goals as goal

pub returns-in-Some : goal.returns-in-Some
returns-in-Some g c =
    let row_of = g.T.PlanRow.row_of in
    let same = c.same_key.result in
    stands_as_is row_of c.args.list.now.items c.in-Some.was c.args.x.now same c.in-Some.ensures
    (subst (λ (row : Row). IsTrue same ↔ (row.key ≡ (row_of c.args.x.now).key)) c.row.ensures
    (subst (λ (row : Row). IsTrue same ↔ (c.row.result.key ≡ row.key)) c.row-in-Some.ensures c.same_key.ensures))

pub returns-in-None : goal.returns-in-None
returns-in-None g c =
    let row_of = g.T.PlanRow.row_of in
    stands_as_not {P = λ y. arrival_of (row_of y) ≡ arrival_of (row_of c.args.x.now)} _ c.in-None.ensures
