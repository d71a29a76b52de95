use Rattle.std.proofs.Common.{◌≡◌, Some, rules, tests}
use Rattle.std.proofs.lemmas.Iterator.{YieldsList-from_slice, cases_from_all}
use Rattle.external_dependencies.specs.Nearest.{arrival_of}
use Rattle.plan_store_lists.specs.Rows.{look_up}
use Rattle.plan_store.proofs.FittingLemmas.{each_is, serial_of}
use Rattle.plan_store.proofs.fitting.changed_stand.Goals as goal

pub returns : goal.returns
returns g c =
    let row_of = g.T.PlanRow.row_of in
    let stands = λ (x : g.row.T.Denot). (was : g.row.T.Denot)
    × (look_up (serial_of row_of) c.args.list.now.items (row_of x).serial ≡ Some was)
    × (arrival_of (row_of was) ≡ arrival_of (row_of x)) in
    each_is stands c.args.moves.now.changed.items c.all.result (cases_from_all _ _ _ stands (λ x. stands x → ⊥) c.all.ensures.ran
    (YieldsList-from_slice c.args.moves.now.changed.items (cc)) (λ x q k. search (rules, tests)) (λ x q k. search (rules, tests)))
