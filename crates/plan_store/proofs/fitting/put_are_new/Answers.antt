use Rattle.std.proofs.Common.{◌≡◌, None, rules, tests}
use Rattle.std.proofs.lemmas.Iterator.{YieldsList-from_slice, cases_from_all}
use Rattle.plan_store_lists.specs.Rows.{look_up}
use Rattle.plan_store.proofs.FittingLemmas.{each_is, serial_of}
use Rattle.plan_store.proofs.fitting.put_are_new.Goals as goal

pub returns : goal.returns
returns g c =
    let row_of = g.T.PlanRow.row_of in
    let new = λ (x : g.row.T.Denot). look_up (serial_of row_of) c.args.list.now.items (row_of x).serial ≡ None in
    each_is new c.args.moves.now.put.items c.all.result (cases_from_all _ _ _ new (λ x. new x → ⊥) c.all.ensures.ran
    (YieldsList-from_slice c.args.moves.now.put.items (cc)) (λ x q k. search (rules, tests)) (λ x q k. search (rules, tests)))
