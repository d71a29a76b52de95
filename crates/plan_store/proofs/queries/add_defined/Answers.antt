use Rattle.std.proofs.Common.{◌+◌, ◌∙◌, Some, ap, sym}
use Rattle.plan_store.proofs.WindowLemmas.{on_ok}
use Rattle.plan_store.proofs.QueryLemmas.{asks_defined, asks_undefined}
use Rattle.plan_store.proofs.queries.add_defined.Goals as goal

pub returns-in-Some : goal.returns-in-Some
returns-in-Some c =
    on_ok c.add_named.result (asks_defined c.args.definitions.now c.args.app.now
    c.as_slice.result.now (c.args.moment + 1) c.args.queries.now.items c.add_named.new.queries.items
    (sym c.in-Some.ensures ∙ ap Some (sym c.as_slice.ensures.value))) c.add_named.ensures

pub returns-in-None : goal.returns-in-None
returns-in-None c =
    asks_undefined c.args.definitions.now c.args.app.now (c.args.moment + 1) c.args.queries.now.items
    (sym c.in-None.ensures)
