use Rattle.std.proofs.Common.{length, suc, sym, subst}
use Rattle.app_definition_records.specs.ByName.{AreNamesOf}
use Rattle.plan_tables_definitions.specs.Adding.{IsOfName, IsOfPlace}
use Rattle.plan_tables_definitions.proofs.AddLemmas.{adds_all, own_all}
use Rattle.plan_tables_definitions.proofs.encoding.rows_of.Goals as goal

pub returns-clause-rows : goal.returns-clause-rows
returns-clause-rows g c = adds_all (suc g.E.Encoding.cells) g.E.Encoding.IsRow
    c.args.definitions.now c.deref.result.now c.new-rows.result.items c.push_each.new.rows.items
    (subst (λ names. AreNamesOf names c.args.definitions.now) (sym c.deref.ensures.value) c.in_ok-names.ensures)
    c.new-rows.ensures.items c.in_ok-push_each.ensures

pub returns-clause-keys : goal.returns-clause-keys
returns-clause-keys g c = own_all (suc g.E.Encoding.cells)
    (IsOfPlace (λ _. IsOfName g.E.Encoding.IsRow c.args.definitions.now) c.deref.result.now (length c.deref.result.now))
    c.new-rows.result.items c.push_each.new.rows.items c.new-rows.ensures.items c.in_ok-push_each.ensures
