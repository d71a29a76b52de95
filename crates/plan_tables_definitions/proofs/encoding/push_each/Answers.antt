use Rattle.std.proofs.Common.{arith, subst, suc}
use Rattle.plan_tables_definitions.specs.Adding.{Adds, IsOfName, IsOfPlace}
use Rattle.plan_tables_definitions.proofs.AddLemmas.{adds_step, get_at, named_apart}
use Rattle.plan_tables_definitions.proofs.KeyLemmas.{apart_before}
use Rattle.plan_tables_definitions.proofs.encoding.push_each.Goals as goal

pub loop-name-preserved : goal.loop-name-preserved
loop-name-preserved g c = adds_step (suc g.E.Encoding.cells)
    (λ _. IsOfName g.E.Encoding.IsRow c.args.definitions.now) c.args.names.now c.loop-name.name-index c.name-item.result c.args.rows.now.items c.loop-name.rows.items
    c.push_named.new.rows.items (get_at c.args.names.now c.loop-name.name-index c.name-item.result
    c.loop-name-test.true c.name-item.is)
    (apart_before (suc g.E.Encoding.cells) (IsOfName g.E.Encoding.IsRow c.args.definitions.now) (λ name. name)
    c.args.names.now c.loop-name.name-index c.name-item.result c.requires
    (get_at c.args.names.now c.loop-name.name-index c.name-item.result c.loop-name-test.true c.name-item.is)
    (λ y v w other (d, got, is) (e, there, it). named_apart g.E.Encoding.cells y c.name-item.result v w other
    (g.E.Encoding.named y d v is) (g.E.Encoding.named c.name-item.result e w it)))
    c.loop-name.invariant c.in_ok-push_named.ensures

pub returns : goal.returns
returns g c = subst (λ n. Adds (suc g.E.Encoding.cells)
    (IsOfPlace (λ _. IsOfName g.E.Encoding.IsRow c.args.definitions.now) c.args.names.now n) c.args.rows.now.items c.loop-name.rows.items)
    (omega (arith, c.loop-name-test.false, c.loop-name.auto.name-index-end)) c.loop-name.invariant
