use Rattle.std.proofs.Common.{arith, subst}
use Rattle.plan_tables_content.specs.Facts.{predecessor_values}
use Rattle.plan_tables_definitions.specs.Adding.{Adds, IsOfPlace}
use Rattle.plan_tables_definitions.specs.Parts.{IsLinkRow}
use Rattle.plan_tables_definitions.proofs.AddLemmas.{adds_step, get_at, row_added}
use Rattle.plan_tables_definitions.proofs.KeyLemmas.{apart_before, links_apart}
use Rattle.plan_tables_definitions.proofs.predecessors.push_links.Goals as goal

pub loop-predecessor-preserved : goal.loop-predecessor-preserved
loop-predecessor-preserved c = adds_step 2 (λ _. IsLinkRow c.args.app.now) c.args.listed.now c.loop-predecessor.predecessor-index
    c.predecessor-item.result c.args.rows.now.items c.loop-predecessor.rows.items c.push.new.self.items
    (get_at c.args.listed.now c.loop-predecessor.predecessor-index c.predecessor-item.result c.loop-predecessor-test.true c.predecessor-item.is)
    (apart_before 2 (IsLinkRow c.args.app.now) (λ p. p.name) c.args.listed.now c.loop-predecessor.predecessor-index
    c.predecessor-item.result c.requires
    (get_at c.args.listed.now c.loop-predecessor.predecessor-index c.predecessor-item.result
    c.loop-predecessor-test.true c.predecessor-item.is)
    (λ p v w. links_apart c.args.app.now p c.predecessor-item.result v w))
    c.loop-predecessor.invariant
    (row_added 2 (predecessor_values c.args.app.now c.predecessor-item.result) c.in_ok-row.row c.loop-predecessor.rows.items
    c.push.new.self.items c.in_ok-row.ensures
    c.in_ok-push.ensures.items)

pub returns : goal.returns
returns c = subst (λ n. Adds 2 (IsOfPlace (λ _. IsLinkRow c.args.app.now) c.args.listed.now n) c.args.rows.now.items
    c.loop-predecessor.rows.items) (omega (arith, c.loop-predecessor-test.false, c.loop-predecessor.auto.predecessor-index-end))
    c.loop-predecessor.invariant
