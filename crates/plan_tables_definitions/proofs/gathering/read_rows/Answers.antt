use Rattle.std.proofs.Common.{take, sym, ◌∙◌}
use Rattle.plan_tables_definitions.proofs.GatherLemmas.{has_name, of_first, of_index, read_next, read_none}
use Rattle.plan_tables_definitions.proofs.gathering.read_rows.Goals as goal

pub loop-row-init : goal.loop-row-init
loop-row-init g c = read_none g.D.Draft.IsRead c.new-drafts.result c.new-drafts.ensures

pub returns-in_default-clause-refused : goal.returns-in_default-clause-refused
returns-in_default-clause-refused g c all sound are =
    let is = (are c.row-item.result).0 (of_index c.args.rows.now c.loop-row.row-index c.row-item.result
    c.loop-row-test.true c.row-item.is) in
    let (name, so, at) = has_name g.D.Draft.IsRow g.D.Draft.IsRead g.D.Draft.IsSound g.met.D.Draft.named
    g.met.D.Draft.read_named all c.row-item.result sound is in
    let found = c.name_at.ensures.found name so at in
    absurd (c.in_default.not-Some name found)

pub returns-then-not-branch-clause-refused : goal.returns-then-not-branch-clause-refused
returns-then-not-branch-clause-refused g c all sound are =
    let is = (are c.row-item.result).0 (of_index c.args.rows.now c.loop-row.row-index c.row-item.result
    c.loop-row-test.true c.row-item.is) in
    let taken = c.in_ok-read_row.ensures.refused all sound is (λ v was. (are v).0 (of_first c.args.rows.now
    c.loop-row.row-index v ((c.loop-row.invariant.rows v).1 was))) in
    sym c.if-not-branch.true ∙ taken

pub loop-row-preserved : goal.loop-row-preserved
loop-row-preserved g c = read_next g.D.Draft.IsRead c.args.rows.now c.loop-row.row-index c.row-item.result
    c.read_row.new.drafts c.loop-row-test.true c.row-item.is
    (c.in_ok-read_row.ensures.taken (take c.loop-row.row-index c.args.rows.now) c.if-not-branch.false
    c.loop-row.invariant)
