use Rattle.std.proofs.Common.{◌∙◌, ap, sym}
use Rattle.std.specs.FinMap as map
use Rattle.plan_tables_definitions.proofs.GatherLemmas.{read_more, row_met}
use Rattle.plan_tables_definitions.proofs.gathering.read_row.Goals as goal

pub returns-then-not-branch-clause-refused : goal.returns-then-not-branch-clause-refused
returns-then-not-branch-clause-refused g c all sound is within = row_met g.D.Draft.IsRow g.D.Draft.IsRead
    g.D.Draft.IsSound g.met.D.Draft.named g.met.D.Draft.read_named all c.args.drafts.now c.args.name.now
    c.draft_of-draft.result c.args.row.now sound c.requires is within c.draft_of-draft.ensures.read
    (λ d such it held. sym c.if-not-branch.true ∙ c.in_ok-join.ensures.refused d such it held)

pub returns-clause-taken : goal.returns-clause-taken
returns-clause-taken g c before _ are = read_more g.D.Draft.IsRead before c.args.row.now c.args.name.now
    c.args.drafts.now c.put.new.self c.draft_of-draft.result c.join.new.self c.draft_of-draft.ensures.read
    (c.in_ok-join.ensures.taken c.if-not-branch.false)
    (c.in_ok-put.ensures ∙ ap (λ m. map.insert m c.args.name.now c.join.new.self) c.draft_of-draft.ensures.removed) are
