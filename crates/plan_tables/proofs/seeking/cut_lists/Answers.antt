use Rattle.std.proofs.Common.{ap}
use Rattle.plan_store.specs.Contents.{content_of}
use Rattle.plan_store.specs.Parts.{with_rest}
use Rattle.plan_tables.proofs.CutLemmas.{part_within}
use Rattle.plan_tables.proofs.seeking.cut_lists.Goals as goal

pub returns-clause-same : goal.returns-clause-same
returns-clause-same c rest = ap (with_rest rest) c.keep_part.ensures.same

pub returns-clause-part : goal.returns-clause-part
returns-clause-part c rest = part_within rest (content_of c.args.lists.now) (content_of c.keep_part.new.self)
    c.keep_part.ensures.same c.keep_part.ensures.part
