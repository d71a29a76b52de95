use Rattle.std.proofs.Common.{subst, sym}
use Rattle.app_definition_records.specs.ByName.{AreEntriesOf}
use Rattle.app_definition_records.proofs.ReplacedLemmas.{noted_all, noted_more, noted_none}
use Rattle.app_definition_records.proofs.by_name.ByName.replaced_by.Goals as goal

pub loop-name-init : goal.loop-name-init
loop-name-init g c =
    noted_none c.args.self.now c.args.more.now c.into_iter-name-iterator.result c.new-was.result
    (subst (λ es. AreEntriesOf es c.args.more.now)
    (sym c.into_iter-name-iterator.ensures.into_iter_gives) c.iter-name-items.ensures)
    c.new-was.ensures

pub loop-name-preserved : goal.loop-name-preserved
loop-name-preserved g c =
    noted_more c.args.self.now c.args.more.now c.loop-name.name-iterator c.next.new.self c.in-Some.name.now
    c.in-Some._definition.now c.loop-name.was c.insert.new.self c.in_ok-copy_of.field-0 c.loop-name.invariant
    c.in-Some.ensures.steps c.in_ok-copy_of.ensures c.in_ok-insert.ensures.ok

pub returns : goal.returns
returns g c =
    noted_all c.args.self.now c.args.more.now c.loop-name.name-iterator c.loop-name.was c.loop-name.invariant
    c.in-None.ensures.steps.0
