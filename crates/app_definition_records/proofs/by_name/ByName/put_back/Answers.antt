use Rattle.app_definition_records.proofs.ReplacedLemmas.{back_all, back_more, back_none, back_stands}
use Rattle.app_definition_records.proofs.by_name.ByName.put_back.Goals as goal

pub loop-name-init : goal.loop-name-init
loop-name-init g c =
    let gives = c.into_iter-name-iterator.ensures.into_iter_gives in
    back_all c.args.was c.args.self.now c.was.inside.by_name.entries c.into_iter-name-iterator.result c.was.view_is
    gives.0 gives.4 c.requires

pub put_one-requires : goal.put_one-requires
put_one-requires g c =
    back_stands c.args.was c.args.self.now c.loop-name.self c.loop-name.name-iterator c.next.new.self c.in-Some.name
    c.in-Some.definition c.loop-name.invariant c.in-Some.ensures.steps

pub loop-name-preserved : goal.loop-name-preserved
loop-name-preserved g c =
    back_more c.args.was c.args.self.now c.loop-name.self c.put_one.new.self c.loop-name.name-iterator c.next.new.self
    c.in-Some.name c.in-Some.definition c.loop-name.invariant c.in-Some.ensures.steps c.put_one.ensures

pub returns : goal.returns
returns g c =
    back_none c.args.was c.args.self.now c.loop-name.self c.loop-name.name-iterator c.loop-name.invariant
    c.in-None.ensures.steps.0
