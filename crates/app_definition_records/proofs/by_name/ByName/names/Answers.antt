use Rattle.std.proofs.Common.{sym, subst}
use Rattle.app_definition_records.specs.ByName.{AreEntriesOf}
use Rattle.app_definition_records.proofs.NameLemmas.{names_none, names_more, names_all}
use Rattle.app_definition_records.proofs.by_name.ByName.names.Goals as goal

pub loop-name-init : goal.loop-name-init
loop-name-init g c =
    names_none c.args.self.now c.into_iter-name-iterator.result c.new-names.result.items
    (subst (λ es. AreEntriesOf es c.args.self.now)
    (sym c.into_iter-name-iterator.ensures.into_iter_gives) c.iter-name-items.ensures)
    c.new-names.ensures.items

pub loop-name-preserved : goal.loop-name-preserved
loop-name-preserved g c =
    names_more c.args.self.now c.loop-name.name-iterator c.next.new.self c.in-Some.name.now c.in-Some._definition.now
    c.loop-name.names.items c.push.new.self.items
    c.loop-name.invariant c.in-Some.ensures.steps c.in_ok-push.ensures.items

pub returns : goal.returns
returns g c =
    names_all c.args.self.now c.loop-name.name-iterator c.loop-name.names.items c.sort_unstable.new.self.items
    c.loop-name.invariant c.in-None.ensures.steps.0 c.sort_unstable.ensures.permutation c.sort_unstable.ensures.sorted
