use Rattle.std.proofs.Common.{◌∙◌}
use Rattle.plan_store.proofs.PartLemmas.{among}
use Rattle.plan_store.proofs.parts.is_among.Goals as goal

pub returns : goal.returns
returns c =
    c.is_ok.ensures.value ∙ among c.args.serials.now c.args.serial c.binary_search.result
    c.binary_search.ensures.position c.requires
