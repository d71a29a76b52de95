use Rattle.external_dependencies.specs.Loop.{IsLeastOnLoop}
use Rattle.external_dependencies.proofs.LoopLemmas.{if_ok, least_within}
use Rattle.external_dependencies.proofs.loops.find_loop_through.Goals as goal

-- each loop is one of these lists
pub returns : goal.returns
returns c = if_ok c.find_loop.result (IsLeastOnLoop c.args.links.now) _
    (λ found least all ahead pass. least_within c.args.links.now all c.args.app.now ahead pass found least)
    c.find_loop.ensures
