use Rattle.std.proofs.Common.{length, subst}
use Rattle.external_dependencies.specs.Places.{IsLeastAmong}
use Rattle.external_dependencies.proofs.LoopLemmas.{have_lists, if_ok, least_of_all}
use Rattle.external_dependencies.proofs.loops.find_loop.Goals as goal

-- each application on a loop has a list
pub returns : goal.returns
returns c =
    let links = c.args.links.now in
    let names = c.in_ok-names.names.items in
    if_ok c.least_among.result (IsLeastAmong links c.deref.result.now) _
    (λ found least. least_of_all links names (have_lists links names c.in_ok-names.ensures) found
    (subst (λ ns. IsLeastAmong links ns found) c.deref.ensures.value least)) c.least_among.ensures

pub least_among-requires : goal.least_among-requires
least_among-requires c = rw (c.deref.ensures.value) c.in_ok-names.ensures.rising
