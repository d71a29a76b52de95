use Rattle.std.proofs.Common.{◌≡◌, ◌↔◌, ◌+◌, ◌++◌, ◌∷◌, [], take, sym, ap, subst, arith, ◌∙◌}
use Rattle.std.specs.List.{Contains}
use Rattle.std.proofs.lemmas.List.{take_more, take_all}
use Rattle.external_dependencies.proofs.GatherLemmas.{had_more}
use Rattle.external_dependencies.proofs.repair.pairs_of.Goals as goal

-- one more successor
pub loop-serial-preserved : goal.loop-serial-preserved
loop-serial-preserved c =
    let serials = c.args.serials.now in
    let index = c.loop-serial.serial-index in
    let front : take (index + 1) serials ≡ take index serials ++ c.serial-item.result ∷ [] =
    take_more serials index c.serial-item.result c.loop-serial-test.true
    ∙ ap (λ x. take index serials ++ x ∷ []) (sym c.serial-item.is) in
    let pushed : c.extend_from_slice.new.self.items ≡ c.loop-serial.had.items ++ c.of_successor.result.now =
    c.in_ok-extend_from_slice.ensures.items in
    let more = had_more c.args.pairs.now c.loop-serial.had.items (take index serials) c.loop-serial.invariant
    c.serial-item.result c.of_successor.result.now c.of_successor.ensures.all in
    rw (pushed, front) more

-- all successors
pub returns : goal.returns
returns c pair =
    let whole : take c.loop-serial.serial-index c.args.serials.now ≡ c.args.serials.now =
    take_all c.loop-serial.serial-index c.args.serials.now (omega arith) in
    let is : Contains c.loop-serial.had.items pair
    ↔ (Contains c.args.pairs.now pair × Contains c.args.serials.now pair.successor) =
    subst (λ ns. Contains c.loop-serial.had.items pair ↔ (Contains c.args.pairs.now pair
    × Contains ns pair.successor)) whole (c.loop-serial.invariant pair) in
    let same = c.from_vec.ensures pair in
    ((λ here. is.0 (same.0 here)), λ here. same.1 (is.1 here))
