use Rattle.std.proofs.Common.{rules}
use Rattle.std.proofs.lemmas.List.Sorted.{answers_always}
use Rattle.plan_store_lists.proofs.KeyLemmas.{found, missed}
use Rattle.plan_store_lists.specs.declared.blocks.Block.{Block}
use Rattle.plan_store_lists.proofs.blocks.place_of.Goals as goal

pub returns-clause-taken : goal.returns-clause-taken
returns-clause-taken g c =
    let is = c.binary_search_by_key.ensures in
    found g.met.G.Ord.total c.requires (λ (b : Block g.row.G.Denot g.row.T.Denot). b.group) c.args.blocks.now
    c.args.group.now c.binary_search_by_key.result is.bound
    (is.position (λ b. b.group) (answers_always _ _ _ (λ f a r q called. search rules)))

pub returns-clause-free : goal.returns-clause-free
returns-clause-free g c rise =
    let is = c.binary_search_by_key.ensures in
    missed g.met.G.Ord.total c.requires (λ (b : Block g.row.G.Denot g.row.T.Denot). b.group) c.args.blocks.now
    c.args.group.now c.binary_search_by_key.result is.bound
    (is.position (λ b. b.group) (answers_always _ _ _ (λ f a r q called. search rules))) rise
