use Rattle.std.proofs.Common.{rules}
use Rattle.std.specs.HashSet as bag
use Rattle.std.proofs.lemmas.Map.Made.{hash_set_len-Decides}
use Rattle.plan_store_soundness.proofs.DistinctLemmas.{equivalence}
use Rattle.plan_store_soundness.proofs.keys.all_differ.Goals as goal

pub returns : goal.returns
returns c =
    let same = c.key_order.ensures.equal in
    let made : bag.IsFromIterResult _ c.args.keys.now c.in_ok-distinct.distinct = search rules in
    rw c.len.ensures.len (hash_set_len-Decides same (equivalence same) c.args.keys.now c.in_ok-distinct.distinct made)
