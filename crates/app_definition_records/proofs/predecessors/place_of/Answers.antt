use Rattle.std.proofs.Common.{rules}
use Rattle.std.proofs.lemmas.List.Sorted.{answers_always}
use Rattle.app_definition_records.proofs.RisingLemmas.{found_at, place_for}
use Rattle.app_definition_records.proofs.predecessors.place_of.Goals as goal

pub returns-clause-found : goal.returns-clause-found
returns-clause-found c =
    let facts = c.binary_search_by_key.ensures in
    let by_name = facts.position (λ listed. listed.name) (answers_always _ _ _ (λ f a r g called. search rules)) in
    found_at (λ p. p.name) c.args.listed.now c.args.name.now c.binary_search_by_key.result by_name facts.bound

pub returns-clause-free : goal.returns-clause-free
returns-clause-free c =
    let facts = c.binary_search_by_key.ensures in
    let by_name = facts.position (λ listed. listed.name) (answers_always _ _ _ (λ f a r g called. search rules)) in
    place_for (λ p. p.name) c.args.listed.now c.args.name.now c.binary_search_by_key.result c.requires by_name
    facts.bound
