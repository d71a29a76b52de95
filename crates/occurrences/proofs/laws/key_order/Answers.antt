use Rattle.occurrences.proofs.KeyLemmas.{key_cmp_total, key_ranks, key_strict, key_same, same_key}
use Rattle.occurrences.proofs.laws.key_order.Goals as goal

pub returns-clause-strict : goal.returns-clause-strict
returns-clause-strict c = key_strict

pub returns-clause-total : goal.returns-clause-total
returns-clause-total c = key_cmp_total

pub returns-clause-ranks : goal.returns-clause-ranks
returns-clause-ranks c = key_ranks

pub returns-clause-tested : goal.returns-clause-tested
returns-clause-tested c a b = (same_key a b, key_same a b)
