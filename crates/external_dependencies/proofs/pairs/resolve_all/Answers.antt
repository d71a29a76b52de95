use Rattle.std.proofs.Common.{◌↔◌, Contains, IfOk, subst}
use Rattle.external_dependencies.specs.Pair.{IsPairAmong}
use Rattle.external_dependencies.specs.declared.pairs.Pair.{Pair}
use Rattle.external_dependencies.proofs.pairs.resolve_all.Goals as goal

-- all rows are asked
pub returns : goal.returns
returns c = subst (λ rows. IfOk c.resolve_some.result (λ pairs. (pair : Pair) → Contains pairs pair
    ↔ IsPairAmong c.args.rows.now rows c.args.links.now pair)) c.as_slice.ensures c.resolve_some.ensures
