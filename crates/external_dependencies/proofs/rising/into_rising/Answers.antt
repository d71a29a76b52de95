use Rattle.std.proofs.Common.{subst, sym}
use Rattle.std.specs.List.{Contains}
use Rattle.external_dependencies.proofs.rising.into_rising.Goals as goal

pub returns-clause-same : goal.returns-clause-same
returns-clause-same g c x = (
  c.into_ordered.ensures.only x,
  λ here. let some = c.into_ordered.ensures.all x here in
      subst (Contains c.into_ordered.result.items) (sym (c.requires x some.0 some.2)) some.1,
)
