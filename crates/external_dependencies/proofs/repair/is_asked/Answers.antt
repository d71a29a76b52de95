use Rattle.external_dependencies.proofs.repair.is_asked.Goals as goal

pub returns-then-is_open : goal.returns-then-is_open
returns-then-is_open c touch is =
    let reached = c.has.ensures touch is in (
      (λ yes. (c.is_open.ensures.0 c.if-is_open.true, reached.0 yes)),
      λ both. reached.1 both.1,
    )
