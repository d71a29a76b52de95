use Rattle.std.proofs.Common.{sym, subst}
use Rattle.std.proofs.lemmas.Option.{IfSome_then}
use Rattle.plan_tables_opening.specs.Files.{IsRefused}
use Rattle.plan_tables_opening.proofs.FileLemmas.{refused}
use Rattle.plan_tables_opening.proofs.files.open_connection_with.Goals as goal

pub returns-in-Err-clause-caused : goal.returns-in-Err-clause-caused
returns-in-Err-clause-caused g c = IfSome_then c.in-Err.left c.in-Err.ensures.cause (λ rest h. (
  h.0,
  h.1,
  h.2,
  λ clean. (
    subst (IsRefused h.0 rest) (sym c.unopened_for.ensures.value) (refused h.0 rest c.in-Err.error (h.3 clean).0),
    (h.3 clean).1,
  ),
))
