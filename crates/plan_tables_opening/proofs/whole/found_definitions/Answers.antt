use Rattle.std.proofs.Common.{None, Some}
use Rattle.std.specs.Prelude.{◌≡◌, Option, IsSome}
use Rattle.plan_tables_schema.proofs.ResultLemmas.{if_ok}
use Rattle.plan_tables_opening.proofs.whole.found_definitions.Goals as goal

not_none : {X : Type 0} (o : Option X) → IsSome o → o ≡ None → ⊥
not_none None is none = cc
not_none (Some x) is none = cc

pub returns-clause-refused : goal.returns-clause-refused
returns-clause-refused c = if_ok c.definitions_of_rows.result _ _ (λ found find none all sound rows. not_none found
    (find all sound rows) none) c.definitions_of_rows.ensures.found
