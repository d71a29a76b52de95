use Rattle.std.proofs.Common.{subst, sym}
use Rattle.std.specs.Prelude.{IfSome, IsSome}
use Rattle.plan_tables_content.specs.Content.{AreEach, IsApplicationRow}
use Rattle.plan_tables_content.specs.Facts.{IsPredecessorRow}
use Rattle.plan_tables_definitions.specs.Storing.{AreRowsOf}
use Rattle.plan_tables_definitions.specs.Representable.{ArePredecessors}
use Rattle.plan_tables_definitions.proofs.StoredLemmas.{got_rows}
use Rattle.plan_tables_definitions.proofs.stored.listed_of_rows.Goals as goal

pub returns-in_default-clause-found : goal.returns-in_default-clause-found
returns-in_default-clause-found c applications predecessors sound more have those = subst IsSome c.in_default.is
    (c.in_ok-applications.ensures.found applications sound
    (subst (λ l. AreRowsOf IsApplicationRow l applications) (sym c.deref.ensures.value) have))

pub returns-in_default-2-clause-found : goal.returns-in_default-2-clause-found
returns-in_default-2-clause-found c applications predecessors sound more have those = subst IsSome c.in_default-2.is
    (c.in_ok-predecessors.ensures.found predecessors more
    (subst (λ l. AreRowsOf IsPredecessorRow l predecessors) (sym c.deref-2.ensures.value) those))

pub returns-clause-applications : goal.returns-clause-applications
returns-clause-applications c = got_rows IsApplicationRow c.deref.result.now c.args.stored.now.applications.items
    c.in_ok-applications.field-0 c.in-Some.applications c.deref.ensures.value c.in-Some.is
    c.in_ok-applications.ensures.made

pub returns-clause-predecessors : goal.returns-clause-predecessors
returns-clause-predecessors c = got_rows IsPredecessorRow c.deref-2.result.now c.args.stored.now.predecessors.items
    c.in_ok-predecessors.field-0 c.in-Some-2.predecessors c.deref-2.ensures.value c.in-Some-2.is
    c.in_ok-predecessors.ensures.made

pub returns-clause-told : goal.returns-clause-told
returns-clause-told c = subst (λ o. IfSome o (AreEach ArePredecessors)) c.in-Some-2.is
    c.in_ok-predecessors.ensures.told
