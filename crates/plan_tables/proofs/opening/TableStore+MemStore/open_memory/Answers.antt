use Rattle.std.proofs.Common.{refl, subst, sym, true}
use Rattle.sqlite_trees.proofs.Doubt.{no_doubt}
use Rattle.plan_tables_schema.specs.Free.{IsFree}
use Rattle.plan_tables_schema.proofs.MadeLemmas.{nothing_is_free}
use Rattle.plan_tables_schema.proofs.ResultLemmas.{if_ok}
use Rattle.plan_tables.proofs.UnopenedLemmas.{only_memory}
use Rattle.plan_tables.proofs.opening.TableStore+MemStore.open_memory.Goals as goal

pub returns-in-Ok-clause-refused : goal.returns-in-Ok-clause-refused
returns-in-Ok-clause-refused c =
    only_memory c.over_connection.result c.in-Ok.conn c.in-Ok.ensures.empty c.in-Ok.ensures.fresh
    c.over_connection.ensures.unmade

pub returns-in-Ok-clause-empty : goal.returns-in-Ok-clause-empty
returns-in-Ok-clause-empty c =
    if_ok c.over_connection.result _ _ (λ store over. (over.opened (no_doubt true refl)).empty (subst IsFree (sym c.in-Ok.ensures.empty.2)
    nothing_is_free))
    c.over_connection.ensures.opened

pub returns-in-Ok-clause-sound : goal.returns-in-Ok-clause-sound
returns-in-Ok-clause-sound c =
    if_ok c.over_connection.result _ _ (λ store over. (over.opened (no_doubt true refl)).sound) c.over_connection.ensures.opened

pub returns-in-Ok-clause-settled : goal.returns-in-Ok-clause-settled
returns-in-Ok-clause-settled c =
    if_ok c.over_connection.result _ _ (λ store over. over.settled) c.over_connection.ensures.opened

pub returns-in-Ok-clause-whole : goal.returns-in-Ok-clause-whole
returns-in-Ok-clause-whole c =
    if_ok c.over_connection.result _ _ (λ store over. over.whole) c.over_connection.ensures.opened

pub returns-in-Ok-clause-sure : goal.returns-in-Ok-clause-sure
returns-in-Ok-clause-sure c =
    if_ok c.over_connection.result _ _ (λ store over. over.sure) c.over_connection.ensures.opened
