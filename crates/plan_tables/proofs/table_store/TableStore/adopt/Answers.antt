use Rattle.std.proofs.Common.{subst, sym}
use Rattle.sqlite.specs.Held.{state}
use Rattle.sqlite.specs.State.{HasCleanDisk, Survives}
use Rattle.plan_store.specs.Contents.{content_of}
use Rattle.plan_tables_opening.specs.Opened.{MakesFirst}
use Rattle.plan_tables_opening.specs.Opening.{IsOpened}
use Rattle.plan_tables.specs.Kept.{kept_in}
use Rattle.plan_tables.proofs.StoredLemmas.{leaves_one}
use Rattle.plan_tables.proofs.table_store.TableStore.adopt.Goals as goal

pub returns-in-Ok-clause-opened : goal.returns-in-Ok-clause-opened
returns-in-Ok-clause-opened g c =
    let old = state g.S.Store c.args.conn in
    let now = state g.S.Store c.over.result.session.conn in
    let kept = kept_in now (content_of c.over.result.lists) in
    let opened : HasCleanDisk now → IsOpened old now kept = λ clean. subst (IsOpened old now)
    (sym (c.over.ensures.kept clean)) (subst (λ conn. IsOpened old (state g.S.Store conn) (content_of c.in-Ok.lists))
    (sym c.over.ensures.conn) c.in-Ok.ensures.opened) in
    record {
      opened = opened;
      part = c.over.ensures.part;
      settled = λ left both. leaves_one g.S.Store g.met.S.Store.settled c.over.result.session.conn left kept
          c.tables_have_one_content.ensures ((opened both.0).stored both.0) both.1;
      whole = c.over.ensures.whole;
      sure = c.over.ensures.sure;
      crash = subst (λ conn. Survives old (state g.S.Store conn) (MakesFirst old)) (sym c.over.ensures.conn)
          c.open_content.ensures.crash;
    }

pub returns-in-Err-clause-unopened : goal.returns-in-Err-clause-unopened
returns-in-Err-clause-unopened g c = record {
  unopened = c.in-Err.ensures.unopened;
  holds = c.in-Err.ensures.holds;
  mode = c.open_content.ensures.mode;
  crash = c.open_content.ensures.crash;
}
