use Rattle.sqlite.specs.Held.{state}
use Rattle.sqlite.specs.Steps.{over_memory}
use Rattle.sqlite.proofs.Callers.{memory_is_clean}
use Rattle.plan_store.specs.Contents.{content_of}
use Rattle.plan_migrations.proofs.HoldLemmas.{told_have, unheld}
use Rattle.plan_migrations.proofs.ReadLemmas.{unfilled}
use Rattle.plan_migrations.proofs.contents.check_content.Goals as goal

pub returns-in-Ok-open_content-clause-sound : goal.returns-in-Ok-open_content-clause-sound
returns-in-Ok-open_content-clause-sound c =
    let opened = c.in-Ok-open_content.ensures.opened in (
      content_of c.in-Ok-open_content.field-0,
      opened.sound,
      told_have c.args.reads.now c.requires.whole (state over_memory c.in-Ok.conn) c.in-Ok.ensures.plan c.in-Ok.ensures.rows
          (content_of c.in-Ok-open_content.field-0) (opened.told (memory_is_clean c.open_content.new.conn)),
    )

pub returns-in-Ok-clause-refused : goal.returns-in-Ok-clause-refused
returns-in-Ok-clause-refused c =
    unheld c.args.reads.now c.requires.whole (state over_memory c.in-Ok.conn) c.in-Ok.ensures.plan c.in-Ok.ensures.rows
    (state over_memory c.open_content.new.conn) c.in-Err-open_content.fault c.content_fault.result c.content_fault.ensures
    (c.in-Err-open_content.ensures.unopened (memory_is_clean c.open_content.new.conn))

pub returns-clause-refused : goal.returns-clause-refused
returns-clause-refused c =
    unfilled c.args.reads.now c.in-Err.error c.remake_fault.result c.in-Err.ensures.fails c.remake_fault.ensures
