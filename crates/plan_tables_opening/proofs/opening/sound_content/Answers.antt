use Rattle.std.proofs.Common.{subst, sym}
use Rattle.planner_machine.specs.Sound.{IsSound}
use Rattle.plan_store.specs.Contents.{content_of}
use Rattle.plan_tables_content.specs.Content.{IsContentOf}
use Rattle.plan_tables_schema.proofs.ResultLemmas.{if_ok}
use Rattle.plan_tables_loading.proofs.TableLemmas.{at_some, if_some}
use Rattle.plan_tables_opening.proofs.ReadableLemmas.{have_rows, sound_rows, with_options}
use Rattle.plan_tables_opening.proofs.opening.sound_content.Goals as goal

pub returns-in-Some-clause-content : goal.returns-in-Some-clause-content
returns-in-Some-clause-content c =
    let made = at_some c.in_ok-content.field-0 _ _ c.in-Some.is c.in_ok-content.ensures.made in
    if_ok c.if_sound.result _ _ (λ found same. if_some found _ _ (λ content is all plans stored.
    subst (IsContentOf all) (sym is) (made all plans stored)) same) c.if_sound.ensures.same

pub returns-in-Some-clause-refused : goal.returns-in-Some-clause-refused
returns-in-Some-clause-refused c =
    let made = at_some c.in_ok-content.field-0 _ _ c.in-Some.is c.in_ok-content.ensures.made in
    if_ok c.if_sound.result _ _ (λ found unsound none all plans stored hold. unsound none (subst IsSound
    (c.tables_have_one_content.ensures all hold.content (content_of c.in-Some.content) hold.told
    (made all plans stored)) hold.sound)) c.if_sound.ensures.refused

pub returns-in-None-clause-refused : goal.returns-in-None-clause-refused
returns-in-None-clause-refused c none all plans stored hold =
    let options = c.args.lists.meta.options in
    c.in_ok-content.ensures.refused c.in-None.is (with_options all hold options) (sound_rows all hold options)
    (have_rows all hold options c.args.stored.now stored)
