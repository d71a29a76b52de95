use Rattle.std.proofs.Common.{◌∙◌, ap, refl, subst, sym}
use Rattle.std.specs.Prelude.{not}
use Rattle.sqlite.specs.Held.{state}
use Rattle.plan_tables_schema.specs.Rows.{tables_of}
use Rattle.plan_tables_schema.proofs.ResultLemmas.{if_ok}
use Rattle.plan_store.specs.Contents.{content_of}
use Rattle.plan_tables_loading.proofs.TableLemmas.{at_some, if_some}
use Rattle.plan_tables_opening.specs.Judging.{IsJudged, IsSoundIfFound}
use Rattle.plan_tables_opening.proofs.JudgedLemmas.{judged_by, sound_found}
use Rattle.plan_tables_opening.proofs.OpenedLemmas.{read_opened}
use Rattle.plan_tables_opening.proofs.ReadableLemmas.{plans_readable}
use Rattle.plan_tables_opening.proofs.StoredLemmas.{all_rowids}
use Rattle.plan_tables_opening.proofs.opening.read_whole.Goals as goal

pub returns-in-Some-clause-judged : goal.returns-in-Some-clause-judged
returns-in-Some-clause-judged g c clean known =
    let old = state g.S.Store c.args.conn.now in
    let new = state g.S.Store c.read.new.conn in
    let all = tables_of old.now.trees in
    let plan = known.0 in
    let look = c.in_ok-plans.ensures.looks in
    let told = at_some c.in_ok-plans.field-0 _ _ c.in-Some.is (c.in_ok-plans.ensures.told clean plan) in
    let found = c.sound_content-found in
    subst (IsJudged old new) (sym c.found_by.ensures) (judged_by old new found.result known (look.same clean plan refl)
    (if_ok found.result _ _ (λ some tells. if_some some _ _ (λ content is. (
      read_opened old new (content_of content) (c.is_autocommit-settled.ensures.settled
          (c.is_autocommit-settled.ensures.value ∙ ap not c.requires)) c.schema.ensures.live look clean plan
          (all_rowids all told.1.0.1 told.0) (is all told.1.0.0 told.1.1),
      is all told.1.0.0 told.1.1,
    )) tells) found.ensures.content)
    (if_ok found.result _ _ (λ some refused none held. refused none all told.1.0.0 told.1.1 held.1)
    found.ensures.refused))

pub returns-in-Some-clause-sound : goal.returns-in-Some-clause-sound
returns-in-Some-clause-sound g c =
    subst IsSoundIfFound (sym c.found_by.ensures) (sound_found c.sound_content-found.result
    c.sound_content-found.ensures.sound)

pub returns-in-None-clause-judged : goal.returns-in-None-clause-judged
returns-in-None-clause-judged g c clean known = (
  known,
  λ held. c.in_ok-plans.ensures.refused clean known.0 c.in-None.is
      (held.1.rowids, (plans_readable (tables_of (state g.S.Store c.args.conn.now).now.trees) held.1, tt)),
)
