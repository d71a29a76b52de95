use Rattle.std.proofs.Common.{subst, sym}
use Rattle.std.proofs.lemmas.Grind.{merely}
use Rattle.sqlite.specs.Held.{state}
use Rattle.occurrences.specs.declared.place.Deletion.{Deletion}
use Rattle.planner_machine.specs.Sound.{IsSound}
use Rattle.plan_store_lists.proofs.LookLemmas.{look_some}
use Rattle.plan_store.specs.Contents.{content_of}
use Rattle.plan_store.specs.Parts.{IsPartOf, Rest}
use Rattle.plan_tables_opening.specs.Opened.{IsStored}
use Rattle.plan_tables.specs.Gone.{NotesAll}
use Rattle.plan_tables.proofs.GoneLemmas.{noted_all}
use Rattle.plan_tables.proofs.StoredLemmas.{kept_part, stored_sound, told_kept}
use Rattle.plan_tables.proofs.table_store.TableStore.over.Goals as goal

pub invariant_of-result-2 : goal.invariant_of-result-2
invariant_of-result-2 g c =
    let s = state g.S.Store c.args.conn in
    let made = content_of c.args.lists in
    let lists = content_of c.keep_part.new.self in
    record {
      jobless = c.keep_part.ensures.jobs;
      stored = merely (λ whole clean doubt.
          let stored = c.requires.opened clean in
          let kept = kept_part c.tables_represent_sets.ensures s made lists c.keep_part.ensures.same stored in
          record {
            stored = subst (IsStored s) (sym kept) stored;
            sound = subst IsSound (sym kept) c.requires.sound;
            part = subst (λ (rest : Rest). IsPartOf rest lists)
                (sym (told_kept c.tables_represent_sets.ensures s made stored)) c.keep_part.ensures.part;
          });
      told = merely (λ clean. stored_sound g.S.Store g.met.S.Store.settled c.args.conn made
          (c.requires.opened clean) c.requires.sound c.schema.ensures.live);
      noted = merely (λ can.
          let stored = c.requires.opened can.0 in
          subst (λ (rest : Rest). NotesAll rest.deletions c.arrivals_of-gone.result)
          (sym (told_kept c.tables_represent_sets.ensures s made stored))
          (noted_all c.arrivals_of-gone.result c.args.lists.deletions.items made.sets.deletions
          (λ serial d is. (look_some (λ (x : Deletion). x.row.serial) c.args.lists.deletions.items serial d is).0)
          c.arrivals_of-gone.ensures));
      sound = merely (λ can. subst IsSound (sym (kept_part c.tables_represent_sets.ensures s made lists
          c.keep_part.ensures.same (c.requires.opened can.0))) c.requires.sound);
    }

pub returns-clause-kept : goal.returns-clause-kept
returns-clause-kept g c clean =
    kept_part c.tables_represent_sets.ensures (state g.S.Store c.args.conn) (content_of c.args.lists)
    (content_of c.keep_part.new.self) c.keep_part.ensures.same (c.requires.opened clean)

pub returns-clause-part : goal.returns-clause-part
returns-clause-part g c clean =
    subst (λ (rest : Rest). IsPartOf rest (content_of c.keep_part.new.self))
    (sym (told_kept c.tables_represent_sets.ensures (state g.S.Store c.args.conn) (content_of c.args.lists)
    (c.requires.opened clean))) c.keep_part.ensures.part
