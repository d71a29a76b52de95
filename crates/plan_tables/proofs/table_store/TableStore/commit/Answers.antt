use Rattle.std.proofs.Common.{◌∙◌, Some, ap, subst, sym}
use Rattle.sqlite.specs.Held.{Held}
use Rattle.planner_machine.specs.Content.{Content}
use Rattle.plan_store.specs.Contents.{content_of}
use Rattle.plan_tables.specs.Session.{doubt_after, failures_after}
use Rattle.plan_tables.proofs.CommitLemmas.{Unchanged, commits, commits_not, keeps_commit, keeps_undone, noted_commit, noted_undone, sound_commit, sound_undone, told_commit}
use Rattle.plan_tables.proofs.MetLemmas.{still_jobless}
use Rattle.plan_tables.proofs.StorableMoves.{storable_moves}
use Rattle.plan_tables.proofs.table_store.TableStore.commit.Given.{Over}
use Rattle.plan_tables.proofs.table_store.TableStore.commit.Goals as goal

unchanged : (g : Over) (c : goal.After-blame g) → Unchanged g.S.Store c.args.self.now.session.conn c.blame.new.self.conn
    (content_of c.args.self.now.lists) (content_of c.change_both.new.lists) c.args.change c.args.prepared.now.moves
    c.in-Err.why
unchanged g c =
    subst (λ (h : Held _). Unchanged g.S.Store c.args.self.now.session.conn h (content_of c.args.self.now.lists)
    (content_of c.change_both.new.lists) c.args.change c.args.prepared.now.moves c.in-Err.why) (sym c.blame.ensures.conn)
    (record {
      lists = c.in-Err.ensures.same;
      undone = c.in-Err.ensures.undone;
      memory = c.in-Err.ensures.memory;
      blames = c.in-Err.ensures.blames;
      crash = c.change_both.ensures.crash;
    })

pub change_both-requires-clause-storable : goal.change_both-requires-clause-storable
change_both-requires-clause-storable g c =
    storable_moves c.args.change.definitions c.args.prepared.now.moves c.requires.moves

pub invariant_of-self-in-Ok : goal.invariant_of-self-in-Ok
invariant_of-self-in-Ok g c =
    let old = c.args.self.now in
    let r = c.requires in
    record {
      jobless = still_jobless c.args.change (content_of old.lists) (content_of c.change_both.new.lists)
          c.in-Ok.ensures.lists old.jobless;
      stored = keeps_commit old c.args.change c.args.prepared.now.moves r.whole r.fits r.sound r.moves
          c.change_both.new.conn (content_of c.change_both.new.lists) r.knows c.tables_represent_sets.ensures (record {
            lists = c.in-Ok.ensures.lists;
            done = c.in-Ok.ensures.done;
            schema = c.in-Ok.ensures.schema;
            crash = c.change_both.ensures.crash;
          })
          old.session.failures old.session.in_doubt;
      told = told_commit old c.args.change c.args.prepared.now.moves r.whole r.fits r.sound r.moves
          c.change_both.new.conn c.change_both.ensures.crash;
      noted = noted_commit old c.args.change c.args.prepared.now.moves r.whole r.fits r.sound r.moves
          c.change_both.new.conn (content_of c.change_both.new.lists) r.knows c.tables_represent_sets.ensures (record {
            lists = c.in-Ok.ensures.lists;
            done = c.in-Ok.ensures.done;
            schema = c.in-Ok.ensures.schema;
            crash = c.change_both.ensures.crash;
          })
          c.note_gone.new.gone c.note_gone.ensures.stay
          (rw c.deref.ensures.value at c.note_gone.ensures.noted);
      sound = sound_commit old c.args.change c.args.prepared.now.moves r.whole r.fits r.sound r.moves
          c.change_both.new.conn (content_of c.change_both.new.lists) r.knows c.tables_represent_sets.ensures (record {
            lists = c.in-Ok.ensures.lists;
            done = c.in-Ok.ensures.done;
            schema = c.in-Ok.ensures.schema;
            crash = c.change_both.ensures.crash;
          });
    }

pub invariant_of-self-in-Err : goal.invariant_of-self-in-Err
invariant_of-self-in-Err g c =
    let old = c.args.self.now in
    let last = c.blame.new.self in
    let r = c.requires in
    let did = unchanged g c in
    record {
      jobless = ap (λ (k : Content). k.jobs) did.lists ∙ old.jobless;
      stored = keeps_undone old c.args.change c.args.prepared.now.moves r.whole r.fits r.sound r.moves last.conn
          (content_of c.change_both.new.lists) c.in-Err.why last.failures last.in_doubt did
          (c.blame.ensures.failures ∙ ap (failures_after (Some c.in-Err.why)) r.whole.0)
          (c.blame.ensures.in_doubt ∙ ap (doubt_after (Some c.in-Err.why)) r.whole.1);
      told = told_commit old c.args.change c.args.prepared.now.moves r.whole r.fits r.sound r.moves last.conn did.crash;
      noted = noted_undone old c.args.change c.args.prepared.now.moves r.whole r.fits r.sound r.moves last.conn
          (content_of c.change_both.new.lists) c.in-Err.why last.failures last.in_doubt did
          (c.blame.ensures.failures ∙ ap (failures_after (Some c.in-Err.why)) r.whole.0)
          (c.blame.ensures.in_doubt ∙ ap (doubt_after (Some c.in-Err.why)) r.whole.1) c.note_gone.new.gone
          c.note_gone.ensures.stay;
      sound = sound_undone old c.args.change c.args.prepared.now.moves r.whole r.fits r.sound r.moves last.conn
          (content_of c.change_both.new.lists) c.in-Err.why last.failures last.in_doubt did
          (c.blame.ensures.failures ∙ ap (failures_after (Some c.in-Err.why)) r.whole.0)
          (c.blame.ensures.in_doubt ∙ ap (doubt_after (Some c.in-Err.why)) r.whole.1);
    }

pub returns-in-Ok : goal.returns-in-Ok
returns-in-Ok g c =
    let r = c.requires in
    commits c.args.self.now c.args.change c.args.prepared.now.moves r.whole r.fits r.sound r.moves _ r.knows
    c.tables_represent_sets.ensures c.tables_have_one_content.ensures g.met.S.Store.settled (record {
      lists = c.in-Ok.ensures.lists;
      done = c.in-Ok.ensures.done;
      schema = c.in-Ok.ensures.schema;
      crash = c.change_both.ensures.crash;
    }) r.whole

pub returns-in-Err : goal.returns-in-Err
returns-in-Err g c =
    let r = c.requires in
    let why = c.in-Err.why in
    commits_not c.args.self.now c.args.change c.args.prepared.now.moves r.whole r.fits r.sound r.moves _ c.blame.result why
    c.blame.ensures.fault c.tables_have_one_content.ensures c.fitting_changes_are_accepted.ensures
    c.change_is_representable.ensures c.added_rise.ensures (unchanged g c.before)
    (c.blame.ensures.failures ∙ ap (failures_after (Some why)) r.whole.0)
    (c.blame.ensures.in_doubt ∙ ap (doubt_after (Some why)) r.whole.1)
