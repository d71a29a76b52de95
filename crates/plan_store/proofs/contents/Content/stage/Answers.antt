use Rattle.std.proofs.Common.{[], subst, sym}
use Rattle.planner_machine.specs.Content.{Content}
use Rattle.plan_store.specs.Changes.{Fits}
use Rattle.plan_store.specs.Contents.{content_of}
use Rattle.plan_store.specs.Room.{with_definitions}
use Rattle.plan_store.proofs.StagedLemmas.{still_fits}
use Rattle.plan_store.proofs.contents.Content.stage.Goals as goal

-- what is left fits still, and has the room that was made
pub returns-in-Ok-clause-ready : goal.returns-in-Ok-clause-ready
returns-in-Ok-clause-ready c =
    let none = c.replace-definitions.new.dest in
    let now = c.begin.new.definitions in
    let has = c.in_ok-pairs.ensures.taken.1 in
    record {
      fits = subst (λ (k : Content). Fits (record c.args.change { definitions = none }) (with_definitions now k))
          (sym c.in_ok-pairs.ensures.ok)
          (still_fits c.args.change none (content_of c.args.self.now) now [] c.requires);
      room = record {
        rows = record {
          ltp = has.rows.ltp;
          cp = has.rows.cp;
          history = has.rows.history;
          deletions = has.rows.deletions;
          lists = has.rows.lists;
          jobs = has.rows.jobs;
          ltp_seats = has.rows.ltp_seats;
          cp_seats = has.rows.cp_seats;
          history_seats = has.rows.history_seats;
          deletion_seats = has.rows.deletion_seats;
        };
        pairs = has.pairs;
      };
      defined = c.replace-definitions.ensures.after;
      can_undo = c.in-Ok.ensures.can_undo;
    }
