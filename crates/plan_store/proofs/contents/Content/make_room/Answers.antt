use Rattle.std.proofs.Common.{◌∙◌}
use Rattle.plan_store.proofs.contents.Content.make_room.Goals as goal

pub reserve-requires-clause-ltp : goal.reserve-requires-clause-ltp
reserve-requires-clause-ltp c = c.requires.ltp.put_once

pub reserve-requires-clause-cp : goal.reserve-requires-clause-cp
reserve-requires-clause-cp c = c.requires.cp.put_once

pub reserve-requires-clause-history : goal.reserve-requires-clause-history
reserve-requires-clause-history c = c.requires.history.put_once

pub reserve-requires-clause-deletions : goal.reserve-requires-clause-deletions
reserve-requires-clause-deletions c = c.requires.deletions.put_once

-- the pairs are taken out, and there is room for all that the change puts
pub returns-in-Ok-clause-taken : goal.returns-in-Ok-clause-taken
returns-in-Ok-clause-taken c =
    let has = c.in_ok-reserve.ensures.room in (
      c.reserve_for.ensures.same ∙ c.into_blocks-pairs.ensures.all ∙ c.replace.ensures.value
          ∙ c.reserve.ensures.same.pairs ∙ c.note.ensures.same.pairs,
      record {
        rows = record {
          ltp = has.ltp;
          cp = has.cp;
          history = has.history;
          deletions = has.deletions;
          lists = has.lists;
          jobs = has.jobs;
          ltp_seats = has.ltp_seats;
          cp_seats = has.cp_seats;
          history_seats = has.history_seats;
          deletion_seats = has.deletion_seats;
        };
        pairs = rw c.as_slice.ensures.all at c.in-Ok.ensures.room;
      },
    )
