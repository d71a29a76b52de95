use Rattle.daily_planning.proofs.actions.status_change.Goals as goal

pub returns : goal.returns
returns c h sound sees acted =
    let nothing = c.none-change.ensures in
    record {
      definitions = nothing.definitions;
      bounds = nothing.bounds;
      issued = nothing.issued;
      in_force = nothing.in_force;
      ltp = nothing.ltp;
      gone = nothing.cp.gone;
      one_changed = c.in_ok-rows.ensures;
      put = nothing.cp.put;
      history = nothing.history;
      deletions = nothing.deletions;
      job = nothing.job;
      pairs = c.in_ok-pairs.ensures.pairs h sound sees acted;
      leads = c.in_ok-pairs.ensures.leads h sound sees acted;
    }
