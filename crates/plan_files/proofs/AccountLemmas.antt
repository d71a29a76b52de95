-- What is remembered of runs.
use Rattle.std.proofs.Common.{◌≡◌, ℕ, List, [], ◌∷◌, ◌++◌, refl, subst, sym, inl, inr}
use Rattle.std.proofs.Transfers.{drop-appended}
use Rattle.std.specs.Prelude.{IfOk, IfSome, None, Option, Some, Result, Ok, Err}
use Rattle.std.specs.Io.KnownBytes.{Appends}
use Rattle.planner_machine.specs.Content.{Content}
use Rattle.planner_machine.specs.Statement.{Statement}
use Rattle.planner_cli.specs.Plans.{CrashedPlan, LeadsTo, RanPlan}
use Rattle.planner_cli.specs.Replies.{prints}
use Rattle.planner_cli.specs.Runs.{Ends}
use Rattle.planner_cli.specs.declared.faults.RunFault.{RunFault}
use Rattle.planner_cli.specs.declared.tally.Tally.{Tally}
use Rattle.plan_files.specs.Accounts.{AreRemembered, IsRemembered, Link, Refusal, Run, account_of, written_between}
use Rattle.plan_files.specs.FileRuns.{Leaves}
use Rattle.plan_files.specs.Life.{AreRuns, Leads}
use Rattle.plan_files.proofs.RefusedLemmas.{if_some}

-- what was written between is what was appended
pub appended : (old new : Option (List ℕ)) (bytes : List ℕ) → Appends old new bytes
    → IfSome (written_between old new) (λ w. w ≡ bytes)
appended None new bytes h = tt
appended (Some xs) None bytes h = absurd h
appended (Some xs) (Some ys) bytes h = drop-appended xs ys bytes h

ran_remembered : (ends : Ends) (tally : Tally) → (plan : RanPlan ends tally)
    → IsRemembered (account_of ends (Ok tally)) plan.leads.stream ends.before ends.after
ran_remembered ends tally plan =
    let ran = plan.ran in
    let leads = plan.leads in
    record {
      done = ran.items;
      hand = None;
      replies = ran.replies;
      acknowledged = (
        refl,
        ran.read,
        appended ends.written_before ends.written_after (prints ran.replies) ran.written,
        ran.tally_is,
      );
      between = ends.after;
      answers = ran.answers;
      leaves = inl refl;
      items = ran.items;
      are_answered = inl refl;
      asked = leads.asked;
      leads = record { answers = leads.answers; well_formed = leads.well_formed; run = leads.run };
    }

crashed_remembered : (ends : Ends) (fault : RunFault) (c' : Content) → (plan : CrashedPlan ends fault c')
    → IsRemembered (account_of ends (Err fault)) plan.leads.stream ends.before c'
crashed_remembered ends fault c' plan =
    let stopped = plan.crashed.stopped in
    let leads = plan.leads in
    record {
      done = stopped.done;
      hand = stopped.hand;
      replies = stopped.replies;
      acknowledged = (
        stopped.read,
        if_some (written_between ends.written_before ends.written_after) _ _ (λ bytes is. (stopped.tail, is))
            (appended ends.written_before ends.written_after (prints stopped.replies ++ stopped.tail) stopped.written),
        stopped.tally_is,
      );
      between = stopped.between;
      answers = stopped.answers;
      leaves = plan.crashed.leaves;
      items = plan.items;
      are_answered = plan.are_answered;
      asked = leads.asked;
      leads = record { answers = leads.answers; well_formed = leads.well_formed; run = leads.run };
    }

-- whatever a run may leave in its files, it is remembered in it
pub remembered : (ends : Ends) (outcome : Result Tally RunFault) → IfOk outcome (RanPlan ends) → (c' : Content)
    → Leaves ends outcome c' → (stream : List Statement) × IsRemembered (account_of ends outcome) stream ends.before c'
remembered ends (Ok tally) ran c' is = (
  ran.leads.stream,
  subst (IsRemembered (account_of ends (Ok tally)) ran.leads.stream ends.before) (sym is) (ran_remembered ends tally ran),
)
remembered ends (Err fault) ran c' crashed = (crashed.leads.stream, crashed_remembered ends fault c' crashed)

-- the statements of the runs lead on, each from where the ones before it ended
pub are_runs : (links : List Link) (streams : List (List Statement)) (c c' : Content) → AreRemembered links streams c c'
    → AreRuns streams c c'
are_runs [] [] c c' is = is
are_runs [] (stream ∷ streams) c c' h = absurd h
are_runs (Run run ∷ links) [] c c' h = absurd h
are_runs (Run run ∷ links) (stream ∷ streams) c c' (between, one, more) =
    (between, one.leads, are_runs links streams between c' more)
are_runs (Refusal ∷ links) streams c c' h = are_runs links streams c c' h
