-- Runs over one file are runs of streams.
use Rattle.std.proofs.Common.{◌≡◌, ℕ, zero, suc, List, [], ◌∷◌, subst, sym, inl, inr}
use Rattle.std.specs.Prelude.{IfOk, Option, Some, Result, Ok, Err}
use Rattle.planner_machine.specs.Content.{Content, nothing_known}
use Rattle.planner_machine.specs.Statement.{Statement}
use Rattle.planner_cli_stream.specs.Items.{Item}
use Rattle.planner_cli.specs.Faults.{fault_line}
use Rattle.planner_cli.specs.Plans.{CrashedPlan, LeadsTo, RanPlan}
use Rattle.planner_cli.specs.Reruns.{AreEarlierRuns, IsEarlierRun, RerunAfterRuns}
use Rattle.planner_cli.specs.Runs.{Crashed, Ends, Ran, ends_of}
use Rattle.planner_cli.specs.Steps.{Step}
use Rattle.planner_cli.specs.declared.faults.RunFault.{RunFault}
use Rattle.planner_cli.specs.declared.tally.Tally.{Tally}
use Rattle.plan_files.specs.FileRuns.{AreFileRuns, AreRunsOf, FilesLive, FilesRerun, IsRunFrom, Leaves}
use Rattle.plan_files.specs.Life.{AreRuns, Leads, LifeLeads}

leads_of : (items : List Item) (c c' : Content) → LeadsTo items c c' → (stream : List Statement) × Leads stream c c'
leads_of items c c' l = (l.stream, record { answers = l.answers; well_formed = l.well_formed; run = l.run })

pub led_by : (ends : Ends) (outcome : Result Tally RunFault) → IfOk outcome (RanPlan ends) → (c' : Content)
    → Leaves ends outcome c' → (stream : List Statement) × Leads stream ends.before c'
led_by ends (Ok tally) ran c' is =
    subst (λ (x : Content). (stream : List Statement) × Leads stream ends.before x) (sym is)
    (leads_of ran.ran.items ends.before ends.after ran.leads)
led_by ends (Err fault) ran c' crashed = leads_of crashed.items ends.before c' crashed.leads

run_leads : (c c' : Content) → IsRunFrom c c' → (stream : List Statement) × Leads stream c c'
run_leads c c' r =
    subst (λ (x : Content). (stream : List Statement) × Leads stream x c') r.begins
    (led_by r.ends r.outcome r.ran c' r.leaves)

all_runs : (n : ℕ) (c c' : Content) → AreFileRuns n c c' → (streams : List (List Statement)) × AreRuns streams c c'
all_runs zero c c' is = ([], is)
all_runs (suc n) c c' (between, one, more) =
    let first = run_leads c between one in
    let rest = all_runs n between c' more in
    (first.0 ∷ rest.0, (between, first.1, rest.1))

pub files_live : LifeLeads → FilesLive
files_live law n c runs =
    let all = all_runs n nothing_known c runs in
    (all.0, all.1, law all.0 c all.1)

-- the ends of a run, by what it began with and what it had to read
pub ends_so : (ends : Ends) (c : Content) (text : List ℕ) → ends.before ≡ c → ends.remaining ≡ Some text
    → ends ≡ ends_of c ends.after ends.written_before ends.written_after (Some text)
ends_so ends c text begins reads = λ i. record {
  before = begins i;
  after = ends.after;
  written_before = ends.written_before;
  written_after = ends.written_after;
  remaining = reads i;
}

earlier_by : (ends : Ends) (outcome : Result Tally RunFault) (c b : Content) (text : List ℕ) → ends.before ≡ c
    → ends.remaining ≡ Some text → IfOk outcome (RanPlan ends) → Leaves ends outcome b → IsEarlierRun text c b
earlier_by ends (Ok tally) c b text begins reads ran is = (
  ends.after,
  ends.written_before,
  ends.written_after,
  inl (tally, subst (λ e. Ran Step e tally) (ends_so ends c text begins reads) ran.ran, is),
)
earlier_by ends (Err fault) c b text begins reads ran left = (
  ends.after,
  ends.written_before,
  ends.written_after,
  inr (fault, inr (subst (λ e. Crashed Step fault_line e fault b) (ends_so ends c text begins reads) left.crashed)),
)

earlier : (n : ℕ) (text : List ℕ) (c left : Content) → AreRunsOf n text c left → AreEarlierRuns n text c left
earlier zero text c left is = is
earlier (suc n) text c left (between, (run, reads), more) = (
  between,
  earlier_by run.ends run.outcome c between text run.begins reads run.ran run.leaves,
  earlier n text between left more,
)

pub files_rerun : RerunAfterRuns → FilesRerun
files_rerun law n text c left c' written written' tally sound runs again =
    law n text c left c' written written' tally sound (earlier n text c left runs) again
