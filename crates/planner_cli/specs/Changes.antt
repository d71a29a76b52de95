-- The change of the planner's machine that a statement requests.
use Rattle.occurrences.specs.declared.key.Key.{Key}
use Rattle.planner_machine.specs.Statement.{Act, Add, AddCurrent, Change, Create, DailyExtend, DailyExtendBy, Delete}
use Rattle.planner_machine.specs.Statement.{Extend, ModifyAll, ModifyOne, Replan, Undefine}
use Rattle.planner_cli_stream.specs.declared.statements.ChangeStatement.{ChangeStatement}
use Rattle.planner_cli_stream.specs.declared.statements.ChangeStatement.TheVariants as change
use Rattle.planner_cli_stream.specs.declared.statements.DailyFunction.{DailyFunction}
use Rattle.planner_cli_stream.specs.declared.statements.DailyFunction.TheVariants as daily
use Rattle.planner_cli_stream.specs.declared.statements.KeyAct.{KeyAct}
use Rattle.planner_cli_stream.specs.declared.statements.KeyAct.TheVariants as act
use Rattle.planner_cli_stream.specs.declared.statements.PlanFunction.{PlanFunction}
use Rattle.planner_cli_stream.specs.declared.statements.PlanFunction.TheVariants as plan
use Rattle.planner_cli.specs.Kinds.{count_of, definitions_kind}

abbrev pub plan_change : PlanFunction → Change
plan_change (plan.Create from to) = Create from to
plan_change (plan.Extend to) = Extend to
plan_change plan.ModifyAll = ModifyAll
plan_change (plan.ModifyOne app) = ModifyOne app

abbrev pub daily_change : DailyFunction → Change
daily_change (daily.Extend to) = DailyExtend to
daily_change (daily.ExtendBy days count) = DailyExtendBy days (count_of count)
daily_change daily.Replan = Replan

abbrev pub key_change : Key → KeyAct → Change
key_change key act.Add = Add key
key_change key act.Delete = Delete key
key_change key act.AddCurrent = AddCurrent key
key_change key (act.Act action) = Act action key

abbrev pub change_of : ChangeStatement → Change
change_of (change.Undefine kind name) = Undefine (definitions_kind kind) name
change_of (change.Plan function) = plan_change function
change_of (change.Daily function) = daily_change function
change_of (change.OnKey key act) = key_change key act
