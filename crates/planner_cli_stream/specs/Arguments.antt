-- The values of a line's options, and of its word without one.
use Rattle.std.specs.Prelude.{◌≡◌, List, is_some, codes}
use Rattle.planner_cli_stream.specs.Grammar.{Use, value_in}
use Rattle.planner_cli_stream.specs.Values.{HasApp, HasCount, HasDay, HasDays, HasFunction, HasJob, HasKind, HasMoment, HasName}
use Rattle.planner_cli_stream.specs.Values.{HasWhat, Reading}
use Rattle.planner_cli_stream.specs.declared.arguments.Arguments.{Arguments}

-- these are the values that have the forms of their options
pub record HasArguments (us : List Use) (a : Arguments) : Type 0 where
  pub job : Reading (HasJob us) a.job
  pub app : Reading (HasApp us) a.app
  pub from : Reading (HasDay us (codes "from")) a.from
  pub to : Reading (HasDay us (codes "to")) a.to
  pub to_moment : Reading (HasMoment us (codes "to")) a.to_moment
  pub ia : Reading (HasMoment us (codes "ia")) a.ia
  pub days : Reading (HasDays us) a.days
  pub count : Reading (HasCount us) a.count
  pub name : Reading (HasName us) a.name
  pub kind : Reading (HasKind us) a.kind
  pub function : Reading (HasFunction us) a.function
  pub what : Reading (HasWhat us) a.what
  pub has_app : a.has_app ≡ is_some (value_in us (codes "app"))
  pub has_from : a.has_from ≡ is_some (value_in us (codes "from"))
  pub has_to : a.has_to ≡ is_some (value_in us (codes "to"))
  pub has_days : a.has_days ≡ is_some (value_in us (codes "days"))
  pub has_count : a.has_count ≡ is_some (value_in us (codes "count"))
