-- The values of each kind of fact are of the kinds of the columns, and are shown as they are stored.
use Rattle.std.proofs.Common.{◌≡◌, ℕ, pos, List, Option, Some, None, option_map, refl}
use Rattle.sqlite.specs.Kind.TheVariants.{Integer}
use Rattle.sqlite.specs.declared.types.Value.TheVariants.{Text}
use Rattle.sqlite.specs.Cast.{cast, as_text}
use Rattle.plan_tables_schema.specs.Rows.{AreOfKinds}
use Rattle.plan_tables_schema.specs.declared.tables.Table.TheVariants as table
use Rattle.plan_tables_content.specs.Facts.{current_key, current_values, deletion_key, deletion_values, link_key, link_values}
use Rattle.plan_tables_content.specs.Facts.{natural, or_null, pair_values, row_key, row_values}
use Rattle.plan_tables_definitions.proofs.StorableRows.{cast-Int, cast-Null}
use Rattle.app_definitions.specs.declared.options.Options.{Options}
use Rattle.planner_machine.specs.declared.content.Bounds.{Bounds}
use Rattle.planner_machine.specs.declared.job.Job.{Job}
use Rattle.plan_tables_content.specs.Content.{job_values, meta_values}
use Rattle.plan_tables_writing.specs.Accepted.{AreKeysOf}
use Rattle.plan_tables_writing.specs.Writing.{AreStorable, StandAlone}

cast-text : (o : Option (List ℕ)) → as_text (or_null (option_map Text o)) ≡ or_null (option_map Text o)
cast-text None = refl
cast-text (Some t) = refl

cast-hours : (o : Option ℕ) → cast Integer (or_null (option_map natural o)) ≡ or_null (option_map natural o)
cast-hours None = cast-Null
cast-hours (Some n) = cast-Int (pos n)

pub ltp_storable : AreStorable table.LongTerm row_values
ltp_storable row = simp (cast-Int, cast-Null, cast-text)

pub history_storable : AreStorable table.History row_values
history_storable row = simp (cast-Int, cast-Null, cast-text)

pub cp_storable : AreStorable table.Current current_values
cp_storable row = simp (cast-Int, cast-Null, cast-text)

pub deletions_storable : AreStorable table.Deletion deletion_values
deletions_storable row = simp (cast-Int, cast-Null, cast-text)

pub pairs_storable : AreStorable table.Dependency pair_values
pairs_storable pair = simp (cast-Int, cast-Null)

pub links_storable : AreStorable table.LinkInForce link_values
links_storable link = simp (cast-Null, cast-hours)

pub ltp_alone : StandAlone table.LongTerm
ltp_alone key all = tt

pub history_alone : StandAlone table.History
history_alone key all = tt

pub cp_alone : StandAlone table.Current
cp_alone key all = tt

pub deletions_alone : StandAlone table.Deletion
deletions_alone key all = tt

pub pairs_alone : StandAlone table.Dependency
pairs_alone key all = tt

pub links_alone : StandAlone table.LinkInForce
links_alone key all = tt

pub ltp_keys : AreKeysOf table.LongTerm row_key
ltp_keys row = (pos row.serial, refl)

pub history_keys : AreKeysOf table.History row_key
history_keys row = (pos row.serial, refl)

pub cp_keys : AreKeysOf table.Current current_key
cp_keys current = (pos current.row.serial, refl)

pub deletions_keys : AreKeysOf table.Deletion deletion_key
deletions_keys deletion = (pos deletion.row.serial, refl)

pub pairs_keys : AreKeysOf table.Dependency pair_values
pairs_keys pair = (pos pair.successor, pos pair.predecessor, refl)

pub links_keys : AreKeysOf table.LinkInForce link_key
links_keys link = (link.app, link.predecessor, refl)

pub calendars_alone : StandAlone table.CalendarEntry
calendars_alone key all = tt

pub periods_alone : StandAlone table.Period
periods_alone key all = tt

pub applications_alone : StandAlone table.Application
applications_alone key all = tt

pub predecessors_alone : StandAlone table.Predecessor
predecessors_alone key all = tt

pub job_storable : (job : Job) → AreOfKinds table.Job (job_values job)
job_storable job = simp (cast-Int, cast-Null)

pub meta_storable : (bounds : Option Bounds) (issued : ℕ) (options : Options)
    → AreOfKinds table.Meta (meta_values bounds issued options)
meta_storable None issued options = simp (cast-Int, cast-Null)
meta_storable (Some b) issued options = simp (cast-Int, cast-Null)

pub ruleset kinds = (
  ltp_storable,
  history_storable,
  cp_storable,
  deletions_storable,
  pairs_storable,
  links_storable,
  job_storable,
  meta_storable,
  ltp_alone,
  history_alone,
  cp_alone,
  deletions_alone,
  pairs_alone,
  links_alone,
  calendars_alone,
  periods_alone,
  applications_alone,
  predecessors_alone,
)
