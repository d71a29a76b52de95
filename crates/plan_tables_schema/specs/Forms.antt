-- Each table of the plan, described once.
use Rattle.std.specs.Prelude.{ℕ, List, [], ◌∷◌, codes}
use Rattle.sqlite.specs.Kind.TheVariants.{Integer, Text, Blob}
use Rattle.plan_tables_schema.specs.declared.tables.Table.{Table}
use Rattle.plan_tables_schema.specs.declared.tables.Table.TheVariants.{Meta, CalendarEntry, Period, Application, RunCycle}
use Rattle.plan_tables_schema.specs.declared.tables.Table.TheVariants.{Offset, Predecessor, LinkInForce, LongTerm, Current}
use Rattle.plan_tables_schema.specs.declared.tables.Table.TheVariants.{History, Deletion, Dependency, Job}
use Rattle.plan_tables_schema.specs.Form.{Col, Form, Key, may_have, needs}
use Rattle.plan_tables_schema.specs.Form.Key.{Rowid, OneRow, RowidAndPair, Front, FrontOf}

abbrev pub described : List ℕ → Key → ℕ → List Col → Form
described name key gone_by columns = record { name = name; columns = columns; key = key; gone_by = gone_by }

abbrev pub form : Table → Form
form Meta = described (codes "plan_meta") OneRow 1 (needs (codes "id") Integer ∷ needs (codes "version") Integer
    ∷ needs (codes "created") Integer ∷ needs (codes "first_day") Integer ∷ needs (codes "last_day") Integer
    ∷ needs (codes "plan_end") Integer ∷ needs (codes "issued") Integer ∷ needs (codes "default_calendar") Text
    ∷ needs (codes "max_hours") Integer ∷ [])
form CalendarEntry = described (codes "calendar_entry") (Front 3) 1 (needs (codes "calendar") Text
    ∷ needs (codes "kind") Integer ∷ needs (codes "day") Integer ∷ needs (codes "work") Integer ∷ [])
form Period = described (codes "plan_period") (Front 2) 1 (needs (codes "name") Text ∷ needs (codes "seq") Integer
    ∷ needs (codes "type") Text ∷ needs (codes "origin") Integer ∷ may_have (codes "second") Integer ∷ [])
form Application = described (codes "application") (Front 1) 1 (needs (codes "name") Text
    ∷ needs (codes "active") Integer ∷ may_have (codes "calendar") Text ∷ [])
form RunCycle = described (codes "run_cycle") (Front 2) 1 (needs (codes "app") Text ∷ needs (codes "name") Text
    ∷ needs (codes "type") Text ∷ needs (codes "period") Text ∷ needs (codes "rule") Text
    ∷ needs (codes "in_effect") Integer ∷ may_have (codes "out_effect") Integer ∷ needs (codes "ia") Integer
    ∷ may_have (codes "deadline_day") Integer ∷ may_have (codes "deadline_time") Integer ∷ [])
form Offset = described (codes "run_cycle_offset") (FrontOf 3 2 (codes "run_cycle")) 1 (needs (codes "app") Text
    ∷ needs (codes "name") Text ∷ needs (codes "seq") Integer ∷ needs (codes "k") Integer ∷ [])
form Predecessor = described (codes "predecessor") (Front 2) 1 (needs (codes "app") Text ∷ needs (codes "pred") Text
    ∷ may_have (codes "within") Integer ∷ [])
form LinkInForce = described (codes "link_in_force") (Front 2) 2 (needs (codes "app") Text ∷ needs (codes "pred") Text
    ∷ may_have (codes "within") Integer ∷ [])
form LongTerm = described (codes "ltp_row") RowidAndPair 1 (needs (codes "serial") Integer ∷ needs (codes "app") Text
    ∷ needs (codes "ia") Integer ∷ needs (codes "deadline") Integer ∷ may_have (codes "run_cycle") Text ∷ [])
form Current = described (codes "cp_row") Rowid 1 (needs (codes "serial") Integer ∷ needs (codes "app") Text
    ∷ needs (codes "ia") Integer ∷ needs (codes "deadline") Integer ∷ may_have (codes "run_cycle") Text
    ∷ needs (codes "status") Text ∷ [])
form History = described (codes "history_row") RowidAndPair 1 (needs (codes "serial") Integer ∷ needs (codes "app") Text
    ∷ needs (codes "ia") Integer ∷ needs (codes "deadline") Integer ∷ may_have (codes "run_cycle") Text ∷ [])
form Deletion = described (codes "deletion_row") Rowid 1 (needs (codes "serial") Integer ∷ needs (codes "app") Text
    ∷ needs (codes "ia") Integer ∷ needs (codes "deadline") Integer ∷ may_have (codes "run_cycle") Text
    ∷ needs (codes "reason") Text ∷ [])
form Dependency = described (codes "dependency") (Front 2) 2 (needs (codes "successor") Integer
    ∷ needs (codes "predecessor") Integer ∷ [])
form Job = described (codes "job") Rowid 1 (needs (codes "number") Integer ∷ needs (codes "body") Blob
    ∷ needs (codes "reply") Text ∷ [])
