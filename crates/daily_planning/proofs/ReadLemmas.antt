-- What the window on a key shows of its live row in the current plan.
use Rattle.std.proofs.Common.{◌≡◌, true, Some}
use Rattle.occurrences.specs.declared.place.CurrentRow.{CurrentRow}
use Rattle.occurrences.specs.declared.place.Place.TheVariants.{Current}
use Rattle.occurrences.specs.declared.row.Row.{Row}
use Rattle.planner_machine.specs.Content.{Sets}
use Rattle.planner_machine.specs.Sound.{IsSound}
use Rattle.plan_store.specs.HistoryReads.{ReadsKey}
use Rattle.plan_store.specs.Views.{Hidden, Sees, needs_pairs, with_hidden}
use Rattle.plan_store.specs.declared.views.View.{View}
use Rattle.plan_store.proofs.PlaceLemmas.{stands_cp}
use Rattle.plan_store_pairs.specs.Gathering.{ShowsList}
use Rattle.plan_store_pairs.proofs.ReadLemmas.{live_not_past, shows_list}
use Rattle.plan_store_pairs.proofs.PartLemmas.{asked_current}
use Rattle.daily_planning.specs.Actions.{IsLiveCurrent}

-- its pairs are asked for
pub live_asked : (s : Sets) (row : Row) → IsLiveCurrent s row
    → needs_pairs (Some row.key) s.ltp s.cp s.history row.serial ≡ true
live_asked s row (status, stands, live) = asked_current s row status stands live

-- of history what may precede it in each application of its list
pub live_shows : (h : Hidden) (view : View) (row : Row) → IsSound (with_hidden h view)
    → Sees (Some row.key) (ReadsKey (with_hidden h view) row.key) h view → IsLiveCurrent (with_hidden h view).sets row
    → ShowsList (with_hidden h view) view row
live_shows h view row sound sees (status, stands, live) =
    let c = with_hidden h view in
    let current : CurrentRow = record { row = row; status = status } in
    let past = live_not_past c sound (record { row = row; place = Current status })
    (stands_cp c.sets sound.serials row.serial current stands) live (λ is. cc) in
    shows_list h view row sees past
