-- What a daily plan finds in its window.
use Rattle.std.proofs.Common.{◌≡◌, ◌<◌, ℕ, List, Contains, Option, None, Some, ap, subst}
use Rattle.std.proofs.lemmas.Bool.{lt-ltb}
use Rattle.occurrences.specs.declared.place.CurrentRow.{CurrentRow}
use Rattle.occurrences.specs.declared.row.Row.{Row}
use Rattle.plan_store_lists.specs.Rows.{of_current, of_row}
use Rattle.planner_machine.specs.Content.{Content}
use Rattle.planner_machine.specs.DailyPlan.{arrives_before, moved}
use Rattle.planner_machine.specs.declared.content.Bounds.{Bounds}
use Rattle.plan_store.specs.Views.{IsAny, ListsSet, Shows, shown}
use Rattle.plan_store.specs.declared.stores.Need.TheVariants.{Daily}
use Rattle.plan_store.specs.declared.views.View.{View}
use Rattle.plan_store.proofs.WindowLemmas.{is_kept, kept_is}
use Rattle.daily_planning.specs.DailyPlans.{daily_need, plan_end_of}

-- of the rows before a moment, those before it are the same
module _ (t : ℕ) (s : ℕ → Option Row) (rows : List Row)
    (lists : ListsSet of_row (λ serial. moved t (s serial)) (λ row. row.key.ia < t) rows) where
  on : (row : Row) → Contains rows row → (s row.serial ≡ Some row) × (row.key.ia < t)
  on row there =
      let both = (lists.exactly row).0 there in
      ((kept_is (arrives_before t) (s row.serial) row both.0).0, both.1)

  back : (row : Row) → s row.serial ≡ Some row → row.key.ia < t → Contains rows row
  back row at lt =
      (lists.exactly row).1 (is_kept (arrives_before t) (s row.serial) row at (lt-ltb row.key.ia t lt), lt)

  early_rows : ListsSet of_row s (λ row. row.key.ia < t) rows
  early_rows = record { rows = lists.rows; exactly = λ row. (on row, λ both. back row both.0 both.1) }

-- a window for a daily plan to t
module _ (t : ℕ) (view : View) (c : Content) (shows : Shows (Daily t) view c) where
  -- has the rows of the long-term plan that arrive before t
  pub daily_ltp : (rows : List Row) → ListsSet of_row (shown view).sets.ltp (λ row. row.key.ia < t) rows
      → ListsSet of_row c.sets.ltp (λ row. row.key.ia < t) rows
  daily_ltp rows lists = early_rows t c.sets.ltp rows
      (subst (λ (x : Content). ListsSet of_row x.sets.ltp (λ row. row.key.ia < t) rows) shows.is lists)

  -- and all rows of the current plan
  pub daily_cp : (rows : List CurrentRow) → ListsSet of_current (shown view).sets.cp IsAny rows
      → ListsSet of_current c.sets.cp IsAny rows
  daily_cp rows lists = subst (λ (x : Content). ListsSet of_current x.sets.cp IsAny rows) shows.is lists

module _ (view : View) (c : Content) where
  -- a window for a daily plan, or for none, shows how far the plans reach
  pub need_bounds : (end : Option ℕ) → Shows (daily_need end) view c → (shown view).sets.bounds ≡ c.sets.bounds
  need_bounds (Some t) shows = ap (λ (x : Content). x.sets.bounds) shows.is
  need_bounds None shows = ap (λ (x : Content). x.sets.bounds) shows.is

  -- and the definitions
  pub need_definitions : (end : Option ℕ) → Shows (daily_need end) view c
      → (shown view).definitions ≡ c.definitions
  need_definitions (Some t) shows = ap (λ (x : Content). x.definitions) shows.is
  need_definitions None shows = ap (λ (x : Content). x.definitions) shows.is

  -- that of `dp-replan` is one for a daily plan to the plan end, where there is a plan
  pub replan_shows : (b : Bounds) → c.sets.bounds ≡ Some b → Shows (daily_need (plan_end_of c.sets.bounds)) view c
      → Shows (Daily b.plan_end) view c
  replan_shows b is shows = subst (λ (o : Option Bounds). Shows (daily_need (plan_end_of o)) view c) is shows
