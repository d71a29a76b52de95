-- What a daily plan changes.
use Rattle.std.specs.Prelude.{◌≡◌, ℕ, Bool, None, Option, Some, not}
use Rattle.occurrences.specs.declared.place.CurrentRow.{CurrentRow}
use Rattle.occurrences.specs.declared.reply.Reply.{Reply}
use Rattle.planner_machine.specs.declared.content.Bounds.{Bounds}
use Rattle.planner_machine.specs.declared.counts.Count.{Count}
use Rattle.planner_machine.specs.Content.{Content}
use Rattle.planner_machine.specs.DailyExtend.{ExtendsDaily}
use Rattle.planner_machine.specs.DailyPlan.{is_uncompleted}
use Rattle.planner_machine.specs.InForce.{PutsNone}
use Rattle.planner_machine.specs.NewEnd.{IsNewEnd}
use Rattle.planner_machine.specs.Plans.{ChangesPlans}
use Rattle.plan_store.specs.Changes.{Fits, LeadsOn, after}
use Rattle.plan_store.specs.declared.changes.Change.{Change}
use Rattle.plan_store.specs.declared.stores.Need.{Need}
use Rattle.plan_store.specs.declared.stores.Need.TheVariants.{Daily, Definitions}

-- what a daily plan to its end has to see, and the definitions alone where it has no end
abbrev pub daily_need : Option ℕ → Need
daily_need (Some t) = Daily t
daily_need None = Definitions

-- where the current plan ends, if anything is planned
abbrev pub plan_end_of : Option Bounds → Option ℕ
plan_end_of (Some b) = Some b.plan_end
plan_end_of None = None

-- the new plan end that so many days give; or that there is none, where nothing is planned or they give none
abbrev pub IsEndBy : Content → ℕ → Count → Option ℕ → Type 0
IsEndBy c n count (Some t) = (b : Bounds) × (c.sets.bounds ≡ Some b) × IsNewEnd c.definitions b.plan_end n count t
IsEndBy c n count None = (b : Bounds) → c.sets.bounds ≡ Some b → (t : ℕ)
    → ¬ (IsNewEnd c.definitions b.plan_end n count t)

-- a row that a daily plan removes from the current plan
abbrev pub is_finished : CurrentRow → Bool
is_finished current = not (is_uncompleted current.status)

-- the content admits the change, the change makes a daily plan to t of it, with its reply, and of the pairs it changes
-- only those that are others afterwards
abbrev pub DoesDaily : ℕ → Content → Change → Reply → Type 0
DoesDaily t c change reply =
    Fits change c × ChangesPlans (ExtendsDaily t) PutsNone c reply (after change c) × LeadsOn c.pairs change.pairs
