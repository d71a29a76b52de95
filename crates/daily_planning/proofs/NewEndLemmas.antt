-- Places of work days from a day on, and days after them.
use Rattle.std.proofs.Common.{◌≡◌, ◌↔◌, ◌<◌, ℕ, Bool, List, Option, None, Some, arith, sym, subst, true≢false}
use Rattle.std.specs.Prelude.{IfNone, IsSome}
use Rattle.work_calendars.specs.Day.{IsDay, last_day}
use Rattle.work_calendars.specs.WorkIndex.{is_work_in}
use Rattle.app_definitions.specs.declared.definitions.Definitions.{Definitions}
use Rattle.planner_machine.specs.NewEnd.{IsNewDay, IsNthFrom, default_work}
use Rattle.planner_machine.specs.declared.counts.Count.TheVariants.{WorkDays}
use Rattle.planner_machine.proofs.NewEndLemmas.{one_nth}

pub none_of : {P Q : Type 0} (o : Option ℕ) → IsSome o ↔ Q → ((Q → ⊥) → P) → IfNone o P
none_of None is f = f (λ q. true≢false (sym (is.1 q)))
none_of (Some x) is f = tt

nth_from-same : (work other : ℕ → Bool) → ((x : ℕ) → work x ≡ other x) → (d n x : ℕ) → IsNthFrom work d n x
    → IsNthFrom other d n x
nth_from-same work other same d n x = subst (λ w. IsNthFrom w d n x) (λ i y. same y i)

-- where the n-th work day from a day on is the last day of all, they give no new day
pub no_day_after : (all : Definitions) (from n day : ℕ) (index : List Bool)
    → ((x : ℕ) → is_work_in index x ≡ default_work all x)
    → IsNthFrom (is_work_in index) from n day → (day < last_day → ⊥) → (x : ℕ) → IsDay x
    → IsNewDay all from n WorkDays x → ⊥
no_day_after all from n day index same nth past x in_range (u, nth_u, is) =
    let there : u ≡ day = one_nth (default_work all) from n u day nth_u
    (nth_from-same (is_work_in index) (default_work all) same from n day nth) in
    past (omega (arith, is, there, in_range.1))
