-- Why a database is not opened, asked by what is there or by what is told.
use Rattle.std.proofs.Common.{inl, inr, subst, sym}
use Rattle.sqlite.specs.State.{State}
use Rattle.plan_tables_loading.specs.Reading.{HasPlan}
use Rattle.plan_tables_opening.specs.Opened.{HasRoom, IsUnmade}
use Rattle.plan_tables_opening.specs.Opening.{IsUnopened}
use Rattle.plan_tables_opening.specs.declared.faults.OpenFault.{OpenFault}
use Rattle.plan_tables_opening.proofs.KeptLemmas.{kept_if_untouched}
use Rattle.plan_tables_opening.proofs.StandingLemmas.{free_has_none}

-- what has room for the tables of a plan has them not
pub room_has_none : (s : State) → HasRoom s → HasPlan s → ⊥
unfolding HasPlan
room_has_none s room plan = free_has_none s.now.schema room plan

-- it has room for them
pub unmade_when : (old new : State) (fault : OpenFault) → IsUnopened old new fault → HasRoom old
    → IsUnmade old new fault
unmade_when old new fault (inl (is, same)) room =
    subst (IsUnmade old new) (sym is) (kept_if_untouched old new same)
unmade_when old new fault (inr (inl (plan, h))) room = absurd (room_has_none old room plan)
unmade_when old new fault (inr (inr (inl (none, h)))) room = h
unmade_when old new fault (inr (inr (inr (others, h)))) room = absurd (others.1 room)
