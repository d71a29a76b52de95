-- A daily plan.
use Rattle.std.proofs.Common.{◌≡◌, ℕ, ◌+◌, ◌≤◌, true, false, refl, sym, ap, subst, arith, [], Option, Some}
use Rattle.std.specs.Prelude.{nat_lt, option_map, if◌then◌else◌, Bool}
use Rattle.std.proofs.lemmas.Bool.{ltb-true, ltb-false}
use Rattle.occurrences.specs.Place.{IsLive}
use Rattle.occurrences.specs.declared.place.Place.{Place}
use Rattle.occurrences.specs.declared.place.Place.TheVariants.{LongTerm, Current, History, Deleted}
use Rattle.occurrences.specs.declared.row.Row.{Row}
use Rattle.occurrences.specs.declared.status.Status.TheVariants.{W, S, E, C, D}
use Rattle.planner_machine.specs.declared.content.Bounds.{Bounds}
use Rattle.planner_machine.specs.Content.{Sets, alone, midnight}
use Rattle.planner_machine.specs.DailyPlan.{daily, daily_move}
use Rattle.planner_machine.specs.Fate.{DailyFate, place_after_daily_plan}
use Rattle.planner_machine.specs.Laws.{Follows}
use Rattle.planner_machine.specs.Sound.{AreBounds, ArrivesIn}
use Rattle.planner_machine.specs.RowsSound.{IsPlacedIn, RowsSound}
use Rattle.planner_machine.proofs.SeatLemmas.{IsMove, going, move_follows, move_sound}

long_term : (t : ℕ) (row : Row) (b : Bool) → nat_lt row.key.ia t ≡ b
    → daily_move t (alone row LongTerm) ≡ alone row (if b then Current W else LongTerm)
long_term t row true is = rw is refl
long_term t row false is = rw is refl

daily_alone : (t : ℕ) (row : Row) (was : Place)
    → daily_move t (alone row was) ≡ alone row (place_after_daily_plan t row was)
daily_alone t row LongTerm = long_term t row (nat_lt row.key.ia t) refl
daily_alone t row (Current W) = refl
daily_alone t row (Current S) = refl
daily_alone t row (Current E) = refl
daily_alone t row (Current C) = refl
daily_alone t row (Current D) = refl
daily_alone t row History = refl
daily_alone t row (Deleted reason) = refl

pub daily_is_move : (t : ℕ) → IsMove (daily_move t) (going (place_after_daily_plan t))
daily_is_move t = record { empty = refl; alone = λ p. daily_alone t p.row p.place; serial = λ p. refl; key = λ p. refl }

pub daily_live : (t : ℕ) (row : Row) (was : Place) → IsLive (place_after_daily_plan t row was) → IsLive was
daily_live t row LongTerm live = tt
daily_live t row (Current W) live = live
daily_live t row (Current S) live = live
daily_live t row (Current E) live = live
daily_live t row (Current C) live = λ same. cc
daily_live t row (Current D) live = absurd live
daily_live t row History live = tt
daily_live t row (Deleted reason) live = live

module _ (t : ℕ) (b : Bounds) (are : AreBounds b) (later : b.plan_end ≤ t) where
  abbrev b' : Bounds
  b' = record b { plan_end = t }

  covered : (row : Row) (v : Bool) → nat_lt row.key.ia t ≡ v → ArrivesIn b row.key.ia LongTerm
      → ArrivesIn b' row.key.ia (if v then Current W else LongTerm)
  covered row true is arrives = let before = ltb-true _ _ is in let begun = are.begun in
      (omega (arith, arrives.0), before)
  covered row false is arrives = (ltb-false _ _ is, arrives.1)

  daily_arrives : (row : Row) (was : Place) → ArrivesIn b row.key.ia was
      → ArrivesIn b' row.key.ia (place_after_daily_plan t row was)
  daily_arrives row LongTerm arrives = covered row (nat_lt row.key.ia t) refl arrives
  daily_arrives row (Current W) arrives = (arrives.0, omega (arith, arrives.1))
  daily_arrives row (Current S) arrives = (arrives.0, omega (arith, arrives.1))
  daily_arrives row (Current E) arrives = (arrives.0, omega (arith, arrives.1))
  daily_arrives row (Current C) arrives = (arrives.0, omega (arith, arrives.1))
  daily_arrives row (Current D) arrives = tt
  daily_arrives row History arrives = (arrives.0, omega (arith, arrives.1))
  daily_arrives row (Deleted reason) arrives = tt

pub daily_sound : (t : ℕ) (c : Sets) (b : Bounds) → RowsSound c → c.bounds ≡ Some b → b.plan_end ≤ t
    → t ≤ midnight (b.last_day + 1) → RowsSound (daily t c)
daily_sound t c b sound is later within =
    let are = sound.bounds b is in
    let changed : option_map (λ (x : Bounds). record x { plan_end = t }) c.bounds ≡ Some (record b { plan_end = t }) =
    ap (option_map (λ (x : Bounds). record x { plan_end = t })) is in
    let are' : AreBounds (record b { plan_end = t }) = let begun = are.begun in
    record { days = are.days; last = are.last; begun = omega arith; ended = within } in
    move_sound (daily_move t) (going (place_after_daily_plan t)) (daily_is_move t) c sound
    (option_map (λ (x : Bounds). record x { plan_end = t }) c.bounds)
    (λ x at. let same : record b { plan_end = t } ≡ x = cc in subst AreBounds same are')
    (λ p arrives. let P : Option Bounds → Type 0 = λ o. IsPlacedIn o p in let Q : Option Bounds
    → Type 0 = λ o. IsPlacedIn o (going (place_after_daily_plan t) p) in
    subst Q (sym changed) (daily_arrives t b are later p.row p.place (subst P is arrives)))
    (λ p. daily_live t p.row p.place)

pub daily_follows : (t : ℕ) (place : Place) (c : Sets) → RowsSound c → Follows place (DailyFate t) [] c (daily t c)
daily_follows t place c sound =
    move_follows (daily_move t) (going (place_after_daily_plan t)) (daily_is_move t) c sound _ place
