-- A change of status.
use Rattle.std.proofs.Common.{◌≡◌, ◌≢◌, Bool, true, false, List, refl, subst}
use Rattle.std.specs.Prelude.{Ok, if◌then◌else◌}
use Rattle.occurrences.specs.Place.{IsLive, IsOpen}
use Rattle.occurrences.specs.declared.key.Key.{Key}
use Rattle.occurrences.specs.declared.place.Place.{Place}
use Rattle.occurrences.specs.declared.place.Place.TheVariants.{LongTerm, Current, History, Deleted}
use Rattle.occurrences.specs.declared.row.Row.{Row}
use Rattle.occurrences.specs.declared.status.Action.{Action}
use Rattle.occurrences.specs.declared.status.Action.TheVariants.{Start, Complete, Fail, Reset, Delete}
use Rattle.occurrences.specs.declared.status.Status.{Status}
use Rattle.occurrences.specs.declared.status.Status.TheVariants.{W, S, E, C, D}
use Rattle.external_dependencies.specs.declared.links.Link.{Link}
use Rattle.external_dependencies.specs.declared.pairs.Pair.{Pair}
use Rattle.planner_machine.specs.Act.{acted_status, action_move, cp_action}
use Rattle.planner_machine.specs.Content.{Content, Sets}
use Rattle.planner_machine.specs.Decision.{Decides}
use Rattle.planner_machine.specs.Sound.{IsSound}
use Rattle.occurrences.specs.declared.reply.Reply.{Reply}
use Rattle.planner_machine.proofs.PairLemmas.{pairs_are_one}
use Rattle.planner_machine.proofs.SoundLemmas.{rows_sound}
use Rattle.planner_machine.specs.Fate.{place_after_action}
use Rattle.planner_machine.specs.Moves.{each, has_key}
use Rattle.planner_machine.specs.Pairs.{ArePairs}
use Rattle.planner_machine.proofs.ActionLemmas.{action_is_move, action_live}
use Rattle.planner_machine.specs.RowsSound.{RowsSound}
use Rattle.daily_planning.specs.Statuses.{LeavesPairs}
use Rattle.daily_planning.proofs.PairLemmas.{pairs_stay}

stays_live : (action : Action) → LeavesPairs action → (status : Status) → status ≢ D → acted_status action status ≢ D
stays_live Start keeps W live = λ e. cc
stays_live Start keeps S live = live
stays_live Start keeps E live = live
stays_live Start keeps C live = live
stays_live Start keeps D live = live
stays_live Complete keeps W live = live
stays_live Complete keeps S live = λ e. cc
stays_live Complete keeps E live = λ e. cc
stays_live Complete keeps C live = live
stays_live Complete keeps D live = live
stays_live Fail keeps W live = live
stays_live Fail keeps S live = λ e. cc
stays_live Fail keeps E live = live
stays_live Fail keeps C live = live
stays_live Fail keeps D live = live
stays_live Reset keeps status live = absurd keeps
stays_live Delete keeps status live = absurd keeps

was_waiting : (action : Action) → LeavesPairs action → (status : Status) → acted_status action status ≡ W → status ≡ W
was_waiting Start keeps W is = refl
was_waiting Start keeps S is = is
was_waiting Start keeps E is = is
was_waiting Start keeps C is = is
was_waiting Start keeps D is = is
was_waiting Complete keeps W is = is
was_waiting Complete keeps S is = cc
was_waiting Complete keeps E is = cc
was_waiting Complete keeps C is = is
was_waiting Complete keeps D is = is
was_waiting Fail keeps W is = is
was_waiting Fail keeps S is = cc
was_waiting Fail keeps E is = is
was_waiting Fail keeps C is = is
was_waiting Fail keeps D is = is
was_waiting Reset keeps status is = absurd keeps
was_waiting Delete keeps status is = absurd keeps

module _ (key : Key) (action : Action) (keeps : LeavesPairs action) where
  live_by : (b : Bool) (status : Status) → status ≢ D → (if b then acted_status action status else status) ≢ D
  live_by true status live = stays_live action keeps status live
  live_by false status live = live

  live_after : (row : Row) (was : Place) → IsLive was → IsLive (place_after_action key action row was)
  live_after row LongTerm live = live
  live_after row (Current status) live = live_by (has_key key row) status live
  live_after row History live = live
  live_after row (Deleted reason) live = live

  waited_by : (b : Bool) (status : Status) → (if b then acted_status action status else status) ≡ W → status ≡ W
  waited_by true status is = was_waiting action keeps status is
  waited_by false status is = is

  waited_before : (row : Row) (was : Place) → IsOpen (place_after_action key action row was) → IsOpen was
  waited_before row LongTerm o = o
  waited_before row (Current status) o = waited_by (has_key key row) status o
  waited_before row History o = o
  waited_before row (Deleted reason) o = o

  -- a start, a completion and a failure change no pair
  pub action_pairs : (s : Sets) → RowsSound s → (links : List Link) (pairs : List Pair)
      → ArePairs pairs links s pairs → ArePairs pairs links (each (action_move key action) s) pairs
  action_pairs s sound = pairs_stay (action_move key action) (place_after_action key action)
      (action_is_move key action) (action_live key action) live_after waited_before s sound s.bounds

pub leave_pairs : (key : Key) (action : Action) → LeavesPairs action → (c : Content) (reply : Reply) (c' : Content)
    → IsSound c → Decides (cp_action key action) c (Ok reply) c' → c'.pairs ≡ c.pairs
leave_pairs key action leaves c reply c' sound decides =
    let d = decides.1 in
    let here : ArePairs c.pairs c'.in_force (each (action_move key action) c.sets) c'.pairs = subst
    (λ s. ArePairs c.pairs c'.in_force s c'.pairs) d.rows.becomes d.pairs in
    let there : ArePairs c.pairs c.in_force (each (action_move key action) c.sets) c'.pairs = subst
    (λ l. ArePairs c.pairs l (each (action_move key action) c.sets) c'.pairs) d.lists here in
    pairs_are_one c.pairs c.in_force (each (action_move key action) c.sets) c'.pairs c.pairs there
    (action_pairs key action leaves c.sets (rows_sound c sound) c.in_force c.pairs sound.pairs.settled)
