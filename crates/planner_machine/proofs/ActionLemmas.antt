-- A change of the status of a key.
use Rattle.std.proofs.Common.{◌≡◌, ℕ, true, false, refl, sym, ap, subst, ◌∙◌, inl, inr, [], Option, None, Some}
use Rattle.std.specs.Prelude.{if◌then◌else◌, Bool}
use Rattle.occurrences.specs.Place.{IsLive}
use Rattle.occurrences.specs.Status.{changed_status}
use Rattle.occurrences.specs.declared.key.Key.{Key}
use Rattle.occurrences.specs.declared.place.Place.{Place}
use Rattle.occurrences.specs.declared.place.Place.TheVariants.{LongTerm, Current, History, Deleted}
use Rattle.occurrences.specs.declared.reply.Reply.TheVariants.{Changed}
use Rattle.occurrences.specs.declared.row.Row.{Row}
use Rattle.occurrences.specs.declared.status.Action.{Action}
use Rattle.occurrences.specs.declared.status.Action.TheVariants.{Start, Complete, Fail, Reset, Delete}
use Rattle.occurrences.specs.declared.status.Status.{Status}
use Rattle.occurrences.specs.declared.status.Status.TheVariants.{D}
use Rattle.app_definitions.specs.declared.definitions.Definitions.{Definitions}
use Rattle.occurrences.specs.declared.place.CurrentRow.{CurrentRow}
use Rattle.occurrences.specs.declared.reply.Reply.{Reply}
use Rattle.planner_machine.specs.declared.content.Bounds.{Bounds}
use Rattle.planner_machine.specs.Act.{Acts, IsCurrent, acted, acted_status, action_move}
use Rattle.planner_machine.specs.Content.{Seat, Sets, IsOnlyAt, alone}
use Rattle.planner_machine.specs.Fate.{ActionFate, place_after_action}
use Rattle.planner_machine.specs.Laws.{Follows}
use Rattle.planner_machine.specs.Moves.{each, has_key}
use Rattle.planner_machine.specs.RowsSound.{IsPlacedIn, RowsSound}
use Rattle.planner_machine.proofs.SeatLemmas.{IsMove, cases_issued, going, move_follows, move_sound}

action_alone : (key : Key) (action : Action) (row : Row) (was : Place)
    → action_move key action (alone row was) ≡ alone row (place_after_action key action row was)
action_alone key action row LongTerm = refl
action_alone key action row (Current status) = refl
action_alone key action row History = refl
action_alone key action row (Deleted reason) = refl

pub action_is_move : (key : Key) (action : Action)
    → IsMove (action_move key action) (going (place_after_action key action))
action_is_move key action =
    record { empty = refl; alone = λ p. action_alone key action p.row p.place; serial = λ p. refl; key = λ p. refl }

stays_deleted : (action : Action) → acted_status action D ≡ D
stays_deleted Start = refl
stays_deleted Complete = refl
stays_deleted Fail = refl
stays_deleted Reset = refl
stays_deleted Delete = refl

deleted_acted : (action : Action) (b : Bool) → (if b then acted_status action D else D) ≡ D
deleted_acted action true = stays_deleted action
deleted_acted action false = refl

pub action_live : (key : Key) (action : Action) (row : Row) (was : Place)
    → IsLive (place_after_action key action row was) → IsLive was
action_live key action row (Current status) live =
    λ is. live (ap (acted key action row) is ∙ deleted_acted action (has_key key row))
action_live key action row LongTerm live = live
action_live key action row History live = live
action_live key action row (Deleted reason) live = live

action_arrives : (key : Key) (action : Action) (o : Option Bounds) (row : Row) (was : Place)
    → IsPlacedIn o (record { row = row; place = was })
    → IsPlacedIn o (going (place_after_action key action) (record { row = row; place = was }))
action_arrives key action None row was arrives = arrives
action_arrives key action (Some b) row LongTerm arrives = arrives
action_arrives key action (Some b) row (Current status) arrives = arrives
action_arrives key action (Some b) row History arrives = arrives
action_arrives key action (Some b) row (Deleted reason) arrives = arrives

-- a row of the current plan stands there alone
cp_place : (row : Row) (place : Place) (current : CurrentRow) → (alone row place).cp ≡ Some current
    → alone row place ≡ alone current.row (Current current.status)
cp_place row LongTerm current is = cc
cp_place row (Current status) current is = let P : CurrentRow → Type 0 =
    λ x. alone row (Current status) ≡ alone x.row (Current x.status) in
    let same : record { row = row; status = status } ≡ current = cc in subst P same refl
cp_place row History current is = cc
cp_place row (Deleted reason) current is = cc

pub stands_in_cp : (c : Sets) → RowsSound c → (serial : ℕ) (current : CurrentRow) → c.cp serial ≡ Some current
    → IsOnlyAt c serial (record { row = current.row; place = Current current.status })
stands_in_cp c sound serial current is = elim (cases_issued c.issued serial) [
  | inl within ↦
      let (p, there) = sound.placed serial within.0 within.1 in
      there ∙ cp_place p.row p.place current (ap (λ (s : Seat). s.cp) (sym there) ∙ is)
  | inr past ↦ let none = ap (λ (s : Seat). s.cp) (sound.unissued serial past) in absurd cc
]

module _ (key : Key) (action : Action) (c : Sets) (sound : RowsSound c) where
  pub one_current : (m n : ℕ) (s s' : Status) → IsCurrent c key m s → IsCurrent c key n s' → (m ≡ n) × (s ≡ s')
  one_current m n s s' a b = (same, status)
    where
      same : m ≡ n
      same = sound.keys m n (record { row = a.row; place = Current s }) (record {
        row = b.row;
        place = Current s';
      }) (stands_in_cp c sound m _ a.stands) (stands_in_cp c sound n _ b.stands) a.live b.live
          (a.keyed ∙ sym b.keyed)

      status : s ≡ s'
      status = let at = a.stands in let at' = b.stands in
          let x : CurrentRow = record { row = a.row; status = s } in let y : CurrentRow =
          record { row = b.row; status = s' } in
          let whole : Some x ≡ Some y = sym at ∙ ap c.cp same ∙ at' in let one : x ≡ y = cc in
          ap (λ (z : CurrentRow). z.status) one

pub action_does_one : (key : Key) (action : Action) (all : Definitions) (c : Sets) (reply reply' : Reply)
    (c' c'' : Sets) → RowsSound c → Acts key action all c reply c' → Acts key action all c reply' c''
    → (reply ≡ reply') × (c' ≡ c'')
action_does_one key action all c reply reply' c' c'' sound a b =
    let same = one_current key action c sound a.serial b.serial a.status b.status a.there b.there in
    let from = a.allowed in let to = b.allowed in
    let serials = same.0 in let statuses = same.1 in
    let allowed : Some a.new_status ≡ Some b.new_status = sym from ∙ ap (λ s. changed_status s action) statuses ∙ to in
    let status : a.new_status ≡ b.new_status = cc in (
      a.replies ∙ ap (λ n. Changed n a.new_status) serials ∙ ap (Changed b.serial) status ∙ sym b.replies,
      a.becomes
          ∙ sym b.becomes,
    )

pub action_sound : (key : Key) (action : Action) (c : Sets) → RowsSound c → RowsSound (each (action_move key action) c)
action_sound key action c sound =
    move_sound (action_move key action) (going (place_after_action key action))
    (action_is_move key action) c sound c.bounds sound.bounds
    (λ p. action_arrives key action c.bounds p.row p.place) (λ p. action_live key action p.row p.place)

pub action_follows : (key : Key) (action : Action) (place : Place) (c : Sets) → RowsSound c
    → Follows place (ActionFate key action) [] c (each (action_move key action) c)
action_follows key action place c sound =
    move_follows (action_move key action) (going (place_after_action key action))
    (action_is_move key action) c sound c.bounds place
