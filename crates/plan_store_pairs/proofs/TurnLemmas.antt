-- The live occurrences before and after a planning statement, and that the touch names all that it touches.
use Rattle.std.proofs.Common.{◌≡◌, ◌≢◌, ◌↔◌, ◌⊎◌, List, [], ◌∷◌, ◌++◌, refl, sym, ap, subst, ◌∙◌, inl, inr}
use Rattle.std.specs.List.{Contains}
use Rattle.std.proofs.lemmas.List.Elements.{Contains-append_cases, Contains-append_left, Contains-append_right}
use Rattle.occurrences.specs.declared.place.CurrentRow.{CurrentRow}
use Rattle.occurrences.specs.declared.place.Place.{Place}
use Rattle.occurrences.specs.declared.place.Place.TheVariants.{LongTerm, Current, History}
use Rattle.occurrences.specs.declared.row.Row.{Row}
use Rattle.occurrences.specs.declared.status.Status.{Status}
use Rattle.occurrences.specs.declared.status.Status.TheVariants.{W, S, E, C, D}
use Rattle.external_dependencies.specs.Settled.{IsOnce}
use Rattle.external_dependencies.specs.Touch.{IsOpenIn, LivesIn, Touches}
use Rattle.external_dependencies.specs.declared.links.Link.{Link}
use Rattle.external_dependencies.specs.declared.rows.PlacedRow.{PlacedRow}
use Rattle.external_dependencies.specs.declared.touch.Touch.{Touch}
use Rattle.planner_machine.specs.Content.{Sets}
use Rattle.plan_store_pairs.specs.LiveRows.{AddsCurrent, AddsRows, AreLiveRows, HasLists, IsCurrentIn}
use Rattle.plan_store_pairs.specs.Turns.{ArePlanned, HasItself, IsBeside, IsInLists, IsTouchOf, IsTurn}
use Rattle.plan_store_pairs.proofs.ListLemmas.{none}
use Rattle.plan_store_pairs.proofs.RowLemmas.{are_listed, are_live, current_more, current_none, current_skip, rows_both, rows_more, rows_none}
use Rattle.plan_store_pairs.proofs.TouchLemmas.{live_once}

-- ---- the live occurrences as a list

rows_added : (list : List Row) (place : Place) (old : List PlacedRow) → (new : List PlacedRow) × AddsRows list place old new
rows_added [] place old = (old, rows_none place old)
rows_added (row ∷ list) place old =
    let one = rows_more [] place old old row (rows_none place old) in
    let (new, adds) = rows_added list place (old ++ (record { row = row; place = place }) ∷ []) in
    (new, rows_both (row ∷ []) list place old (old ++ (record { row = row; place = place }) ∷ []) new one adds)

wider : (list more : List CurrentRow) (p : PlacedRow) → IsCurrentIn list p ⊎ IsCurrentIn more p
    → IsCurrentIn (list ++ more) p
wider list more p (inl is) = record {
  status = is.status;
  listed = Contains-append_left list more _ is.listed;
  placed = is.placed;
  stays = is.stays;
}
wider list more p (inr is) = record {
  status = is.status;
  listed = Contains-append_right list more _ is.listed;
  placed = is.placed;
  stays = is.stays;
}

narrower : (list more : List CurrentRow) (p : PlacedRow) → IsCurrentIn (list ++ more) p
    → IsCurrentIn list p ⊎ IsCurrentIn more p
narrower list more p is = elim (Contains-append_cases list more _ is.listed) [
  | inl first ↦ inl (record { status = is.status; listed = first; placed = is.placed; stays = is.stays })
  | inr later ↦ inr (record { status = is.status; listed = later; placed = is.placed; stays = is.stays })
]

-- two lists are added as one
pub current_both : (first second : List CurrentRow) (r0 r1 r2 : List PlacedRow) → AddsCurrent first r0 r1
    → AddsCurrent second r1 r2 → AddsCurrent (first ++ second) r0 r2
current_both first second r0 r1 r2 a1 a2 p = (
  (λ there. elim ((a2 p).0 there) [
    | inl in_1 ↦ elim ((a1 p).0 in_1) [
      | inl before ↦ inl before
      | inr new ↦ inr (wider first second p (inl new))
    ]
    | inr new ↦ inr (wider first second p (inr new))
  ]),
  λ is. elim is [
    | inl before ↦ (a2 p).1 (inl ((a1 p).1 (inl before)))
    | inr new ↦ elim (narrower first second p new) [
      | inl was ↦ (a2 p).1 (inl ((a1 p).1 (inr was)))
      | inr put ↦ (a2 p).1 (inr put)
    ]
  ],
)

deleted_or_not : (status : Status) → (status ≡ D) ⊎ (status ≢ D)
deleted_or_not W = inr (λ is. cc)
deleted_or_not S = inr (λ is. cc)
deleted_or_not E = inr (λ is. cc)
deleted_or_not C = inr (λ is. cc)
deleted_or_not D = inl refl

one_added : (current : CurrentRow) (old : List PlacedRow) → (new : List PlacedRow)
    × AddsCurrent (current ∷ []) old new
one_added current old = elim (deleted_or_not current.status) [
  | inl deleted ↦ (old, current_skip [] old old current deleted (current_none old))
  | inr stays ↦ (
    old ++ (record { row = current.row; place = Current current.status }) ∷ [],
    current_more [] old old current stays (current_none old),
  )
]

current_added : (list : List CurrentRow) (old : List PlacedRow) → (new : List PlacedRow) × AddsCurrent list old new
current_added [] old = (old, current_none old)
current_added (current ∷ list) old =
    let (middle, one) = one_added current old in
    let (new, adds) = current_added list middle in
    (new, current_both (current ∷ []) list old middle new one adds)

-- the occurrences of these lists, and no others
abbrev pub AreListed : List Row → List CurrentRow → List Row → List PlacedRow → Type 0
AreListed planned current completed rows = (p : PlacedRow) → Contains rows p ↔ IsInLists planned current completed p

pub record IsLiveList (s : Sets) (planned : List Row) (current : List CurrentRow) (completed : List Row) : Type 0 where
  pub rows : List PlacedRow
  pub live : AreLiveRows s rows
  pub listed : AreListed planned current completed rows

-- there is such a list
pub live_list : (s : Sets) (planned : List Row) (current : List CurrentRow) (completed : List Row)
    → HasLists s planned current completed → IsLiveList s planned current completed
live_list s planned current completed has =
    let (r1, a1) = rows_added planned LongTerm [] in
    let (r2, a2) = current_added current r1 in
    let (r3, a3) = rows_added completed History r2 in
    record {
      rows = r3;
      live = are_live s planned current completed has r1 r2 r3 a1 a2 a3;
      listed = are_listed planned current completed r1 r2 r3 a1 a2 a3;
    }

-- of any lists
pub list_of : (planned : List Row) (current : List CurrentRow) (completed : List Row)
    → (rows : List PlacedRow) × AreListed planned current completed rows
list_of planned current completed =
    let (r1, a1) = rows_added planned LongTerm [] in
    let (r2, a2) = current_added current r1 in
    let (r3, a3) = rows_added completed History r2 in
    (r3, are_listed planned current completed r1 r2 r3 a1 a2 a3)

-- what stands beside the long-term plan does not stand in it
beside_only : (current : List CurrentRow) (completed : List Row) (p : PlacedRow) → IsBeside current completed p
    → p.place ≡ LongTerm → ⊥
beside_only current completed p (inl is) at = let no : Current is.status ≡ LongTerm = sym is.placed ∙ at in cc
beside_only current completed p (inr is) at = let no : History ≡ LongTerm = sym is.1 ∙ at in cc

abbrev planned_at : Row → PlacedRow
planned_at row = record { row = row; place = LongTerm }

-- ---- what the statement touches

module _ (rows stay gone made : List Row) (plan : ArePlanned rows stay gone made) (current : List CurrentRow)
    (completed : List Row) (was now : List PlacedRow) (were : AreListed rows current completed was)
    (are : AreListed (stay ++ made) current completed now) (once_before : IsOnce was) (once_after : IsOnce now)
    (touch : Touch) (was_links links : List Link) (is : IsTouchOf gone made was_links links touch) where
  was_planned : (row : Row) → Contains rows row → Contains was (planned_at row)
  was_planned row there = (were (planned_at row)).1 (inl (there, refl))

  now_stays : (row : Row) → Contains stay row → Contains now (planned_at row)
  now_stays row there = (are (planned_at row)).1 (inl (Contains-append_left stay made row there, refl))

  lives_now : (row : Row) → HasItself stay row → LivesIn now row
  lives_now row (x, there, serial, key) = (planned_at x, now_stays x there, tt, serial, key)

  lived : (row : Row) → HasItself rows row → LivesIn was row
  lived row (x, there, serial, key) = (planned_at x, was_planned x there, tt, serial, key)

  open_now : (row : Row) → HasItself stay row → IsOpenIn now row
  open_now row (x, there, serial, key) = (planned_at x, now_stays x there, tt, serial, key)

  was_open : (row : Row) → HasItself rows row → IsOpenIn was row
  was_open row (x, there, serial, key) = (planned_at x, was_planned x there, tt, serial, key)

  withdrawn : (row : Row) → Contains gone row → Contains touch.withdrawn.items row
  withdrawn row there = subst (λ rs. Contains rs row) (sym is.goes) there

  named : (row : Row) → Contains made row → Contains touch.made.items row
  named row there = subst (λ rs. Contains rs row) (sym is.comes) there

  gone_is : (q : PlacedRow) → IsInLists (stay ++ made) current completed q → (row : Row) → Contains gone row
      → q.row.serial ≢ row.serial
  gone_is q (inl first) row gone same = elim (Contains-append_cases stay made q.row first.0) [
    | inl stays ↦ plan.gone_apart row q.row gone stays same
    | inr new ↦ plan.new row q.row (plan.gone_stood row gone) new same
  ]
  gone_is q (inr beside) row gone same =
      let stood = was_planned row (plan.gone_stood row gone) in
      let one = once_before q (planned_at row) ((were q).1 (inr beside)) stood same in
      beside_only current completed q beside (ap (λ (p : PlacedRow). p.place) one)

  pub turn_touches : Touches touch was now was_links links
  turn_touches = record {
    once_before = once_before;
    once_after = once_after;
    lives_on = λ p there live. elim ((were p).0 there) [
      | inl first ↦ elim (plan.on p.row first.0) [
        | inl on ↦ inl (lives_now p.row on)
        | inr gone ↦ inr (withdrawn p.row gone)
      ]
      | inr beside ↦ inl (p, (are p).1 (inr beside), live, refl, refl)
    ];
    lived = λ q there live. elim ((are q).0 there) [
      | inl first ↦ elim (Contains-append_cases stay made q.row first.0) [
        | inl stays ↦ inl (lived q.row (plan.stood q.row stays))
        | inr new ↦ inr (named q.row new)
      ]
      | inr beside ↦ inl (q, (were q).1 (inr beside), live, refl, refl)
    ];
    withdrawn = λ q there live (row, gone, same).
        gone_is q ((are q).0 there) row (subst (λ rs. Contains rs row) is.goes gone) (sym same);
    opened = λ q there is_open. elim ((are q).0 there) [
      | inl first ↦ elim (Contains-append_cases stay made q.row first.0) [
        | inl stays ↦ inl (was_open q.row (plan.stood q.row stays))
        | inr new ↦ inr (inl (q.row, named q.row new, refl))
      ]
      | inr beside ↦ inl (q, (were q).1 (inr beside), is_open, refl, refl)
    ];
    closed = λ p there is_open. elim ((were p).0 there) [
      | inl first ↦ elim (plan.on p.row first.0) [
        | inl on ↦ inl (open_now p.row on)
        | inr gone ↦ inr (inl (withdrawn p.row gone))
      ]
      | inr beside ↦ inl (p, (are p).1 (inr beside), is_open, refl, refl)
    ];
    lists = is.lists;
  }

-- the turn from the sets before the statement to those after it, and the live occurrences then
pub record IsTurnTo (s s' : Sets) (was_links links : List Link) (touch : Touch) (planned : List Row)
    (current : List CurrentRow) (completed : List Row) : Type 0 where
  pub now : List PlacedRow
  pub turn : IsTurn s s' was_links links touch now
  pub listed : AreListed planned current completed now

pub turn_to : (s s' : Sets) (rows stay gone made : List Row) (current : List CurrentRow) (completed : List Row)
    → HasLists s rows current completed → HasLists s' (stay ++ made) current completed → ArePlanned rows stay gone made
    → (touch : Touch) (was_links links : List Link) → IsTouchOf gone made was_links links touch
    → IsTurnTo s s' was_links links touch (stay ++ made) current completed
turn_to s s' rows stay gone made current completed has has' plan touch was_links links is =
    let was = live_list s rows current completed has in
    let then = live_list s' (stay ++ made) current completed has' in
    record {
      now = then.rows;
      turn = record {
        was = was.rows;
        before = was.live;
        after = then.live;
        touches = turn_touches rows stay gone made plan current completed was.rows then.rows was.listed then.listed
            (live_once s was.rows was.live) (live_once s' then.rows then.live) touch was_links links is;
      };
      listed = then.listed;
    }

-- nothing goes: all rows stay
pub all_stay : (rows made : List Row) → ((row x : Row) → Contains rows row → Contains made x → x.serial ≢ row.serial)
    → ArePlanned rows rows [] made
all_stay rows made new = record {
  on = λ row there. inl (row, there, refl, refl);
  stood = λ row there. (row, there, refl, refl);
  gone_stood = λ row there. absurd (none row there);
  gone_apart = λ row x there _. absurd (none row there);
  new = new;
}
