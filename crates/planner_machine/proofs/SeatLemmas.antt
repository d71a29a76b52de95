-- Moves of whole sets, serial by serial.
use Rattle.std.proofs.Common.{◌≡◌, ℕ, ◌≤◌, ◌<◌, ◌⊎◌, refl, sym, ap, subst, ◌∙◌, inl, inr, arith, [], Option, None, Some}
use Rattle.std.specs.Prelude.{option_map}
use Rattle.std.proofs.lemmas.Bool.{cases_lt, cases_eq}
use Rattle.std.proofs.lemmas.Option.{slice_get_past}
use Rattle.occurrences.specs.Place.{IsLive}
use Rattle.occurrences.specs.declared.place.Place.{Place}
use Rattle.occurrences.specs.declared.place.Place.TheVariants.{LongTerm, Current, History, Deleted}
use Rattle.occurrences.specs.declared.row.Row.{Row}
use Rattle.external_dependencies.specs.declared.rows.PlacedRow.{PlacedRow}
use Rattle.planner_machine.specs.declared.content.Bounds.{Bounds}
use Rattle.planner_machine.specs.Content.{Seat, Sets, IsOnlyAt, alone, empty_seat, seat}
use Rattle.planner_machine.specs.Sound.{AreBounds}
use Rattle.planner_machine.specs.RowsSound.{IsPlacedIn, RowsSound}
use Rattle.planner_machine.specs.declared.content.Draft.{Draft}
use Rattle.planner_machine.specs.Laws.{Follows}
use Rattle.planner_machine.specs.Moves.{each, or_else}

at_place : Place → Row → PlacedRow
at_place place row = record { row = row; place = place }

-- the row of a seat, if it has one
pub found : Seat → Option PlacedRow
found s =
    or_else (option_map (at_place LongTerm) s.ltp)
    (or_else (option_map (λ current. at_place (Current current.status) current.row) s.cp)
    (or_else (option_map (at_place History) s.history)
    (option_map (λ deletion. at_place (Deleted deletion.reason) deletion.row) s.deletions)))

pub found_alone : (row : Row) (place : Place) → found (alone row place) ≡ Some (record { row = row; place = place })
unfolding found at_place
found_alone row LongTerm = refl
found_alone row (Current status) = refl
found_alone row History = refl
found_alone row (Deleted reason) = refl

found_empty : found empty_seat ≡ None
unfolding found
found_empty = refl

-- a serial stands in one place
pub one_place : (c : Sets) (serial : ℕ) (p q : PlacedRow) → IsOnlyAt c serial p → IsOnlyAt c serial q → p ≡ q
one_place c serial p q a b =
    let from = found_alone p.row p.place in let to = found_alone q.row q.place in let same = ap found (sym a ∙ b) in
    let whole : Some p ≡ Some q = sym from ∙ same ∙ to in cc

pub not_empty : (c : Sets) (serial : ℕ) (p : PlacedRow) → IsOnlyAt c serial p → seat c serial ≡ empty_seat → ⊥
not_empty c serial p a b =
    let is : None ≡ Some p = sym found_empty ∙ ap found (sym b ∙ a) ∙ found_alone p.row p.place in cc

-- where a serial was given, or not
pub cases_issued : (n serial : ℕ) → ((1 ≤ serial) × (serial ≤ n)) ⊎ ((serial ≡ 0) ⊎ (n < serial))
cases_issued n serial = elim (cases_eq serial 0) [
  | inl zero ↦ inr (inl zero)
  | inr some ↦ elim (cases_lt n serial) [
    | inl past ↦ inr (inr past)
    | inr within ↦ inl (omega arith, within)
  ]
]

-- the row stays as it is, and goes to another place
abbrev pub going : (Row → Place → Place) → PlacedRow → PlacedRow
going place p = record { row = p.row; place = place p.row p.place }

-- the move takes what stands alone to where it goes, and keeps its serial and its key
pub record IsMove (move : Seat → Seat) (go : PlacedRow → PlacedRow) : Type 0 where
  pub empty : move empty_seat ≡ empty_seat
  pub alone : (p : PlacedRow) → move (alone p.row p.place) ≡ alone (go p).row (go p).place
  pub serial : (p : PlacedRow) → (go p).row.serial ≡ p.row.serial
  pub key : (p : PlacedRow) → (go p).row.key ≡ p.row.key

module _ (move : Seat → Seat) (go : PlacedRow
    → PlacedRow) (is : IsMove move go) (c : Sets) (sound : RowsSound c) (bounds : Option Bounds) where
  abbrev pub after : Sets
  after = record (each move c) { bounds = bounds }

  pub stands_after : (serial : ℕ) (p : PlacedRow) → IsOnlyAt c serial p → IsOnlyAt after serial (go p)
  stands_after serial p there = ap move there ∙ is.alone p

  empty_after : (serial : ℕ) → (serial ≡ 0) ⊎ (c.issued < serial) → seat after serial ≡ empty_seat
  empty_after serial past = ap move (sound.unissued serial past) ∙ is.empty

  pub stood_before : (serial : ℕ) (q : PlacedRow) → IsOnlyAt after serial q → (p : PlacedRow) × IsOnlyAt c serial p
      × (go p ≡ q)
  stood_before serial q there = elim (cases_issued c.issued serial) [
    | inl within ↦ let (p, was) = sound.placed serial within.0 within.1 in
        (p, was, one_place after serial (go p) q (stands_after serial p was) there)
    | inr past ↦ absurd (not_empty after serial q there (empty_after serial past))
  ]

  pub move_follows : (place : Place) → Follows place (λ p q. q ≡ go p) [] c after
  move_follows place = record {
    issues = omega arith;
    old = λ serial p there. (go p, refl, stands_after serial p there);
    new = λ k draft is. let none = slice_get_past {X = Draft} [] k (omega arith) in
        absurd (let no : None ≡ Some draft = sym none ∙ is in cc);
  }

  pub move_sound :
      ((b : Bounds) → bounds ≡ Some b → AreBounds b)
      → ((p : PlacedRow) → IsPlacedIn c.bounds p → IsPlacedIn bounds (go p))
      → ((p : PlacedRow) → IsLive (go p).place → IsLive p.place)
      → RowsSound after
  move_sound are arrive live = record {
    bounds = are;
    placed = λ serial above below. let (p, was) = sound.placed serial above below in (go p, stands_after serial p was);
    unissued = empty_after;
    numbered = λ serial q there. let (p, was, same) = stood_before serial q there in
        ap (λ (x : PlacedRow). x.row.serial) (sym same) ∙ is.serial p ∙ sound.numbered serial p was;
    arrivals = λ serial q there. let (p, was, same) = stood_before serial q there in
        subst (λ (x : PlacedRow). IsPlacedIn bounds x) same (arrive p (sound.arrivals serial p was));
    keys = λ m n q r at_q at_r live_q live_r one_key.
        let (p, was, same) = stood_before m q at_q in
        let (o, was', same') = stood_before n r at_r in
        sound.keys m n p o was was'
        (live p (subst (λ (x : PlacedRow). IsLive x.place) (sym same) live_q))
        (live o (subst (λ (x : PlacedRow). IsLive x.place) (sym same') live_r))
        (sym (is.key p) ∙ ap (λ (x : PlacedRow). x.row.key) same ∙ one_key
        ∙ ap (λ (x : PlacedRow). x.row.key) (sym same') ∙ is.key o);
  }
