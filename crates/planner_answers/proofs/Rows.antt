-- The rows of a content are finite: nothing stands past the last serial.
use Rattle.std.proofs.Common.{◌≡◌, ◌≢◌, ℕ, suc, ◌+◌, ◌-◌, ◌<◌, true, List, length}
use Rattle.std.proofs.Common.{refl, sym, ap, subst, ◌∙◌, inl, inr, arith, Option, None, Some}
use Rattle.std.specs.Prelude.{nat_lt}
use Rattle.std.proofs.lemmas.Bool.{lt-ltb}
use Rattle.std.proofs.lemmas.Option.{slice_get_past}
use Rattle.occurrences.specs.Place.{IsComplete, IsLive, IsOpen}
use Rattle.occurrences.specs.declared.key.Key.{Key}
use Rattle.occurrences.specs.declared.place.CurrentRow.{CurrentRow}
use Rattle.occurrences.specs.declared.place.Deletion.{Deletion}
use Rattle.occurrences.specs.declared.place.Place.{Place}
use Rattle.occurrences.specs.declared.place.Place.TheVariants.{LongTerm, Current, History, Deleted}
use Rattle.occurrences.specs.declared.place.Reason.{Reason}
use Rattle.occurrences.specs.declared.place.Reason.TheVariants.{Operator, Plan, Withdrawn}
use Rattle.occurrences.specs.declared.row.Row.{Row}
use Rattle.occurrences.specs.declared.status.Status.{Status}
use Rattle.occurrences.specs.declared.status.Status.TheVariants.{W, S, E, C, D}
use Rattle.external_dependencies.specs.declared.rows.PlacedRow.{PlacedRow}
use Rattle.planner_machine.specs.declared.content.Draft.{Draft}
use Rattle.planner_machine.specs.Content.{Content, IsOnlyAt, Seat, Sets, alone, empty_seat, seat}
use Rattle.planner_machine.specs.Drafts.{IsMade}
use Rattle.planner_machine.specs.Moves.{bit, each, made, seat_made, with_made}
use Rattle.planner_machine.specs.Sound.{IsSound}
use Rattle.planner_machine.proofs.SeatLemmas.{found, found_alone}
use Rattle.planner_answers.proofs.Finite.{Decided, Finite, decided_all, decided_any, decided_both, decided_lt, decided_not}
use Rattle.planner_answers.proofs.Finite.{decided_so, finite_below, finite_if, finite_made}
use Rattle.planner_answers.proofs.Finite.{finite_none, finite_one, finite_over, finite_so}
use Rattle.planner_answers.proofs.Orders.{decided_key}

-- statuses, reasons and places

pub decided_status : (a b : Status) → Decided (a ≡ b)
decided_status W W = inl refl
decided_status S S = inl refl
decided_status E E = inl refl
decided_status C C = inl refl
decided_status D D = inl refl
decided_status a b = inr (λ h. cc)

pub decided_operator : (reason : Reason) → Decided (reason ≡ Operator)
decided_operator Operator = inl refl
decided_operator Plan = inr (λ h. cc)
decided_operator Withdrawn = inr (λ h. cc)

pub decided_live : (place : Place) → Decided (IsLive place)
decided_live LongTerm = inl tt
decided_live (Current status) = decided_not (decided_status status D)
decided_live History = inl tt
decided_live (Deleted reason) = inr (λ h. h)

pub decided_open : (place : Place) → Decided (IsOpen place)
decided_open LongTerm = inl tt
decided_open (Current status) = decided_status status W
decided_open History = inr (λ h. h)
decided_open (Deleted reason) = inr (λ h. h)

pub decided_complete : (place : Place) → Decided (IsComplete place)
decided_complete LongTerm = inr (λ h. h)
decided_complete (Current status) = decided_status status C
decided_complete History = inl tt
decided_complete (Deleted reason) = inr (λ h. h)

-- a set of which no serial is past the last

pub finite_set : {X : Type 0} (set : ℕ → Option X) (last : ℕ) → ((serial : ℕ) → last < serial → set serial ≡ None)
    → Finite (λ (e : ℕ × X). set e.0 ≡ Some e.1)
finite_set {X} set last ended =
    finite_so
    (λ e (serial, lt, both). both.1)
    (λ e is. (e.0, within e is, (refl, is)))
    (finite_over (λ serial e. (serial ≡ e.0) × (set e.0 ≡ Some e.1)) (finite_below (suc last))
    (λ serial lt. at serial (set serial) refl))
  where
    within : (e : ℕ × X) → set e.0 ≡ Some e.1 → e.0 < suc last
    within e is = elim (decided_lt last e.0) [
      | inl past ↦ let no : None ≡ Some e.1 = sym (ended e.0 past) ∙ is in absurd (let x : ⊥ = cc in x)
      | inr not_past ↦ omega arith
    ]

    at : (serial : ℕ) (o : Option X) → set serial ≡ o → Finite (λ (e : ℕ × X). (serial ≡ e.0) × (set e.0 ≡ Some e.1))
    at serial None is =
        finite_none (λ e (same, there). let no : None ≡ Some e.1 = sym is ∙ ap set same ∙ there in cc)
    at serial (Some x) is = finite_so to back (finite_one (serial, x))
      where
        to : (e : ℕ × X) → ◌≡◌ {A = ℕ × X} (serial, x) e → (serial ≡ e.0) × (set e.0 ≡ Some e.1)
        to e same = subst (λ (y : ℕ × X). (serial ≡ y.0) × (set y.0 ≡ Some y.1)) same (refl, is)

        back : (e : ℕ × X) → (serial ≡ e.0) × (set e.0 ≡ Some e.1) → ◌≡◌ {A = ℕ × X} (serial, x) e
        back e (same, there) =
            let whole : Some x ≡ Some e.1 = sym is ∙ ap set same ∙ there in
            let value : x ≡ e.1 = cc in
            λ t. (same t, value t)

-- what stands alone in a seat

abbrev weight : Seat → ℕ
weight s = bit s.ltp + bit s.cp + bit s.history + bit s.deletions

weight_alone : (row : Row) (place : Place) → weight (alone row place) ≡ 1
weight_alone row LongTerm = refl
weight_alone row (Current status) = refl
weight_alone row History = refl
weight_alone row (Deleted reason) = refl

abbrev StandsIn : Seat → PlacedRow → Type 0
StandsIn s p = s ≡ alone p.row p.place

one_stands : (s : Seat) (p : PlacedRow) → StandsIn s p → Finite (StandsIn s)
one_stands s p is = finite_so (λ q same. subst (StandsIn s) same is) back (finite_one p)
  where
    back : (q : PlacedRow) → StandsIn s q → p ≡ q
    back q there =
        let whole : Some p ≡ Some q = sym (found_alone p.row p.place) ∙ ap found (sym is ∙ there)
        ∙ found_alone q.row q.place in
        cc

none_stands : (s : Seat) → (weight s ≡ 1 → ⊥) → Finite (StandsIn s)
none_stands s differs = finite_none (λ q there. differs (ap weight there ∙ weight_alone q.row q.place))

abbrev seat_of : Option Row → Option CurrentRow → Option Row → Option Deletion → Seat
seat_of l c h d = record { ltp = l; cp = c; history = h; deletions = d }

stands_of : (l : Option Row) (c : Option CurrentRow) (h : Option Row) (d : Option Deletion)
    → Finite (StandsIn (seat_of l c h d))
stands_of (Some row) None None None = one_stands (seat_of (Some row) None None None) (record { row = row; place = LongTerm }) refl
stands_of None (Some current) None None =
    one_stands (seat_of None (Some current) None None)
    (record { row = current.row; place = Current current.status }) refl
stands_of None None (Some row) None = one_stands (seat_of None None (Some row) None) (record { row = row; place = History }) refl
stands_of None None None (Some deletion) =
    one_stands (seat_of None None None (Some deletion))
    (record { row = deletion.row; place = Deleted deletion.reason }) refl
stands_of l c h d = none_stands (seat_of l c h d) (λ is. absurd (omega arith))

pub finite_stands : (s : Seat) → Finite (StandsIn s)
finite_stands s = stands_of s.ltp s.cp s.history s.deletions

-- nothing is past the last serial
abbrev pub IsEnded : Sets → ℕ → Type 0
IsEnded s last = (serial : ℕ) → last < serial → seat s serial ≡ empty_seat

pub sound_ends : (c : Content) → IsSound c → IsEnded c.sets c.sets.issued
sound_ends c sound serial past = sound.serials.unissued serial (inr past)

pub each_ends : (move : Seat → Seat) (s : Sets) (last : ℕ) → move empty_seat ≡ empty_seat → IsEnded s last
    → IsEnded (each move s) last
each_ends move s last empty ended serial past = ap move (ended serial past) ∙ empty

made_past : (n : ℕ) (drafts : List Draft) (serial : ℕ) → n + length drafts < serial → made n drafts serial ≡ None
made_past n drafts serial past =
    let new : nat_lt n serial ≡ true = lt-ltb n serial (omega arith) in
    let none = slice_get_past drafts (serial - suc n) (omega arith) in
    rw (new, none) refl

pub made_ends : (place : Place) (drafts : List Draft) (s : Sets) → IsEnded s s.issued
    → IsEnded (with_made place drafts s) (s.issued + length drafts)
made_ends place drafts s ended serial past =
    ap (λ o. seat_made place o (seat s serial)) (made_past s.issued drafts serial past)
    ∙ ended serial (omega arith)

-- the rows of sets that end
module _ (s : Sets) (last : ℕ) (ended : IsEnded s last) where
  abbrev pub IsRowOf : ℕ × PlacedRow → Type 0
  IsRowOf e = IsOnlyAt s e.0 e.1

  pub finite_rows : Finite IsRowOf
  finite_rows =
      finite_so to back
      (finite_over (λ serial e. (p : PlacedRow) × StandsIn (seat s serial) p × (◌≡◌ {A = ℕ × PlacedRow} (serial, p) e))
      (finite_below (suc last))
      (λ serial lt. finite_made (λ p. (serial, p)) (finite_stands (seat s serial))))
    where
      to : (e : ℕ × PlacedRow)
          → ((serial : ℕ) × (serial < suc last)
          × ((p : PlacedRow) × StandsIn (seat s serial) p × (◌≡◌ {A = ℕ × PlacedRow} (serial, p) e)))
          → IsRowOf e
      to e (serial, lt, (p, stands, same)) = subst IsRowOf same stands

      back : (e : ℕ × PlacedRow) → IsRowOf e
          → (serial : ℕ) × (serial < suc last)
          × ((p : PlacedRow) × StandsIn (seat s serial) p × (◌≡◌ {A = ℕ × PlacedRow} (serial, p) e))
      back e stands = (e.0, within, (e.1, stands, refl))
        where
          within : e.0 < suc last
          within = elim (decided_lt last e.0) [
            | inl past ↦
                let one : weight empty_seat ≡ 1 = ap weight (sym (ended e.0 past) ∙ stands)
                ∙ weight_alone e.1.row e.1.place in
                absurd (omega (arith, one))
            | inr not_past ↦ omega arith
          ]

  -- whether some row has a property
  pub decided_row : (P : ℕ → PlacedRow → Type 0) → ((serial : ℕ) (p : PlacedRow) → Decided (P serial p))
      → Decided ((serial : ℕ) × (p : PlacedRow) × IsOnlyAt s serial p × P serial p)
  decided_row P test =
      decided_so (λ (e, stands, has). (e.0, e.1, stands, has)) (λ (serial, p, stands, has). ((serial, p), stands, has))
      (decided_any finite_rows (λ e stands. test e.0 e.1))

  ltp_ended : (serial : ℕ) → last < serial → s.ltp serial ≡ None
  ltp_ended serial past = ap (λ (x : Seat). x.ltp) (ended serial past)

  cp_ended : (serial : ℕ) → last < serial → s.cp serial ≡ None
  cp_ended serial past = ap (λ (x : Seat). x.cp) (ended serial past)

  deletions_ended : (serial : ℕ) → last < serial → s.deletions serial ≡ None
  deletions_ended serial past = ap (λ (x : Seat). x.deletions) (ended serial past)

  pub finite_ltp : Finite (λ (e : ℕ × Row). s.ltp e.0 ≡ Some e.1)
  finite_ltp = finite_set s.ltp last ltp_ended

  pub finite_cp : Finite (λ (e : ℕ × CurrentRow). s.cp e.0 ≡ Some e.1)
  finite_cp = finite_set s.cp last cp_ended

  pub finite_deletions : Finite (λ (e : ℕ × Deletion). s.deletions e.0 ≡ Some e.1)
  finite_deletions = finite_set s.deletions last deletions_ended

  -- the drafts that a planning statement makes
  pub finite_new : {Names : Draft → Type 0} → Finite Names → Finite (IsMade Names s)
  finite_new {Names} f =
      finite_so
      (λ draft (named, both). record {
        named = named;
        not_planned = λ serial row there. both.0 (serial, row) there;
        not_deleted = λ serial deletion there. both.1 (serial, deletion) there;
      })
      (λ draft h. (h.named, ((λ e there. h.not_planned e.0 e.1 there), λ e there. h.not_deleted e.0 e.1 there)))
      (finite_if f (λ draft named. decided_both
      (decided_all finite_ltp (λ e there. decided_not (decided_key e.1.key draft.key)))
      (decided_all finite_deletions (λ e there. by_reason e.1 draft.key (decided_operator e.1.reason)))))
    where
      by_reason : (deletion : Deletion) (key : Key) → Decided (deletion.reason ≡ Operator)
          → Decided (deletion.reason ≡ Operator → deletion.row.key ≢ key)
      by_reason deletion key (inl is) = elim (decided_key deletion.row.key key) [
        | inl same ↦ inr (λ h. h is same)
        | inr differ ↦ inl (λ _. differ)
      ]
      by_reason deletion key (inr not) = inl (λ is. absurd (not is))
