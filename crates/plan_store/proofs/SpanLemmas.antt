-- Rows of one application in a stretch of time, and the first of them.
use Rattle.std.proofs.Common.{◌≡◌, ◌≢◌, ◌↔◌, ◌⊎◌, ℕ, ltb, ◌+◌, ◌<◌, ◌≤◌, true, false, List, length, get_or}
use Rattle.std.proofs.Common.{refl, sym, ap, subst, ◌∙◌, inl, inr, arith, Option, Some, None}
use Rattle.std.specs.Prelude.{if◌then◌else◌}
use Rattle.std.specs.List.{Contains}
use Rattle.std.specs.declared.cmp.Ordering.TheVariants.{Less, Equal}
use Rattle.std.proofs.lemmas.Bool.{cases_lt, ltb-false, ltb-true}
use Rattle.std.proofs.lemmas.Cmp.{ranked}
use Rattle.std.proofs.lemmas.List.{get_or_default}
use Rattle.occurrences.specs.declared.place.CurrentRow.{CurrentRow}
use Rattle.occurrences.specs.declared.row.Row.{Row}
use Rattle.occurrences.specs.declared.status.Status.TheVariants.{D}
use Rattle.external_dependencies.specs.Arrival.{arrival_cmp}
use Rattle.external_dependencies.specs.Nearest.{arrival_of}
use Rattle.external_dependencies.specs.declared.live.Arrival.{Arrival}
use Rattle.planner_machine.specs.Content.{Sets}
use Rattle.plan_store_lists.specs.Keyed.{IsKeyed}
use Rattle.plan_store_lists.specs.Rows.{AreRows, look_up, of_current, of_row}
use Rattle.plan_store.specs.Arrivals.{arrives, arrives_live}
use Rattle.plan_store.specs.HistoryReads.{IsPlannedAt}
use Rattle.plan_store.specs.Slices.{HaveOneApp}
use Rattle.plan_store.specs.Spans.{IsLeastOf, IsNextPlanned, earlier_of}
use Rattle.plan_store.specs.Views.{current_serial, row_serial}
use Rattle.plan_store_lists.proofs.LookLemmas.{look_has, look_some}
use Rattle.plan_store.proofs.SliceLemmas.{arrivals_rise}

-- of rows of one application, by input arrival and serial, what stands no earlier does not arrive earlier
not_earlier : {X : Type 0} (row_of : X → Row) (xs : List X) → IsKeyed arrival_cmp (λ x. arrival_of (row_of x)) xs
    → HaveOneApp row_of xs → (i k : ℕ) (first x : X) → first ≡ get_or xs i first → i ≤ k → k < length xs
    → get_or xs k x ≡ x → (row_of first).key.ia ≤ (row_of x).key.ia
not_earlier row_of xs keyed one i k first x at le lt at_x =
    let here : get_or xs i x ≡ first = get_or_default xs i x first (omega arith) ∙ sym at in
    let begins : (row_of (get_or xs i x)).key.ia ≡ (row_of first).key.ia = ap (λ y. (row_of y).key.ia) here in
    let ends : (row_of (get_or xs k x)).key.ia ≡ (row_of x).key.ia = ap (λ y. (row_of y).key.ia) at_x in
    elim (arrivals_rise row_of xs keyed one i k x le lt) [
      | inl less ↦
          let low : (row_of (get_or xs i x)).key.ia < (row_of (get_or xs k x)).key.ia =
          ranked (row_of (get_or xs i x)).key.ia (row_of (get_or xs k x)).key.ia Less (sym less) in
          omega (arith, low, begins, ends)
      | inr same ↦
          let tied : (row_of (get_or xs i x)).key.ia ≡ (row_of (get_or xs k x)).key.ia =
          ranked (row_of (get_or xs i x)).key.ia (row_of (get_or xs k x)).key.ia Equal (sym same) in
          omega (arith, tied, begins, ends)
    ]

-- the first row arrives first
pub first_least : (rows : List Row) → IsKeyed arrival_cmp arrival_of rows → HaveOneApp of_row rows → (row : Row)
    → 0 < length rows → row ≡ get_or rows 0 row → IsLeastOf (arrives rows) (Some row.key.ia)
first_least rows keyed one row some at = (
  (arrival_of row, (row, (0, some, sym at), refl), refl),
  λ b (x, (k, lt, at_x), same).
      let le = not_earlier of_row rows keyed one 0 k row x at (omega arith) lt at_x in
      let moments : x.key.ia ≡ b.ia = ap (λ (a : Arrival). a.ia) same in
      omega (arith, le, moments),
)

-- the first row that is not deleted arrives first of those that aren't
pub live_least : (rows : List CurrentRow) → IsKeyed arrival_cmp (λ (x : CurrentRow). arrival_of x.row) rows
    → HaveOneApp of_current rows → (i : ℕ) (current : CurrentRow) → i < length rows → current ≡ get_or rows i current
    → current.status ≢ D → ((k : ℕ) (d : CurrentRow) → k < i → (get_or rows k d).status ≡ D)
    → IsLeastOf (arrives_live rows) (Some current.row.key.ia)
live_least rows keyed one i current in_range at live deleted = (
  (arrival_of current.row, (current, (i, in_range, sym at), live, refl), refl),
  λ b (x, (k, lt, at_x), not_deleted, same). elim (cases_lt k i) [
    | inl front ↦ absurd (not_deleted (ap (λ (y : CurrentRow). y.status) (sym at_x) ∙ deleted k x front))
    | inr later ↦
        let le = not_earlier of_current rows keyed one i k current x at later lt at_x in
        let moments : x.row.key.ia ≡ b.ia = ap (λ (a : Arrival). a.ia) same in
        omega (arith, le, moments)
  ],
)

-- of two least the earlier is the least of both
pub least_earlier : (P Q : Arrival → Type 0) (first second : Option ℕ) → IsLeastOf P first → IsLeastOf Q second
    → IsLeastOf (λ x. P x ⊎ Q x) (earlier_of first second)
least_earlier P Q None None p q = λ x either. elim either [ inl one ↦ p x one | inr two ↦ q x two ]
least_earlier P Q None (Some b) p q = (
  (q.0.0, inr q.0.1, q.0.2),
  λ x either. elim either [ inl one ↦ absurd (p x one) | inr two ↦ q.1 x two ],
)
least_earlier P Q (Some a) None p q = (
  (p.0.0, inl p.0.1, p.0.2),
  λ x either. elim either [ inl one ↦ p.1 x one | inr two ↦ absurd (q x two) ],
)
least_earlier P Q (Some a) (Some b) p q = elim (ltb b a) as (λ t. ltb b a ≡ t
    → IsLeastOf (λ x. P x ⊎ Q x) (if t then Some b else Some a)) [
      | true ↦ λ is. (
        (q.0.0, inr q.0.1, q.0.2),
        λ x either. elim either [
          | inl one ↦ let le = p.1 x one in let lt = ltb-true b a is in omega (arith, le, lt)
          | inr two ↦ q.1 x two
        ],
      )
      | false ↦ λ is. (
        (p.0.0, inl p.0.1, p.0.2),
        λ x either. elim either [
          | inl one ↦ p.1 x one
          | inr two ↦ let le = q.1 x two in let least = ltb-false b a is in omega (arith, le, least)
        ],
      )
    ] refl

-- the rows of an application are of one
pub one_app : {X : Type 0} (row_of : X → Row) (xs part : List X) (app : List ℕ)
    → ((x : X) → Contains part x ↔ (Contains xs x × ((row_of x).key.app ≡ app))) → HaveOneApp row_of part
one_app row_of xs part app is x y at_x at_y = ((is x).0 at_x).1 ∙ sym ((is y).0 at_y).1

-- so are those of a part
pub one_part : {X : Type 0} (row_of : X → Row) (xs part : List X) (P : X → Type 0)
    → ((x : X) → Contains part x ↔ (Contains xs x × P x)) → HaveOneApp row_of xs → HaveOneApp row_of part
one_part row_of xs part P is one x y at_x at_y = one x y ((is x).0 at_x).0 ((is y).0 at_y).0

-- the rows of an application that arrive after a moment
abbrev pub AreLater : {X : Type 0} → (X → Row) → List X → List ℕ → ℕ → List X → Type 0
AreLater {X} row_of xs app moment part = (x : X)
    → Contains part x ↔ (Contains xs x × ((row_of x).key.app ≡ app) × (moment < (row_of x).key.ia))

pub are_later : {X : Type 0} (row_of : X → Row) (xs own part : List X) (app : List ℕ) (moment : ℕ)
    → ((x : X) → Contains own x ↔ (Contains xs x × ((row_of x).key.app ≡ app)))
    → ((x : X) → Contains part x ↔ (Contains own x × (moment + 1 ≤ (row_of x).key.ia)))
    → AreLater row_of xs app moment part
are_later row_of xs own part app moment in_own in_part x = (
  (λ there.
      let both = (in_part x).0 there in
      let of_app = (in_own x).0 both.0 in
      let late = both.1 in
      (of_app.0, of_app.1, omega (arith, late))),
  λ (there, of_app, late). (in_part x).1 ((in_own x).1 (there, of_app), omega (arith, late)),
)

-- when the next of an application arrives in the plans, from the parts of their lists
module _ (s : Sets) (app : List ℕ) (moment : ℕ) (ltp ltp_part : List Row) (cp cp_part : List CurrentRow)
    (ltp_rows : AreRows of_row ltp) (cp_rows : AreRows of_current cp) (ltp_is : s.ltp ≡ look_up row_serial ltp)
    (cp_is : s.cp ≡ look_up current_serial cp) (of_ltp : AreLater of_row ltp app moment ltp_part)
    (of_cp : AreLater of_current cp app moment cp_part) where
  abbrev SomeOf : Arrival → Type 0
  SomeOf a = arrives ltp_part a ⊎ arrives_live cp_part a

  fits : (a : Arrival) → SomeOf a → IsPlannedAt s app a.ia × (moment < a.ia)
  fits a (inl (row, there, is)) =
      let at = (of_ltp row).0 there in
      let late = at.2 in
      let moments : row.key.ia ≡ a.ia = ap (λ (b : Arrival). b.ia) is in (
        inl (
          row.serial,
          row,
          ap (λ (f : ℕ → Option Row). f row.serial) ltp_is ∙ look_has row_serial ltp ltp_rows.one_each row at.0,
          at.1,
          moments,
        ),
        omega (arith, late, moments),
      )
  fits a (inr (current, there, live, is)) =
      let at = (of_cp current).0 there in
      let late = at.2 in
      let moments : current.row.key.ia ≡ a.ia = ap (λ (b : Arrival). b.ia) is in (
        inr (
          current.row.serial,
          current,
          ap (λ (f : ℕ → Option CurrentRow). f current.row.serial) cp_is
              ∙ look_has current_serial cp cp_rows.one_each current at.0,
          live,
          at.1,
          moments,
        ),
        omega (arith, late, moments),
      )

  found : (ia : ℕ) → IsPlannedAt s app ia → moment < ia → (a : Arrival) × SomeOf a × (a.ia ≡ ia)
  found ia (inl (serial, row, stands, of_app, at)) after =
      let there = look_some row_serial ltp serial row (ap (λ (f : ℕ → Option Row). f serial) (sym ltp_is) ∙ stands) in
      (arrival_of row, inl (row, (of_ltp row).1 (there.0, of_app, omega (arith, at, after)), refl), at)
  found ia (inr (serial, current, stands, live, of_app, at)) after =
      let there = look_some current_serial cp serial current
      (ap (λ (f : ℕ → Option CurrentRow). f serial) (sym cp_is) ∙ stands) in (
        arrival_of current.row,
        inr (current, (of_cp current).1 (there.0, of_app, omega (arith, at, after)), live, refl),
        at,
      )

  planned_from : (answer : Option ℕ) → IsLeastOf SomeOf answer → IsNextPlanned s app moment answer
  planned_from None none = λ ia planned after. let some = found ia planned after in none some.0 some.1
  planned_from (Some next) is =
      let (a, among, at) = is.0 in
      let good = fits a among in
      let late = good.1 in (
        subst (IsPlannedAt s app) at good.0,
        omega (arith, late, at),
        λ ia planned after.
            let some = found ia planned after in
            let le = is.1 some.0 some.1 in
            let same = some.2 in
            omega (arith, le, same),
      )

  pub planned_is : (first second : Option ℕ) → IsLeastOf (arrives ltp_part) first
      → IsLeastOf (arrives_live cp_part) second → IsNextPlanned s app moment (earlier_of first second)
  planned_is first second ltp_least cp_least = planned_from (earlier_of first second)
      (least_earlier (arrives ltp_part) (arrives_live cp_part) first second ltp_least cp_least)
