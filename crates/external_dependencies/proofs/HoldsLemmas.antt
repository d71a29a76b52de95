-- When the rows handed in have the nearest predecessor that all rows have: where each candidate among all is no later
-- than some candidate among those handed in.
use Rattle.std.proofs.Common.{◌≡◌, ◌↔◌, ℕ, ◌≤◌, List, Option, Some, None, sym, ap, subst, ◌∙◌, inl, inr, arith}
use Rattle.std.specs.List.{Contains}
use Rattle.occurrences.specs.Place.{IsLive}
use Rattle.occurrences.specs.declared.key.Key.{Key}
use Rattle.external_dependencies.specs.declared.live.Arrival.{Arrival}
use Rattle.external_dependencies.specs.declared.rows.PlacedRow.{PlacedRow}
use Rattle.external_dependencies.specs.Nearest.{IsCandidate, IsLiveIn, IsNearest, arrival_of}
use Rattle.external_dependencies.proofs.TouchLemmas.{IsWith}

-- the second of two candidates is not before the first
pub record IsNoLater (a b : Arrival) : Type 0 where
  pub moment : a.ia ≤ b.ia
  pub serial : a.ia ≡ b.ia → a.serial ≤ b.serial

pub no_later_itself : (a : Arrival) → IsNoLater a a
no_later_itself a = record { moment = omega arith; serial = λ _. omega arith }

pub no_later_on : (a b c : Arrival) → IsNoLater a b → IsNoLater b c → IsNoLater a c
no_later_on a b c ab bc =
    let first = ab.moment in
    let second = bc.moment in
    record {
      moment = omega arith;
      serial = λ same.
          let one = ab.serial (omega arith) in
          let two = bc.serial (omega arith) in
          omega arith;
    }

nearest_bound : (LiveAt : Arrival → Type 0) (key : Key) (app : List ℕ) (near other : Arrival)
    → IsNearest LiveAt key app None near → LiveAt other → IsCandidate key app None other → IsNoLater other near
nearest_bound LiveAt key app near other is live may =
    record { moment = is.greatest other live may; serial = λ same. is.last other live may same }

-- each candidate among all rows has one among the rows handed in that is no earlier
pub Dominates : (rows now : List PlacedRow) → Key → List ℕ → Type 0
Dominates rows now key app = (other : Arrival) → IsLiveIn now other → IsCandidate key app None other
    → (k : Arrival) × IsLiveIn rows k × (IsCandidate key app None k × IsNoLater other k)

module _ (rows now : List PlacedRow) (part : (q : PlacedRow) → Contains rows q → Contains now q) (key : Key)
    (app : List ℕ) (dominates : Dominates rows now key app) where
  live_part : (a : Arrival) → IsLiveIn rows a → IsLiveIn now a
  live_part a (p, there, live, arrives) = (p, part p there, live, arrives)

  pub same_nearest : (near : Arrival)
      → IsNearest (IsLiveIn rows) key app None near ↔ IsNearest (IsLiveIn now) key app None near
  unfolding Dominates
  same_nearest near = (forward, backward)
    where
      forward : IsNearest (IsLiveIn rows) key app None near → IsNearest (IsLiveIn now) key app None near
      forward is = record {
        live = live_part near is.live;
        candidate = is.candidate;
        greatest = λ other here may. (bound other here may).moment;
        last = λ other here may. (bound other here may).serial;
      }
        where
          bound : (other : Arrival) → IsLiveIn now other → IsCandidate key app None other → IsNoLater other near
          bound other here may =
              let k = dominates other here may in
              no_later_on other k.0 near k.2.1 (nearest_bound (IsLiveIn rows) key app near k.0 is k.1 k.2.0)

      backward : IsNearest (IsLiveIn now) key app None near → IsNearest (IsLiveIn rows) key app None near
      backward is =
          let k = dominates near is.live is.candidate in
          let up = k.2.1 in
          let down = nearest_bound (IsLiveIn now) key app near k.0 is (live_part k.0 k.1) k.2.0 in
          let up_moment = up.moment in
          let down_moment = down.moment in
          let moments : k.0.ia ≡ near.ia = omega arith in
          let up_serial = up.serial (sym moments) in
          let down_serial = down.serial moments in
          let serials : k.0.serial ≡ near.serial = omega arith in
          let apps : k.0.app ≡ near.app = k.2.0.of_app ∙ sym is.candidate.of_app in
          let one : k.0 ≡ near = λ i. record { app = apps i; ia = moments i; serial = serials i } in
          record {
            live = subst (IsLiveIn rows) one k.1;
            candidate = is.candidate;
            greatest = λ other here. is.greatest other (live_part other here);
            last = λ other here. is.last other (live_part other here);
          }

-- the arrival that is nearest among some, or that there is none
pub IsAnswer : (Arrival → Type 0) → Key → List ℕ → Option Arrival → Type 0
IsAnswer LiveAt key app None = (other : Arrival) → LiveAt other → IsCandidate key app None other → ⊥
IsAnswer LiveAt key app (Some near) = IsNearest LiveAt key app None near

-- it is among the rows handed in, if there is one
pub IsHeld : List PlacedRow → Option Arrival → Type 0
IsHeld rows None = Unit {0}
IsHeld rows (Some near) = IsLiveIn rows near

-- the rows handed in have what is nearest among all
pub held_dominates : (rows now : List PlacedRow) (key : Key) (app : List ℕ) (answer : Option Arrival)
    → IsAnswer (IsLiveIn now) key app answer → IsHeld rows answer → Dominates rows now key app
unfolding IsAnswer IsHeld Dominates
held_dominates rows now key app None none held other here may = absurd (none other here may)
held_dominates rows now key app (Some near) is held other here may =
    (near, held, (is.candidate, nearest_bound (IsLiveIn now) key app near other is here may))

-- where one row comes, they have what was nearest before, and that row
pub with_dominates : (rows was : List PlacedRow) (placed : PlacedRow) (now : List PlacedRow) → IsWith was placed now
    → Contains rows placed → IsLive placed.place → (key : Key) (app : List ℕ) (answer : Option Arrival)
    → IsAnswer (IsLiveIn was) key app answer → IsHeld rows answer → Dominates rows now key app
unfolding Dominates
with_dominates rows was placed now is_with holds live key app answer is held other here may =
    elim ((is_with.exactly here.0).0 here.1) [
      | inl old ↦
          let k = before in
          k other (here.0, old, here.2, here.3) may
      | inr new ↦
          let arrives : arrival_of placed.row ≡ other = ap (λ (p : PlacedRow). arrival_of p.row) new ∙ here.3 in
          (other, (placed, holds, live, arrives), (may, no_later_itself other))
    ]
  where
    before : Dominates rows was key app
    before = held_dominates rows was key app answer is held
