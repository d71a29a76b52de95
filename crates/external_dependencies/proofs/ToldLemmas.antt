-- What can be told of a row: whether a change may reach it, and whether it is open.
use Rattle.std.proofs.Common.{◌≡◌, ◌⊎◌, ℕ, zero, suc, ◌+◌, ◌*◌, ◌<◌, ◌≤◌, List, [], ◌∷◌, Option, Some, None, refl, sym, ap, subst, inl, inr, arith}
use Rattle.std.specs.List.{Contains}
use Rattle.std.specs.Prelude.{nat_eq}
use Rattle.std.specs.Cmp.Lexicographic.{pointwise}
use Rattle.std.proofs.Common.{true, false}
use Rattle.std.proofs.lemmas.Bool.{cases_eq, cases_lt}
use Rattle.occurrences.specs.Place.{IsLive, IsOpen}
use Rattle.occurrences.specs.declared.place.Place.{Place}
use Rattle.occurrences.specs.declared.place.Place.TheVariants.{LongTerm, Current, History, Deleted}
use Rattle.occurrences.specs.declared.status.Status.{Status}
use Rattle.occurrences.specs.declared.status.Status.TheVariants.{W, S, E, C, D}
use Rattle.occurrences.specs.declared.row.Row.{Row}
use Rattle.external_dependencies.specs.declared.links.Link.{Link}
use Rattle.external_dependencies.specs.declared.pairs.Pair.{Pair}
use Rattle.external_dependencies.proofs.NearestLemmas.{names_equal, names_differ}
use Rattle.external_dependencies.specs.declared.touch.Touch.{Touch}
use Rattle.external_dependencies.specs.Touch.{HasMovedBefore, MayReach}
use Rattle.external_dependencies.specs.Nearest.{ArrivesWithin, IsCandidate, arrival_of}
use Rattle.external_dependencies.specs.declared.live.Arrival.{Arrival}
use Rattle.occurrences.specs.declared.key.Key.{Key}

abbrev pub Told : Type 0 → Type 0
Told P = P ⊎ (P → ⊥)

both : {P Q : Type 0} → Told P → Told Q → Told (P × Q)
both (inl p) (inl q) = inl (p, q)
both (inl p) (inr not_so) = inr (λ pq. not_so pq.1)
both (inr not_so) q = inr (λ pq. not_so pq.0)

either : {P Q : Type 0} → Told P → Told Q → Told (P ⊎ Q)
either (inl p) q = inl (inl p)
either (inr not_so) (inl q) = inl (inr q)
either (inr not_so) (inr never) = inr (λ pq. elim pq [ inl p ↦ not_so p | inr q ↦ never q ])

module _ {X : Type 0} (P : X → Type 0) (decide : (x : X) → Told (P x)) where
  -- whether some element of a list is such
  pub some_told : (xs : List X) → Told ((x : X) × Contains xs x × P x)
  some_told [] = inr (λ is. let lt = is.1.1 in absurd (omega arith))
  some_told (x ∷ xs) = at_first (decide x) (some_told xs)
    where
      at_first : Told (P x) → Told ((y : X) × Contains xs y × P y) → Told ((y : X) × Contains (x ∷ xs) y × P y)
      at_first (inl p) rest = inl (x, (zero, omega arith, refl), p)
      at_first (inr not_so) (inl (y, (k, lt, at), p)) = inl (y, (suc k, omega arith, at), p)
      at_first (inr not_so) (inr none) = inr (λ is. neither is.0 is.1 is.2)
        where
          neither : (y : X) → Contains (x ∷ xs) y → P y → ⊥
          neither y (zero, lt, at) p = not_so (subst P (sym at) p)
          neither y (suc k, lt, at) p = none (y, (k, omega arith, at), p)

pub decide_names : (x y : List ℕ) → Told (x ≡ y)
decide_names x y = elim (pointwise nat_eq x y) as (λ r. pointwise nat_eq x y ≡ r → Told (x ≡ y)) [
  | true ↦ λ same. inl (names_equal x y same)
  | false ↦ λ apart. inr (names_differ x y apart)
] refl

-- whether a list has an element
pub member : {X : Type 0} → ((x y : X) → Told (x ≡ y)) → (xs : List X) (y : X) → Told (Contains xs y)
member {X} decide xs y = elim (some_told (λ x. x ≡ y) (λ x. decide x y) xs) [
  | inl is ↦ inl (subst (Contains xs) is.2 is.1)
  | inr none ↦ inr (λ there. none (y, there, refl))
]

at_most : (a b : ℕ) → Told (a ≤ b)
at_most a b = elim (cases_lt b a) [ inl above ↦ inr (λ le. omega arith) | inr le ↦ inl le ]

within_limit : (within : Option ℕ) (ia first : ℕ) → Told (ArrivesWithin within ia first)
within_limit None ia first = inl tt
within_limit (Some hours) ia first = at_most ia (first + hours * 60)

before_own : (app : List ℕ) (key : Key) (ia : ℕ) → Told (app ≡ key.app → ia < key.ia)
before_own app key ia = elim (decide_names app key.app) [
  | inr apart ↦ inl (λ same. absurd (apart same))
  | inl same ↦ elim (cases_lt ia key.ia) [
    | inl below ↦ inl (λ _. below)
    | inr upto ↦ inr (λ is. let lt = is same in omega arith)
  ]
]

decide_candidate : (key : Key) (app : List ℕ) (within : Option ℕ) (a : Arrival) → Told (IsCandidate key app within a)
decide_candidate key app within a = told (both (decide_names a.app app) (both (at_most a.ia key.ia)
    (both (before_own app key a.ia) (within_limit within key.ia a.ia))))
  where
    told : Told ((a.app ≡ app)
        × ((a.ia ≤ key.ia) × ((app ≡ key.app → a.ia < key.ia) × ArrivesWithin within key.ia a.ia)))
        → Told (IsCandidate key app within a)
    told (inl is) = inl (record { of_app = is.0; in_time = is.1.0; before_own = is.1.1.0; close = is.1.1.1 })
    told (inr never) = inr (λ may. never (may.of_app, (may.in_time, (may.before_own, may.close))))

module _ (touch : Touch) (key : Key) (app : List ℕ) (within : Option ℕ) where
  abbrev May : Row → Type 0
  May row = IsCandidate key app within (arrival_of row)

  may_told : (row : Row) → Told (May row)
  may_told row = decide_candidate key app within (arrival_of row)

  moved_told : Told (((row : Row) × Contains touch.made.items row × May row)
      ⊎ ((row : Row) × Contains touch.withdrawn.items row × May row)) → Told (HasMovedBefore touch key app within)
  moved_told (inl (inl (row, there, may))) = inl (row, inl there, may)
  moved_told (inl (inr (row, there, may))) = inl (row, inr there, may)
  moved_told (inr none) = inr (λ (row, moved, may). elim moved [
    | inl there ↦ none (inl (row, there, may))
    | inr there ↦ none (inr (row, there, may))
  ])

  decide_moved : Told (HasMovedBefore touch key app within)
  decide_moved = moved_told
      (either (some_told May may_told touch.made.items) (some_told May may_told touch.withdrawn.items))

pub decide_reaches : (touch : Touch) (links : List Link) (row : Row) → Told (MayReach touch links row)
decide_reaches touch links row = either
    (either (some_told (λ (made : Row). made.serial ≡ row.serial) (λ made. cases_eq made.serial row.serial) touch.made.items)
    (member cases_eq touch.opened.items row.serial))
    (either (member decide_names touch.lists.items row.key.app)
    (some_told (λ link. (link.app ≡ row.key.app) × HasMovedBefore touch row.key link.predecessor link.within)
    (λ link. both (decide_names link.app row.key.app)
    (decide_moved touch row.key link.predecessor link.within)) links))

waits : (status : Status) → Told (status ≡ W)
waits W = inl refl
waits S = inr (λ is. cc)
waits E = inr (λ is. cc)
waits C = inr (λ is. cc)
waits D = inr (λ is. cc)

pub decide_open : (place : Place) → Told (IsOpen place)
decide_open LongTerm = inl tt
decide_open (Current status) = waits status
decide_open History = inr (λ is. is)
decide_open (Deleted reason) = inr (λ is. is)

pub open_lives : (place : Place) → IsOpen place → IsLive place
open_lives LongTerm is = tt
open_lives (Current status) is = λ deleted. cc
open_lives History is = tt
open_lives (Deleted reason) is = is

pub decide_pairs : (x y : Pair) → Told (x ≡ y)
decide_pairs x y = told (both (cases_eq x.successor y.successor) (cases_eq x.predecessor y.predecessor))
  where
    told : Told ((x.successor ≡ y.successor) × (x.predecessor ≡ y.predecessor)) → Told (x ≡ y)
    told (inl same) = inl (λ i. record { successor = same.0 i; predecessor = same.1 i })
    told (inr apart) = inr (λ is. apart (ap (λ (p : Pair). p.successor) is, ap (λ (p : Pair). p.predecessor) is))
