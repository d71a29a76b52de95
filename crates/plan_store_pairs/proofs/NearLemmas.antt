-- The nearest of the live occurrences that may precede a key: there is one where any may precede it.
use Rattle.std.proofs.Common.{◌≡◌, ◌⊎◌, ℕ, ◌+◌, ◌*◌, ◌<◌, ◌≤◌, List, [], ◌∷◌, map, sym, subst}
use Rattle.std.proofs.Common.{inl, inr, arith, Option, Some, None}
use Rattle.std.specs.List.{Contains}
use Rattle.std.proofs.lemmas.Bool.{cases_lt}
use Rattle.occurrences.specs.declared.key.Key.{Key}
use Rattle.occurrences.specs.declared.row.Row.{Row}
use Rattle.external_dependencies.specs.Nearest.{ArrivesWithin, IsCandidate, IsNearest, arrival_of}
use Rattle.external_dependencies.specs.declared.live.Arrival.{Arrival}
use Rattle.external_dependencies.specs.declared.rows.PlacedRow.{PlacedRow}
use Rattle.external_dependencies.proofs.HoldsLemmas.{IsNoLater, no_later_itself, no_later_on}
use Rattle.planner_machine.specs.Content.{Sets}
use Rattle.planner_machine.specs.Pairs.{LiveAt}
use Rattle.planner_machine.specs.Sound.{AreNumbered}
use Rattle.plan_store_pairs.specs.Gathering.{IsUpToNext, MayPrecede}
use Rattle.plan_store_pairs.specs.LiveRows.{AreLiveRows}
use Rattle.plan_store_pairs.specs.declared.gathering.Reached.{Reached}
use Rattle.plan_store_pairs.proofs.ListLemmas.{first_or_later, further, here, none}
use Rattle.plan_store_pairs.proofs.LiveLemmas.{live_rows}
use Rattle.external_dependencies.proofs.MapLemmas.{map_back, map_has}
use Rattle.plan_store_pairs.proofs.TouchedLemmas.{same_or_not}

-- what arrives later is as close
pub closer : (within : Option ℕ) (ia first later : ℕ) → ArrivesWithin within ia first → first ≤ later
    → ArrivesWithin within ia later
closer None ia first later close le = tt
closer (Some hours) ia first later close le = omega (arith, close, le)

-- where nothing that may precede the occurrence arrives later than the row that may, no live one of the row's application
-- arrives between them
pub up_to_next : (s : Sets) (row : Row) (x : Reached) → MayPrecede row x
    → ((other : Arrival) → LiveAt s other → IsCandidate x.placed.row.key row.key.app x.within other
    → other.ia ≤ row.key.ia) → IsUpToNext s row x.placed.row.key.ia
up_to_next s row x may latest n live of_app later = elim (cases_lt n.ia x.placed.row.key.ia) [
  | inr upto ↦ upto
  | inl before ↦
      let le = latest n live (record {
        of_app = of_app;
        in_time = omega arith;
        before_own = λ _. before;
        close = closer x.within x.placed.row.key.ia row.key.ia n.ia may.close (omega arith);
      }) in
      omega (arith, le, later)
]

cases_within : (within : Option ℕ) (ia first : ℕ) → ArrivesWithin within ia first ⊎ (ArrivesWithin within ia first → ⊥)
cases_within None ia first = inl tt
cases_within (Some hours) ia first = elim (cases_lt (first + hours * 60) ia) [
  | inl past ↦ inr (λ close. omega (arith, past, close))
  | inr close ↦ inl close
]

cases_before : (app own : List ℕ) (first ia : ℕ) → (app ≡ own → first < ia) ⊎ ((app ≡ own → first < ia) → ⊥)
cases_before app own first ia = elim (cases_lt first ia) [
  | inl before ↦ inl (λ _. before)
  | inr after ↦ elim (same_or_not app own) [
    | inl same ↦ inr (λ is. let lt = is same in omega (arith, after, lt))
    | inr differ ↦ inl (λ same. absurd (differ same))
  ]
]

-- an arrival may precede the key, or not
pub cases_candidate : (key : Key) (app : List ℕ) (within : Option ℕ) (a : Arrival)
    → IsCandidate key app within a ⊎ (IsCandidate key app within a → ⊥)
cases_candidate key app within a = elim (same_or_not a.app app) [
  | inr differ ↦ inr (λ is. differ is.of_app)
  | inl of_app ↦ elim (cases_lt key.ia a.ia) [
    | inl late ↦ inr (λ is. let in_time = is.in_time in omega (arith, late, in_time))
    | inr in_time ↦ elim (cases_before app key.app a.ia key.ia) [
      | inr not ↦ inr (λ is. not is.before_own)
      | inl before_own ↦ elim (cases_within within key.ia a.ia) [
        | inr far ↦ inr (λ is. far is.close)
        | inl close ↦ inl (record { of_app = of_app; in_time = in_time; before_own = before_own; close = close })
      ]
    ]
  ]
]

-- of two arrivals one is no later
no_later_or : (a b : Arrival) → IsNoLater a b ⊎ IsNoLater b a
no_later_or a b = elim (cases_lt a.ia b.ia) [
  | inl before ↦ inl (record { moment = omega arith; serial = λ same. absurd (omega (arith, before, same)) })
  | inr upto ↦ elim (cases_lt b.ia a.ia) [
    | inl after ↦ inr (record { moment = omega arith; serial = λ same. absurd (omega (arith, after, same)) })
    | inr down ↦ elim (cases_lt a.serial b.serial) [
      | inl less ↦ inl (record { moment = omega arith; serial = λ _. omega arith })
      | inr more ↦ inr (record { moment = omega arith; serial = λ _. more })
    ]
  ]
]

module _ (key : Key) (app : List ℕ) (within : Option ℕ) where
  -- of the arrivals that may precede the key the latest
  record IsTop (live : List Arrival) (near : Arrival) : Type 0 where
    there : Contains live near
    candidate : IsCandidate key app within near
    latest : (other : Arrival) → Contains live other → IsCandidate key app within other → IsNoLater other near

  top_of : (live : List Arrival)
      → ((a : Arrival) → Contains live a → IsCandidate key app within a → ⊥) ⊎ ((near : Arrival) × IsTop live near)
  top_of [] = inl (λ a there may. none a there)
  top_of (x ∷ xs) = elim (top_of xs) [
    | inl never ↦ elim (cases_candidate key app within x) [
      | inr not ↦ inl (λ a there may. elim (first_or_later x a xs there) [
        | inl same ↦ not (subst (IsCandidate key app within) (sym same) may)
        | inr later ↦ never a later may
      ])
      | inl may ↦ inr (
        x,
        record {
          there = here x xs;
          candidate = may;
          latest = λ a there m. elim (first_or_later x a xs there) [
            | inl same ↦ subst (λ (b : Arrival). IsNoLater b x) same (no_later_itself x)
            | inr later ↦ absurd (never a later m)
          ];
        },
      )
    ]
    | inr (near, top) ↦ elim (cases_candidate key app within x) [
      | inr not ↦ inr (
        near,
        record {
          there = further x near xs top.there;
          candidate = top.candidate;
          latest = λ a there m. elim (first_or_later x a xs there) [
            | inl same ↦ absurd (not (subst (IsCandidate key app within) (sym same) m))
            | inr later ↦ top.latest a later m
          ];
        },
      )
      | inl may ↦ elim (no_later_or x near) [
        | inl below ↦ inr (
          near,
          record {
            there = further x near xs top.there;
            candidate = top.candidate;
            latest = λ a there m. elim (first_or_later x a xs there) [
              | inl same ↦ subst (λ (b : Arrival). IsNoLater b near) same below
              | inr later ↦ top.latest a later m
            ];
          },
        )
        | inr above ↦ inr (
          x,
          record {
            there = here x xs;
            candidate = may;
            latest = λ a there m. elim (first_or_later x a xs there) [
              | inl same ↦ subst (λ (b : Arrival). IsNoLater b x) same (no_later_itself x)
              | inr later ↦ no_later_on a near x (top.latest a later m) above
            ];
          },
        )
      ]
    ]
  ]

  module _ (s : Sets) (rows : List PlacedRow) (are : AreLiveRows s rows) where
    abbrev arrivals : List Arrival
    arrivals = map (λ (p : PlacedRow). arrival_of p.row) rows

    to_list : (a : Arrival) → LiveAt s a → Contains arrivals a
    to_list a (serial, p, stands, live, arrives) = subst (Contains arrivals) arrives
        (map_has (λ (q : PlacedRow). arrival_of q.row) rows p (are.all serial p stands live).0)

    from_list : (a : Arrival) → Contains arrivals a → LiveAt s a
    from_list a there =
        let (p, at, same) = map_back (λ (q : PlacedRow). arrival_of q.row) rows a there in
        let is = are.only p at in
        (p.row.serial, p, is.0, is.1, same)

    top_nearest : (near : Arrival) → IsTop arrivals near → IsNearest (LiveAt s) key app within near
    top_nearest near top = record {
      live = from_list near top.there;
      candidate = top.candidate;
      greatest = λ other live may. (top.latest other (to_list other live) may).moment;
      last = λ other live may. (top.latest other (to_list other live) may).serial;
    }

    exists_in : (other : Arrival) → LiveAt s other → IsCandidate key app within other
        → (near : Arrival) × IsNearest (LiveAt s) key app within near
    exists_in other live may = elim (top_of arrivals) [
      | inl never ↦ absurd (never other (to_list other live) may)
      | inr (near, top) ↦ (near, top_nearest near top)
    ]

  -- where any live occurrence may precede the key, one is the nearest
  pub near_exists : (s : Sets) → AreNumbered s → (other : Arrival) → LiveAt s other → IsCandidate key app within other
      → (near : Arrival) × IsNearest (LiveAt s) key app within near
  near_exists s numbered other live may =
      let (rows, are) = live_rows s numbered in exists_in s rows are other live may
