-- Pairs from scratch, and those that stay.
use Rattle.std.proofs.Common.{◌≡◌, ◌↔◌, ◌⊎◌, ℕ, Option, List, [], ◌∷◌, ◌++◌, sym, ap, subst, ◌∙◌, inl, inr}
use Rattle.std.specs.List.{Contains}
use Rattle.std.proofs.lemmas.List.Elements.{Contains-append_cases, Contains-append_left, Contains-append_right}
use Rattle.std.proofs.lemmas.List.Elements.{Contains-push, Contains-push_cases}
use Rattle.occurrences.specs.Place.{IsLive, IsOpen}
use Rattle.occurrences.specs.declared.key.Key.{Key}
use Rattle.occurrences.specs.declared.place.Place.{Place}
use Rattle.occurrences.specs.declared.place.Place.TheVariants.{LongTerm, Current, History, Deleted}
use Rattle.occurrences.specs.declared.status.Status.TheVariants.{W, D}
use Rattle.external_dependencies.specs.Nearest.{IsLiveIn, IsNearest}
use Rattle.external_dependencies.specs.Pair.{IsPairOf}
use Rattle.external_dependencies.specs.declared.links.Link.{Link}
use Rattle.external_dependencies.specs.declared.live.Arrival.{Arrival}
use Rattle.external_dependencies.specs.declared.pairs.Pair.{Pair}
use Rattle.external_dependencies.specs.declared.rows.PlacedRow.{PlacedRow}
use Rattle.planner_machine.specs.Content.{Sets, IsOnlyAt}
use Rattle.planner_machine.specs.Pairs.{IsKeptPair, IsOpenPair, LiveAt}
use Rattle.plan_store_pairs.specs.LiveRows.{AreLiveRows, HasPairsAfter}
use Rattle.plan_store_pairs.proofs.ListLemmas.{none}

-- one of the rows is no longer open, and had the pair
pub record IsHeldPair (before : List Pair) (rows : List PlacedRow) (pair : Pair) : Type 0 where
  pub placed : PlacedRow
  pub stands : Contains rows placed
  pub closed : IsOpen placed.place → ⊥
  pub successor : placed.row.serial ≡ pair.successor
  pub had : Contains before pair

-- the pairs of all rows from scratch, and those that some rows hold
abbrev pub AreSoFar : List PlacedRow → List Link → List Pair → List PlacedRow → List Pair → Type 0
AreSoFar all links before rows pairs = (pair : Pair) → Contains pairs pair
    ↔ (IsPairOf all links pair ⊎ IsHeldPair before rows pair)

module _ (all : List PlacedRow) (links : List Link) (before : List Pair) where
  pub held_none : (pairs : List Pair) → ((pair : Pair) → Contains pairs pair ↔ IsPairOf all links pair)
      → AreSoFar all links before [] pairs
  held_none pairs are pair = (
    (λ there. inl ((are pair).0 there)),
    λ is. elim is [ inl open' ↦ (are pair).1 open' | inr held ↦ absurd (none held.placed held.stands) ],
  )

  module _ (rows : List PlacedRow) (pairs : List Pair) (so_far : AreSoFar all links before rows pairs)
      (placed : PlacedRow) where
    wider : (pair : Pair) → IsHeldPair before rows pair → IsHeldPair before (rows ++ placed ∷ []) pair
    wider pair held =
        record {
          placed = held.placed;
          stands = Contains-append_left rows (placed ∷ []) held.placed held.stands;
          closed = held.closed;
          successor = held.successor;
          had = held.had;
        }

    pub held_skip : IsOpen placed.place → AreSoFar all links before (rows ++ placed ∷ []) pairs
    held_skip waits pair = (
      (λ there. elim ((so_far pair).0 there) [ inl open' ↦ inl open' | inr held ↦ inr (wider pair held) ]),
      λ is. (so_far pair).1 (elim is [
        | inl open' ↦ inl open'
        | inr held ↦ elim (Contains-push_cases rows placed held.placed held.stands) [
          | inl old ↦
              inr (record {
                placed = held.placed;
                stands = old;
                closed = held.closed;
                successor = held.successor;
                had = held.had;
              })
          | inr same ↦ absurd (held.closed (subst (λ (p : PlacedRow). IsOpen p.place) same waits))
        ]
      ]),
    )

    pub held_more : (IsOpen placed.place → ⊥) → (own : List Pair)
        → ((pair : Pair) → Contains own pair ↔ (Contains before pair × (pair.successor ≡ placed.row.serial)))
        → AreSoFar all links before (rows ++ placed ∷ []) (pairs ++ own)
    held_more closed own own_is pair = (
      (λ there. elim (Contains-append_cases pairs own pair there) [
        | inl old ↦ elim ((so_far pair).0 old) [ inl open' ↦ inl open' | inr held ↦ inr (wider pair held) ]
        | inr new ↦ let is = (own_is pair).0 new in inr
            (record {
              placed = placed;
              stands = Contains-push rows placed;
              closed = closed;
              successor = sym is.1;
              had = is.0;
            })
      ]),
      λ is. elim is [
        | inl open' ↦ Contains-append_left pairs own pair ((so_far pair).1 (inl open'))
        | inr held ↦ elim (Contains-push_cases rows placed held.placed held.stands) [
          | inl old ↦ Contains-append_left pairs own pair
              ((so_far pair).1
              (inr (record {
                placed = held.placed;
                stands = old;
                closed = held.closed;
                successor = held.successor;
                had = held.had;
              })))
          | inr same ↦ Contains-append_right pairs own pair
              ((own_is pair).1 (held.had, sym held.successor ∙ ap (λ (p : PlacedRow). p.row.serial) (sym same)))
        ]
      ],
    )

-- the nearest among arrivals is that among the same arrivals
pub same_nearest : (P Q : Arrival → Type 0) → ((x : Arrival) → P x → Q x) → ((x : Arrival) → Q x → P x)
    → (key : Key) (app : List ℕ) (within : Option ℕ) (near : Arrival)
    → IsNearest P key app within near → IsNearest Q key app within near
same_nearest P Q to from key app within near is = record {
  live = to near is.live;
  candidate = is.candidate;
  greatest = λ other live. is.greatest other (from other live);
  last = λ other live. is.last other (from other live);
}

pub open_is_live : (place : Place) → IsOpen place → IsLive place
open_is_live LongTerm waits = tt
open_is_live (Current status) waits = λ deleted. let no : W ≡ D = sym waits ∙ deleted in cc
open_is_live History waits = absurd waits
open_is_live (Deleted reason) waits = absurd waits

module _ (s : Sets) (rows : List PlacedRow) (are : AreLiveRows s rows) where
  pub live_to : (x : Arrival) → LiveAt s x → IsLiveIn rows x
  live_to x (serial, p, stands, live, arrives) = (p, (are.all serial p stands live).0, live, arrives)

  pub live_from : (x : Arrival) → IsLiveIn rows x → LiveAt s x
  live_from x (p, there, live, arrives) = (p.row.serial, p, (are.only p there).0, live, arrives)

  -- the pairs of the list from scratch, with those that it holds, are the pairs after a statement
  pub pairs_are : (links : List Link) (before pairs : List Pair) → AreSoFar rows links before rows pairs
      → HasPairsAfter before links s pairs
  pairs_are links before pairs so_far pair = (forward pair, backward pair)
    where
      forward : (pair : Pair) → Contains pairs pair → IsOpenPair links s pair ⊎ IsKeptPair before s pair
      forward pair there = elim ((so_far pair).0 there) [
        | inl is ↦ inl (record {
          placed = is.placed;
          stands = subst (λ n. IsOnlyAt s n is.placed) is.successor (are.only is.placed is.stands).0;
          waits = is.waits;
          app = is.app;
          within = is.within;
          listed = is.listed;
          near = is.near;
          nearest = same_nearest (IsLiveIn rows) (LiveAt s) live_from live_to is.placed.row.key is.app is.within is.near
              is.nearest;
          predecessor = is.predecessor;
        })
        | inr held ↦ inr (record {
          placed = held.placed;
          stands = subst (λ n. IsOnlyAt s n held.placed) held.successor (are.only held.placed held.stands).0;
          live = (are.only held.placed held.stands).1;
          waits_no_more = held.closed;
          had = held.had;
        })
      ]

      backward : (pair : Pair) → IsOpenPair links s pair ⊎ IsKeptPair before s pair → Contains pairs pair
      backward pair cases = (so_far pair).1 (elim cases [
        | inl is ↦ let in_list = are.all pair.successor is.placed is.stands (open_is_live is.placed.place is.waits) in
            inl (record {
              placed = is.placed;
              stands = in_list.0;
              waits = is.waits;
              successor = in_list.1;
              app = is.app;
              within = is.within;
              listed = is.listed;
              near = is.near;
              nearest = same_nearest (LiveAt s) (IsLiveIn rows) live_to live_from is.placed.row.key is.app is.within is.near
                  is.nearest;
              predecessor = is.predecessor;
            })
        | inr kept ↦ let in_list = are.all pair.successor kept.placed kept.stands kept.live in inr (record {
          placed = kept.placed;
          stands = in_list.0;
          closed = kept.waits_no_more;
          successor = in_list.1;
          had = kept.had;
        })
      ])
