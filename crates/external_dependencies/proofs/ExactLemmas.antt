-- What is found anew where a change reaches leads exactly from the pairs before to those after.
use Rattle.std.proofs.Common.{◌≡◌, ◌↔◌, ◌⊎◌, ℕ, List, Option, sym, subst, ◌∙◌, inl, inr}
use Rattle.std.specs.List.{Contains}
use Rattle.occurrences.specs.Place.{IsLive, IsOpen}
use Rattle.external_dependencies.specs.declared.change.PairChange.{PairChange}
use Rattle.external_dependencies.specs.declared.links.Link.{Link}
use Rattle.external_dependencies.specs.declared.live.Arrival.{Arrival}
use Rattle.external_dependencies.specs.declared.pairs.Pair.{Pair}
use Rattle.external_dependencies.specs.declared.rows.PlacedRow.{PlacedRow}
use Rattle.external_dependencies.specs.Change.{Leads}
use Rattle.external_dependencies.specs.Link.{ListsWithin}
use Rattle.external_dependencies.specs.Nearest.{IsLiveIn, IsNearest}
use Rattle.external_dependencies.specs.Pair.{IsPairAmong, IsPairOf}
use Rattle.external_dependencies.specs.declared.touch.Touch.{Touch}
use Rattle.external_dependencies.specs.Change.{LeadsExactly}
use Rattle.external_dependencies.specs.Reached.{AreAsked, HasSerialOf, HoldsReached, IsReachedIn}
use Rattle.external_dependencies.specs.Settled.{AreSettled, IsSettledPair}
use Rattle.external_dependencies.specs.Touch.{HasRowOf, MayReach, Touches}
use Rattle.external_dependencies.proofs.NearestLemmas.{limited_alike}
use Rattle.external_dependencies.proofs.ToldLemmas.{decide_open, decide_pairs, decide_reaches, member, open_lives}
use Rattle.external_dependencies.proofs.UnreachedLemmas.{pairs_stay}

-- the pairs of those, and of what was withdrawn
abbrev pub AreHad : Touch → List Link → List PlacedRow → List Pair → List Pair → Type 0
AreHad touch links rows pairs had =
    (pair : Pair) → Contains had pair
    ↔ (Contains pairs pair × (IsReachedIn touch links rows pair.successor ⊎ HasRowOf touch.withdrawn.items pair.successor))

abbrev pub AreFound : List PlacedRow → List PlacedRow → List Link → List Pair → Type 0
AreFound rows asked links found = (pair : Pair) → Contains found pair ↔ IsPairAmong rows asked links pair

module _ (touch : Touch) (was now : List PlacedRow) (was_links links : List Link)
    (turn : Touches touch was now was_links links) (old : List Pair) (settled : AreSettled was was_links old)
    (rows : List PlacedRow) (pairs : List Pair) (holds : HoldsReached touch links now old rows pairs)
    (asked : List PlacedRow) (are_asked : AreAsked touch links rows asked)
    (had : List Pair) (are_had : AreHad touch links rows pairs had)
    (found : List Pair) (are_found : AreFound rows asked links found) where
  -- with a limit too, the rows have whatever is nearest
  alike : (q : PlacedRow) → Contains now q → IsOpen q.place → MayReach touch links q.row → (app : List ℕ)
      (within : Option ℕ) → ListsWithin links q.row.key.app app within → (near : Arrival)
      → IsNearest (IsLiveIn rows) q.row.key app within near ↔ IsNearest (IsLiveIn now) q.row.key app within near
  alike q stands waits reach app within listed near = limited_alike (IsLiveIn rows) (IsLiveIn now) q.row.key app within
      near (holds.nearest q stands waits reach app (within, listed) near)

  found_new : (pair : Pair) → Contains found pair → IsPairOf now links pair
  found_new pair there =
      let is = (are_found pair).0 there in
      let asks = (are_asked is.placed).0 is.stands in
      let stands = holds.rows_stand is.placed asks.0 in
      record {
        placed = is.placed;
        stands = stands;
        waits = is.waits;
        successor = is.successor;
        app = is.app;
        within = is.within;
        listed = is.listed;
        near = is.near;
        nearest = (alike is.placed stands is.waits asks.1.1 is.app is.within is.listed is.near).0 is.nearest;
        predecessor = is.predecessor;
      }

  new_found : (pair : Pair) → IsReachedIn touch links now pair.successor → IsSettledPair old now links pair
      → Contains found pair
  new_found pair (q, stands, serial, is_open, reached) (inl is) =
      let one : q ≡ is.placed = turn.once_after q is.placed stands is.stands (serial ∙ sym is.successor) in
      let reached' : MayReach touch links is.placed.row =
      subst (λ (p : PlacedRow). MayReach touch links p.row) one reached in
      let here = holds.reached is.placed is.stands is.waits reached' in
      (are_found pair).1 (record {
        placed = is.placed;
        stands = (are_asked is.placed).1 (here, (is.waits, reached'));
        waits = is.waits;
        successor = is.successor;
        app = is.app;
        within = is.within;
        listed = is.listed;
        near = is.near;
        nearest = (alike is.placed is.stands is.waits reached' is.app is.within is.listed is.near).1 is.nearest;
        predecessor = is.predecessor;
      })
  new_found pair (q, stands, serial, is_open, reached) (inr kept) =
      let one : q ≡ kept.placed = turn.once_after q kept.placed stands kept.stands (serial ∙ sym kept.successor) in
      absurd (kept.closed (subst (λ (p : PlacedRow). IsOpen p.place) one is_open))

  reached_now : (serial : ℕ) → IsReachedIn touch links rows serial → IsReachedIn touch links now serial
  reached_now serial (q, there, same, is_open, reached) = (q, holds.rows_stand q there, same, is_open, reached)

  -- what was withdrawn has no pair after the change
  gone_none : (pair : Pair) → HasRowOf touch.withdrawn.items pair.successor → IsSettledPair old now links pair → ⊥
  gone_none pair gone (inl is) = turn.withdrawn is.placed is.stands (open_lives is.placed.place is.waits)
      (subst (HasRowOf touch.withdrawn.items) (sym is.successor) gone)
  gone_none pair gone (inr kept) = turn.withdrawn kept.placed kept.stands kept.live
      (subst (HasRowOf touch.withdrawn.items) (sym kept.successor) gone)

  had_old : (pair : Pair) → Contains had pair → Contains old pair
  had_old pair there = holds.pairs_stood pair ((are_had pair).0 there).0

  had_where : (pair : Pair) → IsReachedIn touch links rows pair.successor ⊎ HasRowOf touch.withdrawn.items pair.successor
      → IsSettledPair old now links pair → (Contains found pair → ⊥) → ⊥
  had_where pair (inl reached) new not_found = not_found (new_found pair (reached_now pair.successor reached) new)
  had_where pair (inr gone) new not_found = gone_none pair gone new

  in_rows : (q : PlacedRow) → Contains now q → IsOpen q.place → MayReach touch links q.row → (serial : ℕ)
      → q.row.serial ≡ serial → IsReachedIn touch links rows serial
  in_rows q stands is_open reached serial same =
      (q, holds.reached q stands is_open reached, same, is_open, reached)

  -- a pair that stood is among those had, or stands
  old_told : (pair : Pair) → Contains old pair → Contains had pair ⊎ IsSettledPair old now links pair
  old_told pair there = elim ((settled pair).0 there) [
    | inl is ↦ lived is.placed is.stands (open_lives is.placed.place is.waits) is.successor
    | inr kept ↦ lived kept.placed kept.stands kept.live kept.successor
  ]
    where
      at : (q : PlacedRow) → Contains now q → IsLive q.place → q.row.serial ≡ pair.successor
          → Contains had pair ⊎ IsSettledPair old now links pair
      at q stands live same = elim (decide_open q.place) [
        | inr closed ↦ inr (inr (record {
          placed = q;
          stands = stands;
          successor = same;
          live = live;
          closed = closed;
          had = there;
        }))
        | inl is_open ↦ elim (decide_reaches touch links q.row) [
          | inl reached ↦ inl ((are_had pair).1 (
            holds.had pair there (inl (q, stands, same, is_open, reached)),
            inl (in_rows q stands is_open reached pair.successor same),
          ))
          | inr unreached ↦ inr ((pairs_stay touch was now was_links links turn old settled q stands is_open
              unreached pair same).0 there)
        ]
      ]

      lived : (p : PlacedRow) → Contains was p → IsLive p.place → p.row.serial ≡ pair.successor
          → Contains had pair ⊎ IsSettledPair old now links pair
      lived p stood live same = elim (turn.lives_on p stood live) [
        | inl on ↦ at on.0 on.1 on.2 (on.3 ∙ same)
        | inr gone ↦
            let gone' : HasRowOf touch.withdrawn.items pair.successor = (p.row, gone, same) in
            inl ((are_had pair).1 (holds.had pair there (inr gone'), inr gone'))
      ]

  -- a pair that stands is among those found, or stood
  new_told : (pair : Pair) → IsSettledPair old now links pair → Contains found pair ⊎ Contains old pair
  new_told pair (inr kept) = inr kept.had
  new_told pair (inl is) = elim (decide_reaches touch links is.placed.row) [
    | inl reached ↦ inl (new_found pair (is.placed, is.stands, is.successor, is.waits, reached) (inl is))
    | inr unreached ↦ inr ((pairs_stay touch was now was_links links turn old settled is.placed is.stands
        is.waits unreached pair is.successor).1 (inl is))
  ]

  found_had : (pair : Pair) → Contains found pair → Contains old pair → Contains had pair
  found_had pair there stood =
      let is = (are_found pair).0 there in
      let asks = (are_asked is.placed).0 is.stands in
      let reached : IsReachedIn touch links rows pair.successor =
      (is.placed, asks.0, is.successor, asks.1.0, asks.1.1) in
      (are_had pair).1 (holds.had pair stood (inl (reached_now pair.successor reached)), inl reached)

  pub leads_exactly : (change : PairChange) → Leads had found change
      → LeadsExactly old (IsSettledPair old now links) change
  leads_exactly change leads = record {
    removed = λ pair. ((λ there. gone pair ((leads.removed pair).0 there)), λ is. to_go pair is.0 is.1);
    added = λ pair. ((λ there. come pair ((leads.added pair).0 there)), λ is. to_come pair is.0 is.1);
    stays = λ pair stood. elim (old_told pair stood) [
      | inr new ↦ inr new
      | inl here ↦ elim (member decide_pairs found pair) [
        | inl there ↦ inr (inl (found_new pair there))
        | inr lacks ↦ inl ((leads.removed pair).1 (here, lacks))
      ]
    ];
    comes = λ pair new. elim (new_told pair new) [
      | inr stood ↦ inl stood
      | inl there ↦ elim (member decide_pairs had pair) [
        | inl here ↦ inl (had_old pair here)
        | inr lacks ↦ inr ((leads.added pair).1 (there, lacks))
      ]
    ];
  }
    where
      gone : (pair : Pair) → Contains had pair × (Contains found pair → ⊥)
          → Contains old pair × (IsSettledPair old now links pair → ⊥)
      gone pair is = (had_old pair is.0, λ new. had_where pair ((are_had pair).0 is.0).1 new is.1)

      come : (pair : Pair) → Contains found pair × (Contains had pair → ⊥)
          → IsSettledPair old now links pair × (Contains old pair → ⊥)
      come pair is = (inl (found_new pair is.0), λ stood. is.1 (found_had pair is.0 stood))

      to_go : (pair : Pair) → Contains old pair → (IsSettledPair old now links pair → ⊥) → Contains change.removed pair
      to_go pair stood not_new = elim (old_told pair stood) [
        | inl here ↦ (leads.removed pair).1 (here, λ there. not_new (inl (found_new pair there)))
        | inr new ↦ absurd (not_new new)
      ]

      to_come : (pair : Pair) → IsSettledPair old now links pair → (Contains old pair → ⊥) → Contains change.added pair
      to_come pair new not_old = elim (new_told pair new) [
        | inl there ↦ (leads.added pair).1 (there, λ here. not_old (had_old pair here))
        | inr stood ↦ absurd (not_old stood)
      ]

-- the pairs of the serials of those rows, and of what was withdrawn
pub had_from : (touch : Touch) (links : List Link) (rows asked : List PlacedRow) → AreAsked touch links rows asked
    → (pairs had : List Pair) (serials : List ℕ)
    → ((n : ℕ) → Contains serials n ↔ (HasSerialOf asked n ⊎ HasRowOf touch.withdrawn.items n))
    → ((pair : Pair) → Contains had pair ↔ (Contains pairs pair × Contains serials pair.successor))
    → AreHad touch links rows pairs had
had_from touch links rows asked are_asked pairs had serials are_serials are_had pair = (
  (λ there. let both = (are_had pair).0 there in (both.0, from ((are_serials pair.successor).0 both.1))),
  λ is. (are_had pair).1 (is.0, (are_serials pair.successor).1 (to is.1)),
)
  where
    from : HasSerialOf asked pair.successor ⊎ HasRowOf touch.withdrawn.items pair.successor
        → IsReachedIn touch links rows pair.successor ⊎ HasRowOf touch.withdrawn.items pair.successor
    from (inr gone) = inr gone
    from (inl (q, there, same)) = let is = (are_asked q).0 there in inl (q, is.0, same, is.1.0, is.1.1)

    to : IsReachedIn touch links rows pair.successor ⊎ HasRowOf touch.withdrawn.items pair.successor
        → HasSerialOf asked pair.successor ⊎ HasRowOf touch.withdrawn.items pair.successor
    to (inr gone) = inr gone
    to (inl (q, there, same, is_open, reached)) = inl (q, (are_asked q).1 (there, (is_open, reached)), same)
