-- A row that waits again: its pairs are found anew, and all others stay.
use Rattle.std.proofs.Common.{◌≡◌, ◌≢◌, ◌⊎◌, ℕ, Bool, true, false, List, ◌++◌, filter, refl, sym, ap, subst, ◌∙◌}
use Rattle.std.proofs.Common.{inl, inr, Some}
use Rattle.std.specs.Prelude.{nat_eq, not, if◌then◌else◌}
use Rattle.std.specs.List.{Contains}
use Rattle.std.proofs.lemmas.Bool.{cases_eq, ne_eqb, eq-eqb}
use Rattle.std.proofs.lemmas.List.Elements.{Contains-append_cases, Contains-append_left, Contains-append_right}
use Rattle.occurrences.specs.Place.{IsLive, IsOpen}
use Rattle.occurrences.specs.Status.{changed_status}
use Rattle.occurrences.specs.declared.key.Key.{Key}
use Rattle.occurrences.specs.declared.place.CurrentRow.{CurrentRow}
use Rattle.occurrences.specs.declared.place.Place.{Place}
use Rattle.occurrences.specs.declared.place.Place.TheVariants.{LongTerm, Current, History, Deleted}
use Rattle.occurrences.specs.declared.row.Row.{Row}
use Rattle.occurrences.specs.declared.status.Action.TheVariants.{Reset}
use Rattle.occurrences.specs.declared.status.Status.{Status}
use Rattle.occurrences.specs.declared.status.Status.TheVariants.{W, S, E, C, D}
use Rattle.external_dependencies.specs.Change.{Leads}
use Rattle.external_dependencies.specs.Nearest.{IsNearest, arrival_of}
use Rattle.external_dependencies.specs.declared.change.PairChange.{PairChange}
use Rattle.external_dependencies.specs.declared.live.Arrival.{Arrival}
use Rattle.external_dependencies.specs.declared.pairs.Pair.{Pair}
use Rattle.external_dependencies.specs.declared.rows.PlacedRow.{PlacedRow}
use Rattle.planner_machine.specs.Act.{acted_status, action_move}
use Rattle.planner_machine.specs.Content.{Content, Sets, IsOnlyAt, alone}
use Rattle.planner_machine.specs.Fate.{place_after_action}
use Rattle.planner_machine.specs.Moves.{each, has_key}
use Rattle.planner_machine.specs.Pairs.{ArePairs, IsKeptPair, IsOpenPair, LiveAt}
use Rattle.planner_machine.specs.Sound.{IsSound}
use Rattle.planner_machine.proofs.ActionLemmas.{action_is_move, action_live, stands_in_cp}
use Rattle.planner_machine.specs.RowsSound.{RowsSound}
use Rattle.planner_machine.proofs.SeatLemmas.{going, one_place, stands_after, stood_before}
use Rattle.planner_machine.proofs.SoundLemmas.{rows_sound}
use Rattle.plan_store.specs.Changes.{LeadsOn, pairs_after}
use Rattle.plan_store_pairs.specs.LiveRows.{HasPairsAfter}
use Rattle.plan_store_pairs.specs.RowPairs.{IsRowPair}
use Rattle.plan_store.proofs.PairLemmas.{leads_on, pairs_after_rising}
use Rattle.plan_store_pairs.proofs.ChangeLemmas.{pairs_after_are, pairs_same}
use Rattle.plan_store_pairs.proofs.ListLemmas.{filter_has, filter_keeps}
use Rattle.plan_store_pairs.proofs.ScratchLemmas.{same_nearest}
use Rattle.daily_planning.specs.Actions.{IsActedOn, LeadsToRowPairs}
use Rattle.daily_planning.proofs.ActLemmas.{own_status, place_stays}

-- only pairs of the row go that it had, and only such come that it had not
pub reset_leads : (c : Content) (row : Row) (change : PairChange) → LeadsToRowPairs c row change
    → LeadsOn c.pairs change
reset_leads c row change is =
    leads_on change c.pairs (λ p gone. ((is.had_are p).0 ((is.leads.removed p).0 gone).0).0)
    (λ p new there.
    let both = (is.leads.added p).0 new in
    both.1 ((is.had_are p).1 (there, sym ((is.now_are p).0 both.0).successor)))

-- only an error is reset, and waits then
pub was_in_error : (was now : Status) → changed_status was Reset ≡ Some now → now ≡ W
was_in_error W now is = cc
was_in_error S now is = cc
was_in_error E now is = let same : W ≡ now = cc in sym same
was_in_error C now is = cc
was_in_error D now is = cc

reset_lives : (b : Bool) (status : Status) → status ≢ D → (if b then acted_status Reset status else status) ≢ D
reset_lives false status live = live
reset_lives true W live = live
reset_lives true S live = live
reset_lives true E live = λ e. cc
reset_lives true C live = live
reset_lives true D live = live

live_after : (key : Key) (row : Row) (was : Place) → IsLive was → IsLive (place_after_action key Reset row was)
live_after key row LongTerm live = live
live_after key row (Current status) live = reset_lives (has_key key row) status live
live_after key row History live = live
live_after key row (Deleted reason) live = live

module _ (c : Content) (sound : IsSound c) (changed : CurrentRow) (is : IsActedOn c Reset changed) where
  abbrev key : Key
  key = changed.row.key

  abbrev serial : ℕ
  serial = changed.row.serial

  abbrev go : PlacedRow → PlacedRow
  go = going (place_after_action key Reset)

  rows : RowsSound c.sets
  rows = rows_sound c sound

  abbrev sets' : Sets
  sets' = each (action_move key Reset) c.sets

  on : (n : ℕ) (p : PlacedRow) → IsOnlyAt c.sets n p → IsOnlyAt sets' n (go p)
  on = stands_after (action_move key Reset) go (action_is_move key Reset) c.sets rows c.sets.bounds

  back : (n : ℕ) (q : PlacedRow) → IsOnlyAt sets' n q → (p : PlacedRow) × IsOnlyAt c.sets n p × (go p ≡ q)
  back = stood_before (action_move key Reset) go (action_is_move key Reset) c.sets rows c.sets.bounds

  live_on : (a : Arrival) → LiveAt c.sets a → LiveAt sets' a
  live_on a (n, p, there, live, arrives) = (n, go p, on n p there, live_after key p.row p.place live, arrives)

  live_back : (a : Arrival) → LiveAt sets' a → LiveAt c.sets a
  live_back a (n, q, there, live, arrives) =
      let (p, was, same) = back n q there in (
        n,
        p,
        was,
        action_live key Reset p.row p.place (subst (λ (y : PlacedRow). IsLive y.place) (sym same) live),
        ap (λ (y : PlacedRow). arrival_of y.row) same ∙ arrives,
      )

  -- a row under another serial stays where it is
  other_on : (n : ℕ) (p : PlacedRow) → n ≢ serial → IsOnlyAt c.sets n p → IsOnlyAt sets' n p
  other_on n p other there =
      let same : place_after_action key Reset p.row p.place ≡ p.place =
      place_stays c sound Reset changed is n p other there in
      on n p there ∙ ap (alone p.row) same

  other_back : (n : ℕ) (q : PlacedRow) → n ≢ serial → IsOnlyAt sets' n q → IsOnlyAt c.sets n q
  other_back n q other there =
      let (p, was, at) = back n q there in
      let same : q ≡ p = one_place sets' n q p there (other_on n p other was) in
      subst (IsOnlyAt c.sets n) (sym same) was

  -- the row itself waits
  abbrev own : PlacedRow
  own = record { row = changed.row; place = Current W }

  waiting : changed.status ≡ W
  waiting = was_in_error is.was changed.status is.allowed

  own_stands : IsOnlyAt sets' serial own
  own_stands =
      let was : CurrentRow = record { row = changed.row; status = is.was } in
      let there = on serial (record { row = changed.row; place = Current is.was })
      (stands_in_cp c.sets rows serial was is.stands) in
      there ∙ ap (λ (s : Status). alone changed.row (Current s)) (own_status c sound Reset changed is ∙ waiting)

  is_own : (n : ℕ) (q : PlacedRow) → n ≡ serial → IsOnlyAt sets' n q → own ≡ q
  is_own n q same there = one_place sets' serial own q own_stands (subst (λ m. IsOnlyAt sets' m q) same there)

  module _ (change : PairChange) (row_leads : LeadsToRowPairs c changed.row change) where
    abbrev pairs : List Pair
    pairs = row_leads.now

    abbrev of_others : Pair → Bool
    of_others pair = not (nat_eq pair.successor serial)

    abbrev now : List Pair
    now = filter of_others c.pairs ++ pairs

    other_serial : (pair : Pair) → of_others pair ≡ true → pair.successor ≢ serial
    other_serial pair passes same =
        let yes : nat_eq pair.successor serial ≡ true = eq-eqb _ _ same in
        let no : false ≡ true = sym (ap not yes) ∙ passes in cc

    kept : (pair : Pair) → Contains c.pairs pair → pair.successor ≢ serial → Contains now pair
    kept pair there other = Contains-append_left (filter of_others c.pairs) pairs pair
        (filter_keeps of_others c.pairs pair there (ap not (ne_eqb _ _ other)))

    new : (pair : Pair) → IsRowPair c.in_force c.sets changed.row pair → Contains now pair
    new pair at = Contains-append_right (filter of_others c.pairs) pairs pair ((row_leads.now_are pair).1 at)

    split : (pair : Pair) → Contains now pair
        → (Contains c.pairs pair × (pair.successor ≢ serial)) ⊎ IsRowPair c.in_force c.sets changed.row pair
    split pair there = elim (Contains-append_cases (filter of_others c.pairs) pairs pair there) [
      | inl old ↦ let both = filter_has of_others c.pairs pair old in inl (both.0, other_serial pair both.1)
      | inr mine ↦ inr ((row_leads.now_are pair).0 mine)
    ]

    all_leads : Leads c.pairs now change
    all_leads = record {
      removed = λ pair. (
        (λ there.
            let both = (row_leads.leads.removed pair).0 there in
            let old = (row_leads.had_are pair).0 both.0 in (
              old.0,
              λ still. elim (split pair still) [
                | inl other ↦ other.1 old.1
                | inr mine ↦ both.1 ((row_leads.now_are pair).1 mine)
              ],
            )),
        λ both. (row_leads.leads.removed pair).1 (elim (cases_eq pair.successor serial) [
          | inl same ↦ (
            (row_leads.had_are pair).1 (both.0, same),
            λ mine. both.1 (new pair ((row_leads.now_are pair).0 mine)),
          )
          | inr other ↦ absurd (both.1 (kept pair both.0 other))
        ]),
      );
      added = λ pair. (
        (λ there.
            let both = (row_leads.leads.added pair).0 there in
            let mine = (row_leads.now_are pair).0 both.0 in
            (new pair mine, λ old. both.1 ((row_leads.had_are pair).1 (old, sym mine.successor)))),
        λ both. (row_leads.leads.added pair).1 (elim (split pair both.0) [
          | inl old ↦ absurd (both.1 old.0)
          | inr mine ↦ ((row_leads.now_are pair).1 mine, λ had. both.1 ((row_leads.had_are pair).0 had).0)
        ]),
      );
    }

    -- they are the pairs after the reset
    are_after : HasPairsAfter c.pairs c.in_force sets' now
    are_after pair = (forward, backward)
      where
        open_on : pair.successor ≢ serial → IsOpenPair c.in_force c.sets pair → IsOpenPair c.in_force sets' pair
        open_on other o = record {
          placed = o.placed;
          stands = other_on pair.successor o.placed other o.stands;
          waits = o.waits;
          app = o.app;
          within = o.within;
          listed = o.listed;
          near = o.near;
          nearest = same_nearest (LiveAt c.sets) (LiveAt sets') live_on live_back o.placed.row.key o.app o.within o.near
              o.nearest;
          predecessor = o.predecessor;
        }

        open_back : pair.successor ≢ serial → IsOpenPair c.in_force sets' pair → IsOpenPair c.in_force c.sets pair
        open_back other o = record {
          placed = o.placed;
          stands = other_back pair.successor o.placed other o.stands;
          waits = o.waits;
          app = o.app;
          within = o.within;
          listed = o.listed;
          near = o.near;
          nearest = same_nearest (LiveAt sets') (LiveAt c.sets) live_back live_on o.placed.row.key o.app o.within o.near
              o.nearest;
          predecessor = o.predecessor;
        }

        row_on : IsRowPair c.in_force c.sets changed.row pair → IsOpenPair c.in_force sets' pair
        row_on r = record {
          placed = own;
          stands = subst (λ n. IsOnlyAt sets' n own) r.successor own_stands;
          waits = refl;
          app = r.app;
          within = r.within;
          listed = r.listed;
          near = r.near;
          nearest = same_nearest (LiveAt c.sets) (LiveAt sets') live_on live_back changed.row.key r.app r.within r.near
              r.nearest;
          predecessor = r.predecessor;
        }

        row_back : pair.successor ≡ serial → (o : IsOpenPair c.in_force sets' pair)
            → IsRowPair c.in_force c.sets changed.row pair
        row_back same o =
            let row : o.placed.row ≡ changed.row = sym
            (ap (λ (p : PlacedRow). p.row) (is_own pair.successor o.placed same o.stands)) in
            record {
              successor = sym same;
              app = o.app;
              within = o.within;
              listed = subst (λ (r : Row). Rattle.external_dependencies.specs.Link.ListsWithin c.in_force r.key.app
                  o.app o.within) row o.listed;
              near = o.near;
              nearest = subst (λ (r : Row). IsNearest (LiveAt c.sets) r.key o.app o.within o.near) row
                  (same_nearest (LiveAt sets') (LiveAt c.sets) live_back live_on o.placed.row.key o.app o.within o.near
                  o.nearest);
              predecessor = o.predecessor;
            }

        forward : Contains now pair → IsOpenPair c.in_force sets' pair ⊎ IsKeptPair c.pairs sets' pair
        forward there = elim (split pair there) [
          | inr mine ↦ inl (row_on mine)
          | inl old ↦ elim ((sound.pairs.settled.exactly pair).0 old.0) [
            | inl o ↦ inl (open_on old.1 o)
            | inr k ↦ inr (record {
              placed = k.placed;
              stands = other_on pair.successor k.placed old.1 k.stands;
              live = k.live;
              waits_no_more = k.waits_no_more;
              had = k.had;
            })
          ]
        ]

        backward : IsOpenPair c.in_force sets' pair ⊎ IsKeptPair c.pairs sets' pair → Contains now pair
        backward cases = elim (cases_eq pair.successor serial) [
          | inl same ↦ elim cases [
            | inl o ↦ new pair (row_back same o)
            | inr k ↦
                let at = is_own pair.successor k.placed same k.stands in
                absurd (k.waits_no_more (subst (λ (p : PlacedRow). IsOpen p.place) at refl))
          ]
          | inr other ↦ elim cases [
            | inl o ↦ kept pair ((sound.pairs.settled.exactly pair).1 (inl (open_back other o))) other
            | inr k ↦ kept pair k.had other
          ]
        ]

    pub reset_are : ArePairs c.pairs c.in_force sets' (pairs_after change c.pairs)
    reset_are = pairs_same c.pairs c.in_force sets' now (pairs_after change c.pairs) are_after
        (pairs_after_rising change c.pairs sound.pairs.settled.rising) (pairs_after_are change c.pairs now all_leads)
